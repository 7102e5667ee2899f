-- A network with its inputs and outputs in another order: it is determined, and it computes the same.
use Rattle.std.proofs.Common.{◌≡◌, ℕ, ◌+◌, ◌-◌, ◌<◌, ◌≤◌, ⊎_elim, Bool, List, [], ◌∷◌, ◌++◌, length, map, take, drop, get_or, Some, slice_get, refl, ap, sym, subst, ◌∙◌, arith, length-append, length-drop}
use Rattle.std.proofs.lemmas.Bool.{cases_order}
use Rattle.std.proofs.lemmas.List.{get_or_append_left, get_or-append_right, get_or-drop, get_or-take, length-map, take_at}
use Rattle.std.proofs.lemmas.Option.{same_Some, slice_get-map, slice_get_within, get_or_from_slice_get}
use Rattle.std.specs.List.{AllZip}
use Rattle.std.specs.Option.{option_map}
use Rattle.blif_defs.specs.declared.mark.Mark.{Mark}
use Rattle.net_defs.specs.Networks.{Node, Output, Network, no_node, node_at}
use Rattle.net_defs.specs.Nets.{output_names}
use Rattle.net_defs.specs.Evaluation.{node_bit, bits_at, output_signals, Settles}
use Rattle.net_defs.specs.Interfaces.{PlacePairs, StandAt, IsPairing, IsRearrangement, Pairs}
use Rattle.net_defs.specs.Alignments.{IsMoved, IsMovedNode, IsOutputFrom, IsAligned, IsReordered, HasOutputsOf}
use Rattle.net_laws.proofs.PlaceLemmas.{zip_at, zip_length, zip_unique, stands_at, StandAt-length, StandAt-unique, StandAt-complete}

-- ---- the aligned network is determined

-- a rearrangement has no place twice
no_place_twice : (n : ℕ) (places : List ℕ) (s i j : ℕ) → IsRearrangement n places → slice_get places i ≡ Some s → slice_get places j ≡ Some s → i < j → ⊥
no_place_twice n places s i j r at_i at_j below =
    r.distinct i j below (omega (arith, slice_get_within places j s at_j, r.as_many))
    (get_or_from_slice_get places i s 0 at_i ∙ sym (get_or_from_slice_get places j s 0 at_j))

-- its places are those of the list
place_within : (n : ℕ) (places : List ℕ) (s t : ℕ) → IsRearrangement n places → slice_get places t ≡ Some s → s < n
place_within n places s t r at =
    let P : ℕ → Type 0 = λ m. m < n in
    subst P (get_or_from_slice_get places t s s at) (r.within t s (slice_get_within places t s at))

-- a signal comes to one signal
IsMoved-unique : (n : ℕ) (places : List ℕ) (s t u : ℕ) → IsRearrangement n places → IsMoved places s t → IsMoved places s u → t ≡ u
IsMoved-unique n places s t u r h k =
    ⊎_elim
    (λ at_t. ⊎_elim
    (λ at_u. ⊎_elim (λ e. e)
    (λ apart. ⊎_elim (λ below. absurd (no_place_twice n places s t u r at_t at_u below)) (λ above. absurd (no_place_twice n places s u t r at_u at_t above)) apart)
    (cases_order t u))
    (λ past. absurd (omega (arith, place_within n places s t r at_t, r.as_many, past.0)))
    k)
    (λ past. ⊎_elim (λ at_u. absurd (omega (arith, place_within n places s u r at_u, r.as_many, past.0))) (λ also. past.1 ∙ sym also.1) k)
    h

-- nodes with the same fan-ins, sign and rows are the same
same_node : (a b : Node) → a.fan_ins ≡ b.fan_ins → a.on ≡ b.on → a.rows ≡ b.rows → a ≡ b
same_node a b d e f =
    let node : List ℕ → Bool → List (List Mark) → Node = λ fan_ins on rows. record { fan_ins = fan_ins; on = on; rows = rows } in
    ap (λ x. node x a.on a.rows) d ∙ ap (λ x. node b.fan_ins x a.rows) e ∙ ap (λ x. node b.fan_ins b.on x) f

-- a node is moved to one node
IsMovedNode-unique : (n : ℕ) (places : List ℕ) (node a b : Node) → IsRearrangement n places → IsMovedNode places node a → IsMovedNode places node b → a ≡ b
IsMovedNode-unique n places node a b r h k =
    same_node a b
    (zip_unique (IsMoved places) (λ s t u. IsMoved-unique n places s t u r) node.fan_ins a.fan_ins b.fan_ins h.fan_ins k.fan_ins)
    (h.on ∙ sym k.on) (h.rows ∙ sym k.rows)

-- an output is moved to one output
IsOutputFrom-unique : (n : ℕ) (design : Network) (places : List ℕ) (k : ℕ) (a b : Output) → IsRearrangement n places → IsOutputFrom design.outputs places k a
    → IsOutputFrom design.outputs places k b → a ≡ b
IsOutputFrom-unique n design places k a b r h i =
    let output : List ℕ → ℕ → Output = λ name signal. record { name = name; signal = signal } in
    let one : h.0 ≡ i.0 = same_Some h.0 i.0 (sym h.1 ∙ i.1) in
    let P : Output → Type 0 = λ o. IsMoved places o.signal a.signal in
    ap (λ x. output x a.signal) (h.2.name ∙ ap (λ (o : Output). o.name) one ∙ sym i.2.name)
    ∙ ap (λ x. output b.name x) (IsMoved-unique n places i.0.signal a.signal b.signal r (subst P one h.2.signal) i.2.signal)

-- one network has the inputs and outputs in this order
pub IsAligned-unique : (design : Network) (p : PlacePairs) (net other : Network) → Pairs design p → IsAligned design p net → IsAligned design p other
    → net ≡ other
IsAligned-unique design p net other pairs h k =
    let n : ℕ = length design.inputs in
    let network : List (List ℕ) → List Node → List Output → Network = λ inputs nodes outputs. record { inputs = inputs; nodes = nodes; outputs = outputs } in
    ap (λ x. network x net.nodes net.outputs) (StandAt-unique design.inputs p.inputs net.inputs other.inputs h.inputs k.inputs)
    ∙ ap (λ x. network other.inputs x net.outputs)
    (zip_unique (IsMovedNode p.inputs) (λ x a b. IsMovedNode-unique n p.inputs x a b pairs.inputs) design.nodes net.nodes other.nodes h.nodes k.nodes)
    ∙ ap (λ x. network other.inputs other.nodes x)
    (zip_unique (IsOutputFrom design.outputs p.inputs) (λ x a b. IsOutputFrom-unique n design p.inputs x a b pairs.inputs) p.outputs net.outputs other.outputs h.outputs k.outputs)

-- ---- its names

-- the names of the outputs stand in the order of their partners
pub output_names-stand : (design : Network) (places ks : List ℕ) (outputs : List Output) → AllZip (IsOutputFrom design.outputs places) ks outputs
    → StandAt (output_names design) ks (map (λ (o : Output). o.name) outputs)
output_names-stand design places [] [] h = tt
output_names-stand design places [] (o ∷ os) h = absurd h
output_names-stand design places (k ∷ ks) [] h = absurd h
output_names-stand design places (k ∷ ks) (o ∷ os) h = (
  slice_get-map (λ (q : Output). q.name) design.outputs k
      ∙ ap (option_map (λ (q : Output). q.name)) h.0.1
      ∙ ap Some (sym h.0.2.name),
  output_names-stand design places ks os h.1,
)

-- its inputs are those of the specification
pub inputs-aligned : (spec design : Network) (p : PlacePairs) (net : Network) → IsPairing spec design p → IsAligned design p net → net.inputs ≡ spec.inputs
inputs-aligned spec design p net h k = StandAt-unique design.inputs p.inputs net.inputs spec.inputs k.inputs h.inputs

-- and its outputs have the specification's names
pub output_names-aligned : (spec design : Network) (p : PlacePairs) (net : Network) → IsPairing spec design p → IsAligned design p net
    → output_names net ≡ output_names spec
output_names-aligned spec design p net h k =
    StandAt-unique (output_names design) p.outputs (output_names net) (output_names spec)
    (output_names-stand design p.inputs p.outputs net.outputs k.outputs) h.outputs

-- ---- its bits

-- b has at each signal the bit that a has where that signal comes to
AgreeMoved : List ℕ → List ℕ → List ℕ → Type 0
AgreeMoved places b a = (s t : ℕ) → IsMoved places s t → get_or b s 0 ≡ get_or a t 0

-- moved signals have the bits that they had before
bits_at-moved : (places b a ss ts : List ℕ) → AgreeMoved places b a → AllZip (IsMoved places) ss ts → bits_at b ss ≡ bits_at a ts
unfolding AgreeMoved
bits_at-moved places b a [] [] agree h = refl
bits_at-moved places b a [] (t ∷ ts) agree h = absurd h
bits_at-moved places b a (s ∷ ss) [] agree h = absurd h
bits_at-moved places b a (s ∷ ss) (t ∷ ts) agree h =
    ap (λ l. get_or b s 0 ∷ l) (bits_at-moved places b a ss ts agree h.1) ∙ ap (λ x. x ∷ bits_at a ts) (agree s t h.0)

-- so a moved node has the bit of the node
node_bit-moved : (places b a : List ℕ) (node moved : Node) → AgreeMoved places b a → IsMovedNode places node moved
    → node_bit node (bits_at b node.fan_ins) ≡ node_bit moved (bits_at a moved.fan_ins)
node_bit-moved places b a node moved agree h =
    let bit : List (List Mark) → Bool → List ℕ → ℕ = λ rows on values. node_bit (record { fan_ins = []; on = on; rows = rows }) values in
    ap (λ x. bit node.rows node.on x) (bits_at-moved places b a node.fan_ins moved.fan_ins agree h.fan_ins)
    ∙ ap (λ x. bit node.rows x (bits_at a moved.fan_ins)) (sym h.on)
    ∙ ap (λ x. bit x moved.on (bits_at a moved.fan_ins)) (sym h.rows)

-- the bits of the outputs stand in the order of their partners
output_bits-stand : (design : Network) (places b a ks : List ℕ) (outputs : List Output) → AgreeMoved places b a → AllZip (IsOutputFrom design.outputs places) ks outputs
    → StandAt (bits_at b (output_signals design)) ks (bits_at a (map (λ (o : Output). o.signal) outputs))
unfolding AgreeMoved
output_bits-stand design places b a [] [] agree h = tt
output_bits-stand design places b a [] (o ∷ os) agree h = absurd h
output_bits-stand design places b a (k ∷ ks) [] agree h = absurd h
output_bits-stand design places b a (k ∷ ks) (o ∷ os) agree h = (
  slice_get-map (λ s. get_or b s 0) (output_signals design) k
      ∙ ap (option_map (λ s. get_or b s 0)) (slice_get-map (λ (q : Output). q.signal) design.outputs k ∙ ap (option_map (λ (q : Output). q.signal)) h.0.1)
      ∙ ap Some (agree h.0.0.signal o.signal h.0.2.signal),
  output_bits-stand design places b a ks os agree h.1,
)

-- input bits in both orders
reordered_at : (places u x : List ℕ) (s t : ℕ) → IsReordered places u x → slice_get places t ≡ Some s → slice_get u s ≡ Some (get_or x t 0)
reordered_at places u x s t h at =
    let P : ℕ → Type 0 = λ m. slice_get u m ≡ Some (get_or x t 0) in
    subst P (get_or_from_slice_get places t s s at) (stands_at u places x t s 0 h.stand (slice_get_within places t s at))

-- lists that begin with the input bits in both orders and go on alike agree
agree_from : (places u x b a : List ℕ) → IsReordered places u x → ((s : ℕ) → s < length places → get_or b s 0 ≡ get_or u s 0)
    → ((t : ℕ) → t < length places → get_or a t 0 ≡ get_or x t 0) → ((s : ℕ) → length places ≤ s → get_or b s 0 ≡ get_or a s 0) → AgreeMoved places b a
unfolding AgreeMoved
agree_from places u x b a h front_b front_a rest = λ s t moved.
    ⊎_elim
    (λ at. let here = reordered_at places u x s t h at in
    front_b s (omega (arith, slice_get_within u s (get_or x t 0) here, h.as_many))
    ∙ get_or_from_slice_get u s (get_or x t 0) 0 here
    ∙ sym (front_a t (slice_get_within places t s at)))
    (λ past. rest s past.0 ∙ ap (λ m. get_or a m 0) (sym past.1))
    moved

-- a list with another front of the same length
joined_front : (front list : List ℕ) (n s : ℕ) → length front ≡ n → s < n → get_or (front ++ drop n list) s 0 ≡ get_or front s 0
joined_front front list n s e lt = get_or_append_left front (drop n list) 0 s (omega arith)

-- behind a new front of the same length a list is as it was
joined_rest : (front list : List ℕ) (n s : ℕ) → length front ≡ n → n ≤ s → get_or (front ++ drop n list) s 0 ≡ get_or list s 0
joined_rest front list n s e le =
    get_or-append_right front (drop n list) n s 0 e le ∙ get_or-drop n list (s - n) 0
    ∙ (let same : n + (s - n) ≡ s = omega arith in ap (λ m. get_or list m 0) same)

-- and it has the same length
length-joined : (front list : List ℕ) (n m : ℕ) → length front ≡ n → length list ≡ n + m → length (front ++ drop n list) ≡ n + m
length-joined front list n m e size = omega (arith, length-append front (drop n list), length-drop n list, e, size)

-- what `take` begins with
front_of : (list x : List ℕ) (n s : ℕ) → take n list ≡ x → s < n → get_or list s 0 ≡ get_or x s 0
front_of list x n s e lt = sym (get_or-take n list s 0 lt) ∙ ap (λ l. get_or l s 0) e

-- as many inputs and nodes
pub inputs_count : (design : Network) (p : PlacePairs) (net : Network) → IsAligned design p net → length net.inputs ≡ length p.inputs
inputs_count design p net h = StandAt-length design.inputs p.inputs net.inputs h.inputs

-- there are as many nodes
pub nodes_count : (design : Network) (p : PlacePairs) (net : Network) → IsAligned design p net → length net.nodes ≡ length design.nodes
nodes_count design p net h = zip_length (IsMovedNode p.inputs) design.nodes net.nodes h.nodes

-- and as many outputs as places
pub outputs_count : (design : Network) (p : PlacePairs) (net : Network) → IsAligned design p net → length net.outputs ≡ length p.outputs
outputs_count design p net h = zip_length (IsOutputFrom design.outputs p.inputs) p.outputs net.outputs h.outputs

-- each node is the one of the design, moved
pub node_at-aligned : (design : Network) (p : PlacePairs) (net : Network) (v : ℕ) → IsAligned design p net → v < length design.nodes
    → IsMovedNode p.inputs (node_at design v) (node_at net v)
node_at-aligned design p net v h lt = zip_at (IsMovedNode p.inputs) design.nodes net.nodes v no_node no_node h.nodes lt

-- an assignment of the design, with the inputs in the order of their partners, is one of the aligned network
Settles-aligned : (design : Network) (p : PlacePairs) (net : Network) (x u b : List ℕ) → Pairs design p → IsAligned design p net
    → IsReordered p.inputs u x → Settles design u b → (a : List ℕ) × Settles net x a × AgreeMoved p.inputs b a
Settles-aligned design p net x u b pairs h order settles =
    let n : ℕ = length p.inputs in
    let width : length x ≡ n = StandAt-length u p.inputs x order.stand in
    let same : length design.inputs ≡ n = sym pairs.inputs.as_many in
    let a : List ℕ = x ++ drop n b in
    let agree : AgreeMoved p.inputs b a = agree_from p.inputs u x b a order
    (λ s lt. front_of b u (length design.inputs) s settles.inputs (omega arith))
    (λ t lt. joined_front x b n t width lt)
    (λ s le. sym (joined_rest x b n s width le)) in (
      a,
      record {
        all_signals = omega (arith, length-joined x b n (length design.nodes) width (omega (arith, settles.all_signals)), inputs_count design p net h, nodes_count design p net h);
        inputs = take_at x (drop n b) (length net.inputs) (omega (arith, inputs_count design p net h));
        nodes = λ v lt.
            let v_lt : v < length design.nodes = omega (arith, nodes_count design p net h) in
            let e : length net.inputs + v ≡ length design.inputs + v = omega (arith, inputs_count design p net h) in
            ap (λ m. get_or a m 0) e
            ∙ joined_rest x b n (length design.inputs + v) width (omega arith)
            ∙ settles.nodes v v_lt
            ∙ node_bit-moved p.inputs b a (node_at design v) (node_at net v) agree (node_at-aligned design p net v h v_lt);
      },
      agree,
    )

-- and the other way round
Settles-unaligned : (design : Network) (p : PlacePairs) (net : Network) (x u a : List ℕ) → Pairs design p → IsAligned design p net
    → IsReordered p.inputs u x → Settles net x a → (b : List ℕ) × Settles design u b × AgreeMoved p.inputs b a
Settles-unaligned design p net x u a pairs h order settles =
    let n : ℕ = length p.inputs in
    let same : length design.inputs ≡ n = sym pairs.inputs.as_many in
    let b : List ℕ = u ++ drop n a in
    let agree : AgreeMoved p.inputs b a = agree_from p.inputs u x b a order
    (λ s lt. joined_front u a n s order.as_many lt)
    (λ t lt. front_of a x (length net.inputs) t settles.inputs (omega (arith, inputs_count design p net h)))
    (λ s le. joined_rest u a n s order.as_many le) in (
      b,
      record {
        all_signals = omega (arith, length-joined u a n (length design.nodes) order.as_many (omega (arith, settles.all_signals, inputs_count design p net h, nodes_count design p net h)));
        inputs = take_at u (drop n a) (length design.inputs) (omega (arith, order.as_many));
        nodes = λ v lt.
            let v_lt : v < length net.nodes = omega (arith, nodes_count design p net h) in
            let e : length design.inputs + v ≡ length net.inputs + v = omega (arith, inputs_count design p net h) in
            joined_rest u a n (length design.inputs + v) order.as_many (omega arith)
            ∙ ap (λ m. get_or a m 0) e
            ∙ settles.nodes v v_lt
            ∙ sym (node_bit-moved p.inputs b a (node_at design v) (node_at net v) agree (node_at-aligned design p net v h lt));
      },
      agree,
    )

-- at the same input bits the output bits are the same, in both orders
pub HasOutputsOf-aligned : (design : Network) (p : PlacePairs) (net : Network) → Pairs design p → IsAligned design p net → HasOutputsOf design p net
HasOutputsOf-aligned design p net pairs h = λ x y u v ins outs. (
  λ out. let one = Settles-unaligned design p net x u out.0 pairs h ins out.1 in
      let w = bits_at one.0 (output_signals design) in
      let stand : StandAt w p.outputs (bits_at out.0 (output_signals net)) = output_bits-stand design p.inputs one.0 out.0 p.outputs net.outputs one.2 h.outputs in
      let P : List ℕ → Type 0 = λ l. StandAt w p.outputs l in
      let size : length w ≡ length design.outputs =
      length-map (output_signals design) (λ s. get_or one.0 s 0) ∙ length-map design.outputs (λ (o : Output). o.signal) in (
        one.0,
        one.1,
        StandAt-complete (length design.outputs) p.outputs v w y pairs.outputs (outs.as_many ∙ pairs.outputs.as_many) size outs.stand (subst P (sym out.2) stand),
      ),
  λ out. let one = Settles-aligned design p net x u out.0 pairs h ins out.1 in
      let stand = output_bits-stand design p.inputs out.0 one.0 p.outputs net.outputs one.2 h.outputs in
      let P : List ℕ → Type 0 = λ l. StandAt l p.outputs (bits_at one.0 (output_signals net)) in
      (one.0, one.1, StandAt-unique v p.outputs y (bits_at one.0 (output_signals net)) outs.stand (subst P (sym out.2) stand)),
)
