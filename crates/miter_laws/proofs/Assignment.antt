-- The assignment that extends an input, by places of the numbering: zero, the signals, the rows, the cells of the
-- cone, and the differences.
use Rattle.std.proofs.Common.{◌≡◌, ℕ, zero, suc, ◌+◌, ◌-◌, ◌<◌, ◌≤◌, ◌==◌, inl, inr, ⊎_elim, Bool, true, false, if◌then◌else◌, List, [], ◌∷◌, ◌++◌, length, map, get_or, slice_get, Some, option_map, flat_map, refl, ap, subst, sym, ◌∙◌, arith, length-append}
use Rattle.std.proofs.lemmas.Bool.{cases_lt, cases_Bool, lt-ltb, le-ltb}
use Rattle.std.proofs.lemmas.List.{length-map, get_or-take, get_or_past}
use Rattle.std.proofs.lemmas.Option.{slice_get-get_or, slice_get-map}
use Rattle.std.proofs.lemmas.Nat.Bits.{bit_at-lt}
use Rattle.std.specs.Int.{bit_at}
use Rattle.pch_base.specs.BitLists.{word_of}
use Rattle.clause_defs.specs.Clauses.{IsAssignment}
use Rattle.net_defs.specs.Networks.{Node, Network, no_node, node_at, signals}
use Rattle.net_defs.specs.Evaluation.{node_bit, some_row_hits, hits, bits_at, Settles}
use Rattle.net_defs.specs.Nets.{row_count}
use Rattle.fabric_defs.specs.Bits.{IsBits}
use Rattle.fabric_defs.specs.Numbered.{list_of}
use Rattle.cell_defs.specs.declared.source.Source.{Source}
use Rattle.cell_defs.specs.declared.source.Source.TheVariants.{Zero, Pad, Cell}
use Rattle.cell_defs.specs.Cells.{CellsValue, cell_at}
use Rattle.cell_defs.specs.Cones.{in_cone}
use Rattle.cell_defs.specs.Evaluation.{source_bit, CellBits}
use Rattle.miter_defs.specs.Numberings.{zero_variable, signal_variable, rows_before, row_variable, cone_before, cone_size, cell_variable, difference_variable, variable_count, source_variable}
use Rattle.miter_defs.specs.Miters.{row_at, no_output}
use Rattle.miter_laws.specs.Extensions.{GivesBit}
use Rattle.fabric_laws.proofs.NumberedLemmas.{length-list_of}
use Rattle.miter_laws.proofs.Membership.{Has_place, Each, each_nil, each_cons, each_append, each_map, each_list_of}
use Rattle.miter_laws.proofs.Places.{at_left, at_right, at_list_of, length-flat_map_by, at_flat_map, kept, length-kept, at_kept, each_kept}
use Rattle.miter_laws.proofs.Truth.{bit, difference}

-- whether each row of the node hits
abbrev row_bits : List ℕ → Node → List ℕ
row_bits s node = map (λ row. bit (hits row (bits_at s node.fan_ins))) node.rows

-- output o of the network, where the signals have the bits s
abbrev pub net_output : Network → List ℕ → ℕ → ℕ
net_output net s o = get_or s (get_or net.outputs o no_output).signal 0

-- output pad o, where the cells have the bits b
abbrev pub pad_output : CellsValue → List ℕ → List ℕ → ℕ → ℕ
pad_output cells x b o = source_bit x b (get_or cells.outputs o Zero)

-- where each output differs
abbrev differences : Network → CellsValue → List ℕ → List ℕ → List ℕ → List ℕ
differences net cells x s b = list_of (length net.outputs) (λ o. difference (net_output net s o) (pad_output cells x b o))

-- the bits of the cells in the cone
abbrev cone_bits : CellsValue → List ℕ → List ℕ
cone_bits cells b = kept cells.cone (λ k. get_or b k 0)

-- where the inputs have the bits x, the signals the bits s and the cells the bits b
pub assignment : Network → CellsValue → List ℕ → List ℕ → List ℕ → List ℕ
assignment net cells x s b = 0 ∷ (s ++ (flat_map (row_bits s) net.nodes ++ (cone_bits cells b ++ differences net cells x s b)))

-- the assignment gives each variable its bit
pub record GivesAll (net : Network) (cells : CellsValue) (x s b a : List ℕ) : Type 0 where
  pub zero : GivesBit a zero_variable 0
  pub signals : (i : ℕ) → i < signals net → GivesBit a (signal_variable i) (get_or s i 0)
  pub rows : (v r : ℕ) → v < length net.nodes → r < length (node_at net v).rows
      → GivesBit a (row_variable net v r) (bit (hits (row_at net v r) (bits_at s (node_at net v).fan_ins)))
  pub cone : (k : ℕ) → in_cone cells k ≡ true → GivesBit a (cell_variable net cells k) (get_or b k 0)
  pub differences : (o : ℕ) → o < length net.outputs
      → GivesBit a (difference_variable net cells o) (difference (net_output net s o) (pad_output cells x b o))

-- the variable of place i is i + 1
gives_at : (a : List ℕ) (v i b : ℕ) → v ≡ i + 1 → slice_get a i ≡ Some b → GivesBit a v b
gives_at a v i b e h = let place : v - 1 ≡ i = omega arith in ap (slice_get a) place ∙ h

-- there is a bit for each row
length-rows : (net : Network) (s : List ℕ) → length (flat_map (row_bits s) net.nodes) ≡ row_count net
length-rows net s =
    length-flat_map_by (row_bits s) (λ (node : Node). length node.rows) (λ node. length-map node.rows _) net.nodes

-- and one for each cell of the cone
length-cone : (cells : CellsValue) (b : List ℕ) → length (cone_bits cells b) ≡ cone_size cells
length-cone cells b = length-kept cells.cone (λ k. get_or b k 0)

-- place i behind zero and the signals
behind_signals : (net : Network) (s rest : List ℕ) (v i y : ℕ) → length s ≡ signals net → v ≡ 2 + signals net + i
    → slice_get rest i ≡ Some y → GivesBit (0 ∷ (s ++ rest)) v y
behind_signals net s rest v i y e at h =
    gives_at (0 ∷ (s ++ rest)) v (1 + (length s + i)) y (omega arith)
    (at_right (0 ∷ []) (s ++ rest) (length s + i) (1 + (length s + i)) y (omega arith)
    (at_right s rest i (length s + i) y refl h))

-- each variable has its bit at its place
pub gives_all : (net : Network) (cells : CellsValue) (x s b : List ℕ) → length s ≡ signals net
    → GivesAll net cells x s b (assignment net cells x s b)
unfolding assignment
gives_all net cells x s b e =
    let rows : List ℕ = flat_map (row_bits s) net.nodes in
    let cone : List ℕ = cone_bits cells b in
    let last : List ℕ = differences net cells x s b in
    let row_total : length rows ≡ row_count net = length-rows net s in
    let cell_total : length cone ≡ cone_size cells = length-cone cells b in
    record {
      zero = refl;
      signals = λ i lt. gives_at (0 ∷ (s ++ (rows ++ (cone ++ last)))) (signal_variable i) (1 + i) (get_or s i 0) (omega arith)
          (at_right (0 ∷ []) (s ++ (rows ++ (cone ++ last))) i (1 + i) (get_or s i 0) (omega arith)
          (at_left s (rows ++ (cone ++ last)) i (get_or s i 0) (slice_get-get_or s i 0 (omega arith))));
      rows = λ v r lt below. behind_signals net s (rows ++ (cone ++ last)) (row_variable net v r) (rows_before net v + r) _ e (omega arith)
          (at_left rows (cone ++ last) (rows_before net v + r) _
          (at_flat_map (row_bits s) (λ (node : Node). length node.rows) (λ node. length-map node.rows _)
          net.nodes v r (rows_before net v + r) no_node _ lt refl
          (slice_get-map _ (node_at net v).rows r ∙ ap (option_map _) (slice_get-get_or (node_at net v).rows r [] below))));
      cone = λ k member. behind_signals net s (rows ++ (cone ++ last)) (cell_variable net cells k) (row_count net + cone_before cells k) _ e (omega arith)
          (at_right rows (cone ++ last) (cone_before cells k) (row_count net + cone_before cells k) _ (omega arith)
          (at_left cone last (cone_before cells k) _
          (at_kept cells.cone (λ i. get_or b i 0) k (cone_before cells k) member refl)));
      differences = λ o lt. behind_signals net s (rows ++ (cone ++ last)) (difference_variable net cells o) (row_count net + (cone_size cells + o)) _ e (omega arith)
          (at_right rows (cone ++ last) (cone_size cells + o) (row_count net + (cone_size cells + o)) _ (omega arith)
          (at_right cone last o (cone_size cells + o) _ (omega arith)
          (at_list_of (length net.outputs) (λ p. difference (net_output net s p) (pad_output cells x b p)) o lt)));
    }

-- ---- all of it are bits

-- a truth value has a bit
bit-le : (t : Bool) → bit t ≤ 1
bit-le true = omega arith
bit-le false = omega arith

-- so has a difference
difference-le : (p q : ℕ) → difference p q ≤ 1
difference-le p q = ⊎_elim (λ t. rw t (omega arith)) (λ f. rw f (omega arith)) (cases_Bool (p == q))

-- so has a node
node_bit-le : (node : Node) (values : List ℕ) → node_bit node values ≤ 1
node_bit-le node values = either (some_row_hits node values) node.on
  where
    either : (t on : Bool) → (if t then (if on then 1 else 0) else (if on then 0 else 1)) ≤ 1
    either true true = omega arith
    either true false = omega arith
    either false true = omega arith
    either false false = omega arith

-- the elements of a list of bits
pub bit-within : (bs : List ℕ) (i : ℕ) → Each (λ b. b ≤ 1) bs → get_or bs i 0 ≤ 1
bit-within [] i h = omega arith
bit-within (b ∷ bs) zero h = h b (inl refl)
bit-within (b ∷ bs) (suc i) h = bit-within bs i (λ c has. h c (inr has))

-- where the inputs have bits, so has each signal
pub signal-within : (net : Network) (x s : List ℕ) → IsBits (length net.inputs) x → Settles net x s → (i : ℕ) → i < signals net
    → get_or s i 0 ≤ 1
signal-within net x s bits settles i lt =
    ⊎_elim
    (λ here. let small : get_or x i 0 ≤ 1 = bit-within x i bits.bits in
    let same : get_or s i 0 ≡ get_or x i 0 = sym (get_or-take (length net.inputs) s i 0 here) ∙ ap (λ ys. get_or ys i 0) settles.inputs in
    omega arith)
    (λ past. let v : ℕ = i - length net.inputs in
    let e : length net.inputs + v ≡ i = omega arith in
    let P : ℕ → Type 0 = λ m. get_or s m 0 ≤ 1 in
    let same : get_or s (length net.inputs + v) 0 ≡ node_bit (node_at net v) (bits_at s (node_at net v).fan_ins) =
    settles.nodes v (omega arith) in
    subst P e (let small : node_bit (node_at net v) (bits_at s (node_at net v).fan_ins) ≤ 1 =
    node_bit-le (node_at net v) (bits_at s (node_at net v).fan_ins) in omega arith))
    (cases_lt i (length net.inputs))

-- all bits of the signals are such
signals-bits : (net : Network) (x s : List ℕ) → IsBits (length net.inputs) x → Settles net x s → Each (λ y. y ≤ 1) s
signals-bits net x s bits settles y has =
    let r = Has_place s y 0 has in
    let P : ℕ → Type 0 = λ m. m ≤ 1 in
    subst P r.2 (signal-within net x s bits settles r.0 (let below : r.0 < length s = r.1 in omega (arith, settles.all_signals)))

-- a cell has a bit of its table
pub cells-bits : (cells : CellsValue) (x b : List ℕ) → CellBits cells x b → Each (λ y. y ≤ 1) b
cells-bits cells x b h y has =
    let r = Has_place b y 0 has in
    let below : r.0 < length b = r.1 in
    let values : List ℕ = map (source_bit x b) (cell_at cells r.0).pins in
    let same : get_or b r.0 0 ≡ bit_at (cell_at cells r.0).table (word_of values) = h.each r.0 (omega (arith, h.count)) in
    let small : bit_at (cell_at cells r.0).table (word_of values) < 2 = bit_at-lt (cell_at cells r.0).table (word_of values) in
    let P : ℕ → Type 0 = λ m. m ≤ 1 in
    subst P r.2 (omega arith)

-- each row hits or not
rows-bits : (s : List ℕ) (nodes : List Node) → Each (λ y. y ≤ 1) (flat_map (row_bits s) nodes)
rows-bits s [] = each_nil (λ y. y ≤ 1)
rows-bits s (node ∷ nodes) =
    each_append (λ y. y ≤ 1) (row_bits s node) (flat_map (row_bits s) nodes)
    (each_map (λ y. y ≤ 1) (λ row. bit (hits row (bits_at s node.fan_ins))) node.rows
    (λ row _. bit-le (hits row (bits_at s node.fan_ins))))
    (rows-bits s nodes)

-- there is one bit for each variable
pub is_assignment : (net : Network) (cells : CellsValue) (x s b : List ℕ) → IsBits (length net.inputs) x → Settles net x s → CellBits cells x b
    → IsAssignment (variable_count net cells) (assignment net cells x s b)
unfolding assignment
is_assignment net cells x s b bits settles cell_bits =
    let rows : List ℕ = flat_map (row_bits s) net.nodes in
    let cone : List ℕ = cone_bits cells b in
    let last : List ℕ = differences net cells x s b in
    let Small : ℕ → Type 0 = λ y. y ≤ 1 in
    record {
      all_variables =
          omega (
            arith,
            length-append s (rows ++ (cone ++ last)),
            length-append rows (cone ++ last),
            length-append cone last,
            settles.all_signals,
            length-rows net s,
            length-cone cells b,
            length-list_of (length net.outputs) (λ o. difference (net_output net s o) (pad_output cells x b o)),
          );
      bits = each_cons Small 0 (s ++ (rows ++ (cone ++ last))) (omega arith)
          (each_append Small s (rows ++ (cone ++ last)) (signals-bits net x s bits settles)
          (each_append Small rows (cone ++ last) (rows-bits s net.nodes)
          (each_append Small cone last
          (each_kept Small cells.cone (λ k. get_or b k 0) (λ k. bit-within b k (cells-bits cells x b cell_bits)))
          (each_list_of Small (length net.outputs) (λ o. difference (net_output net s o) (pad_output cells x b o))
          (λ o _. difference-le (net_output net s o) (pad_output cells x b o))))));
    }

-- ---- sources

-- a source has the bit of its variable, if it is no cell outside the cone
pub gives_source : (net : Network) (cells : CellsValue) (x s b a : List ℕ) → GivesAll net cells x s b a → Settles net x s
    → IsBits (length net.inputs) x → (source : Source)
    → ((k : ℕ) → source ≡ Cell k → in_cone cells k ≡ true)
    → GivesBit a (source_variable net cells source) (source_bit x b source)
gives_source net cells x s b a g settles bits Zero h = g.zero
gives_source net cells x s b a g settles bits (Pad p) h =
    ⊎_elim
    (λ here. rw (lt-ltb p (length net.inputs) here)
    (g.signals p (omega arith)
    ∙ ap Some (sym (get_or-take (length net.inputs) s p 0 here) ∙ ap (λ ys. get_or ys p 0) settles.inputs)))
    (λ past. rw (le-ltb p (length net.inputs) past) (g.zero ∙ ap Some (sym (get_or_past x p 0 (omega (arith, bits.count))))))
    (cases_lt p (length net.inputs))
gives_source net cells x s b a g settles bits (Cell k) h = g.cone k (h k refl)

-- where the inputs and the cells have bits, so has each source
pub source_bit-le : (x b : List ℕ) → Each (λ y. y ≤ 1) x → Each (λ y. y ≤ 1) b → (source : Source) → source_bit x b source ≤ 1
source_bit-le x b p q Zero = omega arith
source_bit-le x b p q (Pad n) = bit-within x n p
source_bit-le x b p q (Cell k) = bit-within b k q
