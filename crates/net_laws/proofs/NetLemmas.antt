-- A net with its inputs and outputs in another order is a net.
use Rattle.std.proofs.Common.{◌≡◌, ℕ, zero, suc, ◌-◌, ◌<◌, ◌≤◌, ◌⊎◌, inl, inr, ⊎_elim, List, [], ◌∷◌, length, get_or, All, sum_by, refl, ap, sym, subst, ◌∙◌, arith}
use Rattle.std.proofs.lemmas.List.{length-map}
use Rattle.std.proofs.lemmas.List.Sums.{sum_by-cons}
use Rattle.std.proofs.lemmas.Option.{slice_get_within, get_or_from_slice_get}
use Rattle.std.specs.List.{AllZip}
use Rattle.blif_defs.specs.declared.mark.Mark.{Mark}
use Rattle.net_defs.specs.Networks.{Node, Output, Network, no_node, node_at, signals}
use Rattle.net_defs.specs.Settling.{Settled, IsAcyclic}
use Rattle.net_defs.specs.Nets.{output_names, rows_size, IsNode, IsNet}
use Rattle.net_defs.specs.Interfaces.{PlacePairs, IsRearrangement, Pairs}
use Rattle.net_defs.specs.Alignments.{IsMoved, IsMovedNode, IsOutputFrom, IsAligned}
use Rattle.net_laws.proofs.PlaceLemmas.{zip_at, zip_length, IsDistinct-rearranged}
use Rattle.net_laws.proofs.AlignLemmas.{output_names-stand, inputs_count, nodes_count, outputs_count, node_at-aligned}

-- what is said of the nodes among signals is said of them where they come to
pub Known-moved : (P : ℕ → Type 0) (n : ℕ) (places : List ℕ) (s t : ℕ) → length places ≡ n → IsMoved places s t
    → (s < n) ⊎ P (s - n) → (t < n) ⊎ P (t - n)
Known-moved P n places s t e moved known =
    ⊎_elim
    (λ at. let here : t < n = omega (arith, slice_get_within places t s at) in inl here)
    (λ past. ⊎_elim (λ input. absurd (omega (arith, past.0)))
    (λ node. let Q : ℕ → Type 0 = λ m. P (m - n) in inr (subst Q (sym past.1) node)) known)
    moved

-- nodes are settled as in the design
Settled-aligned : (design : Network) (p : PlacePairs) (net : Network) (k v : ℕ) → Pairs design p → IsAligned design p net → Settled design k v
    → Settled net k v
Settled-aligned design p net zero v pairs h settled = absurd settled
Settled-aligned design p net (suc k) v pairs h settled =
    let n : ℕ = length net.inputs in
    let same : length design.inputs ≡ n = omega (arith, inputs_count design p net h, pairs.inputs.as_many) in
    let moved = node_at-aligned design p net v h settled.0 in (
      omega (arith, settled.0, nodes_count design p net h),
      λ i d lt.
          let lt2 : i < length (node_at design v).fan_ins = omega (arith, zip_length (IsMoved p.inputs) (node_at design v).fan_ins (node_at net v).fan_ins moved.fan_ins) in
          let s : ℕ = get_or (node_at design v).fan_ins i 0 in
          let P : ℕ → Type 0 = λ m. (s < m) ⊎ Settled net k (s - m) in
          let known : (s < length design.inputs) ⊎ Settled net k (s - length design.inputs) =
          ⊎_elim (λ input. inl input) (λ node. inr (Settled-aligned design p net k (s - length design.inputs) pairs h node)) (settled.1 i 0 lt2) in
          Known-moved (Settled net k) n p.inputs s (get_or (node_at net v).fan_ins i d) (sym (inputs_count design p net h))
          (zip_at (IsMoved p.inputs) (node_at design v).fan_ins (node_at net v).fan_ins i 0 d moved.fan_ins lt2)
          (subst P same known),
    )

-- an aligned network is acyclic where the design is
IsAcyclic-aligned : (design : Network) (p : PlacePairs) (net : Network) → Pairs design p → IsAligned design p net → IsAcyclic design → IsAcyclic net
IsAcyclic-aligned design p net pairs h acyclic = λ v lt.
    let e : length design.nodes ≡ length net.nodes = sym (nodes_count design p net h) in
    let P : ℕ → Type 0 = λ k. Settled net k v in
    subst P e (Settled-aligned design p net (length design.nodes) v pairs h (acyclic v (omega arith)))

-- a signal comes to a signal
moved_within : (places : List ℕ) (s t n : ℕ) → length places ≤ n → IsMoved places s t → s < n → t < n
moved_within places s t n le moved lt =
    ⊎_elim (λ at. omega (arith, slice_get_within places t s at)) (λ past. omega (arith, past.1)) moved

-- the moved fan-ins are signals of the network
fan_ins_within : (places ss ts : List ℕ) (n : ℕ) → length places ≤ n → AllZip (IsMoved places) ss ts → All (λ s. s < n) ss → All (λ t. t < n) ts
fan_ins_within places ss ts n le h all = λ i d lt.
    let lt2 : i < length ss = omega (arith, zip_length (IsMoved places) ss ts h) in
    moved_within places (get_or ss i 0) (get_or ts i d) n le (zip_at (IsMoved places) ss ts i 0 d h lt2) (all i 0 lt2)

-- a moved node is a node
IsNode-moved : (places : List ℕ) (node moved : Node) (n : ℕ) → length places ≤ n → IsMovedNode places node moved → IsNode n node → IsNode n moved
IsNode-moved places node moved n le h is =
    let size = zip_length (IsMoved places) node.fan_ins moved.fan_ins h.fan_ins in
    let P : ℕ → Type 0 = λ m. All (λ row. length row ≡ m) node.rows in
    let Q : List (List Mark) → Type 0 = λ rows. All (λ row. length row ≡ length moved.fan_ins) rows in
    record {
      fan_ins_within = omega (arith, is.fan_ins_within, size);
      fan_ins = fan_ins_within places node.fan_ins moved.fan_ins n le h.fan_ins is.fan_ins;
      rows = subst Q (sym h.rows) (subst P (sym size) is.rows);
      on = λ none. h.on ∙ is.on (sym h.rows ∙ none);
    }

-- a moved output shows a signal of the network
output_within : (design : Network) (places : List ℕ) (k : ℕ) (moved : Output) (n : ℕ) → length places ≤ n → IsOutputFrom design.outputs places k moved
    → All (λ (o : Output). o.signal < n) design.outputs → moved.signal < n
output_within design places k moved n le h all =
    let P : Output → Type 0 = λ o. o.signal < n in
    moved_within places h.0.signal moved.signal n le h.2.signal
    (subst P (get_or_from_slice_get design.outputs k h.0 h.0 h.1) (all k h.0 (slice_get_within design.outputs k h.0 h.1)))

-- the same rows
rows_size-moved : (places : List ℕ) (nodes others : List Node) → AllZip (IsMovedNode places) nodes others
    → sum_by (λ (node : Node). rows_size node.rows) others ≡ sum_by (λ (node : Node). rows_size node.rows) nodes
rows_size-moved places [] [] h = refl
rows_size-moved places [] (o ∷ os) h = absurd h
rows_size-moved places (n ∷ ns) [] h = absurd h
rows_size-moved places (n ∷ ns) (o ∷ os) h =
    let e = sum_by-cons (λ (node : Node). rows_size node.rows) n ns in
    let f = sum_by-cons (λ (node : Node). rows_size node.rows) o os in
    let r : rows_size o.rows ≡ rows_size n.rows = ap rows_size h.0.rows in
    omega (arith, e, f, r, rows_size-moved places ns os h.1)

-- a net in another order is a net
pub IsNet-aligned : (design : Network) (p : PlacePairs) (net : Network) → IsNet design → Pairs design p → IsAligned design p net → IsNet net
IsNet-aligned design p net is pairs h =
    let ins = inputs_count design p net h in
    let outs = outputs_count design p net h in
    let nodes = nodes_count design p net h in
    let names = output_names-stand design p.inputs p.outputs net.outputs h.outputs in
    let all : signals design ≡ signals net = omega (arith, ins, nodes, pairs.inputs.as_many) in
    let few : length p.inputs ≤ signals design = omega (arith, pairs.inputs.as_many) in
    let R : ℕ → Type 0 = λ n. IsRearrangement n p.outputs in
    let Sn : ℕ → Type 0 = λ n. All (IsNode n) net.nodes in
    let So : ℕ → Type 0 = λ n. All (λ (o : Output). o.signal < n) net.outputs in
    record {
      inputs_within = omega (arith, is.inputs_within, ins, pairs.inputs.as_many);
      inputs_differ = IsDistinct-rearranged design.inputs net.inputs p.inputs is.inputs_differ pairs.inputs h.inputs;
      outputs_some = omega (arith, is.outputs_some, outs, pairs.outputs.as_many);
      outputs_within = omega (arith, is.outputs_within, outs, pairs.outputs.as_many);
      outputs_differ = IsDistinct-rearranged (output_names design) (output_names net) p.outputs is.outputs_differ
          (subst R (sym (length-map design.outputs (λ (o : Output). o.name))) pairs.outputs) names;
      output_signals = subst So all (λ i d lt. output_within design p.inputs (get_or p.outputs i 0) (get_or net.outputs i d) (signals design) few
          (zip_at (IsOutputFrom design.outputs p.inputs) p.outputs net.outputs i 0 d h.outputs (omega (arith, outs))) is.output_signals);
      signals_within = omega (arith, is.signals_within, all);
      nodes = subst Sn all (λ v d lt. IsNode-moved p.inputs (get_or design.nodes v no_node) (get_or net.nodes v d) (signals design) few
          (zip_at (IsMovedNode p.inputs) design.nodes net.nodes v no_node d h.nodes (omega (arith, nodes))) (is.nodes v no_node (omega (arith, nodes))));
      rows_within = omega (arith, is.rows_within, rows_size-moved p.inputs design.nodes net.nodes h.nodes);
      acyclic = IsAcyclic-aligned design p net pairs h is.acyclic;
    }
