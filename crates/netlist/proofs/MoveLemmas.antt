-- Signals that are moved, and an order of nodes that still serves.
use Rattle.std.proofs.Common.{◌≡◌, ℕ, ◌-◌, ◌<◌, ◌≤◌, ◌⊎◌, List, length, take, get_or, All, Contains, Some, slice_get, sym, ap, subst, ◌∙◌, arith}
use Rattle.std.proofs.lemmas.List.{get_or_default}
use Rattle.std.proofs.lemmas.Option.{slice_get-get_or}
use Rattle.net_defs.specs.Interfaces.{PlacePairs, IsRearrangement, Pairs}
use Rattle.net_defs.specs.Alignments.{IsMoved, IsAligned}
use Rattle.net_defs.specs.Networks.{Network, node_at}
use Rattle.net_laws.proofs.PlaceLemmas.{zip_at, zip_length}
use Rattle.net_laws.proofs.AlignLemmas.{inputs_count, nodes_count, node_at-aligned}
use Rattle.net_laws.proofs.NetLemmas.{Known-moved}
use Rattle.net_defs.specs.Orders.{ComesAfterFanIns, IsOrder}
use Rattle.netlist.specs.Moves.{IsInverse}

-- once each place has put its number at its partner, the lists are inverse
pub IsInverse-put : (places new_places : List ℕ) (i : ℕ) → IsRearrangement (length places) places → length new_places ≡ length places
    → ((j : ℕ) → j < i → get_or new_places (get_or places j 0) 0 ≡ j) → length places ≤ i → IsInverse places new_places
IsInverse-put places new_places i r size put le = record {
  as_many = size;
  partners = λ s lt.
      let c = r.complete s lt in
      let j : ℕ = c.0 in
      let at : get_or places j 0 ≡ s = get_or_default places j 0 s c.1 ∙ c.2 in
      let back : get_or new_places s 0 ≡ j = ap (λ m. get_or new_places m 0) (sym at) ∙ put j (omega (arith, c.1)) in
      ap (λ m. slice_get places m) back ∙ slice_get-get_or places j 0 c.1 ∙ ap Some at;
}

-- nodes keep their numbers, so each still comes after those among its fan-ins
ComesAfterFanIns-aligned : (design : Network) (p : PlacePairs) (net : Network) (order : List ℕ) → Pairs design p → IsAligned design p net
    → All (λ v. v < length design.nodes) order → ComesAfterFanIns design order → ComesAfterFanIns net order
ComesAfterFanIns-aligned design p net order pairs h within after = λ j j_lt i d lt.
    let v : ℕ = get_or order j 0 in
    let n : ℕ = length net.inputs in
    let same : length design.inputs ≡ n = omega (arith, inputs_count design p net h, pairs.inputs.as_many) in
    let moved = node_at-aligned design p net v h (within j 0 j_lt) in
    let lt2 : i < length (node_at design v).fan_ins = omega (arith, zip_length (IsMoved p.inputs) (node_at design v).fan_ins (node_at net v).fan_ins moved.fan_ins) in
    let s : ℕ = get_or (node_at design v).fan_ins i 0 in
    let P : ℕ → Type 0 = λ m. (s < m) ⊎ Contains (take j order) (s - m) in
    Known-moved (Contains (take j order)) n p.inputs s (get_or (node_at net v).fan_ins i d) (sym (inputs_count design p net h))
    (zip_at (IsMoved p.inputs) (node_at design v).fan_ins (node_at net v).fan_ins i 0 d moved.fan_ins lt2)
    (subst P same (after j j_lt i 0 lt2))

-- an order of the design is one of the aligned network
pub IsOrder-aligned : (design : Network) (p : PlacePairs) (net : Network) (order : List ℕ) → Pairs design p → IsAligned design p net → IsOrder design order
    → IsOrder net order
IsOrder-aligned design p net order pairs h is =
    let count : length design.nodes ≡ length net.nodes = sym (nodes_count design p net h) in
    let P : ℕ → Type 0 = λ n. IsRearrangement n order in
    record {
      nodes = subst P count is.nodes;
      after = ComesAfterFanIns-aligned design p net order pairs h is.nodes.within is.after;
    }
