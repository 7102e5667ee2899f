-- `produce` ends with a bundle where both files compute the same, and else with a difference, if its budget is enough.
use Rattle.std.proofs.Common.{◌≡◌, inl, inr, ℕ, ◌<◌, ◌≤◌, List, length, take, None, Some, refl, sym, ap, subst, ◌∙◌, arith}
use Rattle.net_defs.specs.Networks.{Network}
use Rattle.net_defs.specs.Nets.{IsNet}
use Rattle.net_defs.specs.Evaluation.{SpecOut, bits_at, output_signals}
use Rattle.net_defs.proofs.AssignmentLemmas.{assignment_exists}
use Rattle.net_laws.proofs.NetLemmas.{IsNet-aligned}
use Rattle.fabric_defs.specs.Bits.{IsBits}
use Rattle.fabric_defs.specs.Geometries.{GeometryValue}
use Rattle.fabric_defs.specs.Configurations.{ConfigValue, IsConfig}
use Rattle.fabric_defs.specs.Wirings.{FabOut, pad_bits}
use Rattle.fabric_laws.proofs.WiringLemmas.{wiring, wiring_is_wired}
use Rattle.fabric_laws.proofs.LimitLemmas.{track_word-le}
use Rattle.cell_laws.proofs.CellsExistence.{cells_exist}
use Rattle.miter_defs.specs.Equality.{Equal}
use Rattle.miter_defs.specs.Miters.{Miter}
use Rattle.clause_defs.specs.Formulas.{Formula}
use Rattle.tree_defs.specs.Budgets.{Enough}
use Rattle.route_defs.specs.declared.demand.Demand.{Demand}
use Rattle.place_net.specs.Placings.{Placed, FirstOver}
use Rattle.verify_laws.proofs.Parts.{equal_where_accepted}
use Rattle.produce.specs.Endings.{AlignedTo}
use Rattle.produce.proofs.DifferenceLemmas.{pairs_again, aligned_unique, outputs_unique}
use Rattle.produce.proofs.EndLemmas.{aligned_inputs, aligned_outputs}
use Rattle.pch_shell.specs.Outcomes.{Outcome}
use Rattle.pch_shell.specs.Produce.{Describe, IsProduced, IsDifference, NeedsMore, IsSpent, ProduceDue}
use Rattle.pch_shell.specs.declared.status.Status.TheVariants.{Done, Differs, Spent}
use Rattle.pch_shell.proofs.DueLemmas.{status_of}
use Rattle.outcome_laws.specs.Telling.{HaveSameOutputs, IsEnoughFor, IsSearched}
use Rattle.outcome_laws.proofs.Specifying.{one_net, net_not_faulty}
use Rattle.outcome_laws.proofs.Placing.{described_net, one_over}

-- a configuration that is equal to both has their outputs
same_outputs : (wanted given net : Network) (config : ConfigValue) → IsNet net → IsConfig config → AlignedTo wanted given net
    → Equal wanted config → Equal net config → HaveSameOutputs wanted net
same_outputs wanted given net config is_net is_config aligned first second x y bits out =
    let pads = pad_bits config (wiring config x) in
    let wired : FabOut config x pads = (wiring config x, wiring_is_wired config x (λ column t. track_word-le config column t is_config), refl) in
    let ins : length net.inputs ≡ length wanted.inputs =
    ap (λ (names : List (List ℕ)). length names) (aligned_inputs wanted given net aligned) in
    let own : IsBits (length net.inputs) x = subst (λ n. IsBits n x) (sym ins) bits in
    let settled = assignment_exists net x is_net.acyclic own.count in
    let z = bits_at settled.0 (output_signals net) in
    let of_net : SpecOut net x z = (settled.0, settled.1, refl) in
    let shown : take (length wanted.outputs) pads ≡ y = first.same x y pads bits out wired in
    let known : take (length net.outputs) pads ≡ z = second.same x z pads own of_net wired in
    let as_many = aligned_outputs wanted given net aligned in
    subst (SpecOut net x) (sym known ∙ ap (λ n. take n pads) as_many ∙ shown) of_net

-- where a bundle is produced, both have the same outputs
produced_same : (g : GeometryValue) (budget : ℕ) (spec design bytes : List ℕ) (wanted given net : Network) → Describe spec design wanted given
    → AlignedTo wanted given net → IsProduced g budget spec design bytes → HaveSameOutputs wanted net
produced_same g budget spec design bytes wanted given net d aligned h =
    let p = h.produced in
    let w : h.wanted ≡ wanted = one_net spec h.wanted wanted h.describe.specified d.specified in
    let v : h.given ≡ given = one_net design h.given given h.describe.designed d.designed in
    let is_wanted = described_net spec wanted d.specified in
    let is_given = described_net design given d.designed in
    let own : AlignedTo wanted given p.net = subst (λ n. AlignedTo n given p.net) w (subst (λ n. AlignedTo h.wanted n p.net) v p.aligned) in
    let one : p.net ≡ net = aligned_unique wanted given p.net net is_given own aligned in
    let is_net = IsNet-aligned given aligned.pairing net is_given aligned.pairs aligned.aligned in
    let placed = p.placed in
    let of = placed.2 in
    let equal = subst (λ n. Equal n p.config) w (equal_where_accepted g h.wanted bytes p.config
    (subst IsNet (sym w) is_wanted) p.accepted) in
    same_outputs wanted given net p.config is_net of.6.configuration aligned equal (subst (λ n. Equal n p.config) one p.equal)

-- where a difference is told, they haven't
difference_other : (spec design x y z : List ℕ) (wanted given net : Network) → Describe spec design wanted given → AlignedTo wanted given net
    → IsDifference spec design x y z → HaveSameOutputs wanted net → ⊥
difference_other spec design x y z wanted given net d aligned h same =
    let p = h.differ in
    let w : h.wanted ≡ wanted = one_net spec h.wanted wanted h.describe.specified d.specified in
    let v : h.given ≡ given = one_net design h.given given h.describe.designed d.designed in
    let is_given = described_net design given d.designed in
    let own : AlignedTo wanted given p.net = subst (λ n. AlignedTo n given p.net) w (subst (λ n. AlignedTo h.wanted n p.net) v p.aligned) in
    let one : p.net ≡ net = aligned_unique wanted given p.net net is_given own aligned in
    let is_net = IsNet-aligned given aligned.pairing net is_given aligned.pairs aligned.aligned in
    let first : SpecOut net x y = same x y (subst (λ n. IsBits (length n.inputs) x) w p.width) (subst (λ n. SpecOut n x y) w p.of_spec) in
    p.other (outputs_unique net x y z is_net first (subst (λ n. SpecOut n x z) one p.of_design))

-- where no resource is over, none is told
needs_no_more : (g : GeometryValue) (spec design : List ℕ) (wanted given net : Network) (over : Demand) → Describe spec design wanted given
    → AlignedTo wanted given net → FirstOver net g None → NeedsMore g spec design over → ⊥
needs_no_more g spec design wanted given net over d aligned none h =
    let w : h.wanted ≡ wanted = one_net spec h.wanted wanted h.describe.specified d.specified in
    let v : h.given ≡ given = one_net design h.given given h.describe.designed d.designed in
    let is_given = described_net design given d.designed in
    let own : AlignedTo wanted given h.net = subst (λ n. AlignedTo n given h.net) w (subst (λ n. AlignedTo h.wanted n h.net) v h.aligned) in
    let one : h.net ≡ net = aligned_unique wanted given h.net net is_given own aligned in
    let is_net = IsNet-aligned given aligned.pairing net is_given aligned.pairs aligned.aligned in
    let same = one_over net g None (Some over) is_net none (subst (λ n. FirstOver n g (Some over)) one h.first) in
    cc

-- what is enough isn't spent
enough_not_spent : (g : GeometryValue) (budget : ℕ) (spec design : List ℕ) (used need : ℕ) (bytes : List ℕ) (wanted given net : Network)
    → Describe spec design wanted given → AlignedTo wanted given net → IsSpent g budget spec design used need bytes
    → IsEnoughFor wanted net g budget → ⊥
enough_not_spent g budget spec design used need bytes wanted given net d aligned h enough =
    let w : h.wanted ≡ wanted = one_net spec h.wanted wanted h.describe.specified d.specified in
    let v : h.given ≡ given = one_net design h.given given h.describe.designed d.designed in
    let is_given = described_net design given d.designed in
    let e = h.ends in
    let own : AlignedTo wanted given e.0 = subst (λ n. AlignedTo n given e.0) w (subst (λ n. AlignedTo h.wanted n e.0) v e.1) in
    let one : e.0 ≡ net = aligned_unique wanted given e.0 net is_given own aligned in
    let config : ConfigValue = e.2 in
    let placed : Placed net g config = subst (λ n. Placed n g config) one e.3 in
    let of = placed.2 in
    let cells = cells_exist config of.6.configuration in
    let most : Enough (length wanted.inputs) (Miter wanted cells.0).variables ≤ budget = enough config cells.0 placed cells.1 in
    let same = ap (λ (f : Formula). f.variables) (e.4.over_miter cells.0 cells.1) in
    let scarce = e.4.scarce in
    let here : budget < Enough (length wanted.inputs) (Miter wanted cells.0).variables =
    subst (λ n. budget < Enough (length n.inputs) (Miter n cells.0).variables) w
    (subst (λ v. budget < Enough (length h.wanted.inputs) v) same scarce) in
    omega (arith, most, here)

-- what `produce` comes to where the names pair and no resource is over
pub searched : (sn dn : List ℕ) (g : GeometryValue) (budget : ℕ) (spec design : List ℕ) (wanted given net : Network) (o : Outcome)
    → Describe spec design wanted given → AlignedTo wanted given net → FirstOver net g None
    → ProduceDue sn dn g budget spec design o → IsSearched wanted net g budget o
searched sn dn g budget spec design wanted given net o d aligned none (inl (bytes, h, is)) = record {
  same = λ same. inl (status_of o _ is);
  other = λ differ. absurd (differ (produced_same g budget spec design bytes wanted given net d aligned h));
  enough = λ enough spent. let e : Done ≡ Spent = sym (status_of o _ is) ∙ spent in cc;
}
searched sn dn g budget spec design wanted given net o d aligned none (inr (inl (x, y, z, h, is))) = record {
  same = λ same. absurd (difference_other spec design x y z wanted given net d aligned h same);
  other = λ differ. inl (status_of o _ is);
  enough = λ enough spent. let e : Differs ≡ Spent = sym (status_of o _ is) ∙ spent in cc;
}
searched sn dn g budget spec design wanted given net o d aligned none (inr (inr (inl (over, h, is)))) =
    absurd (needs_no_more g spec design wanted given net over d aligned none h)
searched sn dn g budget spec design wanted given net o d aligned none (inr (inr (inr (inl (used, need, bytes, h, is))))) = record {
  same = λ same. inr (status_of o _ is);
  other = λ differ. inr (status_of o _ is);
  enough = λ enough spent. enough_not_spent g budget spec design used need bytes wanted given net d aligned h enough;
}
searched sn dn g budget spec design wanted given net o d aligned none (inr (inr (inr (inr (inl (error, h, is)))))) =
    let w : h.wanted ≡ wanted = one_net spec h.wanted wanted h.describe.specified d.specified in
    let v : h.given ≡ given = one_net design h.given given h.describe.designed d.designed in
    absurd (pairs_again h.wanted h.given net error (described_net design h.given h.describe.designed)
    (subst (λ n. AlignedTo n h.given net) (sym w) (subst (λ n. AlignedTo wanted n net) (sym v) aligned)) h.first)
searched sn dn g budget spec design wanted given net o d aligned none (inr (inr (inr (inr (inr (inl (error, h, is))))))) =
    absurd (net_not_faulty spec wanted error d.specified h)
searched sn dn g budget spec design wanted given net o d aligned none (inr (inr (inr (inr (inr (inr (error, h, is))))))) =
    absurd (net_not_faulty design given error d.designed h.faulty)
