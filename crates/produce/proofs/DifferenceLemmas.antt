-- A design has one order of a specification, and one list of outputs at an input.
use Rattle.std.proofs.Common.{◌≡◌, ℕ, List, Ok, Err, sym, ap, subst, ◌∙◌}
use Rattle.net_defs.specs.Networks.{Network}
use Rattle.net_defs.specs.Nets.{IsNet}
use Rattle.net_defs.specs.Evaluation.{SpecOut, bits_at, output_signals}
use Rattle.net_defs.specs.Interfaces.{InterfaceOf}
use Rattle.net_defs.specs.Alignments.{IsAligned}
use Rattle.net_defs.specs.declared.interface.InterfaceError.{InterfaceError}
use Rattle.net_defs.proofs.AssignmentLemmas.{assignment_is_unique}
use Rattle.net_laws.proofs.AlignLemmas.{IsAligned-unique}
use Rattle.net_laws.proofs.PairingLemmas.{interface_is_unique}
use Rattle.produce.specs.Endings.{AlignedTo}
use Rattle.produce.specs.Differences.{DifferAt, DifferWith}

-- names that pair have no fault
pub pairs_again : (spec design net : Network) (error : InterfaceError) → IsNet design → AlignedTo spec design net
    → InterfaceOf spec design (Err error) → ⊥
pairs_again spec design net error is_net a fault =
    let same = interface_is_unique spec design (Ok a.pairing) (Err error) is_net a.is_pairing fault in cc

-- there is one pairing, and one network in its order
pub aligned_unique : (spec design net other : Network) → IsNet design → AlignedTo spec design net → AlignedTo spec design other → net ≡ other
aligned_unique spec design net other is_net a b =
    let one : Ok a.pairing ≡ Ok b.pairing = interface_is_unique spec design (Ok a.pairing) (Ok b.pairing) is_net a.is_pairing b.is_pairing in
    let same : a.pairing ≡ b.pairing = cc in
    IsAligned-unique design b.pairing net other b.pairs (subst (λ p. IsAligned design p net) same a.aligned) b.aligned

-- a network has one list of outputs at an input
pub outputs_unique : (net : Network) (x y z : List ℕ) → IsNet net → SpecOut net x y → SpecOut net x z → y ≡ z
outputs_unique net x y z is_net h k =
    h.2 ∙ ap (λ a. bits_at a (output_signals net)) (assignment_is_unique net x h.0 k.0 is_net.acyclic h.1 k.1) ∙ sym k.2

-- what was computed of both is what differs
pub differ_with : (spec design net : Network) (x y z : List ℕ) → IsNet spec → IsNet design → IsNet net → DifferAt spec design x
    → AlignedTo spec design net → SpecOut spec x y → SpecOut net x z → DifferWith spec design x y z
differ_with spec design net x y z is_spec is_design is_net differs a of_spec of_net =
    let other = differs.2 in
    let same : differs.0 ≡ net = aligned_unique spec design differs.0 net is_design differs.1 a in
    let first : y ≡ other.outputs = outputs_unique spec x y other.outputs is_spec of_spec other.of_spec in
    let second : z ≡ other.others =
    outputs_unique net x z other.others is_net of_net (subst (λ n. SpecOut n x other.others) same other.of_net) in
    record {
      net = net;
      aligned = a;
      width = other.width;
      of_spec = of_spec;
      of_design = of_net;
      other = λ e. other.differ (sym first ∙ e ∙ second);
    }
