use Rattle.std.proofs.Common.{sym, ap, ◌∙◌}
use Rattle.fabric_defs.specs.Wirings.{pad_bits}
use Rattle.fabric_laws.proofs.WiringLemmas.{wiring_is_unique}
use Rattle.fabric_laws.proofs.laws.outputs_are_unique.Goals as goal

-- the one wiring gives the output pads their bits
pub returns : goal.returns
returns c k x y z own p q = p.2 ∙ ap (pad_bits k) (wiring_is_unique k x p.0 q.0 own p.1 q.1) ∙ sym q.2
