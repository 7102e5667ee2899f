use Rattle.std.proofs.Common.{get_or, sym, ap, ◌∙◌}
use Rattle.fabric_defs.specs.Wirings.{Wiring}
use Rattle.fabric_laws.proofs.WiringLemmas.{wiring_is_unique}
use Rattle.fabric_laws.proofs.laws.cell_bit_is_unique.Goals as goal

-- the one wiring gives the cell its bit
pub returns : goal.returns
returns c k x cell a b own p q =
    p.2 ∙ ap (λ (w : Wiring). get_or w.cells cell 0) (wiring_is_unique k x p.0 q.0 own p.1 q.1) ∙ sym q.2
