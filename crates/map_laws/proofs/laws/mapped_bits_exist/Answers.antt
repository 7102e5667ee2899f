use Rattle.std.proofs.Common.{sym, ap, ◌∙◌}
use Rattle.cell_defs.specs.Evaluation.{source_bits}
use Rattle.map_laws.proofs.BitsLemmas.{bits-exist, bits-unique}
use Rattle.map_laws.proofs.laws.mapped_bits_exist.Goals as goal

pub returns-clause-exist : goal.returns-clause-exist
returns-clause-exist c = bits-exist

pub returns-clause-unique : goal.returns-clause-unique
returns-clause-unique c = bits-unique

pub returns-clause-outputs : goal.returns-clause-outputs
returns-clause-outputs c l x y z settled p q =
    p.2 ∙ ap (λ a. source_bits x a l.outputs) (bits-unique l x p.0 q.0 settled p.1 q.1) ∙ sym q.2
