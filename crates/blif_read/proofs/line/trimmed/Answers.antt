use Rattle.std.proofs.Common.{sym, arith, ◌∙◌}
use Rattle.blif_laws.proofs.LineLemmas.{trimmed_step, trimmed_whole}
use Rattle.blif_read.proofs.line.trimmed.Goals as goal

-- a line that ends with no blank is trimmed
pub returns-then-not-is_blank : goal.returns-then-not-is_blank
returns-then-not-is_blank c =
    trimmed_whole c.loop-rest.rest.now (omega arith) (sym (c.if-not-is_blank.ensures {u = tt})) ∙ c.loop-rest.invariant

-- a blank at the end is taken off
pub loop-rest-preserved : goal.loop-rest-preserved
loop-rest-preserved c =
    trimmed_step c.loop-rest.rest.now (omega arith) (sym (c.if-not-is_blank.ensures {u = tt})) ∙ c.loop-rest.invariant
