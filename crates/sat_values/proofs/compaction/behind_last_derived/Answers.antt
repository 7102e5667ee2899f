use Rattle.std.proofs.Common.{sym, ◌∙◌, arith}
use Rattle.sat_values.proofs.CompactedLemmas.{any_derived-drop, some_of}
use Rattle.sat_values.proofs.compaction.behind_last_derived.Goals as goal

-- a later clause is derived just before the last derived one
pub returns-else-is_empty : goal.returns-else-is_empty
returns-else-is_empty c k =
    any_derived-drop c.args.t.now c.loop-last.last k c.loop-last.invariant.none
    (λ some none. some_of c.antecedents.result.now (sym c.if-is_empty.false ∙ c.is_empty.ensures) (c.antecedents.ensures.antecedents ∙ none))

-- where no clause is derived, no later one is
pub returns-after-loop-last : goal.returns-after-loop-last
returns-after-loop-last c k =
    any_derived-drop c.args.t.now c.loop-last.last k c.loop-last.invariant.none
    (λ some. let none = c.loop-last-test.false in absurd (omega arith))
