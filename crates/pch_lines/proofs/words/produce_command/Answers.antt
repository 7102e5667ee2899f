use Rattle.std.proofs.Common.{◌≡◌, None, Some, MatchOption, Option, length, subst}
use Rattle.std.proofs.lemmas.Bool.{ltb-true, ltb-false}
use Rattle.pch_lines.specs.Words.{Form}
use Rattle.pch_lines.specs.Commands.{form_seen}
use Rattle.pch_lines.proofs.WordLemmas.{few_produce, many_produce, seven_words}
use Rattle.pch_lines.proofs.words.produce_command.Goals.{in_default-via-then-words-lt7, in_default-via-else-words-lt7+else-words-lt8}
use Rattle.pch_lines.proofs.words.produce_command.Goals as goal

-- words that aren't seven produce nothing
pub returns-in_default-clause-command : goal.returns-in_default-clause-command
returns-in_default-clause-command c =
    let ws = c.args.words.now in
    elim c.in_default.branch [
      | in_default-via-then-words-lt7 w ↦ few_produce c.args.kind c.args.spec.now c.args.design.now ws (ltb-true (length ws) 7 w.if-words-lt7-1.true)
      | in_default-via-else-words-lt7+else-words-lt8 w ↦ many_produce c.args.kind c.args.spec.now c.args.design.now ws (ltb-false (length ws) 8 w.if-words-lt8-1.false)
    ]

-- seven words are those of a fabric, of the budget and of the file that is saved
pub returns-clause-command : goal.returns-clause-command
returns-clause-command c =
    let P : Option Form → Type 0 = λ f. MatchOption c.produce_of.result (f ≡ None) (λ x. f ≡ Some (form_seen x)) in
    subst P
    (seven_words c.args.kind c.args.spec.now c.args.design.now c.args.words.now c.c-item.result c.r-item.result c.t-item.result c.i-item.result
    c.o-item.result c.budget-item.result c.out-item.result c.in-len7.len_at_least c.in-len7.len_below c.c-item.is c.r-item.is c.t-item.is c.i-item.is
    c.o-item.is c.budget-item.is c.out-item.is)
    (rw (
      ← c.as_str.ensures.value,
      ← c.as_str-2.ensures.value,
      ← c.as_str-3.ensures.value,
      ← c.as_str-4.ensures.value,
      ← c.as_str-5.ensures.value,
      ← c.as_str-6.ensures.value,
      ← c.as_str-7.ensures.value,
      ← c.fabric_of-geometry.ensures,
      ← c.count_of-budget.ensures.number,
    )
    c.produce_of.ensures.command)
