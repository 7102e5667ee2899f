use Rattle.std.proofs.Common.{◌≡◌, None, Some, MatchOption, Option, length, subst}
use Rattle.std.proofs.lemmas.Bool.{ltb-true, ltb-false}
use Rattle.pch_lines.specs.Words.{Form}
use Rattle.pch_lines.specs.Commands.{form_seen}
use Rattle.pch_lines.proofs.WordLemmas.{too_few, too_many, six_words}
use Rattle.pch_lines.proofs.words.verify_command.Goals.{in_default-via-then-words-lt6, in_default-via-else-words-lt6+else-words-lt7}
use Rattle.pch_lines.proofs.words.verify_command.Goals as goal

-- words that aren't six verify nothing
pub returns-in_default-clause-command : goal.returns-in_default-clause-command
returns-in_default-clause-command c =
    let ws = c.args.words.now in
    elim c.in_default.branch [
      | in_default-via-then-words-lt6 w ↦ too_few c.args.kind c.args.spec.now c.args.bundle.now ws (ltb-true (length ws) 6 w.if-words-lt6-1.true)
      | in_default-via-else-words-lt6+else-words-lt7 w ↦ too_many c.args.kind c.args.spec.now c.args.bundle.now ws (ltb-false (length ws) 7 w.if-words-lt7-1.false)
    ]

-- six words are those of a fabric and of the workers
pub returns-clause-command : goal.returns-clause-command
returns-clause-command c =
    let P : Option Form → Type 0 = λ f. MatchOption c.verify_of.result (f ≡ None) (λ x. f ≡ Some (form_seen x)) in
    subst P
    (six_words c.args.kind c.args.spec.now c.args.bundle.now c.args.words.now c.c-item.result c.r-item.result c.t-item.result c.i-item.result
    c.o-item.result c.workers-item.result c.in-len6.len_at_least c.in-len6.len_below c.c-item.is c.r-item.is c.t-item.is c.i-item.is
    c.o-item.is c.workers-item.is)
    (rw (
      ← c.as_str.ensures.value,
      ← c.as_str-2.ensures.value,
      ← c.as_str-3.ensures.value,
      ← c.as_str-4.ensures.value,
      ← c.as_str-5.ensures.value,
      ← c.as_str-6.ensures.value,
      ← c.fabric_of-geometry.ensures,
      ← c.count_of-workers.ensures.number,
    )
    c.verify_of.ensures.command)
