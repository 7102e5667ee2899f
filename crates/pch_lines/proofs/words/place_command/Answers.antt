use Rattle.std.proofs.Common.{length}
use Rattle.std.proofs.lemmas.Bool.{ltb-true, ltb-false}
use Rattle.pch_lines.proofs.WordLemmas.{few_place, many_place}
use Rattle.pch_lines.proofs.words.place_command.Goals.{in_default-via-then-words-lt5, in_default-via-else-words-lt5+else-words-lt6}
use Rattle.pch_lines.proofs.words.place_command.Goals as goal

-- words that aren't five place nothing
pub returns-in_default-clause-command : goal.returns-in_default-clause-command
returns-in_default-clause-command c =
    let ws = c.args.words.now in
    elim c.in_default.branch [
      | in_default-via-then-words-lt5 w ↦ few_place c.args.kind c.args.design.now c.args.c.now ws (ltb-true (length ws) 5 w.if-words-lt5-1.true)
      | in_default-via-else-words-lt5+else-words-lt6 w ↦ many_place c.args.kind c.args.design.now c.args.c.now ws (ltb-false (length ws) 6 w.if-words-lt6-1.false)
    ]
