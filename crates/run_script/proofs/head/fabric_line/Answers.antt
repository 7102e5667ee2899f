use Rattle.std.proofs.Common.{length}
use Rattle.std.proofs.lemmas.Bool.{ltb-true, ltb-false}
use Rattle.run_script.proofs.Fabrics.{few_no_fabric, many_no_fabric}
use Rattle.run_script.proofs.head.fabric_line.Goals.{in_default-via-then-more-lt5, in_default-via-else-more-lt5+else-more-lt6}
use Rattle.run_script.proofs.head.fabric_line.Goals as goal

-- words that aren't five say no fabric
pub returns-in_default : goal.returns-in_default
returns-in_default c =
    let ws = c.args.more.now in
    elim c.in_default.branch [
      | in_default-via-then-more-lt5 w ↦ few_no_fabric c.args.first.now ws (ltb-true (length ws) 5 w.if-more-lt5-1.true)
      | in_default-via-else-more-lt5+else-more-lt6 w ↦ many_no_fabric c.args.first.now ws (ltb-false (length ws) 6 w.if-more-lt6-1.false)
    ]
