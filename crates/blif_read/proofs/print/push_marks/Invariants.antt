use Rattle.std.proofs.Common.{◌≡◌, ◌++◌, take, map}
use Rattle.blif_defs.specs.Printing.{mark_byte}
use Rattle.blif_read.proofs.print.push_marks.Given as goal

-- the marks so far are printed
abbrev pub invariant-loop-mark : goal.invariant-loop-mark
invariant-loop-mark l = l.out.items ≡ l.fn.out.items ++ map mark_byte (take l.mark-index l.marks)
