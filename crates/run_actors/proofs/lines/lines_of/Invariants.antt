use Rattle.std.proofs.Common.{◌≡◌, take}
use Rattle.session_defs.specs.Lines.{lines_of}
use Rattle.run_actors.proofs.lines.lines_of.Given as goal

-- the lines of the entries so far
abbrev pub invariant-loop-i : goal.invariant-loop-i
invariant-loop-i l = l.lines ≡ lines_of (take l.i l.table.journal)
