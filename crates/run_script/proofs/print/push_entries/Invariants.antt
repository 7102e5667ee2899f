use Rattle.std.proofs.Common.{◌≡◌, ◌++◌, ◌+◌, drop}
use Rattle.script_defs.specs.Printing.{entries_text}
use Rattle.run_script.proofs.print.push_entries.Given as goal

-- the lines so far, with those that are left, are the lines of all entries
abbrev pub invariant-loop-i : goal.invariant-loop-i
invariant-loop-i l = l.out.items ++ entries_text (l.i + 1) (drop l.i l.entries) ≡ l.fn.out.items ++ entries_text 1 l.entries
