use Rattle.std.proofs.Common.{◌≡◌, ◌++◌, take}
use Rattle.blif_defs.specs.Printing.{spaced}
use Rattle.blif_read.proofs.print.push_names.Given as goal

-- the names so far are printed, each behind a space
abbrev pub invariant-loop-name : goal.invariant-loop-name
invariant-loop-name l = l.out.items ≡ l.fn.out.items ++ spaced (take l.name-index l.names)
