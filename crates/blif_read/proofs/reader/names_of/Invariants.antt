use Rattle.std.proofs.Common.{◌≡◌, take}
use Rattle.blif_read.specs.Views.{texts}
use Rattle.blif_read.proofs.reader.names_of.Given as goal

-- the names so far are copied
abbrev pub invariant-loop-name : goal.invariant-loop-name
invariant-loop-name l = l.names.items ≡ texts (take l.name-index l.list)
