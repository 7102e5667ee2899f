use Rattle.std.proofs.Common.{◌≡◌, take}
use Rattle.netlist.proofs.copies.copies_of_names.Given as goal

-- the copies are those of the names so far
abbrev pub invariant-loop-name : goal.invariant-loop-name
invariant-loop-name l = l.copies.items ≡ take l.name-index l.names
