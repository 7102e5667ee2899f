use Rattle.std.proofs.Common.{◌≡◌, take}
use Rattle.netlist.proofs.copies.copies_of_rows.Given as goal

-- the copies are those of the rows so far
abbrev pub invariant-loop-row : goal.invariant-loop-row
invariant-loop-row l = l.copies.items ≡ take l.row-index l.rows
