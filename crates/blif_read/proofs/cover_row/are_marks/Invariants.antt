use Rattle.std.proofs.Common.{◌≡◌, take, true}
use Rattle.std.specs.List.{list_all}
use Rattle.blif_defs.specs.Rows.{is_mark}
use Rattle.blif_read.proofs.cover_row.are_marks.Given as goal

-- the bytes so far are marks
abbrev pub invariant-loop-b : goal.invariant-loop-b
invariant-loop-b l = list_all is_mark (take l.b-index l.word) ≡ true
