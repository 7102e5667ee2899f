use Rattle.std.proofs.Common.{◌≡◌, ◌++◌, take, map}
use Rattle.std.specs.List.{flat_map}
use Rattle.blif_defs.specs.Printing.{line_text, row_words}
use Rattle.blif_read.proofs.print.push_rows.Given as goal

-- the lines of the rows so far are printed
abbrev pub invariant-loop-row : goal.invariant-loop-row
invariant-loop-row l = l.out.items ≡ l.fn.out.items ++ flat_map line_text (map (row_words l.on) (take l.row-index l.rows))
