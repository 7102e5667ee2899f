use Rattle.std.proofs.Common.{◌≡◌, ◌++◌, take, map}
use Rattle.std.specs.List.{flat_map}
use Rattle.blif_defs.specs.Printing.{line_text, cover_lines}
use Rattle.blif_read.specs.Views.{cover_of}
use Rattle.blif_read.proofs.print.push_covers.Given as goal

-- the lines of the covers so far are printed
abbrev pub invariant-loop-cover : goal.invariant-loop-cover
invariant-loop-cover l = l.out.items ≡ l.fn.out.items ++ flat_map line_text (flat_map cover_lines (map cover_of (take l.cover-index l.covers)))
