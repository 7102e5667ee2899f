use Rattle.std.proofs.Common.{◌≡◌, ◌+◌, ◌≤◌, length}
use Rattle.std.specs.Prelude.{◌==◌}
use Rattle.std.specs.List.{slice_split}
use Rattle.blif_defs.specs.Drafts.{start}
use Rattle.blif_defs.specs.Grammar.{statements, with_statements}
use Rattle.blif_read.specs.Views.{texts}
use Rattle.blif_read.specs.Readers.{draft_of, IsIndexed}
use Rattle.blif_laws.proofs.Joining.{put_in_front, from_line}
use Rattle.blif_read.proofs.read.read_lines.Given as goal

-- what goes on from here gives what the whole text gives; each line before took a byte at least
abbrev pub invariant-lines : goal.invariant-lines
invariant-lines l = record {
  reads : with_statements (draft_of l.reader) (put_in_front l.first (texts l.list.items) (from_line l.at (slice_split (λ b. b == 10) l.rest)))
      ≡ with_statements start (statements l.text);
  indexed : IsIndexed l.reader;
  bound : l.at + length l.rest ≤ length l.text + 1;
}

-- the rest of the text gets shorter
abbrev pub decreases-lines : goal.decreases-lines
decreases-lines l = length l.rest
