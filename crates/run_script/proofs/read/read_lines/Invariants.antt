use Rattle.std.proofs.Common.{◌≡◌, ◌+◌, ◌≤◌, length, ok_or}
use Rattle.text_defs.specs.Steps.{◌>>=◌}
use Rattle.script_defs.specs.declared.error.ScriptError.TheVariants.{Line}
use Rattle.script_defs.specs.Lines.{lines, statements_from, line_behind}
use Rattle.script_defs.specs.Reading.{with_statements, value_of, read_statements}
use Rattle.run_script.specs.Readers.{draft_of, IsKept}
use Rattle.run_script.proofs.read.read_lines.Given as goal

-- what goes on from here gives what the whole text gives; each line before took a byte at least
abbrev pub invariant-loop-rest : goal.invariant-loop-rest
invariant-loop-rest l = record {
  reads : (with_statements (draft_of l.reader) (statements_from l.at (lines l.rest)) >>= λ d. ok_or (value_of d) (Line (line_behind l.text)))
      ≡ read_statements l.text;
  behind : l.at + length (lines l.rest) ≡ line_behind l.text;
  kept : IsKept l.reader;
  bound : l.at + length l.rest ≤ length l.text + 1;
}

-- each turn leaves fewer bytes
abbrev pub decreases-loop-rest : goal.decreases-loop-rest
decreases-loop-rest l = length l.rest
