use Rattle.std.proofs.Common.{◌≡◌, take, false}
use Rattle.blif_defs.specs.Drafts.{is_among}
use Rattle.blif_read.proofs.reader.Reader.has_output.Given as goal

-- no output so far has the name
abbrev pub invariant-loop-output : goal.invariant-loop-output
invariant-loop-output l = is_among l.name (take l.output-index l.self.outputs.items) ≡ false
