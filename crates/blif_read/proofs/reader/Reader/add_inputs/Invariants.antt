use Rattle.std.proofs.Common.{◌≡◌, drop}
use Rattle.blif_defs.specs.Grammar.{with_inputs}
use Rattle.blif_read.specs.Views.{texts}
use Rattle.blif_read.specs.Readers.{draft_of, IsIndexed}
use Rattle.blif_read.proofs.reader.Reader.add_inputs.Given as goal

-- what goes on from here gives what the whole gives
abbrev pub invariant-loop-name : goal.invariant-loop-name
invariant-loop-name l = record {
  reads : with_inputs l.line (draft_of l.self) (texts (drop l.name-index l.names)) ≡ with_inputs l.line (draft_of l.fn.self) (texts l.names);
  indexed : IsIndexed l.self;
}
