use Rattle.std.proofs.Common.{◌≡◌, take, true}
use Rattle.std.specs.List.{list_all}
use Rattle.script_defs.specs.Lines.{is_plain}
use Rattle.blif_read.specs.Views.{texts}
use Rattle.run_script.proofs.words.are_plain.Given as goal

-- the words so far are plain
abbrev pub invariant-loop-word : goal.invariant-loop-word
invariant-loop-word l = list_all is_plain (texts (take l.word-index l.list)) ≡ true
