use Rattle.std.proofs.Common.{◌≡◌, take, true}
use Rattle.std.specs.List.{list_all}
use Rattle.blif_defs.specs.Words.{is_sound}
use Rattle.blif_read.specs.Views.{texts}
use Rattle.blif_read.proofs.line.are_sound.Given as goal

-- the words so far have no strange byte
abbrev pub invariant-loop-word : goal.invariant-loop-word
invariant-loop-word l = list_all is_sound (texts (take l.word-index l.list)) ≡ true
