use Rattle.std.proofs.Common.{◌≡◌, take, true}
use Rattle.std.specs.List.{list_all}
use Rattle.blif_defs.specs.Words.{is_sign}
use Rattle.run_script.proofs.words.is_plain.Given as goal

-- the bytes so far are signs
abbrev pub invariant-loop-b : goal.invariant-loop-b
invariant-loop-b l = list_all is_sign (take l.b-index l.word) ≡ true
