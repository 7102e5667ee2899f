use Rattle.std.proofs.Common.{◌≡◌, take, true}
use Rattle.std.specs.List.{list_all}
use Rattle.script_defs.specs.Commands.{is_bit_byte}
use Rattle.run_script.proofs.numbers.are_bit_bytes.Given as goal

-- the bytes so far are `0` or `1`
abbrev pub invariant-loop-b : goal.invariant-loop-b
invariant-loop-b l = list_all is_bit_byte (take l.b-index l.word) ≡ true
