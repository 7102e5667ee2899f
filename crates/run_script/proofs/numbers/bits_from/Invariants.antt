use Rattle.std.proofs.Common.{◌≡◌, take, map, length}
use Rattle.script_defs.specs.Commands.{bit_in}
use Rattle.run_script.proofs.numbers.bits_from.Given as goal

-- as many bits as there are bytes, of which those so far are read
abbrev pub invariant-loop-i : goal.invariant-loop-i
invariant-loop-i l = record {
  count : length l.bits ≡ length l.word;
  read : take l.i l.bits ≡ map bit_in (take l.i l.word);
}
