use Rattle.std.proofs.Common.{◌≡◌, ◌≤◌, drop}
use Rattle.text_defs.specs.Numbers.{number_from}
use Rattle.pch_base.proofs.numbers.read_digits.Given as goal

-- the number so far, with the digits that are left, is the text's
abbrev pub invariant-loop-b : goal.invariant-loop-b
invariant-loop-b l = record {
  read : number_from l.n (drop l.b-index l.text) ≡ number_from 0 l.text;
  within : l.n ≤ l.max;
}
