use Rattle.std.proofs.Common.{◌≡◌, ◌+◌, length, All}
use Rattle.slot_live.specs.Shares.{IsBlankShare}
use Rattle.slot_live.proofs.counted.shares_of.Given as goal

-- a part is left for each share that is still to be cut off, and there is no entry yet
abbrev pub invariant-loop-party : goal.invariant-loop-party
invariant-loop-party g l = record {
  parts : l.rest.parts + l._party ≡ l.fn.parties;
  amount : l.rest.amount ≡ 0;
  count : length l.shares.items ≡ l._party;
  each : All IsBlankShare l.shares.items;
}
