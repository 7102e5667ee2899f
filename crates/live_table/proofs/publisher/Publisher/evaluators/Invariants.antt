use Rattle.std.proofs.Common.{◌≡◌, length, All}
use Rattle.live_table.specs.Places.{IsNewAt}
use Rattle.live_table.proofs.publisher.Publisher.evaluators.Given as goal

-- the publisher is as it was, and the evaluators so far are new at it
abbrev pub invariant-loop-seat : goal.invariant-loop-seat
invariant-loop-seat g l = record {
  same : l.self ≡ l.fn.self;
  count : length l.evaluators.items ≡ l._seat;
  new : All (IsNewAt l.fn.self) l.evaluators.items;
}
