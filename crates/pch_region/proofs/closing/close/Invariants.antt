use Rattle.std.proofs.Common.{◌≡◌, length, vec_capacity}
use Rattle.pch_region.specs.Places.{blocks_in}
use Rattle.pch_region.specs.Kept.{IsClosing}
use Rattle.pch_region.proofs.closing.close.Given as goal

abbrev pub invariant-loop-i : goal.invariant-loop-i
invariant-loop-i l = record {
  closing : IsClosing l.order.items l.slots.items (length l.run.items) l.i l.front.to l.front.kept;
  blocks : blocks_in l.run.items l.slots.items ≡ blocks_in l.fn.run.items l.fn.slots.items;
  run_len : length l.run.items ≡ length l.fn.run.items;
  order_len : length l.order.items ≡ length l.fn.order.items;
  slots_len : length l.slots.items ≡ length l.fn.slots.items;
  run_capacity : vec_capacity l.run ≡ vec_capacity l.fn.run;
  order_capacity : vec_capacity l.order ≡ vec_capacity l.fn.order;
}
