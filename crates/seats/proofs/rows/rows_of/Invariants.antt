use Rattle.std.proofs.Common.{◌≡◌, ◌<◌, ℕ, length, take, slice_index}
use Rattle.route_defs.specs.Demands.{cells_in}
use Rattle.route_defs.specs.Placed.{row_of}
use Rattle.seats.proofs.rows.rows_of.Given as goal

abbrev pub invariant-loop-column : goal.invariant-loop-column
invariant-loop-column l = record {
  count : length l.rows.items ≡ l.column-index;
  rows : (k : ℕ) → k < l.column-index → slice_index l.rows.items k ≡ row_of l.columns k;
  size : length l.counts.items ≡ l.count;
  counts : (c : ℕ) → c < l.count → slice_index l.counts.items c ≡ cells_in (take l.column-index l.columns) c;
}
