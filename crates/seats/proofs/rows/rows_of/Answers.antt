use Rattle.std.proofs.Common.{◌≡◌, ◌+◌, ◌<◌, ℕ, List, length, get_or, take, refl, ap, sym, subst, ◌∙◌, arith}
use Rattle.std.proofs.lemmas.List.{length_push, length-set, get_or_default, length-take-le}
use Rattle.route_defs.specs.Demands.{cells_in}
use Rattle.route_defs.specs.Placed.{row_of}
use Rattle.seats.proofs.SeatLemmas.{cells_in-le, counts_more, rows_more}
use Rattle.seats.proofs.rows.rows_of.Goals as goal

pub overflow_add-row : goal.overflow_add-row
overflow_add-row c =
    let columns = c.args.columns.now in
    let i = c.loop-column.column-index in
    let column = get_or columns i 0 in
    let within : column < c.args.count = c.requires.within i c.loop-column-test.true in
    let row_is : c.index-row.result.now ≡ cells_in (take i columns) column =
    c.index-row.ensures
    ∙ get_or_default c.loop-column.counts.items column c.index-row.result.now 0 (omega (arith, c.loop-column.invariant.size))
    ∙ c.loop-column.invariant.counts column within in
    omega (arith, row_is, cells_in-le (take i columns) column, length-take-le i columns (omega (arith, c.loop-column-test.true)), c.requires.few, c.loop-column-test.true)

pub loop-column-preserved : goal.loop-column-preserved
loop-column-preserved c =
    let columns = c.args.columns.now in
    let i = c.loop-column.column-index in
    let column = get_or columns i 0 in
    let row = c.index-row.result.now in
    let rows = c.loop-column.rows.items in
    let within : column < c.args.count = c.requires.within i c.loop-column-test.true in
    let row_is : row ≡ cells_in (take i columns) column =
    c.index-row.ensures
    ∙ get_or_default c.loop-column.counts.items column row 0 (omega (arith, c.loop-column.invariant.size))
    ∙ c.loop-column.invariant.counts column within in
    let P : List ℕ → Type 0 = λ l. (k : ℕ) → k < i + 1 → get_or l k 0 ≡ row_of columns k in
    record {
      count = ap length c.in_ok-push.ensures.items ∙ length_push rows row ∙ omega (arith, c.loop-column.invariant.count);
      rows = subst P (sym c.in_ok-push.ensures.items)
          (rows_more columns rows i row c.loop-column.invariant.count row_is c.loop-column.invariant.rows);
      size = length-set c.loop-column.counts.items column (row + 1) ∙ c.loop-column.invariant.size;
      counts = counts_more columns c.loop-column.counts.items i column row c.args.count c.loop-column-test.true refl
          c.loop-column.invariant.size within c.loop-column.invariant.counts row_is;
    }
