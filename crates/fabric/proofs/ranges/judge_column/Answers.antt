use Rattle.std.proofs.Common.{◌≡◌, arith}
use Rattle.std.proofs.lemmas.Result.{err_from_is_err_and, IfErr-weaker, on_ok_weaker}
use Rattle.fabric_laws.proofs.LayoutLemmas.{cell_place-le, channel_place-le}
use Rattle.fabric.proofs.RangeLemmas.{AreInRange-cell, AreInRange-channel, NamesFirst-pin, NamesFirst-track}
use Rattle.fabric.proofs.ranges.judge_column.Goals as goal

-- the words of a cell lie within those of the column
pub judge_words-requires-clause-within : goal.judge_words-requires-clause-within
judge_words-requires-clause-within c =
    omega (arith, cell_place-le c.args.g c.args.column c.loop-row.row (omega arith), channel_place-le c.args.g c.args.column c.requires.column)

-- so do those of its channel
pub judge_words-requires-2-clause-within : goal.judge_words-requires-2-clause-within
judge_words-requires-2-clause-within c = omega (arith, channel_place-le c.args.g c.args.column c.requires.column)

-- a pin's fault is the first where the cells before are right
pub returns-in_err-judge_words-clause-err : goal.returns-in_err-judge_words-clause-err
returns-in_err-judge_words-clause-err c =
    let p = err_from_is_err_and c.from_residual.result c.from_residual.ensures.1 in
    let fault = rw (c.cell_place.ensures, c.pins.ensures.count, c.t.ensures.value) at c.in_err-judge_words.ensures.err in
    rw (p.1, p.2)
    (NamesFirst-pin c.args.g c.args.words.now c.args.column c.loop-row.row _ c.requires.column (omega arith) c.loop-row.invariant fault)

-- the words of one cell more are in their ranges; a table may be any
pub loop-row-preserved : goal.loop-row-preserved
loop-row-preserved c =
    let run = rw (c.cell_place.ensures, c.pins.ensures.count, c.t.ensures.value) at c.in_ok-judge_words.ensures.ok in
    AreInRange-cell c.args.g c.args.words.now c.args.column c.loop-row.row c.requires.column (omega arith) c.loop-row.invariant run
    (λ i. (c.type_inv.words i).fits)

-- with the channel all words of the column are
pub returns-clause-ok : goal.returns-clause-ok
returns-clause-ok c =
    let all : c.loop-row.row ≡ c.args.g.rows = omega arith in
    let run = rw (c.channel_place.ensures, c.t-2.ensures.value, c.r.ensures.value) at c.judge_words-2.ensures.ok in
    on_ok_weaker c.judge_words-2.result
    (AreInRange-channel c.args.g c.args.words.now c.args.column c.loop-row.row c.requires.column all c.loop-row.invariant) run

-- a fault in the channel is the first where all cells are right
pub returns-clause-err : goal.returns-clause-err
returns-clause-err c =
    let all : c.loop-row.row ≡ c.args.g.rows = omega arith in
    let fault = rw (c.channel_place.ensures, c.t-2.ensures.value, c.r.ensures.value) at c.judge_words-2.ensures.err in
    IfErr-weaker c.judge_words-2.result _ _
    (λ e. NamesFirst-track c.args.g c.args.words.now c.args.column c.loop-row.row e c.requires.column all c.loop-row.invariant) fault
