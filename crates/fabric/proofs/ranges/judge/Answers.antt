use Rattle.std.proofs.Common.{◌≡◌, arith}
use Rattle.std.proofs.lemmas.Result.{err_from_is_err_and, IfErr-weaker, on_ok_weaker}
use Rattle.fabric.proofs.RangeLemmas.{AreInRange-first, AreInRange-outputs, NamesFirst-first, NamesFirst-output}
use Rattle.fabric.proofs.ranges.judge.Goals as goal

-- a fault in channel 0 is the first
pub returns-in_err-judge_words-clause-err : goal.returns-in_err-judge_words-clause-err
returns-in_err-judge_words-clause-err c =
    let p = err_from_is_err_and c.from_residual.result c.from_residual.ensures.1 in
    let fault = rw (c.t.ensures.value, c.i.ensures.value) at c.in_err-judge_words.ensures.err in
    rw (p.1, p.2) (NamesFirst-first c.args.g c.args.words.now _ fault)

-- the words of channel 0 are in their ranges
pub loop-column-init : goal.loop-column-init
loop-column-init c =
    let run = rw (c.t.ensures.value, c.i.ensures.value) at c.in_ok-judge_words.ensures.ok in
    AreInRange-first c.args.g c.args.words.now run

-- with the output pads all words are
pub returns-clause-ok : goal.returns-clause-ok
returns-clause-ok c =
    let all : c.loop-column.column ≡ c.args.g.columns = omega arith in
    let run = rw (c.output_place.ensures, c.o.ensures.value, c.t-2.ensures.value) at c.judge_words-2.ensures.ok in
    on_ok_weaker c.judge_words-2.result (AreInRange-outputs c.args.g c.args.words.now c.loop-column.column all c.loop-column.invariant) run

-- a fault in the output pads is the first where all columns are right
pub returns-clause-err : goal.returns-clause-err
returns-clause-err c =
    let all : c.loop-column.column ≡ c.args.g.columns = omega arith in
    let fault = rw (c.output_place.ensures, c.o.ensures.value, c.t-2.ensures.value) at c.judge_words-2.ensures.err in
    IfErr-weaker c.judge_words-2.result _ _
    (λ e. NamesFirst-output c.args.g c.args.words.now c.loop-column.column e all c.loop-column.invariant) fault
