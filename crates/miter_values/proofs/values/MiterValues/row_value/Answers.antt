use Rattle.std.proofs.Common.{◌<◌, length, ap, sym, ◌∙◌, arith}
use Rattle.leaf_defs.specs.Evaluated.{value_of}
use Rattle.miter_values.proofs.RowLemmas.{row_passes, row_goes_on, row_misses, asked_true, asked_false, not_equal, equal}
use Rattle.miter_values.proofs.values.MiterValues.row_value.Goals as goal

-- a mark that asks nothing
pub loop-i-preserved-in_default : goal.loop-i-preserved-in_default
loop-i-preserved-in_default c =
    row_passes c.args.e.now c.args.marks.now c.args.fan_ins.now c.loop-i.i c.loop-i.asked _ (omega arith) (omega (arith, c.requires.width))
    c.loop-i.invariant c.in_default.ensures.none

-- a literal that is false
pub returns-then-value-is_positive : goal.returns-then-value-is_positive
returns-then-value-is_positive c =
    let lt : c.loop-i.i < length c.args.fan_ins.now = omega (arith, c.requires.width) in
    row_misses c.args.e.now c.args.marks.now c.args.fan_ins.now c.loop-i.i c.loop-i.asked _ c.in-Some.l (omega arith) lt c.loop-i.invariant
    c.in-Some.ensures.some
    (asked_false c.args.e.now c.args.fan_ins.now c.loop-i.i _ c.in-Some.l c.value.result lt c.requires.known c.in-Some.ensures.some
    (c.value.ensures ∙ ap (value_of c.args.e.now.values) c.variable.ensures.variable)
    (λ same. not_equal c.value.result c.is_positive.result c.if-value-is_positive.true (same ∙ sym c.is_positive.ensures)))

-- a literal that is true
pub loop-i-preserved : goal.loop-i-preserved
loop-i-preserved c =
    let lt : c.loop-i.i < length c.args.fan_ins.now = omega (arith, c.requires.width) in
    row_goes_on c.args.e.now c.args.marks.now c.args.fan_ins.now c.loop-i.i c.loop-i.asked _ c.in-Some.l (omega arith) lt c.loop-i.invariant
    c.in-Some.ensures.some
    (asked_true c.args.e.now c.args.fan_ins.now c.loop-i.i _ c.in-Some.l c.value.result lt c.requires.known c.in-Some.ensures.some
    (c.value.ensures ∙ ap (value_of c.args.e.now.values) c.variable.ensures.variable)
    (equal c.value.result c.is_positive.result c.if-value-is_positive.false ∙ c.is_positive.ensures))
