use Rattle.std.proofs.Common.{◌<◌, get_or, length, sym, ap, ◌∙◌, arith}
use Rattle.std.proofs.lemmas.List.{get_or_read}
use Rattle.sat_trail.proofs.PlaceLemmas.{at_has}
use Rattle.sat_trail.proofs.loose.late_literal.Goals as goal

pub index-requires : goal.index-requires
index-requires c =
    let there = at_has c.args.lits.now c.loop-m.m-index c.m-item.result (record { within = c.loop-m-test.true; read = c.m-item.is }) in
    let within = c.requires.within c.m-item.result there in
    let size = c.requires.marks.level_size in
    let is = c.variable.ensures.variable in
    omega arith

pub returns-in-loop-m-clause-member : goal.returns-in-loop-m-clause-member
returns-in-loop-m-clause-member c = at_has c.args.lits.now c.loop-m.m-index c.m-item.result (record { within = c.loop-m-test.true; read = c.m-item.is })

pub returns-in-loop-m-clause-late : goal.returns-in-loop-m-clause-late
returns-in-loop-m-clause-late c =
    let there = at_has c.args.lits.now c.loop-m.m-index c.m-item.result (record { within = c.loop-m-test.true; read = c.m-item.is }) in
    let within = c.requires.within c.m-item.result there in
    let size = c.requires.marks.level_size in
    let is = c.variable.ensures.variable in
    let lt : c.variable.result < length c.args.values.now.levels.items = omega arith in
    let read = get_or_read c.args.values.now.levels.items c.variable.result c.index.result.now lt c.index.ensures 0 in
    ap (λ k. get_or c.args.values.now.levels.items k 0) (sym is) ∙ sym read ∙ c.if-index-level.false
