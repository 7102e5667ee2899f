use Rattle.std.proofs.Common.{true, ◌∙◌, length-set, arith}
use Rattle.chain_check.proofs.ClauseLists.{Has-get}
use Rattle.leaf_chain.proofs.MarkLemmas.{marks_more}
use Rattle.leaf_chain.proofs.chains.mark.Goals as goal

pub index_mut-requires : goal.index_mut-requires
index_mut-requires c =
    let there = Has-get c.args.clause.now c.loop-l.l-index c.l-item.result c.loop-l-test.true c.l-item.is in
    let within = c.requires c.l-item.result there in
    omega (arith, c.loop-l.invariant.places, c.variable.ensures.variable)

pub loop-l-preserved : goal.loop-l-preserved
loop-l-preserved c =
    let there = Has-get c.args.clause.now c.loop-l.l-index c.l-item.result c.loop-l-test.true c.l-item.is in
    let within = c.requires c.l-item.result there in
    rw c.variable.ensures.variable record {
      marks =
          marks_more c.args.marks.now.items c.loop-l.marks.items c.args.clause.now c.loop-l.l-index c.l-item.result c.loop-l-test.true
          c.l-item.is (omega (arith, c.loop-l.invariant.places)) c.loop-l.invariant.marks;
      places = length-set c.loop-l.marks.items c.l-item.result.variable true ∙ c.loop-l.invariant.places;
    }
