use Rattle.std.proofs.Common.{List, subst, arith}
use Rattle.std.proofs.lemmas.List.{take_all}
use Rattle.cell_defs.specs.declared.source.Source.{Source}
use Rattle.live_spans.specs.Uses.{AreExtended}
use Rattle.live_spans.proofs.UseLemmas.{nothing_extended, more_extended}
use Rattle.live_spans.proofs.uses.listen_all.Goals as goal

pub loop-source-init : goal.loop-source-init
loop-source-init c = nothing_extended c.args.l.now c.args.spans.now.items c.args.end

pub loop-source-preserved : goal.loop-source-preserved
loop-source-preserved c =
    more_extended c.args.l.now c.args.spans.now.items c.loop-source.spans.items c.listen.new.spans.items c.args.sources.now
    c.loop-source.source-index c.args.end _ c.loop-source.invariant c.listen.ensures c.loop-source-test.true

pub returns : goal.returns
returns c =
    let l = c.args.l.now in
    let ss = c.args.sources.now in
    let P : List Source → Type 0 = λ xs. AreExtended l c.args.spans.now.items c.loop-source.spans.items xs c.args.end in
    subst P (take_all c.loop-source.source-index ss (omega (arith, c.loop-source-test.false))) c.loop-source.invariant
