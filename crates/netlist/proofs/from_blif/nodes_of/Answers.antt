use Rattle.std.proofs.Common.{◌≡◌, ◌<◌, length, map, get_or, sym, ap, subst, ◌∙◌, arith}
use Rattle.std.proofs.lemmas.List.{get_or-map, length-map}
use Rattle.std.proofs.lemmas.Result.{err_from_is_err_and}
use Rattle.blif_read.specs.Views.{cover_of}
use Rattle.blif_defs.specs.Values.{CoverValue}
use Rattle.net_defs.specs.NetOf.{no_cover, IsNodeOf}
use Rattle.netlist.proofs.BuildLemmas.{NodesOf-err}
use Rattle.netlist.proofs.ZipLemmas.{all_zip-more}
use Rattle.netlist.proofs.from_blif.nodes_of.Goals as goal

-- an undriven pin behind nodes that were built is the first
pub returns-in_err-node_of : goal.returns-in_err-node_of
returns-in_err-node_of c = λ b h same.
    let covers = c.args.covers.now in
    let v = c.loop-v.v in
    let lt : v < length covers = omega arith in
    let item = c.index-covers-v.result in
    let at : cover_of item ≡ get_or (map cover_of covers) v no_cover =
    ap cover_of c.index-covers-v.is ∙ sym (get_or-map cover_of covers v item no_cover lt) in
    let p = err_from_is_err_and c.from_residual-in_err-node_of.result c.from_residual-in_err-node_of.ensures.1 in
    rw (p.1, p.2)
    (NodesOf-err b (map cover_of covers) v (cover_of item) c.loop-v.nodes.items c.in_err-node_of.field-0.0 same
    (omega (arith, length-map covers cover_of)) (c.loop-v.invariant b h) at (c.in_err-node_of.ensures b h))

-- the node that was built is that of its cover
pub loop-v-preserved : goal.loop-v-preserved
loop-v-preserved c = λ b h.
    let covers = c.args.covers.now in
    let v = c.loop-v.v in
    let lt : v < length covers = omega arith in
    let item = c.index-covers-v.result in
    let at : cover_of item ≡ get_or (map cover_of covers) v no_cover =
    ap cover_of c.index-covers-v.is ∙ sym (get_or-map cover_of covers v item no_cover lt) in
    let P : CoverValue → Type 0 = λ k. IsNodeOf b k c.in_ok-node_of.field-0 in
    rw c.in_ok-push.ensures.items
    (all_zip-more (IsNodeOf b) (map cover_of covers) c.loop-v.nodes.items v no_cover c.in_ok-node_of.field-0
    (omega (arith, length-map covers cover_of)) (c.loop-v.invariant b h) (subst P at (c.in_ok-node_of.ensures b h)))
