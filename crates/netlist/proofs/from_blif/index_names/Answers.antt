use Rattle.std.proofs.Common.{◌≡◌, ◌<◌, [], length, get_or, ◌∙◌, arith}
use Rattle.std.proofs.lemmas.List.{get_or_read}
use Rattle.netlist.proofs.BuildLemmas.{index_names-more}
use Rattle.netlist.proofs.from_blif.index_names.Goals as goal

-- one name more is in the index at its place
pub loop-i-preserved : goal.loop-i-preserved
loop-i-preserved c =
    let names = c.args.names.now in
    let lt : c.loop-i.i < length names = omega arith in
    let at : c.bytes.result.now ≡ get_or names c.loop-i.i [] = c.bytes.ensures ∙ get_or_read names c.loop-i.i c.index-names-i.result lt c.index-names-i.is [] in
    index_names-more c.loop-i.index c.insert.new.self names c.loop-i.i c.bytes.result.now lt at c.loop-i.invariant c.in_ok-insert.ensures
