use Rattle.std.proofs.Common.{◌≡◌, ◌<◌, length, map, get_or, sym, ap, ◌∙◌, arith}
use Rattle.std.proofs.lemmas.List.{get_or-map, length-map}
use Rattle.blif_read.specs.Views.{cover_of}
use Rattle.blif_defs.specs.Values.{CoverValue}
use Rattle.net_defs.specs.NetOf.{no_cover}
use Rattle.netlist.proofs.BuildLemmas.{index_signals-more}
use Rattle.netlist.proofs.from_blif.index_signals.Goals as goal

-- the output of one cover more is in the index behind the inputs
pub loop-v-preserved : goal.loop-v-preserved
loop-v-preserved c =
    let covers = c.as_slice-covers.result.now in
    let v = c.loop-v.v in
    let lt : v < length covers = omega arith in
    let item = c.index-covers-v.result in
    let at : c.bytes.result.now ≡ (get_or (map cover_of covers) v no_cover).out =
    c.bytes.ensures
    ∙ ap (λ (k : CoverValue). k.out) (ap cover_of c.index-covers-v.is ∙ sym (get_or-map cover_of covers v item no_cover lt)) in
    index_signals-more c.loop-v.index c.insert.new.self c.as_slice-inputs.result.now (map cover_of covers) v c.bytes.result.now
    (omega (arith, length-map covers cover_of)) at c.loop-v.invariant c.in_ok-insert.ensures
