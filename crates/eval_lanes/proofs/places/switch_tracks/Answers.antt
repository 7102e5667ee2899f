use Rattle.std.proofs.Common.{◌≡◌, ℕ, ◌+◌, ◌*◌, get_or, ap, ◌∙◌, arith}
use Rattle.fabric_defs.specs.Geometries.{GeometryValue}
use Rattle.fabric_defs.specs.Wirings.{switched_bit}
use Rattle.eval_lanes.specs.Places.{cell_place}
use Rattle.eval_lanes.proofs.PlaceLemmas.{names_next}
use Rattle.eval_lanes.proofs.places.switch_tracks.Goals as goal

pub returns : goal.returns
returns c =
    let config = c.args.config.now in
    let column : ℕ = c.args.column in
    let words = c.channel_after-words.ensures in
    let pads : c.i.result ≡ config.geometry.input_pads = c.i.ensures.value ∙ ap (λ (g : GeometryValue). g.input_pads) c.geometry-g.ensures.value in
    let rows : c.r.result ≡ config.geometry.rows = c.r.ensures.value ∙ ap (λ (g : GeometryValue). g.rows) c.geometry-g.ensures.value in
    let first : c.i.result + 1 + column * c.r.result ≡ cell_place config.geometry (column * config.geometry.rows) =
    omega (arith, pads, ap (λ n. column * n) rows) in
    names_next config c.args.tracks.now c.loop-t.tracks c.channel_after-words.result.now column c.requires.column c.requires.before
    words.value words.count words.within c.loop-t.invariant.places c.loop-t.invariant.off
    (λ t lt. c.loop-t.invariant.done t (omega (arith, words.count))
    ∙ ap (λ m. switched_bit (get_or c.args.tracks.now (t + 1) 0) (λ row. m + row) (get_or c.channel_after-words.result.now t 0)) first)
