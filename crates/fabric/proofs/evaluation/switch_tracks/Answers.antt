use Rattle.std.proofs.Common.{◌≡◌, ℕ, ◌+◌, ◌*◌, ◌<◌, ◌≤◌, ⊎_elim, length, get_or, ap, sym, ◌∙◌, arith}
use Rattle.std.proofs.lemmas.Bool.{cases_eq}
use Rattle.std.proofs.lemmas.List.{length-set, get_or-set_other}
use Rattle.fabric_defs.specs.Geometries.{GeometryValue}
use Rattle.fabric_defs.specs.Configurations.{track_word}
use Rattle.fabric_defs.specs.Wirings.{channel, switched_bit}
use Rattle.fabric.specs.BitArrays.{bit_of}
use Rattle.fabric.proofs.PinLemmas.{listed_at}
use Rattle.fabric.proofs.ColumnLemmas.{channel_next, switched_right, track_written, track_left}
use Rattle.fabric.proofs.evaluation.switch_tracks.Goals as goal

-- a switch takes a cell of the column
pub switched_bit-bit-requires : goal.switched_bit-bit-requires
switched_bit-bit-requires c =
    let config = c.args.config.now in
    let column : ℕ = c.args.column in
    let words = c.channel_after-words.ensures in
    let rows : c.r.result ≡ config.geometry.rows = c.r.ensures.value ∙ ap (λ (g : GeometryValue). g.rows) c.geometry.ensures.value in
    let some : 1 ≤ config.geometry.rows = c.geometry.ensures.known.geometry.some_rows in
    let inside : column * config.geometry.rows + config.geometry.rows ≤ config.geometry.columns * config.geometry.rows = grind arith in
    rw rows (omega (arith, words.within c.loop-t.t 0 (omega arith), c.requires.cells))

-- one track more has its bit behind the column
pub loop-t-preserved : goal.loop-t-preserved
loop-t-preserved c =
    let config = c.args.config.now in
    let column : ℕ = c.args.column in
    let t : ℕ = c.loop-t.t in
    let now = c.loop-t.tracks in
    let bit : ℕ = bit_of c.switched_bit-bit.result in
    let words = c.channel_after-words.ensures in
    let rows : c.r.result ≡ config.geometry.rows = c.r.ensures.value ∙ ap (λ (g : GeometryValue). g.rows) c.geometry.ensures.value in
    let within : t < config.geometry.tracks = omega (arith, words.count) in
    let before : bit_of c.get.result ≡ get_or c.args.tracks.now (t + 1) 0 = sym c.get.ensures ∙ c.loop-t.invariant.left t (omega arith) in
    let word : get_or c.channel_after-words.result.now t 0 ≡ track_word config column t =
    listed_at config.geometry.tracks (track_word config column) _ t words.value within in
    let switched = rw rows at c.switched_bit-bit.ensures in
    let taken = switched ∙ ap (switched_bit (bit_of c.get.result) (λ row. get_or c.args.cells.now (column * config.geometry.rows + row) 0)) word in
    let room : t + 1 < length now = omega (arith, c.loop-t.invariant.places, c.requires.tracks) in
    record {
      places = ap length c.set.ensures ∙ length-set now (t + 1) bit ∙ c.loop-t.invariant.places;
      off = ap (λ l. get_or l 0 0) c.set.ensures ∙ get_or-set_other now (t + 1) 0 bit 0 (λ e. omega arith) ∙ c.loop-t.invariant.off;
      left = λ j le. ap (λ l. get_or l (j + 1) 0) c.set.ensures ∙ track_left now t bit j (λ e. omega arith) ∙ c.loop-t.invariant.left j (omega arith);
      done = λ x w has_channel has_cells wired j lt. ap (λ l. get_or l (j + 1) 0) c.set.ensures
          ∙ ⊎_elim
          (λ here. track_written now t bit j room here ∙ taken
          ∙ switched_right config x c.args.tracks.now c.args.cells.now column t (bit_of c.get.result) w c.geometry.ensures.known
          c.requires.column within has_channel has_cells wired before
          ∙ ap (λ m. get_or (channel w (column + 1)) m 0) (sym here))
          (λ other. track_left now t bit j other ∙ c.loop-t.invariant.done x w has_channel has_cells wired j (omega arith))
          (cases_eq j t);
    }

-- so the tracks have the bits of the next channel
pub returns-clause-channel : goal.returns-clause-channel
returns-clause-channel c = λ x has_channel has_cells w wired.
    channel_next c.args.config.now x c.args.tracks.now c.loop-t.tracks c.args.column w c.requires.column wired
    (c.loop-t.invariant.places ∙ c.requires.tracks) (has_channel w wired) c.loop-t.invariant.off
    (λ t lt. c.loop-t.invariant.done x w has_channel has_cells wired t (omega (arith, c.channel_after-words.ensures.count)))
