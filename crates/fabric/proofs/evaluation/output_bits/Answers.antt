use Rattle.std.proofs.Common.{◌≡◌, ℕ, ⊎_elim, length, set, get_or, ap, sym, ◌∙◌, arith}
use Rattle.std.proofs.lemmas.Bool.{cases_eq}
use Rattle.std.proofs.lemmas.List.{length-set, get_or-set_same, get_or-set_other}
use Rattle.pch_base.specs.BitWords.{length-bits_of}
use Rattle.fabric_defs.specs.Geometries.{GeometryValue}
use Rattle.fabric_defs.specs.Configurations.{output_word}
use Rattle.fabric.specs.BitArrays.{bit_of}
use Rattle.fabric.proofs.PinLemmas.{listed_at}
use Rattle.fabric.proofs.ColumnLemmas.{pads_right}
use Rattle.fabric.proofs.evaluation.output_bits.Goals as goal

-- there is a bit for each pad from the start
pub loop-pad-init : goal.loop-pad-init
loop-pad-init c = record {
  count = ap length c.new-bits.ensures ∙ length-bits_of c.o-count.result 0;
  done = λ j lt. absurd (omega arith);
}

-- there is a word for each pad
pub bounds-words-pad : goal.bounds-words-pad
bounds-words-pad c =
    let pads = c.o-count.ensures.value ∙ ap (λ (g : GeometryValue). g.output_pads) c.geometry.ensures.value in
    omega (arith, pads, c.output_pads-words.ensures.count)

-- the word of a pad taps a track
pub get-requires : goal.get-requires
get-requires c =
    let pads = c.o-count.ensures.value ∙ ap (λ (g : GeometryValue). g.output_pads) c.geometry.ensures.value in
    omega (arith, c.output_pads-words.ensures.within c.loop-pad.pad 0 (omega (arith, pads, c.output_pads-words.ensures.count)), c.from.ensures)

-- a pad takes the bit of the track that it taps
pub loop-pad-preserved : goal.loop-pad-preserved
loop-pad-preserved c =
    let pad : ℕ = c.loop-pad.pad in
    let bits = c.loop-pad.bits in
    let tracks = c.args.tracks.now in
    let words = c.output_pads-words.result.now in
    let bit : bit_of c.get.result ≡ get_or tracks (get_or words pad 0) 0 =
    sym c.get.ensures ∙ ap (λ m. get_or tracks m 0) c.from.ensures in
    record {
      count = ap length c.with-bits.ensures ∙ length-set bits pad _ ∙ c.loop-pad.invariant.count;
      done = λ j lt. ap (λ l. get_or l j 0) c.with-bits.ensures
          ∙ ⊎_elim
          (λ here. ap (λ m. get_or (set bits pad (bit_of c.get.result)) m 0) here
          ∙ get_or-set_same bits pad (bit_of c.get.result) 0 (omega (arith, c.loop-pad.invariant.count)) ∙ bit
          ∙ ap (λ m. get_or tracks (get_or words m 0) 0) (sym here))
          (λ other. get_or-set_other bits pad j (bit_of c.get.result) 0 other ∙ c.loop-pad.invariant.done j (omega arith))
          (cases_eq j pad);
    }

-- so all pads have the bits of the wiring
pub returns : goal.returns
returns c = λ x w has_channel wired.
    let config = c.args.config.now in
    let pads = c.o-count.ensures.value ∙ ap (λ (g : GeometryValue). g.output_pads) c.geometry.ensures.value in
    pads_right config x c.args.tracks.now c.loop-pad.bits w has_channel wired (c.loop-pad.invariant.count ∙ pads)
    (λ pad lt. c.loop-pad.invariant.done pad (omega (arith, pads))
    ∙ ap (λ m. get_or c.args.tracks.now m 0) (listed_at config.geometry.output_pads (output_word config) _ pad c.output_pads-words.ensures.value lt))
