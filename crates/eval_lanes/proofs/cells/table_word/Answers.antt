use Rattle.std.proofs.Common.{◌≡◌, ℕ, ◌+◌, ◌-◌, ◌*◌, ◌/◌, ◌^◌, ◌<◌, ◌≤◌, List, length, map, get_or, ap, sym, ◌∙◌, arith}
use Rattle.std.specs.Int.{bit_at}
use Rattle.std.proofs.lemmas.List.{length-map}
use Rattle.std.proofs.lemmas.Option.{get_or_from_slice_get}
use Rattle.std.proofs.lemmas.Nat.{pow_pos}
use Rattle.std.proofs.lemmas.Nat.Bits.{bit_at-lt}
use Rattle.lanes_defs.specs.Lanes.{lane}
use Rattle.eval_lanes.specs.Blocks.{words_of}
use Rattle.eval_lanes.specs.Places.{seen_bit}
use Rattle.eval_lanes.specs.Levels.{chosen}
use Rattle.eval_lanes.proofs.LaneLemmas.{word_read, pin_seen, mux_lane}
use Rattle.eval_lanes.proofs.LevelLemmas.{first_is_level, next_is_level, last_is_bit, half_pow, first_half, first_half-le, quarter_pow-le}
use Rattle.eval_lanes.proofs.cells.table_word.Goals as goal

pub first_level-requires : goal.first_level-requires
first_level-requires g c =
    let pins : ℕ = length c.args.pins.now in
    omega (arith, first_half pins c.requires.some c.requires.few, first_half-le pins c.requires.few)

pub loop-m-init : goal.loop-m-init
loop-m-init g c =
    let pins = c.args.pins.now in
    record {
      places = c.first_level.ensures.count;
      half = first_half (length pins) c.requires.some c.requires.few;
      level = λ i j i_lt j_lt.
          let word = g.W.Block.word in
          let f : ℕ → ℕ = seen_bit (lane (words_of word c.args.values.now i) j) c.args.tracks.now in
          let own : get_or (map f pins) 0 0 ≡ bit_at (word c.get.result i) j =
          pin_seen word c.args.values.now c.args.tracks.now pins i j 0 c.from.result c.get-first.result c.get.result c.requires.some c.from.ensures c.get-first.ensures c.get.ensures in
          first_is_level c.args.table _ (map f pins) _ (omega (arith, length-map pins f))
          (λ k lt. c.first_level.ensures.bits k i j lt i_lt j_lt ∙ ap (λ b. bit_at c.args.table (2 * k + b)) (sym own));
    }

pub get-requires-in-loop-m : goal.get-requires-in-loop-m
get-requires-in-loop-m g c =
    let track : ℕ = c.from-in-loop-m.result in
    let inside : track < length c.args.tracks.now = omega (arith, c.from-in-loop-m.ensures, c.requires.pins c.loop-m.m 0 c.loop-m-test.true) in
    omega (arith, get_or_from_slice_get c.args.tracks.now track c.get-place.result 0 c.get-place.ensures, c.requires.tracks track 0 inside)

pub next_level-requires : goal.next_level-requires
next_level-requires g c =
    let pins : ℕ = length c.args.pins.now in
    let m : ℕ = c.loop-m.m in
    let some : 1 ≤ m = c.loop-m.auto.m in
    omega (arith, c.loop-m.invariant.half, half_pow pins m c.loop-m-test.true, quarter_pow-le pins m c.requires.few some)

pub loop-m-preserved : goal.loop-m-preserved
loop-m-preserved g c =
    let pins = c.args.pins.now in
    let m : ℕ = c.loop-m.m in
    let half : c.loop-m.half ≡ 2 * 2 ^ (length pins - (m + 1)) = c.loop-m.invariant.half ∙ half_pow (length pins) m c.loop-m-test.true in
    record {
      places = c.next_level.ensures.count;
      half = omega (arith, half);
      level = λ i j i_lt j_lt.
          let word = g.W.Block.word in
          let f : ℕ → ℕ = seen_bit (lane (words_of word c.args.values.now i) j) c.args.tracks.now in
          let bits : List ℕ = map f pins in
          let block = c.get-in-loop-m.result in
          let level = words_of word c.loop-m.level i in
          let own : get_or bits m 0 ≡ bit_at (word block i) j =
          pin_seen word c.args.values.now c.args.tracks.now pins i j m c.from-in-loop-m.result c.get-place.result block c.loop-m-test.true
          c.from-in-loop-m.ensures c.get-place.ensures c.get-in-loop-m.ensures in
          next_is_level c.args.table c.loop-m.half (c.loop-m.half / 2) m bits (λ k. bit_at (get_or level k 0) j)
          (λ k. bit_at (get_or (words_of word c.next_level.new.level i) k 0) j)
          (omega (arith, length-map pins f)) (omega arith) (omega (arith, own, bit_at-lt (word block i) j)) (c.loop-m.invariant.level i j i_lt j_lt)
          (λ k lt. ap (λ w. bit_at w j) (c.next_level.ensures.words k i lt i_lt)
          ∙ mux_lane (get_or level (2 * k) 0) (get_or level (2 * k + 1) 0) (word block i) j
          ∙ ap (λ b. chosen b (bit_at (get_or level (2 * k + 1) 0) j) (bit_at (get_or level (2 * k) 0) j)) (sym own));
    }

pub returns : goal.returns
returns g c = λ i j i_lt j_lt.
    let word = g.W.Block.word in
    let pins = c.args.pins.now in
    let f : ℕ → ℕ = seen_bit (lane (words_of word c.args.values.now i) j) c.args.tracks.now in
    let level = c.loop-m.level in
    ap (λ w. bit_at w j) (sym (word_read word level i 0 c.index-level-0.result (omega (arith, c.loop-m.invariant.places))))
    ∙ last_is_bit c.args.table c.loop-m.half c.loop-m.m (map f pins) (λ k. bit_at (get_or (words_of word level i) k 0) j)
    (omega (arith, length-map pins f)) (omega (arith, c.loop-m.invariant.half, pow_pos (length pins - c.loop-m.m))) (c.loop-m.invariant.level i j i_lt j_lt)
