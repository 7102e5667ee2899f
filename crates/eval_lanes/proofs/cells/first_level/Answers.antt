use Rattle.std.proofs.Common.{◌≡◌, ℕ, ◌+◌, ◌*◌, ◌/◌, ◌%◌, ◌^◌, ◌<◌, ⊎_elim, get_or, set, bit_and, ap, sym, ◌∙◌, arith}
use Rattle.std.specs.Int.{bit_at}
use Rattle.std.proofs.lemmas.Bool.{cases_eq}
use Rattle.std.proofs.lemmas.List.{length-set, get_or-set_same, get_or-set_other}
use Rattle.std.proofs.lemmas.Nat.{and_mask}
use Rattle.std.proofs.lemmas.Nat.Bits.{bit_at-lt}
use Rattle.eval_lanes.specs.Blocks.{words_of}
use Rattle.eval_lanes.proofs.LaneLemmas.{word_read, words_of-set, length-words_of}
use Rattle.eval_lanes.proofs.LevelLemmas.{pair_bit}
use Rattle.eval_lanes.proofs.cells.first_level.Goals as goal

pub loop-k-preserved : goal.loop-k-preserved
loop-k-preserved g c =
    let word = g.W.Block.word in
    let level = c.loop-k.level in
    let at : ℕ = c.loop-k.k in
    let pairs = c.choices-pairs.result in
    let table : ℕ = c.args.table in
    let q : ℕ = bit_and (table / 2 ^ (2 * at)) 3 in
    let is : q ≡ table / 2 ^ (2 * at) % 4 = and_mask (table / 2 ^ (2 * at)) 2 in
    let block = get_or pairs q c.index-pairs-table.result in
    let q_lt : q < 4 = omega (arith, is) in
    let at_lt : at < 32 = omega arith in
    record {
      places = length-set level at block ∙ c.loop-k.invariant.places;
      done = λ k i j lt i_lt j_lt.
          let words = words_of word level i in
          let b : ℕ = bit_at (word c.args.pin i) j in
          ap (λ l. bit_at (get_or l k 0) j) (words_of-set word level i at block)
          ∙ ⊎_elim
          (λ here. ap (λ m. bit_at (get_or (set words at (word block i)) m 0) j) here
          ∙ ap (λ m. bit_at m j) (get_or-set_same words at (word block i) 0 (omega (arith, length-words_of word level i, c.loop-k.invariant.places))
          ∙ sym (word_read word pairs i q c.index-pairs-table.result (omega (arith, c.choices-pairs.ensures.count))))
          ∙ c.choices-pairs.ensures.bits q i j q_lt i_lt j_lt
          ∙ ap (λ m. bit_at m b) is
          ∙ pair_bit table at b (bit_at-lt (word c.args.pin i) j)
          ∙ ap (λ m. bit_at table (2 * m + b)) (sym here))
          (λ other. ap (λ m. bit_at m j) (get_or-set_other words at k (word block i) 0 other)
          ∙ c.loop-k.invariant.done k i j (omega arith) i_lt j_lt)
          (cases_eq k at);
    }
