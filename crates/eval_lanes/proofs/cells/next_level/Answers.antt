use Rattle.std.proofs.Common.{ℕ, ◌+◌, ◌*◌, ◌<◌, ⊎_elim, get_or, set, ap, sym, ◌∙◌, arith}
use Rattle.std.proofs.lemmas.Bool.{cases_eq}
use Rattle.std.proofs.lemmas.List.{length-set, get_or-set_same, get_or-set_other}
use Rattle.eval_lanes.specs.Blocks.{words_of}
use Rattle.eval_lanes.specs.Levels.{mux}
use Rattle.eval_lanes.proofs.LaneLemmas.{word_read, words_of-set, length-words_of, mux_same}
use Rattle.eval_lanes.proofs.cells.next_level.Goals as goal

pub loop-k-preserved : goal.loop-k-preserved
loop-k-preserved g c =
    let word = g.W.Block.word in
    let level = c.loop-k.level in
    let old = c.args.level.now in
    let at : ℕ = c.loop-k.k in
    let block = c.mux.result in
    let h = c.loop-k.invariant in
    let at_lt : 2 * at + 1 < 32 = omega arith in
    let own : ℕ → ℕ → ℕ = λ i k. mux (get_or (words_of word old i) (2 * k + 1) 0) (get_or (words_of word old i) (2 * k) 0) (word c.args.pin i) in
    record {
      places = length-set level at block ∙ h.places;
      left = λ k i le i_lt. ap (λ l. get_or l k 0) (words_of-set word level i at block)
          ∙ get_or-set_other (words_of word level i) at k (word block i) 0 (λ e. omega arith)
          ∙ h.left k i (omega arith) i_lt;
      done = λ k i lt i_lt.
          let words = words_of word level i in
          ap (λ l. get_or l k 0) (words_of-set word level i at block)
          ∙ ⊎_elim
          (λ here. ap (λ m. get_or (set words at (word block i)) m 0) here
          ∙ get_or-set_same words at (word block i) 0 (omega (arith, length-words_of word level i, h.places))
          ∙ c.mux.ensures i i_lt
          ∙ mux_same _ _ (word c.args.pin i) _ _
          (sym (word_read word level i (2 * at + 1) _ (omega (arith, h.places))) ∙ h.left (2 * at + 1) i (omega arith) i_lt)
          (sym (word_read word level i (2 * at) _ (omega (arith, h.places))) ∙ h.left (2 * at) i (omega arith) i_lt)
          ∙ ap (own i) (sym here))
          (λ other. get_or-set_other words at k (word block i) 0 other ∙ h.done k i (omega arith) i_lt)
          (cases_eq k at);
    }
