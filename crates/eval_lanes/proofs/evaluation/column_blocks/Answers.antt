use Rattle.std.proofs.Common.{ℕ, ⊎_elim, List, get_or, set, ap, sym, ◌∙◌, arith}
use Rattle.std.specs.Int.{bit_at}
use Rattle.std.proofs.lemmas.Bool.{cases_eq}
use Rattle.std.proofs.lemmas.List.{length-set, get_or-set_same, get_or-set_other}
use Rattle.lanes_defs.specs.Lanes.{lane}
use Rattle.eval_lanes.specs.Blocks.{words_of}
use Rattle.eval_lanes.specs.Places.{cell_bit}
use Rattle.eval_lanes.proofs.LaneLemmas.{words_of-set, length-words_of}
use Rattle.eval_lanes.proofs.evaluation.column_blocks.Goals as goal

pub loop-row-preserved : goal.loop-row-preserved
loop-row-preserved g c =
    let word = g.W.Block.word in
    let blocks = c.loop-row.blocks in
    let at : ℕ = c.loop-row.row in
    let block = c.cell_word.result in
    let h = c.loop-row.invariant in
    record {
      count = length-set blocks at block ∙ h.count;
      done = λ k i j lt i_lt j_lt.
          let words = words_of word blocks i in
          let bits : List ℕ = lane (words_of word c.args.values.now i) j in
          ap (λ l. bit_at (get_or l k 0) j) (words_of-set word blocks i at block)
          ∙ ⊎_elim
          (λ here. ap (λ m. bit_at (get_or (set words at (word block i)) m 0) j) here
          ∙ ap (λ m. bit_at m j) (get_or-set_same words at (word block i) 0 (omega (arith, length-words_of word blocks i, h.count)))
          ∙ c.cell_word.ensures i j i_lt j_lt
          ∙ ap (cell_bit c.args.config.now bits c.args.tracks.now c.args.column) (sym here))
          (λ other. ap (λ m. bit_at m j) (get_or-set_other words at k (word block i) 0 other)
          ∙ h.done k i j (omega arith) i_lt j_lt)
          (cases_eq k at);
    }
