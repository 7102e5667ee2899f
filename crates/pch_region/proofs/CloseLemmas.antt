-- The beginning and the end of moving all blocks together.
use Rattle.std.proofs.Common.{◌≡◌, ℕ, ◌+◌, ◌<◌, ◌≤◌, List, length, take, drop, Option, Some, None, inl, inr, refl, sym, ap, ◌∙◌, subst, arith, length-drop, length-take-le, get_or-take}
use Rattle.std.proofs.Math.Nat.{eq-zero-or-pos}
use Rattle.std.proofs.lemmas.List.{length-map}
use Rattle.clause_defs.specs.Clauses.{Lits}
use Rattle.pch_region.specs.Blocks.{size, words_of}
use Rattle.pch_region.specs.Places.{place_of, block_in, blocks_in, EndsBy, EachEndsBy, IsInOrder}
use Rattle.pch_region.specs.Kept.{IsClosing, kept_words}
use Rattle.pch_region.specs.declared.places.Place.{Place}
use Rattle.pch_region.proofs.ListSums.{sum_same, sum_nothing}
use Rattle.pch_region.proofs.PlaceLemmas.{held_is, blocks_changed, block_kept, kept_words-in, kept_words-out, kept_words-none}

-- before entry 0 no block counts
nothing_kept : (s : Option Place) → kept_words 0 s ≡ 0
nothing_kept None = refl
nothing_kept (Some p) = kept_words-out 0 p (omega arith)

-- before the first entry nothing was moved
pub closing_none : (order : List ℕ) (slots : List (Option Place)) (end : ℕ) → EachEndsBy end slots → IsInOrder order slots
    → IsClosing order slots end 0 0 0
closing_none order slots end ends in_order = record {
  ends = ends;
  in_order = in_order;
  inside = omega arith;
  fewer = omega arith;
  packed = omega arith;
  split = λ n p is some. inr (omega arith, omega arith);
  filled = sum_nothing (kept_words 0) slots nothing_kept;
}

module _ (run : Lits) (order : List ℕ) (slots : List (Option Place)) (i to kept : ℕ) (closing : IsClosing order slots (length run) i to kept)
    (all : length order ≤ i) where
  -- behind the last entry each block with words was moved
  all_moved : (n : ℕ) (p : Place) → place_of slots n ≡ Some p → 0 < p.len → (p.at < kept) × (p.start + p.len ≤ to)
  all_moved n p is some =
      elim (closing.split n p is some) [
        | inl low ↦ low
        | inr high ↦ let a = high.0 in let b = (closing.in_order.entry n p is some).0 in absurd (omega arith)
      ]

  -- a block whose words were moved ends by the end of the moved ones
  end_of : (s : Option Place) → ((p : Place) → s ≡ Some p → 0 < p.len → (p.at < kept) × (p.start + p.len ≤ to)) → EndsBy to s
  end_of None moved = tt
  end_of (Some p) moved = λ some. (moved p refl some).1

  -- so each block does
  closed_by : (n : ℕ) → EndsBy to (place_of slots n)
  closed_by n = end_of (place_of slots n) (all_moved n)

  module _ (few : kept ≤ length order) where
    -- what is left of the run has as many words as were moved
    run_long : length (take to run) ≡ to
    run_long = length-take-le to run closing.inside

    -- each block ends within what is left of the run
    pub closed_ends : EachEndsBy (length (take to run)) slots
    closed_ends n = subst (λ end. EndsBy end (place_of slots n)) (sym run_long) (closed_by n)

    -- and what is left of the order has as many entries as were kept
    order_long : length (take kept order) ≡ kept
    order_long = length-take-le kept order few

    -- the entries that are left are those of the blocks
    pub closed_order : IsInOrder (take kept order) slots
    closed_order = record {
      entry = λ n p is some.
          let at = (all_moved n p is some).0 in
          let len = order_long in
          (omega arith, get_or-take kept order p.at 0 at ∙ (closing.in_order.entry n p is some).1);
      sorted = closing.in_order.sorted;
    }

    -- there are no more entries than words
    pub closed_names : length (take kept order) ≤ length (take to run)
    closed_names = let a = order_long in let b = run_long in let c : kept ≤ to = closing.packed in omega arith

  -- each block has its words
  pub closed_blocks : blocks_in (take to run) slots ≡ blocks_in run slots
  closed_blocks = blocks_changed run (take to run) slots slots refl (λ n. block_kept to run (place_of slots n) (closed_by n))

  -- each block counts with all its words, since its entry was kept
  weight_is : (s : Option Place) → ((p : Place) → s ≡ Some p → 0 < p.len → (p.at < kept) × (p.start + p.len ≤ to))
      → size (block_in run s) ≡ kept_words kept s
  weight_is None moved = refl
  weight_is (Some p) moved =
      elim (eq-zero-or-pos p.len) [
        | inl none ↦ ap (λ k. length (take k (drop p.start run))) none ∙ sym (kept_words-none kept p none)
        | inr some ↦
            let at = (moved p refl some).0 in
            let ends = (moved p refl some).1 in
            let inside : to ≤ length run = closing.inside in
            let dropped = length-drop p.start run in
            length-take-le p.len (drop p.start run) (omega arith) ∙ sym (kept_words-in kept p at)
      ]

  -- the run has the words of the blocks and no others
  pub closed_words : length (take to run) ≡ words_of (blocks_in run slots)
  closed_words =
      length-take-le to run closing.inside ∙ sym closing.filled
      ∙ sym (sum_same (kept_words kept) size slots (blocks_in run slots) None None (length-map slots (block_in run))
      (λ m lt. ap size (held_is run slots m) ∙ weight_is (place_of slots m) (all_moved m)))
