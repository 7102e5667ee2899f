-- What a region keeps, and what is known while its blocks are moved together.
use Rattle.std.specs.Prelude.{◌≡◌, ◌≢◌, ℕ, ◌+◌, ◌^◌, ◌<◌, ◌≤◌, ◌⊎◌, nat_lt, List, get_or, length, sum_by, Option, Some, None, if◌then◌else◌}
use Rattle.clause_defs.specs.Clauses.{Lits}
use Rattle.pch_region.specs.Blocks.{held_at, words_of, blocks_of}
use Rattle.pch_region.specs.Places.{place_of, EachEndsBy, IsInOrder}
use Rattle.pch_region.specs.declared.places.Place.{Place}

-- The unused names are the names of no live block, each once; the live words are counted, and fit.
pub record AreNamed (held : List (Option Lits)) (unused : List ℕ) (words live : ℕ) : Type 0 where
  pub live_is : words_of held ≡ live
  pub fits : live ≤ words
  pub dead : (k : ℕ) → k < length unused → (get_or unused k 0 < length held) × (held_at held (get_or unused k 0) ≡ None)
  pub once : (j k : ℕ) → j < k → k < length unused → get_or unused j 0 ≢ get_or unused k 0
  pub counted : length unused + blocks_of held ≡ length held
  pub few : length held < 2 ^ 32

-- the blocks lie in the run one behind another, and no more names are in their order than words in the run
pub record AreLaid (run : Lits) (order : List ℕ) (slots : List (Option Place)) (words : ℕ) : Type 0 where
  pub ends : EachEndsBy (length run) slots
  pub in_order : IsInOrder order slots
  pub within : length run ≤ words
  pub few_names : length order ≤ length run

-- how many words a block has, if its entry stands before entry `kept`
abbrev pub kept_words : ℕ → Option Place → ℕ
kept_words kept None = 0
kept_words kept (Some p) = if nat_lt p.at kept then p.len else 0

-- The blocks of the first i entries have been moved to the front: they have the first `to` words of the
-- run, which ends at `end`, and the first `kept` entries. The blocks of later entries lie behind these words.
pub record IsClosing (order : List ℕ) (slots : List (Option Place)) (end i to kept : ℕ) : Type 0 where
  pub ends : EachEndsBy end slots
  pub in_order : IsInOrder order slots
  pub inside : to ≤ end
  pub fewer : kept ≤ i
  pub packed : kept ≤ to
  pub split : (n : ℕ) (p : Place) → place_of slots n ≡ Some p → 0 < p.len
      → ((p.at < kept) × (p.start + p.len ≤ to)) ⊎ ((i ≤ p.at) × (to ≤ p.start))
  pub filled : sum_by (kept_words kept) slots ≡ to
