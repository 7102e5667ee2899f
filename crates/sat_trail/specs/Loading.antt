-- The clauses of a set are put into a region one after another, and all of them are loose.
use Rattle.std.specs.Prelude.{◌≡◌, ◌≢◌, ℕ, ◌*◌, ◌<◌, ◌≤◌, ◌↔◌, List, [], length, get_or, take, sum_by, Option, Some, None}
use Rattle.clause_defs.specs.Clauses.{Lits, Has}
use Rattle.pch_region.specs.Blocks.{held_at, words_of, blocks_of}
use Rattle.link_lists.specs.Linked.{list_at}

-- the first k clauses are the blocks below k, and there are no others
pub record IsLoading (cs : List Lits) (blocks k : ℕ) (held : List (Option Lits)) : Type 0 where
  pub many : length held ≡ blocks
  pub there : (b : ℕ) → b < k → held_at held b ≡ Some (get_or cs b [])
  pub rest : (b : ℕ) → k ≤ b → held_at held b ≡ None
  pub words : words_of held ≡ sum_by length (take k cs)
  pub counted : blocks_of held ≡ k

-- list 1 has the even watches of the first k clauses, and the others are empty
pub record AreLoadedLists (k : ℕ) (lists : List (List ℕ)) : Type 0 where
  pub some : 2 ≤ length lists
  pub loose : (w : ℕ) → Has (list_at lists 1) w ↔ ((b : ℕ) × (b < k) × (w ≡ 2 * b))
  pub others : (j : ℕ) → j ≢ 1 → list_at lists j ≡ []
