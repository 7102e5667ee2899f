-- Lists without a watch, or without both watches of a clause.
use Rattle.std.specs.Prelude.{◌≡◌, ℕ, ◌+◌, ◌*◌, ◌⊎◌, ◌≢◌, List, [], length}
use Rattle.clause_defs.specs.Literals.{code}
use Rattle.clause_defs.specs.Clauses.{Lits, Has}
use Rattle.link_lists.specs.Linked.{list_at}
use Rattle.sat_trail.specs.Watching.{lit_at}

-- the watch w was taken out of list l, and nothing else changed but the order
pub record IsWithout (before : List (List ℕ)) (l w : ℕ) (after : List (List ℕ)) : Type 0 where
  pub many : length after ≡ length before
  pub were : (k v : ℕ) → Has (list_at after k) v → Has (list_at before k) v
  pub kept : (k v : ℕ) → Has (list_at before k) v → ((k ≡ l) × (v ≡ w)) ⊎ Has (list_at after k) v
  pub gone : Has (list_at after l) w → ⊥
  pub left : list_at after 0 ≡ []

-- v is a watch of the clause at this place, in a list where it may stand
abbrev pub IsReleased : Lits → ℕ → ℕ → ℕ → Type 0
IsReleased watch place k v =
    ((k ≡ 1) × (v ≡ 2 * place))
    ⊎ (((k ≡ code (lit_at watch (2 * place))) × (v ≡ 2 * place))
    ⊎ ((k ≡ code (lit_at watch (2 * place + 1))) × (v ≡ 2 * place + 1)))

-- these were taken out, and nothing else changed but the order
pub record AreReleased (before : List (List ℕ)) (watch : Lits) (place : ℕ) (after : List (List ℕ)) : Type 0 where
  pub many : length after ≡ length before
  pub were : (k v : ℕ) → Has (list_at after k) v → Has (list_at before k) v
  pub kept : (k v : ℕ) → Has (list_at before k) v → IsReleased watch place k v ⊎ Has (list_at after k) v
  pub gone : (k v : ℕ) → IsReleased watch place k v → Has (list_at after k) v → ⊥
  pub left : list_at after 0 ≡ []

-- while watch w is taken out of list l: list 0 has what is still to be put back
pub record IsRemoving (before : List (List ℕ)) (l w : ℕ) (lists : List (List ℕ)) : Type 0 where
  pub long : length lists ≡ length before
  pub others : (k : ℕ) → k ≢ 0 → k ≢ l → list_at lists k ≡ list_at before k
  pub pending : (v : ℕ) → Has (list_at lists 0) v → Has (list_at before l) v
  pub put_back : (v : ℕ) → Has (list_at lists l) v → Has (list_at before l) v × (v ≢ w)
  pub all : (v : ℕ) → Has (list_at before l) v → (v ≡ w) ⊎ (Has (list_at lists 0) v ⊎ Has (list_at lists l) v)
