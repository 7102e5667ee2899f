-- How lists of numbers lie in two arrays: number w stands as w + 1, and 0 ends a list.
use Rattle.std.specs.Prelude.{◌≡◌, ℕ, zero, suc, ◌+◌, ◌<◌, List, [], ◌∷◌, length, map, get_or}
use Rattle.clause_defs.specs.Clauses.{Has}
use Rattle.link_lists.specs.Linked.{list_at}

-- the first n numbers of the list that begins with h
abbrev pub walk : ℕ → List ℕ → ℕ → List ℕ
walk zero next h = []
walk (suc n) next zero = []
walk (suc n) next (suc w) = w ∷ walk n next (get_or next w 0)

-- the lists that begin with these
abbrev pub walks : List ℕ → List ℕ → List (List ℕ)
walks next heads = map (walk (length next) next) heads

-- the list that begins with h has these numbers, each of them once
abbrev pub Chain : List ℕ → ℕ → List ℕ → Type 0
Chain next h [] = h ≡ 0
Chain next h (w ∷ ws) = (h ≡ w + 1) × (w < length next) × (Has ws w → ⊥) × Chain next (get_or next w 0) ws

-- each list is the one that begins with its head, and no number is in two lists
pub record IsLinkedBy (next heads : List ℕ) (lists : List (List ℕ)) : Type 0 where
  pub count : length lists ≡ length heads
  pub chains : (k : ℕ) → Chain next (get_or heads k 0) (list_at lists k)
  pub apart : (j k w : ℕ) → Has (list_at lists j) w → Has (list_at lists k) w → j ≡ k
