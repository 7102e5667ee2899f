-- Where the blocks of a region lie in its run of words.
use Rattle.std.specs.Prelude.{◌≡◌, ℕ, zero, suc, ◌+◌, ◌<◌, ◌≤◌, ◌==◌, nat_lt, ◌&&◌, ◌++◌, List, [], ◌∷◌, map, get_or, length, take, drop, Option, Some, None, if◌then◌else◌}
use Rattle.clause_defs.specs.Clauses.{Lits}
use Rattle.pch_region.specs.declared.places.Place.{Place}

-- the place of the block with a name, if it is live
abbrev pub place_of : List (Option Place) → ℕ → Option Place
place_of slots n = get_or slots n None

-- the literals at a place of the run
abbrev pub block_in : Lits → Option Place → Option Lits
block_in run None = None
block_in run (Some p) = Some (take p.len (drop p.start run))

-- the literals of each block, by name
abbrev pub blocks_in : Lits → List (Option Place) → List (Option Lits)
blocks_in run slots = map (block_in run) slots

-- the words at the place, if it has some, end by `end`
abbrev pub EndsBy : ℕ → Option Place → Type 0
EndsBy end None = Unit {0}
EndsBy end (Some p) = 0 < p.len → p.start + p.len ≤ end

-- each block ends by `end`
abbrev pub EachEndsBy : ℕ → List (Option Place) → Type 0
EachEndsBy end slots = (n : ℕ) → EndsBy end (place_of slots n)

-- Each block that has words has its name in the order of the blocks, at its own entry, and the words of
-- blocks come in that order. Entries that are no block's own say nothing.
pub record IsInOrder (order : List ℕ) (slots : List (Option Place)) : Type 0 where
  pub entry : (n : ℕ) (p : Place) → place_of slots n ≡ Some p → 0 < p.len → (p.at < length order) × (get_or order p.at 0 ≡ n)
  pub sorted : (n m : ℕ) (p q : Place) → place_of slots n ≡ Some p → place_of slots m ≡ Some q → 0 < p.len → 0 < q.len
      → p.at < q.at → p.start + p.len ≤ q.start

-- the place, if it has words and its entry is this one
abbrev pub own_place : ℕ → Option Place → Option Place
own_place at None = None
own_place at (Some p) = if (p.at == at) && nat_lt 0 p.len then Some p else None

-- the order with one name more, unless the block has no words
abbrev pub listed : List ℕ → ℕ → ℕ → List ℕ
listed order n zero = order
listed order n (suc len) = order ++ n ∷ []
