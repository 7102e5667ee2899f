-- Clauses with the slots and the runs that have their numbers.
use Rattle.std.specs.Prelude.{◌≡◌, ℕ, ◌<◌, ◌≤◌, ◌⊎◌, List, length}
use Rattle.clause_defs.specs.Literals.{Literal}
use Rattle.clause_defs.specs.Clauses.{Lits}
use Rattle.flat_lists.specs.Flat.{Flat, total}
use Rattle.clause_index.specs.Runs.{clause_at, AreKeys, AreRuns, AnyHas, HaveRoom}
use Rattle.clause_index.specs.Slots.{AreSlots, StandsInSlot}
use Rattle.clause_index.specs.declared.runs.TheConstants.{MOST_RUNS}

-- clauses that can be looked up, how many fit in all, and how many literals they may have together
pub record Indexed : Type 0 where
  pub clauses : List Lits
  pub clause_room : ℕ
  pub literal_room : ℕ

-- clause k stands in a slot or in a run
abbrev pub Stands : List Lits → ℕ → List ℕ → List ℕ → List (List ℕ) → ℕ → Type 0
Stands f groups tags numbers runs k = StandsInSlot groups tags numbers (clause_at f k) k ⊎ AnyHas runs k

-- the slots and the runs are an index of the first n clauses, and have room for so many
pub record IsIndex (f : List Lits) (groups : ℕ) (tags numbers : List ℕ) (runs : Flat ℕ) (first second room n : ℕ) : Type 0 where
  pub slots : AreSlots groups tags numbers n
  pub sorted : AreRuns f runs.lists
  pub few_runs : length runs.lists ≤ MOST_RUNS
  pub few_numbers : total runs.lists ≤ n
  pub within : n ≤ room
  pub has_room : HaveRoom room runs first second
  pub each : (k : ℕ) → k < n → Stands f groups tags numbers runs.lists k

-- the lists have room for so many clauses, or are full
abbrev pub FitClauses : Flat Literal → ℕ → Type 0
FitClauses lists room = length lists.lists ≡ room ⊎ room ≤ lists.list_room

-- the slots and the runs are an index of all clauses, for which there is room
pub record IsIndexed (clauses : Flat Literal) (keys : List ℕ) (key_room groups : ℕ) (tags numbers : List ℕ) (runs : Flat ℕ)
    (first second room : ℕ) : Type 0 where
  pub index : IsIndex clauses.lists groups tags numbers runs first second room (length clauses.lists)
  pub fit : FitClauses clauses room
  pub keys_are : AreKeys clauses.lists keys
  pub keys_fit : (length keys ≡ room) ⊎ (room ≤ key_room)
