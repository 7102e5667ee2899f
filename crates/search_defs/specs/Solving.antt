-- A search by clause learning that writes its proof into a log.
use Rattle.std.specs.Prelude.{◌≡◌, ℕ, suc, ◌+◌, ◌-◌, ◌*◌, ◌<◌, ◌≤◌, ◌⊎◌, List, [], ◌∷◌, length, sum_by, get_or, set, Some, None}
use Rattle.clause_defs.specs.Clauses.{Lits, WithinVariables}
use Rattle.log_defs.specs.Logs.{Derived, LogValue, Words, IsIndexOf, clause_of_log}
use Rattle.log_defs.specs.Deriving.{IsNew}
use Rattle.pch_region.specs.Blocks.{words_of, blocks_of}
use Rattle.trail_defs.specs.Trails.{Assigned, clause_at, IsUpTo, HasSameClauses, HasSameValues}
use Rattle.settled_levels.specs.Levels.{IsSettledBelow}
use Rattle.search_defs.specs.declared.standing.Standing.{Standing}
use Rattle.search_defs.specs.declared.standing.Standing.TheVariants.{Learned, Forgotten, Back}

-- the words that may be derived, the trail, by the numbers of the trail's clauses their indices in the log, and how
-- each derived clause stands
pub record Solving : Type 0 where
  pub limit : ℕ
  pub trail : Assigned
  pub indices : List ℕ
  pub standings : List Standing

-- Each live clause of the trail is the clause of the log whose index stands at its number.
pub record Knows (log : LogValue) (t : Assigned) (indices : List ℕ) : Type 0 where
  pub over : t.variables ≡ log.originals.variables
  pub size : length t.clauses < length indices
  pub known : (k : ℕ) (c : Lits) → clause_at t.clauses k ≡ Some c
      → IsIndexOf log (get_or indices k 0) × (clause_of_log log (get_or indices k 0) ≡ c)

-- a live clause of the trail has this index in the log
abbrev pub IsLive : Assigned → List ℕ → ℕ → Type 0
IsLive t indices index = (k : ℕ) × (c : Lits) × (clause_at t.clauses k ≡ Some c) × (get_or indices k 0 ≡ index)

-- the place among the derived clauses of the one with this index
abbrev pub derived_place : LogValue → ℕ → ℕ
derived_place log index = index - length log.originals.clauses - 1

-- the derived clause with this index stands so
pub record StandsAs (log : LogValue) (standings : List Standing) (index : ℕ) (standing : Standing) : Type 0 where
  pub derived : length log.originals.clauses < index
  pub within : derived_place log index < length standings
  pub stands : get_or standings (derived_place log index) Back ≡ standing

-- the derived clause with this index is forgotten; the formula has its variables
pub record IsForgotten (log : LogValue) (standings : List Standing) (index : ℕ) : Type 0 where
  pub stands : StandsAs log standings index Forgotten
  pub within_variables : WithinVariables log.originals.variables (clause_of_log log index)

-- the words of the trail that a clause with so many literals is owed: as many where it is forgotten
abbrev pub owed : ℕ → Standing → ℕ
owed n Learned = 0
owed n Forgotten = n
owed n Back = 0

-- the words that the forgotten ones of these derived clauses are owed
abbrev pub owed_words : List Derived → List Standing → ℕ
owed_words [] standings = 0
owed_words (d ∷ ds) [] = 0
owed_words (d ∷ ds) (s ∷ standings) = owed (length d.lits) s + owed_words ds standings

-- how many are forgotten
abbrev pub forgotten_of : List Standing → ℕ
forgotten_of standings = sum_by (owed 1) standings

-- whether a clause was never put back, as a number
abbrev pub never_back : Standing → ℕ
never_back Learned = 1
never_back Forgotten = 1
never_back Back = 0

-- how many derived clauses were never put back
abbrev pub never_back_of : List Standing → ℕ
never_back_of standings = sum_by never_back standings

-- Every clause of the log is live, but for derived ones that are forgotten; there is room for what the limit leaves
-- and for the forgotten ones, where a clause that is learned has four words at least: its index, a literal and two
-- zeros; each level that was left was left with every live clause settled; and no derived clause is empty.
pub record IsSolving (log : LogValue) (s : Solving) : Type 0 where
  pub limited : s.limit ≤ log.budget
  pub spent : Words log.derived ≤ s.limit
  pub knows : Knows log s.trail s.indices
  pub many : s.trail.originals ≤ length log.originals.clauses
  pub each_stands : length s.standings ≡ length log.derived
  pub few : 4 * length log.derived ≤ Words log.derived
  pub live : (index : ℕ) → IsIndexOf log index → IsForgotten log s.standings index ⊎ IsLive s.trail s.indices index
  pub room : words_of s.trail.clauses + owed_words log.derived s.standings + s.limit ≤ s.trail.words + Words log.derived
  pub places : 4 * (blocks_of s.trail.clauses + forgotten_of s.standings) + s.limit
      ≤ 4 * length s.trail.clauses + Words log.derived + 3
  pub settled : IsSettledBelow s.trail
  pub none_empty : IsNew log []

-- The trail went back to level b, and then learned the clause c under the number j + 1, which was none's.
pub record HasLearned (b : ℕ) (c : Lits) (before : Assigned) (j : ℕ) (now : Assigned) : Type 0 where
  pub back : Assigned
  pub up : IsUpTo b before back
  pub levels : back.levels ≡ before.levels
  pub present : back.present ≡ b
  pub same : HasSameClauses before back
  pub inside : j < length back.clauses
  pub fresh : get_or back.clauses j None ≡ None
  pub clauses : now.clauses ≡ set back.clauses j (Some c)
  pub values : HasSameValues back now

-- A step of the search gets on: a clause was derived, with four words at least; or none was, and fewer derived
-- clauses are left that were never put back.
abbrev pub GetsOn : LogValue → List Standing → LogValue → List Standing → Type 0
GetsOn before standings after later =
    ((Words before.derived + 4 ≤ Words after.derived) × (never_back_of later ≤ never_back_of standings + 1))
    ⊎ ((Words after.derived ≡ Words before.derived) × (never_back_of later < never_back_of standings))
