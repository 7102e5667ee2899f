-- What the arrays of a log keep.
use Rattle.std.specs.Prelude.{◌≡◌, ℕ, ◌+◌, ◌*◌, ◌^◌, ◌<◌, ◌≤◌, List, [], ◌∷◌, length}
use Rattle.clause_defs.specs.declared.verdict.TheConstants.{MAX_INDEX}
use Rattle.clause_defs.specs.Clauses.{Lits, Has, IsClause}
use Rattle.clause_defs.specs.Formulas.{Formula}
use Rattle.flat_lists.specs.Flat.{Flat, total}
use Rattle.clause_index.specs.Index.{Indexed}
use Rattle.log_defs.specs.Logs.{Derived, LogOk, Words}

-- the derived clauses with these literals and these antecedents
abbrev pub derived_of : List Lits → List (List ℕ) → List Derived
derived_of [] ants = []
derived_of (c ∷ cs) [] = []
derived_of (c ∷ cs) (a ∷ ants) = record { lits = c; antecedents = a } ∷ derived_of cs ants

-- the clauses and their antecedents, of which there are as many, are those of a log of the formula's clauses
pub record AreSideBySide (f : List Lits) (clauses : List Lits) (ants : List (List ℕ)) : Type 0 where
  pub as_many : length ants ≡ length clauses
  pub ok : LogOk f (derived_of clauses ants)
  pub clauses_are : (c : Lits) → Has clauses c → IsClause c
  pub few : length f + length clauses ≤ MAX_INDEX

-- there is room for as many clauses, literals and antecedents as a budget of words allows
pub record HaveRoom (clauses : Indexed) (ants : Flat ℕ) (budget : ℕ) : Type 0 where
  pub clause_room : budget < 3 * clauses.clause_room + 3
  pub literal_room : budget ≤ clauses.literal_room
  pub list_room : budget < 3 * ants.list_room + 3
  pub item_room : budget ≤ ants.item_room

-- there is room for one more clause
pub record HasPlace (originals : Formula) (clauses : Indexed) (ants : Flat ℕ) (d : Derived) : Type 0 where
  pub next_clause : length clauses.clauses < clauses.clause_room
  pub literals : total clauses.clauses + length d.lits ≤ clauses.literal_room
  pub few_literals : total clauses.clauses + length d.lits < 2 ^ 32
  pub next_list : length ants.lists < ants.list_room
  pub few_lists : length ants.lists + 1 < 2 ^ 32
  pub items : total ants.lists + length d.antecedents ≤ ants.item_room
  pub few_items : total ants.lists + length d.antecedents < 2 ^ 32
  pub index : length originals.clauses + length clauses.clauses + 1 ≤ MAX_INDEX

-- what a log's arrays keep
pub record IsKept (originals : Formula) (clauses : Indexed) (ants : Flat ℕ) (budget used : ℕ) : Type 0 where
  pub log : AreSideBySide originals.clauses clauses.clauses ants.lists
  pub used_is : used ≡ Words (derived_of clauses.clauses ants.lists)
  pub within_budget : used ≤ budget
  pub few : length originals.clauses + budget ≤ MAX_INDEX
  pub room : HaveRoom clauses ants budget
