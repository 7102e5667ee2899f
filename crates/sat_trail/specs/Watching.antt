-- Two watched literals a clause: a watch that becomes false moves to another literal, or the other watch is true.
-- (The scheme of Chaff and MiniSat)
use Rattle.std.specs.Prelude.{◌≡◌, ◌≢◌, ℕ, ◌+◌, ◌-◌, ◌*◌, ◌/◌, ◌%◌, ◌^◌, ◌==◌, ◌<◌, ◌≤◌, ◌⊎◌, ◌↔◌, List, [], length, get_or, Option, Some, None, false, if◌then◌else◌}
use Rattle.clause_defs.specs.Literals.{Literal, negation, code}
use Rattle.clause_defs.specs.Clauses.{Lits, Has, IsClause, WithinVariables}
use Rattle.link_lists.specs.Linked.{Linked, list_at}

-- stands where a list of literals has no more of them
abbrev pub no_literal : Literal
no_literal = record { variable = 0; positive = false }

-- the literal of watch w; watches 2 * b and 2 * b + 1 are those of the clause at place b
abbrev pub lit_at : Lits → ℕ → Literal
lit_at watch w = get_or watch w no_literal

-- the other watch of the same clause
abbrev pub other : ℕ → ℕ
other w = if w % 2 == 0 then w + 1 else w - 1

abbrev pub lits_in : Option Lits → Lits
lits_in None = []
lits_in (Some c) = c

-- the literals of the clause at place b; none where no clause is live there
abbrev pub lits_at : List (Option Lits) → ℕ → Lits
lits_at clauses b = lits_in (get_or clauses b None)

-- the clause of watch w is live, and isn't one of the loose ones, which stand with their even watch
pub record IsBound (clauses : List (Option Lits)) (loose : List ℕ) (w : ℕ) : Type 0 where
  pub live : get_or clauses (w / 2) None ≢ None
  pub tied : Has loose (2 * (w / 2)) → ⊥

-- each clause that is bound has two watches, which are different literals of it
pub record AreWatches (clauses : List (Option Lits)) (loose : List ℕ) (watch : Lits) : Type 0 where
  pub size : length watch ≡ 2 * length clauses
  pub members : (w : ℕ) → IsBound clauses loose w → Has (lits_at clauses (w / 2)) (lit_at watch w)
  pub two : (w : ℕ) → IsBound clauses loose w → lit_at watch w ≢ lit_at watch (other w)

-- where a watch's literal is false by the literals that were passed on, the other watch's literal is true
abbrev pub IsWatched : List (Option Lits) → List ℕ → Lits → Lits → Lits → Type 0
IsWatched clauses loose watch t passed =
    (w : ℕ) → IsBound clauses loose w → Has passed (negation (lit_at watch w)) → Has t (lit_at watch (other w))

-- Each watch that is bound stands in the list of its literal's code; list 1 has the loose clauses. No literal
-- has the code 0 or 1.
pub record AreListed (clauses : List (Option Lits)) (loose : List ℕ) (watch : Lits) (lists : List (List ℕ)) : Type 0 where
  pub there : (w : ℕ) → IsBound clauses loose w → Has (list_at lists (code (lit_at watch w))) w
  pub only : (k w : ℕ) → 2 ≤ k → Has (list_at lists k) w → IsBound clauses loose w × (code (lit_at watch w) ≡ k)
  pub loose_are : (w : ℕ) → Has (list_at lists 1) w ↔ Has loose w
  pub even : (w : ℕ) → Has loose w → (w ≡ 2 * (w / 2)) × (get_or clauses (w / 2) None ≢ None)
  pub left : list_at lists 0 ≡ []

-- the same while the watches of the literal x are visited: list 0 has those that are left
pub record AreVisited (clauses : List (Option Lits)) (loose : List ℕ) (watch : Lits) (lists : List (List ℕ)) (x : Literal) : Type 0 where
  pub there : (w : ℕ) → IsBound clauses loose w → Has (list_at lists (code (lit_at watch w))) w ⊎ Has (list_at lists 0) w
  pub only : (k w : ℕ) → 2 ≤ k → Has (list_at lists k) w → IsBound clauses loose w × (code (lit_at watch w) ≡ k)
  pub loose_are : (w : ℕ) → Has (list_at lists 1) w ↔ Has loose w
  pub even : (w : ℕ) → Has loose w → (w ≡ 2 * (w / 2)) × (get_or clauses (w / 2) None ≢ None)
  pub left : (w : ℕ) → Has (list_at lists 0) w → IsBound clauses loose w × (lit_at watch w ≡ x)

-- each watch that has come back to the list of x has a true literal beside it
abbrev pub AreAnswered : Lits → List (List ℕ) → Lits → Literal → Type 0
AreAnswered watch lists t x = (w : ℕ) → Has (list_at lists (code x)) w → Has t (lit_at watch (other w))

-- each live clause is a clause over the variables
abbrev pub AreOver : ℕ → List (Option Lits) → Type 0
AreOver variables clauses = (b : ℕ) (c : Lits) → get_or clauses b None ≡ Some c → IsClause c × WithinVariables variables c

-- there are two watches for each clause, few enough to be counted in 32 bits, and a list for each code
pub record HasSizes (clauses : List (Option Lits)) (variables : ℕ) (links : Linked) : Type 0 where
  pub size : links.size ≡ 2 * length clauses
  pub few : links.size < 2 ^ 32
  pub lists : length links.lists ≡ 2 * variables + 4
