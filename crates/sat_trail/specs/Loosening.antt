-- Loose clauses while they are looked at: list 0 has those that are left, and list 1 those that stay loose.
use Rattle.std.specs.Prelude.{◌≡◌, ◌≢◌, ℕ, ◌*◌, ◌/◌, ◌<◌, ◌≤◌, ◌++◌, ◌+◌, ◌⊎◌, List, [], ◌∷◌, length, get_or, set, Option, None}
use Rattle.clause_defs.specs.Literals.{Literal, code}
use Rattle.clause_defs.specs.Clauses.{Lits, Has}
use Rattle.link_lists.specs.Linked.{Linked, list_at}
use Rattle.trail_defs.specs.Assignments.{IsFree, IsSatisfied}
use Rattle.sat_trail.specs.Watching.{lit_at, lits_at, IsBound, AreOver, HasSizes, AreWatches}
use Rattle.sat_trail.specs.Visits.{IsInConflict}
use Rattle.sat_trail.specs.declared.spread.Look.{Look}
use Rattle.sat_trail.specs.declared.spread.Look.TheVariants.{Done, On, Conflict}

-- the loose clauses, by their even watches
abbrev pub loose_in : List (List ℕ) → List ℕ
loose_in lists = list_at lists 0 ++ list_at lists 1

-- the loose clauses are being looked at, and the others are watched
pub record IsSettling (clauses : List (Option Lits)) (variables : ℕ) (watch : Lits) (links : Linked) : Type 0 where
  pub over : AreOver variables clauses
  pub sizes : HasSizes clauses variables links
  pub watches : AreWatches clauses (loose_in links.lists) watch
  pub there : (w : ℕ) → IsBound clauses (loose_in links.lists) w → Has (list_at links.lists (code (lit_at watch w))) w
  pub only : (k w : ℕ) → 2 ≤ k → Has (list_at links.lists k) w → IsBound clauses (loose_in links.lists) w × (code (lit_at watch w) ≡ k)
  pub even : (w : ℕ) → Has (loose_in links.lists) w → (w ≡ 2 * (w / 2)) × (get_or clauses (w / 2) None ≢ None)

-- each clause that stays loose has a true literal
abbrev pub AreSettledIn : List (Option Lits) → List (List ℕ) → Lits → Type 0
AreSettledIn clauses lists t = (w : ℕ) → Has (list_at lists 1) w → IsSatisfied t (lits_at clauses (w / 2))

-- none is left; or one was looked at, and those that stay loose have a true literal; or a clause is in conflict
abbrev pub IsSettlingOutcome : List (Option Lits) → List (List ℕ) → Lits → List (List ℕ) → Lits → Look → Type 0
IsSettlingOutcome clauses lists t lists_after t_after Done =
    (list_at lists_after 0 ≡ []) × (AreSettledIn clauses lists t → AreSettledIn clauses lists_after t_after)
IsSettlingOutcome clauses lists t lists_after t_after On =
    (length (list_at lists_after 0) < length (list_at lists 0)) × (AreSettledIn clauses lists t → AreSettledIn clauses lists_after t_after)
IsSettlingOutcome clauses lists t lists_after t_after (Conflict k) =
    (length (list_at lists_after 0) < length (list_at lists 0)) × IsInConflict clauses t_after k

-- the clause of the even watch w has these two watches now, each in its list
pub record AreBound (w : ℕ) (first second : Literal) (watch : Lits) (lists : List (List ℕ)) (later : Lits) (pushed : List (List ℕ)) : Type 0 where
  pub written : later ≡ set (set watch w first) (w + 1) second
  pub front : List (List ℕ)
  pub in_front : front ≡ set lists (code first) (w ∷ list_at lists (code first))
  pub behind : pushed ≡ set front (code second) ((w + 1) ∷ list_at front (code second))

-- the literal is true, as before, or now, implied by the clause of this number
abbrev pub IsForced : ℕ → Literal → ℕ → Lits → List ℕ → List ℕ → Lits → List ℕ → List ℕ → Type 0
IsForced level l number t levels reasons t_after levels_after reasons_after =
    (Has t l × (t_after ≡ t) × (levels_after ≡ levels) × (reasons_after ≡ reasons))
    ⊎ (IsFree t l × (t_after ≡ t ++ l ∷ []) × (levels_after ≡ set levels l.variable level) × (reasons_after ≡ set reasons l.variable number))
