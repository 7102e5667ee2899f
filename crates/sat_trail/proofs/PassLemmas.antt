-- One more literal was passed on.
use Rattle.std.proofs.Common.{◌≡◌, ℕ, ◌+◌, ◌≤◌, List, ◌++◌, length, take, Option, sym, ap, ◌∙◌, subst, arith, length-append}
use Rattle.std.proofs.lemmas.List.{get_or_append_left}
use Rattle.clause_defs.specs.Literals.{Literal, negation}
use Rattle.clause_defs.specs.Clauses.{Lits}
use Rattle.link_lists.specs.Linked.{Linked, list_at}
use Rattle.trail_defs.specs.Assignments.{IsAt}
use Rattle.sat_trail.specs.Watching.{IsWatched, AreListed, AreAnswered}
use Rattle.sat_trail.specs.Looks.{IsResting, HasMarks, Keeps, IsPassing}
use Rattle.sat_trail.proofs.StageLemmas.{passed_on}

-- a place of a list that grew at its end
pub at_grown : (t more u : Lits) → u ≡ t ++ more → (i : ℕ) (l : Literal) → IsAt t i l → IsAt u i l
at_grown t more u e i l at = subst (λ s. IsAt s i l) (sym e) (record {
  within = let a = at.within in let b = length-append t more in omega arith;
  read = at.read ∙ sym (get_or_append_left t more l i at.within);
})

-- its watches are answered
pub pass_next : {clauses : List (Option Lits)} {variables level : ℕ} {loose loose2 : List ℕ} {watch t later u : Lits} {levels reasons levels2 reasons2 : List ℕ}
    → Keeps clauses variables level loose loose2 watch t levels reasons later u levels2 reasons2
    → (lists : List (List ℕ)) (done : ℕ) (l x : Literal) → IsAt t done l → x ≡ negation l → AreListed clauses loose2 later lists → AreAnswered later lists u x
    → IsWatched clauses loose watch t (take done t) → IsWatched clauses loose2 later u (take (done + 1) u)
pass_next {clauses = clauses} {loose2 = loose2} {t = t} {later = later} {u = u} keeps lists done l x at is listed answered watched =
    passed_on clauses loose2 later u lists done l (at_grown t keeps.grows.more u keeps.grows.is done l at) listed (subst (AreAnswered later lists u) is answered)
    (keeps.watched done (let a = at.within in omega arith) watched)

-- the list didn't get shorter
pub keeps_length : {clauses : List (Option Lits)} {variables level : ℕ} {loose loose2 : List ℕ} {watch t later u : Lits} {levels reasons levels2 reasons2 : List ℕ}
    → Keeps clauses variables level loose loose2 watch t levels reasons later u levels2 reasons2 → length t ≤ length u
keeps_length {t = t} {u = u} keeps = let a : length u ≡ length t + length keeps.grows.more = ap length keeps.grows.is ∙ length-append t keeps.grows.more in omega arith

-- a look at clauses leaves what was passed on
pub passing_kept : {clauses : List (Option Lits)} {variables n level done : ℕ} {watch t later u : Lits} {links links2 : Linked} {levels reasons levels2 reasons2 : List ℕ}
    → IsPassing clauses variables watch links t levels reasons done → IsResting clauses n later links2 → HasMarks n levels2 reasons2
    → Keeps clauses variables level (list_at links.lists 1) (list_at links2.lists 1) watch t levels reasons later u levels2 reasons2
    → IsPassing clauses n later links2 u levels2 reasons2 done
passing_kept {done = done} passing resting marks keeps = record {
  resting = resting;
  marks = marks;
  watched = keeps.watched done passing.passed passing.watched;
  passed = let a = keeps_length keeps in let b = passing.passed in omega arith;
}
