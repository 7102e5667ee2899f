-- Forgetting a clause by its number.
use Rattle.std.proofs.Common.{◌≡◌, ◌≢◌, ℕ, zero, suc, ◌-◌, ◌<◌, length, set, get_or, Option, Some, None, refl, sym, ap, ◌∙◌, subst, arith}
use Rattle.clause_defs.specs.Literals.{Literal}
use Rattle.clause_defs.specs.Clauses.{Lits, Has}
use Rattle.log_defs.specs.Logs.{LogValue}
use Rattle.conflict_analysis.proofs.EndLemmas.{has_place}
use Rattle.trail_defs.specs.Trails.{Assigned, clause_at, reason_of, IsTrail, HasSameValues, IsNoReason}
use Rattle.search_defs.specs.declared.standing.Standing.TheVariants.{Learned, Forgotten}
use Rattle.search_defs.specs.Solving.{Solving, StandsAs, derived_place, IsSolving}
use Rattle.search_defs.proofs.ForgetLemmas.{solving_forgot}
use Rattle.search_defs.proofs.ReasonLemmas.{number_within}

-- what isn't None is some clause
some_clause : (o : Option Lits) → o ≢ None → (c : Lits) × (o ≡ Some c)
some_clause None h = absurd (h refl)
some_clause (Some c) h = (c, refl)

-- the number of a live clause has an index
pub number_listed : (log : LogValue) (s : Solving) → IsSolving log s → (number : ℕ) → clause_at s.trail.clauses number ≢ None → number < length s.indices
number_listed log s solving number live =
    let some = some_clause (clause_at s.trail.clauses number) live in
    let high = (number_within s.trail.clauses number some.0 some.1).1 in
    let size = solving.knows.size in omega arith

-- the trail took a learned clause away
pub forgot_number : (log : LogValue) (s : Solving) → IsSolving log s → IsTrail s.trail → (number index : ℕ) → clause_at s.trail.clauses number ≢ None
    → index ≡ get_or s.indices number 0 → StandsAs log s.standings index Learned
    → (now : Assigned) → now.clauses ≡ set s.trail.clauses (number - 1) None → HasSameValues s.trail now
    → IsSolving log (record { limit = s.limit; trail = now; indices = s.indices; standings = set s.standings (derived_place log index) Forgotten })
forgot_number log s solving known zero index live read stands now clauses values = absurd (live refl)
forgot_number log s solving known (suc j) index live read stands now clauses values =
    let some = some_clause (clause_at s.trail.clauses (suc j)) live in
    let place : suc j - 1 ≡ j = omega arith in
    subst
    (λ i. IsSolving log (record { limit = s.limit; trail = now; indices = s.indices; standings = set s.standings (derived_place log i) Forgotten }))
    (sym read)
    (solving_forgot log s solving known some.0 j now some.1 (subst (λ i. StandsAs log s.standings i Learned) read stands)
    (clauses ∙ ap (λ i. set s.trail.clauses i None) place) values)

-- a clause that implied none of its own literals is no reason
pub no_reason : (t : Assigned) → IsTrail t → (number : ℕ) (c : Lits) → clause_at t.clauses number ≡ Some c
    → ((m : Literal) → Has c m → (l : Literal) → Has t.lits l → l.variable ≡ m.variable → reason_of t l ≢ number) → IsNoReason t number
no_reason t known number c live none l here is =
    let at = has_place t.lits l here in
    let ne : reason_of t l ≢ 0 = λ zero_is.
    (let none_at : clause_at t.clauses number ≡ None = ap (clause_at t.clauses) (sym is ∙ zero_is) in absurd (cc)) in
    let reason = known.implied at.0 l at.1 ne in
    let own : Some reason.0 ≡ Some c = sym reason.1 ∙ ap (clause_at t.clauses) is ∙ live in
    let same : reason.0 ≡ c = cc in
    none l (subst (λ (d : Lits). Has d l) same reason.2.implied) l here refl is

-- a variable's literal has no other reason than the variable
pub reason_other : (t : Assigned) (l m : Literal) → m.variable ≡ l.variable → reason_of t m ≡ reason_of t l
reason_other t l m e = ap (λ v. get_or t.reasons v 0) e
