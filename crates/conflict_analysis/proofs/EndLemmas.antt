-- What is left at the end of the walk.
use Rattle.std.proofs.Common.{◌≡◌, ◌≢◌, ℕ, zero, suc, ◌+◌, ◌<◌, ◌≤◌, ◌↔◌, ◌⊎◌, inl, inr, List, [], ◌∷◌, length, map, take, get_or, refl, sym, subst, arith}
use Rattle.std.proofs.lemmas.Bool.{cases_lt}
use Rattle.clause_defs.specs.Literals.{Literal, negation}
use Rattle.clause_defs.specs.Clauses.{Lits, Has, IsOrdered}
use Rattle.clause_laws.proofs.LiteralLemmas.{negation-negation}
use Rattle.clause_defs.specs.Resolution.{Resolves}
use Rattle.chain_check.proofs.ClauseLists.{Has-take_more}
use Rattle.log_defs.specs.Logs.{LogValue, clause_of_log}
use Rattle.trail_defs.specs.Assignments.{IsAt, IsConflict}
use Rattle.assignment.proofs.ApartLemmas.{few_literals}
use Rattle.conflict_chain.specs.Conflicts.{Chained, IsChainAt, IsSplit}
use Rattle.conflict_chain.proofs.StepLemmas.{consistent}
use Rattle.conflict_analysis.specs.Analyses.{level_in, IsReasoned, HasNoRootFrom, IsAsserting, IsLesson}
use Rattle.conflict_analysis.proofs.WalkLemmas.{some_member, alone}

-- the place of a member
pub has_place : (t : Lits) (x : Literal) → Has t x → (i : ℕ) × IsAt t i x
has_place [] x h = absurd h
has_place (y ∷ ys) x (inl e) = (0, record { within = omega arith; read = sym e })
has_place (y ∷ ys) x (inr h) = let rest = has_place ys x h in (suc rest.0, record { within = let w = rest.1.within in omega arith; read = rest.1.read })

-- what stands at a place below i is among the first i
pub at_take : (t : Lits) (i j : ℕ) (x : Literal) → IsAt t j x → j < i → Has (take i t) x
at_take [] i j x at lt = absurd (let w = at.within in omega arith)
at_take (y ∷ ys) zero j x at lt = absurd (omega arith)
at_take (y ∷ ys) (suc i) zero x at lt = inl (sym at.read)
at_take (y ∷ ys) (suc i) (suc j) x at lt = inr (at_take ys i j x (record { within = let w = at.within in omega arith; read = at.read }) (omega arith))

-- more of the first literals
pub take_mono : (t : Lits) (i j : ℕ) (x : Literal) → i ≤ j → Has (take i t) x → Has (take j t) x
take_mono t zero j x le h = absurd h
take_mono [] (suc i) j x le h = absurd h
take_mono (y ∷ ys) (suc i) zero x le h = absurd (omega arith)
take_mono (y ∷ ys) (suc i) (suc j) x le (inl e) = inl e
take_mono (y ∷ ys) (suc i) (suc j) x le (inr h) = inr (take_mono ys i j x (omega arith) h)

module _ (log : LogValue) (present : ℕ) (trail : Lits) (levels reasons indices : List ℕ) (reasoned : IsReasoned log present trail levels reasons indices) where
  -- behind a literal of a level above 0 none is of level 0
  pub roots_before : (i : ℕ) (r : Chained) → 1 ≤ present → IsSplit levels present r → length r.present ≡ 1
      → ((x : Literal) → Has r.present x → Has (take i trail) (negation x)) → IsConflict trail r.lits → HasNoRootFrom trail levels i r.lits
  roots_before i r high split one below all_false x h root =
      let at = has_place trail (negation x) (all_false x h) in
      elim (cases_lt at.0 i) [
        | inl lt ↦ at_take trail i at.0 (negation x) at.1 lt
        | inr past ↦
            let some = some_member r.present (omega arith) in
            let u = some.0 in
            let earlier = take_mono trail i at.0 (negation u) past (below u some.1) in
            let rising = reasoned.rising at.0 (negation x) (negation u) at.1 earlier in
            let own = (split.by_level u (split.running u some.1)).0 some.1 in
            absurd (let a : level_in levels u ≤ level_in levels x = rising in let b : level_in levels u ≡ present = own in omega arith)
      ]

  -- the running clause has no literal with its negation
  pub apart_running : (r : Lits) → IsConflict trail r → (l : Literal) → Has r l → Has r (negation l) → ⊥
  apart_running r all_false l h k =
      consistent trail l reasoned.assignment.apart (subst (Has trail) (negation-negation l) (all_false (negation l) k)) (all_false l h)

  -- the lesson
  pub lesson_of : (r : Chained) (lits : Lits) → IsChainAt log trail 0 r → HasNoRootFrom trail levels 0 r.lits → lits ≡ r.lits → IsOrdered lits
      → length lits ≤ log.originals.variables → IsLesson log trail levels r.antecedents lits
  lesson_of r lits chain roots same ordered few =
      let all = few_literals log.originals.variables trail reasoned.assignment in
      let passed = chain.few in
      record {
        resolves = subst (λ (ls : Lits). Resolves (map (clause_of_log log) r.antecedents) ls) (sym same) chain.chain.resolves;
        indices_are = chain.chain.indices_are;
        ordered = ordered;
        all_false = subst (IsConflict trail) (sym same) chain.all_false;
        no_root = λ x h root. roots x (subst (λ (ls : Lits). Has ls x) same h) root;
        few_antecedents = omega arith;
        few_literals = few;
      }

  -- its literal of the present level
  pub asserting_of : (r : Chained) (p lits : Lits) → IsChainAt log trail 0 r → IsSplit levels present r → length p ≡ 1
      → ((x : Literal) → Has r.present x ↔ Has p x) → lits ≡ r.lits → (u : Literal) × IsAsserting levels present lits u
  asserting_of r p lits chain split one same lits_are =
      let some = some_member p (omega arith) in
      let u = some.0 in
      let here = (same u).1 some.1 in (
        u,
        record {
          there = subst (λ (ls : Lits). Has ls u) (sym lits_are) (split.running u here);
          own = (split.by_level u (split.running u here)).0 here;
          others = λ x h other.
              let was = subst (λ (ls : Lits). Has ls x) lits_are h in
              let top : level_in levels x ≤ present = reasoned.top (negation x) (chain.all_false x was) in
              let differs : level_in levels x ≢ present = λ e. other (alone p one x u ((same x).0 ((split.by_level x was).1 e)) some.1) in
              omega arith;
        },
      )

-- on level 0 nothing is left
pub nothing_left : (log : LogValue) (trail : Lits) (levels reasons indices : List ℕ) → IsReasoned log 0 trail levels reasons indices
    → (r : Lits) → IsConflict trail r → HasNoRootFrom trail levels 0 r → r ≡ []
nothing_left log trail levels reasons indices reasoned [] all_false roots = refl
nothing_left log trail levels reasons indices reasoned (x ∷ xs) all_false roots =
    absurd (roots x (inl refl) (let top : level_in levels x ≤ 0 = reasoned.top (negation x) (all_false x (inl refl)) in omega arith))

-- a higher level may be thought the present one
pub reasoned_raised : (log : LogValue) (trail : Lits) (levels reasons indices : List ℕ) → IsReasoned log 0 trail levels reasons indices
    → IsReasoned log 1 trail levels reasons indices
reasoned_raised log trail levels reasons indices h = record {
  assignment = h.assignment;
  level_size = h.level_size;
  reason_size = h.reason_size;
  numbers = h.numbers;
  implied = h.implied;
  decided = h.decided;
  no_decision = h.no_decision;
  rising = h.rising;
  top = λ l here. let low = h.top l here in omega arith;
}

-- ---- the second greatest level

module _ (levels : List ℕ) (present : ℕ) (lits : Lits) (i : ℕ) (l : Literal) (lt : i < length lits) (read : l ≡ get_or lits i l) where
  -- a literal among one more
  among : (x : Literal) → Has (take (i + 1) lits) x → Has (take i lits) x ⊎ (l ≡ x)
  among x h = (Has-take_more lits i l x lt read).0 h

  more : (x : Literal) → Has (take i lits) x → Has (take (i + 1) lits) x
  more x h = (Has-take_more lits i l x lt read).1 (inl h)

  -- no other level is greater
  pub most_more : (second next : ℕ) → second ≤ next → (level_in levels l ≢ present → level_in levels l ≤ next)
      → ((x : Literal) → Has (take i lits) x → level_in levels x ≢ present → level_in levels x ≤ second)
      → (x : Literal) → Has (take (i + 1) lits) x → level_in levels x ≢ present → level_in levels x ≤ next
  most_more second next le own most x h differs = elim (among x h) [
    | inl old ↦ let small = most x old differs in omega arith
    | inr same ↦
        subst (λ (y : Literal). level_in levels y ≤ next) same
        (own (λ e. differs (subst (λ (y : Literal). level_in levels y ≡ present) same e)))
  ]

  -- it is still the level of one
  pub reached_more : (second : ℕ)
      → ((second ≡ 0) ⊎ ((x : Literal) × Has (take i lits) x × (level_in levels x ≢ present) × (level_in levels x ≡ second)))
      → (second ≡ 0) ⊎ ((x : Literal) × Has (take (i + 1) lits) x × (level_in levels x ≢ present) × (level_in levels x ≡ second))
  reached_more second h = elim h [ inl none ↦ inl none | inr some ↦ inr (some.0, more some.0 some.1, some.2, some.3) ]

  -- or that of the new one
  pub reached_new : level_in levels l ≢ present
      → (level_in levels l ≡ 0) ⊎ ((x : Literal) × Has (take (i + 1) lits) x × (level_in levels x ≢ present) × (level_in levels x ≡ level_in levels l))
  reached_new differs = inr (l, (Has-take_more lits i l l lt read).1 (inr refl), differs, refl)
