-- Clauses of false literals as marks of variables.
use Rattle.std.proofs.Common.{◌≡◌, ◌≢◌, ℕ, zero, suc, ◌+◌, ◌<◌, ◌↔◌, ◌⊎◌, inl, inr, Bool, true, false, not, List, [], ◌∷◌, length, get_or, take, set, replicate, refl, sym, ◌∙◌, ap, subst, arith}
use Rattle.std.proofs.lemmas.Bool.{cases_lt, cases_eq}
use Rattle.std.proofs.lemmas.List.{get_or_past, get_or-set_same, get_or-set_other}
use Rattle.clause_defs.specs.Literals.{Literal, negation}
use Rattle.clause_defs.specs.Clauses.{Lits, Has, SameSet}
use Rattle.clause_defs.specs.Resolution.{Clashes, Step}
use Rattle.chain_check.proofs.ClauseLists.{Has-take_more}
use Rattle.clause_laws.proofs.LiteralLemmas.{literal_cases, negation-negation}
use Rattle.leaf_defs.specs.Evaluated.{value_of, true_literal, false_literal, IsFalseAmong, IsReason}
use Rattle.leaf_chain.specs.Marks.{marked_from, marked, IsMarked, HasVariable, AreMarksAmong}

-- ---- what the marked literals are

-- where a literal stands among the marked ones
record StandsAt (v : ℕ) (marks values : List Bool) (l : Literal) : Type 0 where
  place : ℕ
  variable_is : l.variable ≡ v + place
  mark : get_or marks place false ≡ true
  sign : l.positive ≡ not (get_or values place false)

-- each of them stands at the place of a marked variable
stands : (v : ℕ) (marks values : List Bool) (l : Literal) → Has (marked_from v marks values) l → StandsAt v marks values l
stands v [] values l h = absurd h
stands v (m ∷ ms) [] l h = absurd h
stands v (true ∷ ms) (b ∷ bs) l (inl e) = record {
  place = 0;
  variable_is = let same = ap (λ (x : Literal). x.variable) e in omega arith;
  mark = refl;
  sign = sym (ap (λ (x : Literal). x.positive) e);
}
stands v (true ∷ ms) (b ∷ bs) l (inr h) =
    let rest = stands (v + 1) ms bs l h in
    record { place = suc rest.place; variable_is = let e = rest.variable_is in omega arith; mark = rest.mark; sign = rest.sign }
stands v (false ∷ ms) (b ∷ bs) l h =
    let rest = stands (v + 1) ms bs l h in
    record { place = suc rest.place; variable_is = let e = rest.variable_is in omega arith; mark = rest.mark; sign = rest.sign }

-- the false literal at each marked place is one of them
marked_there : (v : ℕ) (marks values : List Bool) (k : ℕ) → k < length values → get_or marks k false ≡ true
    → Has (marked_from v marks values) (record { variable = v + k; positive = not (get_or values k false) })
marked_there v [] values k lt e = absurd (cc)
marked_there v (m ∷ ms) [] k lt e = absurd (omega arith)
marked_there v (true ∷ ms) (b ∷ bs) zero lt e = inl (ap (λ n. record { variable = n; positive = not b }) (let same : v ≡ v + 0 = omega arith in same))
marked_there v (false ∷ ms) (b ∷ bs) zero lt e = absurd (cc)
marked_there v (true ∷ ms) (b ∷ bs) (suc k) lt e =
    let same : v + 1 + k ≡ v + suc k = omega arith in
    inr (subst (λ n. Has (marked_from (v + 1) ms bs) (record { variable = n; positive = not (get_or bs k false) })) same (marked_there (v + 1) ms bs k (omega arith) e))
marked_there v (false ∷ ms) (b ∷ bs) (suc k) lt e =
    let same : v + 1 + k ≡ v + suc k = omega arith in
    subst (λ n. Has (marked_from (v + 1) ms bs) (record { variable = n; positive = not (get_or bs k false) })) same (marked_there (v + 1) ms bs k (omega arith) e)

-- a literal is its variable and its sign
literal_is : (l : Literal) (v : ℕ) (b : Bool) → l.variable ≡ v → l.positive ≡ b → l ≡ record { variable = v; positive = b }
literal_is l v b e s = λ i. record { variable = e i; positive = s i }

-- a marked literal is the false one of a marked variable
pub marked-Has : (marks values : List Bool) (l : Literal) → Has (marked marks values) l
    → IsMarked marks l.variable × (l ≡ false_literal values l.variable)
marked-Has marks values l h =
    let at = stands 0 marks values l h in
    let same : at.place ≡ l.variable = let e = at.variable_is in omega arith in (
      ap (λ n. get_or marks n false) (sym same) ∙ at.mark,
      literal_is l l.variable (not (value_of values l.variable)) refl (at.sign ∙ ap (λ n. not (value_of values n)) same),
    )

-- the false literal of each marked variable is one
pub Has-marked : (marks values : List Bool) (v : ℕ) → length marks ≡ length values → IsMarked marks v → Has (marked marks values) (false_literal values v)
Has-marked marks values v e m =
    let within : v < length values = elim (cases_lt v (length values)) [
      | inl lt ↦ lt
      | inr past ↦ (let none = get_or_past marks v false (omega arith) in absurd (cc))
    ] in
    let same : 0 + v ≡ v = omega arith in
    subst (λ n. Has (marked marks values) (record { variable = n; positive = not (value_of values v) })) same (marked_there 0 marks values v within m)

-- the same for any literal
pub Has-marked_of : (marks values : List Bool) (l : Literal) → length marks ≡ length values → IsMarked marks l.variable → l ≡ false_literal values l.variable
    → Has (marked marks values) l
Has-marked_of marks values l e m f = subst (Has (marked marks values)) (sym f) (Has-marked marks values l.variable e m)

-- ---- true and false literals

-- two negations cancel out
not_not : (b : Bool) → not (not b) ≡ b
not_not true = refl
not_not false = refl

-- no bit is its own negation
not_own : (b : Bool) → not b ≢ b
not_own true e = cc
not_own false e = cc

-- the negation of the true literal is the false one
pub negation-true : (values : List Bool) (v : ℕ) → negation (true_literal values v) ≡ false_literal values v
negation-true values v = refl

-- and the negation of the false literal the true one
negation-false : (values : List Bool) (v : ℕ) → negation (false_literal values v) ≡ true_literal values v
negation-false values v = ap (λ b. record { variable = v; positive = b }) (not_not (value_of values v))

-- no literal is true and false
not_both : (values : List Bool) (v u : ℕ) → true_literal values v ≡ false_literal values u → ⊥
not_both values v u e =
    let variables : v ≡ u = ap (λ (l : Literal). l.variable) e in
    let signs : value_of values v ≡ not (value_of values u) = ap (λ (l : Literal). l.positive) e in
    not_own (value_of values u) (sym signs ∙ ap (value_of values) variables)

-- the negation of a false literal is the true one
negated : (values : List Bool) (l : Literal) → l ≡ false_literal values l.variable → negation l ≡ true_literal values l.variable
negated values l e = ap negation e ∙ negation-false values l.variable

-- ---- a step with a reason

-- The running clause has a false literal of v, and c is a reason of v; the variables of c are marked too, and v isn't any more.
module _ (values before after : List Bool) (known : List ℕ) (v : ℕ) (c : Lits)
    (many_before : length before ≡ length values) (many_after : length after ≡ length values)
    (fresh : Has known v → ⊥) (reason : IsReason values known v c) (there : IsMarked before v)
    (marks : (u : ℕ) → IsMarked after u ↔ ((IsMarked before u ⊎ HasVariable c u) × (u ≢ v))) where
  -- only the true literal is one of v
  other_variable : (l : Literal) → Has c l → l ≢ true_literal values v → l.variable ≢ v
  other_variable l h other e = fresh (subst (Has known) e (reason.others l h other).1)

  -- a literal is the true one of v or another one
  literal_or_other : (l : Literal) → (l ≡ true_literal values v) ⊎ (l ≢ true_literal values v)
  literal_or_other l = literal_cases l (true_literal values v)

  -- so the false literal of v alone clashes
  only_pivot : (l : Literal) → Clashes (marked before values) c l → l ≡ false_literal values v
  only_pivot l h =
      let is_false = (marked-Has before values l h.0).1 in
      let opposite = negated values l is_false in
      elim (literal_or_other (negation l)) [
        | inl e ↦ sym (negation-negation l) ∙ ap negation e
        | inr other ↦ absurd (not_both values l.variable l.variable (sym opposite ∙ (reason.others (negation l) h.1 other).0))
      ]

  -- each literal after the step is one of the other literals of both clauses
  kept : (l : Literal) → Has (marked after values) l → (Has (marked before values) l × (l ≢ false_literal values v)) ⊎ (Has c l × (l ≢ negation (false_literal values v)))
  kept l h =
      let own = marked-Has after values l h in
      let from = (marks l.variable).0 own.0 in
      elim from.0 [
        | inl old ↦ inl (Has-marked_of before values l many_before old own.1, λ e. from.1 (ap (λ (x : Literal). x.variable) e))
        | inr new ↦
            let other : new.0 ≢ true_literal values v = λ e. from.1 (sym new.2 ∙ ap (λ (x : Literal). x.variable) e) in
            let same : new.0 ≡ l = (reason.others new.0 new.1 other).0 ∙ ap (false_literal values) new.2 ∙ sym own.1 in
            inr (subst (Has c) same new.1, λ e. not_both values v l.variable (sym (e ∙ negation-false values v) ∙ own.1))
      ]

  -- and each of these is one after the step
  made : (l : Literal) → (Has (marked before values) l × (l ≢ false_literal values v)) ⊎ (Has c l × (l ≢ negation (false_literal values v))) → Has (marked after values) l
  made l (inl h) =
      let own = marked-Has before values l h.0 in
      Has-marked_of after values l many_after
      ((marks l.variable).1 (inl own.0, λ e. h.1 (own.1 ∙ ap (false_literal values) e))) own.1
  made l (inr h) =
      let other : l ≢ true_literal values v = λ e. h.1 (e ∙ sym (negation-false values v)) in
      Has-marked_of after values l many_after
      ((marks l.variable).1 (inr (l, h.0, refl), other_variable l h.0 other)) (reason.others l h.0 other).0

  -- what is marked after is what is marked before, resolved with c
  pub step_marked : Step (marked before values) c (marked after values)
  step_marked = record {
    pivot = false_literal values v;
    clashes = (Has-marked before values v many_before there, subst (Has c) (sym (negation-false values v)) reason.implied);
    only = only_pivot;
    resolvent = λ l. (kept l, made l);
  }

  -- the variables of the running clause are known still
  pub marks_known : ((u : ℕ) → IsMarked before u → Has known u ⊎ (u ≡ v)) → AreMarksAmong after known
  marks_known among u m =
      let from = (marks u).0 m in
      elim from.0 [
        | inl old ↦ elim (among u old) [ inl h ↦ h | inr e ↦ absurd (from.1 e) ]
        | inr new ↦
            let other : new.0 ≢ true_literal values v = λ e. from.1 (sym new.2 ∙ ap (λ (x : Literal). x.variable) e) in
            subst (Has known) new.2 (reason.others new.0 new.1 other).1
      ]

-- ---- a false clause

-- a clause of false literals is that of its variables
pub marked_clause : (values marks : List Bool) (known : List ℕ) (c : Lits) → length marks ≡ length values → IsFalseAmong values known c
    → ((v : ℕ) → IsMarked marks v ↔ HasVariable c v) → SameSet c (marked marks values)
marked_clause values marks known c many all_false marks_are l = (
  λ h. Has-marked_of marks values l many ((marks_are l.variable).1 (l, h, refl)) (all_false l h).0,
  λ h.
      let own = marked-Has marks values l h in
      let from = (marks_are l.variable).0 own.0 in
      subst (Has c) ((all_false from.0 from.1).0 ∙ ap (false_literal values) from.2 ∙ sym own.1) from.1,
)

-- its variables are known
pub marked_among : (values marks : List Bool) (known : List ℕ) (c : Lits) → IsFalseAmong values known c
    → ((v : ℕ) → IsMarked marks v ↔ HasVariable c v) → AreMarksAmong marks known
marked_among values marks known c all_false marks_are v m =
    let from = (marks_are v).0 m in subst (Has known) from.2 (all_false from.0 from.1).1

-- ---- one mark more, or less

-- with one mark more, that variable is marked too
pub marked-set : (marks : List Bool) (v u : ℕ) → v < length marks → IsMarked (set marks v true) u ↔ (IsMarked marks u ⊎ (u ≡ v))
marked-set marks v u lt = elim (cases_eq u v) [
  | inl same ↦ (λ h. inr same, λ h. ap (λ n. get_or (set marks v true) n false) same ∙ get_or-set_same marks v true false lt)
  | inr other ↦
      let kept = get_or-set_other marks v u true false other in
      (λ h. inl (sym kept ∙ h), λ h. elim h [ inl m ↦ kept ∙ m | inr e ↦ absurd (other e) ])
]

-- with one mark less, that variable isn't marked any more
pub marked-unset : (marks : List Bool) (v u : ℕ) → v < length marks → IsMarked (set marks v false) u ↔ (IsMarked marks u × (u ≢ v))
marked-unset marks v u lt = elim (cases_eq u v) [
  | inl same ↦ (
    λ h. (let none = ap (λ n. get_or (set marks v false) n false) same ∙ get_or-set_same marks v false false lt in absurd (cc)),
    λ h. absurd (h.1 same),
  )
  | inr other ↦
      let kept = get_or-set_other marks v u false false other in
      (λ h. (sym kept ∙ h, other), λ h. kept ∙ h.0)
]

-- the variables of one literal more
has_variable_more : (c : Lits) (i : ℕ) (l : Literal) (v : ℕ) → i < length c → l ≡ get_or c i l
    → HasVariable (take (i + 1) c) v ↔ (HasVariable (take i c) v ⊎ (v ≡ l.variable))
has_variable_more c i l v lt read = (
  λ h. elim ((Has-take_more c i l h.0 lt read).0 h.1) [
    | inl old ↦ inl (h.0, old, h.2)
    | inr same ↦ inr (sym h.2 ∙ ap (λ (x : Literal). x.variable) (sym same))
  ],
  λ h. elim h [
    | inl old ↦ (old.0, (Has-take_more c i l old.0 lt read).1 (inl old.1), old.2)
    | inr same ↦ (l, (Has-take_more c i l l lt read).1 (inr refl), sym same)
  ],
)

-- a loop that marks the variables of a clause, one literal later
pub marks_more : (initial marks : List Bool) (c : Lits) (i : ℕ) (l : Literal) → i < length c → l ≡ get_or c i l → l.variable < length marks
    → ((v : ℕ) → IsMarked marks v ↔ (IsMarked initial v ⊎ HasVariable (take i c) v))
    → (v : ℕ) → IsMarked (set marks l.variable true) v ↔ (IsMarked initial v ⊎ HasVariable (take (i + 1) c) v)
marks_more initial marks c i l lt read within h v =
    let next = marked-set marks l.variable v within in
    let more = has_variable_more c i l v lt read in
    let own = h v in (
      λ m. elim (next.0 m) [
        | inl old ↦ elim (own.0 old) [ inl first ↦ inl first | inr has ↦ inr (more.1 (inl has)) ]
        | inr same ↦ inr (more.1 (inr same))
      ],
      λ m. elim m [
        | inl first ↦ next.1 (inl (own.1 (inl first)))
        | inr has ↦ elim (more.0 has) [ inl old ↦ next.1 (inl (own.1 (inr old))) | inr same ↦ next.1 (inr same) ]
      ],
    )

-- where nothing is marked
pub none_marked : (n v : ℕ) → IsMarked (replicate n false) v → ⊥
none_marked zero v m = absurd (cc)
none_marked (suc n) zero m = absurd (cc)
none_marked (suc n) (suc v) m = none_marked n v m
