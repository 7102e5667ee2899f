-- The computed resolvent and the computed chain are those of the rule.
use Rattle.std.proofs.Common.{◌≡◌, ◌≢◌, ◌↔◌, ◌⊎◌, inl, inr, ◌<◌, ◌==◌, ◌||◌, not, cond, Bool, true, false, List, [], ◌∷◌, ◌++◌, Option, Some, None, refl, sym, ◌∙◌, ap, subst, arith}
use Rattle.std.specs.List.{filter}
use Rattle.std.proofs.lemmas.Bool.{eq-eqb, ne_eqb, eqb-true, eqb-false}
use Rattle.clause_defs.specs.Literals.{Literal, negation, code}
use Rattle.clause_defs.specs.Clauses.{Lits, Has, SameSet, IsOrdered, clause_of}
use Rattle.clause_defs.specs.Resolution.{Clashes, Step, Chain, Resolves, is_among, clashing, without, resolvent_on, resolvent_by, resolvent_of, chain_from, chain_of}
use Rattle.clause_laws.proofs.ClauseLemmas.{same_refl, same_sym, same_trans, same_ordered}
use Rattle.clause_laws.proofs.ClauseOf.{same_code, IsOrdered-clause_of, SameSet-clause_of}
use Rattle.clause_laws.proofs.ClauseTests.{Has_append}
use Rattle.clause_laws.proofs.Uniqueness.{step_same}

-- ---- filtered lists

-- one more element is kept or not
has_filter_more : {X : Type 0} (b : Bool) (x y : X) (f : X → Bool) (xs ks : List X) → f x ≡ b
    → (Has ks y ↔ (Has xs y × (f y ≡ true))) → Has (cond b (x ∷ ks) ks) y ↔ (Has (x ∷ xs) y × (f y ≡ true))
has_filter_more true x y f xs ks e rest = (
  λ h. elim h [ inl k ↦ (inl k, subst (λ z. f z ≡ true) k e) | inr k ↦ let j = rest.0 k in (inr j.0, j.1) ],
  λ h. elim h.0 [ inl k ↦ inl k | inr k ↦ inr (rest.1 (k, h.1)) ],
)
has_filter_more false x y f xs ks e rest = (
  λ h. let j = rest.0 h in (inr j.0, j.1),
  λ h. elim h.0 [ inl k ↦ absurd (let other : f y ≡ false = subst (λ z. f z ≡ false) k e in let same = h.1 in cc) | inr k ↦ rest.1 (k, h.1) ],
)

-- a filtered list has what passes
pub Has-filter : {X : Type 0} (f : X → Bool) (xs : List X) (y : X) → Has (filter f xs) y ↔ (Has xs y × (f y ≡ true))
Has-filter f [] y = (λ h. absurd h, λ h. h.0)
Has-filter f (x ∷ xs) y = has_filter_more (f x) x y f xs (filter f xs) refl (Has-filter f xs y)

-- a literal that is kept or left out leaves the chosen literals in their order
ordered_filter_more : (b : Bool) (l : Literal) (f : Literal → Bool) (ls : Lits) → IsOrdered (l ∷ ls) → IsOrdered (filter f ls)
    → IsOrdered (cond b (l ∷ filter f ls) (filter f ls))
ordered_filter_more true l f ls o rest = ((λ m h. o.0 m ((Has-filter f ls m).0 h).0), rest)
ordered_filter_more false l f ls o rest = rest

-- literals chosen from a clause are in their order
IsOrdered-filter : (f : Literal → Bool) (ls : Lits) → IsOrdered ls → IsOrdered (filter f ls)
IsOrdered-filter f [] o = tt
IsOrdered-filter f (l ∷ ls) o = ordered_filter_more (f l) l f ls o (IsOrdered-filter f ls o.1)

-- ---- literals among others

-- where either test passes, one of them does
or_cases : (a b : Bool) → (a || b) ≡ true → (a ≡ true) ⊎ (b ≡ true)
or_cases true b e = inl refl
or_cases false b e = inr e

-- where the second test passes, either does
or_right : (a b : Bool) → b ≡ true → (a || b) ≡ true
or_right true b e = refl
or_right false b e = e

-- a literal that is found by its code is one of the clause
pub is_among-Has : (l : Literal) (c : Lits) → is_among l c ≡ true → Has c l
is_among-Has l [] e = absurd cc
is_among-Has l (m ∷ ms) e = elim (or_cases (code m == code l) (is_among l ms) e) [
  | inl k ↦ inl (same_code m l (eqb-true (code m) (code l) k))
  | inr k ↦ inr (is_among-Has l ms k)
]

-- a literal of the clause is found by its code
pub Has-is_among : (l : Literal) (c : Lits) → Has c l → is_among l c ≡ true
Has-is_among l [] h = absurd h
Has-is_among l (m ∷ ms) (inl e) = rw (eq-eqb (code m) (code l) (ap code e)) refl
Has-is_among l (m ∷ ms) (inr h) = or_right (code m == code l) (is_among l ms) (Has-is_among l ms h)

-- a test that passes where another fails says that the other fails
not_true : (b : Bool) → not b ≡ true → b ≡ false
not_true true e = absurd cc
not_true false e = refl

-- the clause without a literal has its other literals
pub Has-without : (p l : Literal) (c : Lits) → Has (without p c) l ↔ (Has c l × (l ≢ p))
Has-without p l c =
    let kept = Has-filter (λ m. not (code m == code p)) c l in (
      λ h. let k = kept.0 h in (k.0, λ e. eqb-false (code l) (code p) (not_true (code l == code p) k.1) (ap code e)),
      λ h. kept.1 (h.0, rw (ne_eqb (code l) (code p) (λ e. h.1 (same_code l p e))) refl),
    )

-- the computed list of clashing literals has those whose negation is in the other clause
pub Has-clashing : (r c : Lits) (l : Literal) → Has (clashing r c) l ↔ Clashes r c l
Has-clashing r c l =
    let kept = Has-filter (λ m. is_among (negation m) c) (clause_of r) l in (
      λ h. let k = kept.0 h in ((SameSet-clause_of r l).0 k.0, is_among-Has (negation l) c k.1),
      λ h. kept.1 ((SameSet-clause_of r l).1 h.0, Has-is_among (negation l) c h.1),
    )

-- the clashing literals are in their order
IsOrdered-clashing : (r c : Lits) → IsOrdered (clashing r c)
IsOrdered-clashing r c = IsOrdered-filter (λ m. is_among (negation m) c) (clause_of r) (IsOrdered-clause_of r)

-- ---- one step

-- the resolvent has each literal of the two clauses but the pivot of the one and its negation of the other
Has-resolvent_on : (p l : Literal) (r c : Lits) → Has (resolvent_on p r c) l ↔ ((Has r l × (l ≢ p)) ⊎ (Has c l × (l ≢ negation p)))
Has-resolvent_on p l r c =
    let whole = SameSet-clause_of (without p r ++ without (negation p) c) l in
    let parts = Has_append (without p r) (without (negation p) c) l in
    let left = Has-without p l r in
    let right = Has-without (negation p) l c in (
      λ h. elim (parts.0 (whole.0 h)) [ inl k ↦ inl (left.0 k) | inr k ↦ inr (right.0 k) ],
      λ h. whole.1 (parts.1 (elim h [ inl k ↦ inl (left.1 k) | inr k ↦ inr (right.1 k) ])),
    )

-- where p alone clashes, the resolvent on it is that of the step
pub step_on : (r c : Lits) (p : Literal) → Clashes r c p → ((l : Literal) → Clashes r c l → l ≡ p) → Step r c (resolvent_on p r c)
step_on r c p clashes only = record { pivot = p; clashes = clashes; only = only; resolvent = λ l. Has-resolvent_on p l r c }

-- where just one literal clashes, the clauses resolve on it
only_one : (r c : Lits) (p : Literal) → p ∷ [] ≡ clashing r c → Step r c (resolvent_on p r c)
only_one r c p e =
    step_on r c p ((Has-clashing r c p).0 (subst (λ ls. Has ls p) e (inl refl)))
    (λ l h. elim (let P : Lits → Type 0 = λ ls. Has ls l in subst P (sym e) ((Has-clashing r c l).1 h)) [ inl k ↦ sym k | inr k ↦ absurd k ])

-- what the clashing literals give as a resolvent is that of the rule, in its order
step_by : (ls r c s : Lits) → ls ≡ clashing r c → resolvent_by ls r c ≡ Some s → Step r c s × IsOrdered s
step_by [] r c s e k = absurd cc
step_by (p ∷ []) r c s e k =
    let same : resolvent_on p r c ≡ s = cc in
    (subst (Step r c) same (only_one r c p e), subst IsOrdered same (IsOrdered-clause_of (without p r ++ without (negation p) c)))
step_by (p ∷ q ∷ ls) r c s e k = absurd cc

-- the computed resolvent is one of the rule
pub resolvent-step : (r c s : Lits) → resolvent_of r c ≡ Some s → Step r c s × IsOrdered s
resolvent-step r c s e = step_by (clashing r c) r c s refl e

-- the rule's resolvent, in its order, is the one that is computed
resolvent_from : (ls r c s : Lits) → ls ≡ clashing r c → Step r c s → IsOrdered s → resolvent_by ls r c ≡ Some s
resolvent_from [] r c s e step o =
    absurd (let P : Lits → Type 0 = λ ls. Has ls step.pivot in subst P (sym e) ((Has-clashing r c step.pivot).1 step.clashes))
resolvent_from (p ∷ []) r c s e step o =
    ap Some (same_ordered (resolvent_on p r c) s (IsOrdered-clause_of (without p r ++ without (negation p) c)) o
    (step_same r r c (resolvent_on p r c) s (same_refl r) (only_one r c p e) step))
resolvent_from (p ∷ q ∷ ls) r c s e step o =
    let ordered : IsOrdered (p ∷ q ∷ ls) = subst IsOrdered (sym e) (IsOrdered-clashing r c) in
    let first : p ≡ step.pivot = step.only p ((Has-clashing r c p).0 (subst (λ ls. Has ls p) e (inl refl))) in
    let second : q ≡ step.pivot = step.only q ((Has-clashing r c q).0 (subst (λ ls. Has ls q) e (inr (inl refl)))) in
    let below : code p < code q = ordered.0 q (inl refl) in
    let same : code p ≡ code q = ap code (first ∙ sym second) in
    absurd (omega arith)

-- and each resolvent of the rule is the computed one, as the clause of its literals
pub step-resolvent : (r c s : Lits) → Step r c s → IsOrdered s → resolvent_of r c ≡ Some s
step-resolvent r c s step o = resolvent_from (clashing r c) r c s refl step o

-- ---- chains

-- a step from the same set to the same set
pub step_between : (r q c s d : Lits) → SameSet r q → SameSet s d → Step r c s → Step q c d
step_between r q c s d same end step = record {
  pivot = step.pivot;
  clashes = ((same step.pivot).0 step.clashes.0, step.clashes.1);
  only = λ l h. step.only l ((same l).1 h.0, h.1);
  resolvent = λ l. (
    λ h. elim ((step.resolvent l).0 ((end l).1 h)) [ inl k ↦ inl ((same l).0 k.0, k.1) | inr k ↦ inr k ],
    λ h. (end l).0 ((step.resolvent l).1 (elim h [ inl k ↦ inl ((same l).1 k.0, k.1) | inr k ↦ inr k ])),
  );
}

-- a chain goes on alike from the same set
pub chain_same : (r q : Lits) (cs : List Lits) (s : Lits) → SameSet r q → Chain r cs s → Chain q cs s
chain_same r q [] s same h = same_trans q r s (same_sym r q same) h
chain_same r q (c ∷ cs) s same h = (h.0, step_between r q c h.0 h.0 same (same_refl h.0) h.1, h.2)

-- a computed chain behind a step is a chain of the rule
chain_after : (o : Option Lits) (r c : Lits) (cs : List Lits) (s : Lits) → resolvent_of r c ≡ o → chain_from o cs ≡ Some s
    → ((m : Lits) → IsOrdered m → chain_from (Some m) cs ≡ Some s → Chain m cs s × IsOrdered s) → Chain r (c ∷ cs) s × IsOrdered s
chain_after None r c cs s e k rest = absurd cc
chain_after (Some m) r c cs s e k rest =
    let step = resolvent-step r c m e in
    let more = rest m step.1 k in
    ((m, step.0, more.0), more.1)

-- the computed chain is one of the rule
pub from-chain : (r : Lits) (cs : List Lits) (s : Lits) → IsOrdered r → chain_from (Some r) cs ≡ Some s → Chain r cs s × IsOrdered s
from-chain r [] s o e = let same : r ≡ s = cc in (subst (SameSet r) same (same_refl r), subst IsOrdered same o)
from-chain r (c ∷ cs) s o e = chain_after (resolvent_of r c) r c cs s refl e (λ m p k. from-chain m cs s p k)

-- the rule's chain ends with the clause that is computed
pub chain-from : (r : Lits) (cs : List Lits) (s : Lits) → IsOrdered r → IsOrdered s → Chain r cs s → chain_from (Some r) cs ≡ Some s
chain-from r [] s o p h = ap Some (same_ordered r s o p h)
chain-from r (c ∷ cs) s o p h =
    let m = clause_of h.0 in
    let back : SameSet h.0 m = same_sym m h.0 (SameSet-clause_of h.0) in
    let step : Step r c m = step_between r r c h.0 m (same_refl r) back h.1 in
    let first : resolvent_of r c ≡ Some m = step-resolvent r c m step (IsOrdered-clause_of h.0) in
    ap (λ o. chain_from o cs) first ∙ chain-from m cs s (IsOrdered-clause_of h.0) p (chain_same h.0 m cs s back h.2)

-- what is computed of a list follows from it by the chain rule, in its order
pub chain_of-resolves : (cs : List Lits) (s : Lits) → chain_of cs ≡ Some s → Resolves cs s × IsOrdered s
chain_of-resolves [] s e = absurd cc
chain_of-resolves (r ∷ cs) s e =
    let h = from-chain (clause_of r) cs s (IsOrdered-clause_of r) e in
    (chain_same (clause_of r) r cs s (SameSet-clause_of r) h.0, h.1)

-- what follows by the chain rule, in its order, is what is computed
pub resolves-chain_of : (cs : List Lits) (s : Lits) → Resolves cs s → IsOrdered s → chain_of cs ≡ Some s
resolves-chain_of [] s h o = absurd h
resolves-chain_of (r ∷ cs) s h o =
    chain-from (clause_of r) cs s (IsOrdered-clause_of r) o (chain_same r (clause_of r) cs s (same_sym (clause_of r) r (SameSet-clause_of r)) h)

-- a chain that comes to a set comes to its clause
pub resolves_same : (cs : List Lits) (s d : Lits) → SameSet s d → Resolves cs s → Resolves cs d
resolves_same [] s d same h = absurd h
resolves_same (r ∷ cs) s d same h = chain_to r cs s d same h
  where
    -- a chain that ends with a clause ends with each one that is the same set
    chain_to : (r : Lits) (cs : List Lits) (s d : Lits) → SameSet s d → Chain r cs s → Chain r cs d
    chain_to r [] s d same h = same_trans r s d h same
    chain_to r (c ∷ cs) s d same h = (h.0, h.1, chain_to h.0 cs s d same h.2)
