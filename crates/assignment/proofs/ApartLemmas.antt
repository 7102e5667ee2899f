-- Lists of literals in which no variable comes twice.
use Rattle.std.proofs.Common.{◌≡◌, ◌≢◌, ◌⊎◌, ℕ, ◌-◌, ◌<◌, ◌≤◌, eqb, true, false, Bool, not, [], ◌∷◌, ◌++◌, length, map, inl, inr, refl, sym, ap, ◌∙◌, subst, arith, rules, ne_eqb}
use Rattle.std.specs.List.{IsDistinct, list_any, AllByRecursion}
use Rattle.std.proofs.lemmas.Bool.{cases_eq}
use Rattle.std.proofs.lemmas.List.{length-map}
use Rattle.std.proofs.lemmas.Map.Steps.{length-le_from_distinct_below}
use Rattle.clause_defs.specs.Literals.{Literal, negation}
use Rattle.clause_defs.specs.Clauses.{Lits, Has}
use Rattle.pch_base.proofs.SetLemmas.{Has-append}
use Rattle.trail_defs.specs.Assignments.{IsFree, AreApart, IsAssignmentOf}

-- literals with one variable and one sign are one
lit_same : (m l : Literal) → m.variable ≡ l.variable → m.positive ≡ l.positive → m ≡ l
lit_same m l e f i = record { variable = e i; positive = f i }

-- a sign is the other one, or its opposite
sign_cases : (b d : Bool) → (b ≡ d) ⊎ (b ≡ not d)
sign_cases true true = inl refl
sign_cases true false = inr refl
sign_cases false true = inr refl
sign_cases false false = inl refl

-- literals of one variable are one, or each other's negation
pub same_variable : (m l : Literal) → m.variable ≡ l.variable → (m ≡ l) ⊎ (m ≡ negation l)
same_variable m l e = elim (sign_cases m.positive l.positive) [
  | inl f ↦ inl (lit_same m l e f)
  | inr f ↦ inr (lit_same m (negation l) e f)
]

-- no literal of the list has the variable of one without a value
pub free_apart : (t : Lits) (l : Literal) → IsFree t l → (m : Literal) → Has t m → m.variable ≢ l.variable
free_apart t l free m has e = elim (same_variable m l e) [
  | inl f ↦ free.0 (subst (Has t) f has)
  | inr f ↦ free.1 (subst (Has t) f has)
]

-- one more literal at the end
pub apart_push : (t : Lits) (l : Literal) → AreApart t → ((m : Literal) → Has t m → m.variable ≢ l.variable) → AreApart (t ++ l ∷ [])
apart_push [] l apart new = (λ m none. absurd none, tt)
apart_push (k ∷ ks) l apart new = (
  λ m has. elim ((Has-append ks (l ∷ []) m).0 has) [
    | inl old ↦ apart.0 m old
    | inr (inl e) ↦ λ same. new k (inl refl) (sym same ∙ ap (λ (x : Literal). x.variable) (sym e))
    | inr (inr none) ↦ absurd none
  ],
  apart_push ks l apart.1 (λ m has. new m (inr has)),
)

-- without its last literal
pub apart_front : (t : Lits) (l : Literal) → AreApart (t ++ l ∷ []) → AreApart t
apart_front [] l apart = tt
apart_front (k ∷ ks) l apart = (λ m has. apart.0 m ((Has-append ks (l ∷ []) m).1 (inl has)), apart_front ks l apart.1)

-- the last literal's variable comes nowhere else
pub apart_last : (t : Lits) (l m : Literal) → AreApart (t ++ l ∷ []) → Has t m → m.variable ≢ l.variable
apart_last [] l m apart has = absurd has
apart_last (k ∷ ks) l m apart has = elim has [
  | inl e ↦ λ same. apart.0 l ((Has-append ks (l ∷ []) l).1 (inr (inl refl))) (sym same ∙ ap (λ (x : Literal). x.variable) (sym e))
  | inr rest ↦ apart_last ks l m apart.1 rest
]

-- ---- there are no more literals than variables

-- variables counted from 0
below_one : Literal → ℕ
below_one l = l.variable - 1

-- a number that isn't among the variables differs from each
all_apart : (x : ℕ) (ls : Lits) → ((m : Literal) → Has ls m → below_one m ≢ x) → AllByRecursion (λ y. eqb x y ≡ false) (map below_one ls)
all_apart x [] out = search rules
all_apart x (m ∷ ms) out =
    let a : eqb x (below_one m) ≡ false = ne_eqb x (below_one m) (λ e. out m (inl refl) (sym e)) in
    let b = all_apart x ms (λ k h. out k (inr h)) in
    search (rules, a, b)

-- the variables differ
distinct : (ls : Lits) → AreApart ls → ((l : Literal) → Has ls l → 1 ≤ l.variable) → IsDistinct eqb (map below_one ls)
unfolding IsDistinct below_one
distinct [] apart low = tt
distinct (l ∷ ls) apart low = (
  all_apart (l.variable - 1) ls (λ m has e. let a = low m (inr has) in let b = low l (inl refl) in apart.0 m has (omega arith)),
  distinct ls apart.1 (λ m has. low m (inr has)),
)

-- what the test finds is a variable
below_any : (q n : ℕ) (ls : Lits) → ((l : Literal) → Has ls l → below_one l < n) → list_any (eqb q) (map below_one ls) ≡ true → q < n
below_any q n [] high e = absurd (cc)
below_any q n (l ∷ ls) high e = elim (cases_eq q (below_one l)) [
  | inl same ↦ subst (λ k. k < n) (sym same) (high l (inl refl))
  | inr ne ↦ below_any q n ls (λ m has. high m (inr has)) (let f : eqb q (below_one l) ≡ false = ne_eqb q (below_one l) ne in cc)
]

-- an assignment has one literal of each variable at most
pub few_literals : (variables : ℕ) (t : Lits) → IsAssignmentOf variables t → length t ≤ variables
unfolding below_one
few_literals variables t known =
    let bound = length-le_from_distinct_below (map below_one t) variables
    (distinct t known.apart (λ l has. (known.literals l has).0.0))
    (λ q e. below_any q variables t (λ l has. let a = (known.literals l has).0.0 in let b = (known.literals l has).1 in omega arith) e) in
    let len = length-map t below_one in
    omega arith
