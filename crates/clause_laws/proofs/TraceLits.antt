-- What each clause of a trace is, place by place.
use Rattle.std.proofs.Common.{◌≡◌, ℕ, zero, suc, ◌+◌, ◌<◌, inl, inr, List, [], ◌∷◌, ◌++◌, length, map, Option, Some, refl, sym, ◌∙◌, ap, subst, arith}
use Rattle.std.proofs.lemmas.Bool.{cases_order}
use Rattle.clause_defs.specs.Clauses.{Lits, Has}
use Rattle.clause_defs.specs.Traces.{Entry, IsCompactAt, stated_at, antecedents_at, AntecedentsAreEarlier}
use Rattle.clause_defs.specs.TraceClauses.{given_with, all_given, given_by, stated_or, known_at, clause_behind, clauses_before, LitsOf, antecedent_lits}

-- a list with one more at its end is longer by one
length-snoc : {X : Type 0} (xs : List X) (x : X) → length (xs ++ x ∷ []) ≡ length xs + 1
length-snoc [] x = omega arith
length-snoc (y ∷ ys) x = let rest = length-snoc ys x in omega arith

-- before place n there are n clauses
length-clauses_before : (t : List Entry) (n : ℕ) → length (clauses_before t n) ≡ n
length-clauses_before t zero = refl
length-clauses_before t (suc k) =
    let more = length-snoc (clauses_before t k) (clause_behind (clauses_before t k) t k) in
    let rest = length-clauses_before t k in omega arith

-- a clause that is known stays as it is with more known behind it
known_at-front : (xs ys : List (Option Lits)) (p : ℕ) → p < length xs → known_at (xs ++ ys) p ≡ known_at xs p
known_at-front [] ys p lt = absurd (omega arith)
known_at-front (x ∷ xs) ys zero lt = refl
known_at-front (x ∷ xs) ys (suc p) lt = known_at-front xs ys p (omega arith)

-- the clause that was put behind the known ones is the next
known_at-last : (xs : List (Option Lits)) (x : Option Lits) (p : ℕ) → p ≡ length xs → known_at (xs ++ x ∷ []) p ≡ x
known_at-last [] x zero e = refl
known_at-last [] x (suc p) e = absurd (omega arith)
known_at-last (y ∷ ys) x zero e = absurd (omega arith)
known_at-last (y ∷ ys) x (suc p) e = known_at-last ys x p (omega arith)

-- the clauses before a place are those of the trace
known_before : (t : List Entry) (n p : ℕ) → p < n → known_at (clauses_before t n) p ≡ LitsOf t p
known_before t zero p lt = absurd (omega arith)
known_before t (suc k) p lt =
    let len = length-clauses_before t k in
    elim (cases_order p k) [
      | inl e ↦
          known_at-last (clauses_before t k) (LitsOf t k) p (omega arith) ∙ ap (LitsOf t) (sym e)
      | inr other ↦ elim other [
        | inl below ↦ known_at-front (clauses_before t k) (LitsOf t k ∷ []) p (omega arith) ∙ known_before t k p below
        | inr above ↦ absurd (omega arith)
      ]
    ]

-- two lists of the same at each member
pub map_same : {X Y : Type 0} (g h : X → Y) (xs : List X) → ((x : X) → Has xs x → g x ≡ h x) → map g xs ≡ map h xs
map_same g h [] e = refl
map_same g h (x ∷ xs) e = let one = e x (inl refl) in let rest = map_same g h xs (λ y i. e y (inr i)) in cc

-- a clause is the stated one, or else what the clauses of its antecedents give
pub lits_unfold : (t : List Entry) (k : ℕ) → AntecedentsAreEarlier t → LitsOf t k ≡ stated_or (stated_at t k) (given_by (antecedent_lits t k))
lits_unfold t k earlier =
    ap (λ os. stated_or (stated_at t k) (given_by (all_given os)))
    (map_same (known_at (clauses_before t k)) (LitsOf t) (antecedents_at t k) (λ p i. known_before t k p (earlier k p i)))

-- a clause whose literals are stated has them
pub lits_stated : (t : List Entry) (k : ℕ) (c : Lits) → stated_at t k ≡ Some c → LitsOf t k ≡ Some c
lits_stated t k c e = ap (λ o. stated_or o (given_by (all_given (map (known_at (clauses_before t k)) (antecedents_at t k))))) e

-- a clause with the sign is what its antecedents give
pub lits_given : (t : List Entry) (k : ℕ) → AntecedentsAreEarlier t → IsCompactAt t k → LitsOf t k ≡ given_by (antecedent_lits t k)
lits_given t k earlier e = lits_unfold t k earlier ∙ ap (λ o. stated_or o (given_by (antecedent_lits t k))) e

-- where each of some clauses is there and has a property, all are given and have it
pub given_all : (g : ℕ → Option Lits) (P : Lits → Type 0) (ps : List ℕ) → ((p : ℕ) → Has ps p → (c : Lits) × (g p ≡ Some c) × P c)
    → (cs : List Lits) × (all_given (map g ps) ≡ Some cs) × ((c : Lits) → Has cs c → P c)
given_all g P [] h = ([], refl, λ c i. absurd i)
given_all g P (p ∷ ps) h =
    let one = h p (inl refl) in
    let rest = given_all g P ps (λ q i. h q (inr i)) in (
      one.0 ∷ rest.0,
      ap (λ o. given_with o (all_given (map g ps))) one.1 ∙ ap (given_with (Some one.0)) rest.1,
      λ c i. elim i [ inl e ↦ subst P e one.2 | inr j ↦ rest.2 c j ],
    )
