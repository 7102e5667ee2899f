-- Lists of clauses.
use Rattle.std.proofs.Common.{◌≡◌, ℕ, zero, suc, ◌<◌, inl, inr, List, [], ◌∷◌, ◌++◌, length, slice_get, Bool, Option, Some, None, IfSome, IfNone, is_some, IsTrue, ◌↔◌, ◌∙◌, refl, ap, subst, arith, length-append}
use Rattle.clause_defs.specs.declared.verdict.TheConstants.{MAX_CLAUSES}
use Rattle.clause_defs.specs.Literals.{Literal, IsLiteral}
use Rattle.clause_defs.specs.Clauses.{Lits, Has, SameSet, HasClause, IsOrdered, IsClause}
use Rattle.clause_laws.proofs.ClauseLemmas.{same_ordered, same_refl}
use Rattle.pch_base.proofs.SetLemmas.{Has-append}
use Rattle.sat_values.specs.ClauseLists.{AreClauses}

-- what stands at a place is a member
pub Has-slice_get : {X : Type 0} (xs : List X) (k : ℕ) (x : X) → slice_get xs k ≡ Some x → Has xs x
Has-slice_get [] k x e = absurd (cc)
Has-slice_get (y ∷ ys) zero x e = inl (cc)
Has-slice_get (y ∷ ys) (suc k) x e = inr (Has-slice_get ys k x e)

-- a member stands at some place
pub place_of_member : {X : Type 0} (xs : List X) (x : X) → Has xs x → (k : ℕ) × (k < length xs) × (slice_get xs k ≡ Some x)
place_of_member [] x h = absurd h
place_of_member (y ∷ ys) x (inl e) = (0, omega arith, ap Some e)
place_of_member (y ∷ ys) x (inr h) = let rest = place_of_member ys x h in (suc rest.0, omega (arith, rest.1), rest.2)

-- a list of clauses with one more ordered list of literals is a list of clauses, while there are few enough
pub AreClauses-push : (f : List Lits) (c : Lits) → AreClauses f → IsOrdered c → ((l : Literal) → Has c l → IsLiteral l)
    → length f < MAX_CLAUSES → AreClauses (f ++ c ∷ [])
AreClauses-push f c h ordered literals few = record {
  clauses = λ d i. elim ((Has-append f (c ∷ []) d).0 i) [
    | inl earlier ↦ h.clauses d earlier
    | inr (inl e) ↦ subst IsClause e (record { literals = literals; ordered = ordered })
    | inr (inr none) ↦ absurd none
  ];
  few = omega (arith, length-append f (c ∷ []));
}

-- a clause that stands in the list is had
pub HasClause-here : (f : List Lits) (k : ℕ) (c d : Lits) → slice_get f k ≡ Some d → d ≡ c → HasClause f c
HasClause-here f k c d e same = (d, Has-slice_get f k d e, subst (SameSet d) same (same_refl d))

-- where none of the clauses is that list, none is that set
pub HasClause-none : (f : List Lits) (c : Lits) → AreClauses f → IsOrdered c
    → ((k : ℕ) (d : Lits) → k < length f → slice_get f k ≡ Some d → d ≡ c → ⊥) → HasClause f c → ⊥
HasClause-none f c h ordered none had =
    let at = place_of_member f had.0 had.1 in
    none at.0 had.0 at.1 at.2 (same_ordered had.0 c (h.clauses had.0 had.1).ordered ordered had.2)

-- a look-up that answers exactly says whether the clause is had
pub had_if_found : (f : List Lits) (c : Lits) (o : Option ℕ) (b : Bool) → AreClauses f → IsOrdered c → IfSome o (λ k. slice_get f k ≡ Some c)
    → IfNone o ((k : ℕ) → slice_get f k ≡ Some c → ⊥) → b ≡ is_some o → IsTrue b ↔ HasClause f c
had_if_found f c (Some k) b h ordered found absent e = (λ t. HasClause-here f k c c found refl, λ had. e)
had_if_found f c None b h ordered found absent e = (
  λ t. absurd (cc),
  λ had. absurd (HasClause-none f c h ordered (λ k d lt here same. absent k (here ∙ ap Some same)) had),
)
