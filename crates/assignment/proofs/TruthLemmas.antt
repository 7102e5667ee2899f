-- The truths after a literal came or went.
use Rattle.std.proofs.Common.{◌≡◌, ◌≢◌, ◌↔◌, ℕ, ◌+◌, ◌*◌, ◌<◌, ◌≤◌, true, false, true≢false, Bool, if◌then◌else◌, List, [], ◌∷◌, ◌++◌, length, set, replicate, get_or, take, inl, inr, refl, sym, ap, ◌∙◌, subst, arith, length-set, get_or-set_same, get_or-set_other}
use Rattle.std.proofs.lemmas.Bool.{cases_eq, cases_lt}
use Rattle.std.proofs.lemmas.List.{take_more, take_all, length-replicate, get_or-replicate, get_or_past}
use Rattle.clause_defs.specs.Literals.{Literal, code, IsLiteral}
use Rattle.clause_defs.specs.Clauses.{Lits, Has}
use Rattle.clause_defs.specs.declared.verdict.TheConstants.{MAX_VARIABLE}
use Rattle.pch_base.specs.LitCodes.{code_injective}
use Rattle.pch_base.proofs.SetLemmas.{Has-append}
use Rattle.trail_defs.specs.Assignments.{IsFree, IsAssignmentOf}
use Rattle.assignment.specs.Values.{AreTruths}
use Rattle.assignment.proofs.ApartLemmas.{free_apart, apart_push, apart_front, apart_last}

-- a code is twice the variable, or one more
code_bound : (v : ℕ) (b : Bool) → 2 * v + (if b then 1 else 0) ≤ 2 * v + 1
code_bound v true = omega arith
code_bound v false = omega arith

module _ (variables : ℕ) (truths : List Bool) (lits : Lits) (are : AreTruths variables truths lits) where
  -- the truths have a place for each literal of the variables
  pub code_inside : (l : Literal) → l.variable ≤ variables → code l < length truths
  code_inside l le = let a = code_bound l.variable l.positive in let b : length truths ≡ 2 * variables + 2 = are.size in omega arith

  module _ (l : Literal) (within : l.variable ≤ variables) where
    -- a literal without a value comes
    module _ (literal : IsLiteral l) (free : IsFree lits l) where
      put_held : (m : Literal) → (get_or (set truths (code l) true) (code m) false ≡ true) ↔ Has (lits ++ l ∷ []) m
      put_held m = elim (cases_eq (code m) (code l)) [
        | inl e ↦ (
          λ _. (Has-append lits (l ∷ []) m).1 (inr (inl (code_injective l m (sym e)))),
          λ _. ap (λ k. get_or (set truths (code l) true) k false) e ∙ get_or-set_same truths (code l) true false (code_inside l within),
        )
        | inr ne ↦ (
          λ h. (Has-append lits (l ∷ []) m).1 (inl ((are.held m).0 (sym (get_or-set_other truths (code l) (code m) true false ne) ∙ h))),
          λ h. elim ((Has-append lits (l ∷ []) m).0 h) [
            | inl old ↦ get_or-set_other truths (code l) (code m) true false ne ∙ (are.held m).1 old
            | inr (inl e) ↦ absurd (ne (ap code (sym e)))
            | inr (inr none) ↦ absurd none
          ],
        )
      ]

      -- the truths say so of it
      pub truths_put : AreTruths variables (set truths (code l) true) (lits ++ l ∷ [])
      truths_put = record {
        small = are.small;
        size = length-set truths (code l) true ∙ are.size;
        held = put_held;
        known = record {
          literals = λ m h. elim ((Has-append lits (l ∷ []) m).0 h) [
            | inl old ↦ are.known.literals m old
            | inr (inl e) ↦ subst (λ k. IsLiteral k × (k.variable ≤ variables)) e (literal, within)
            | inr (inr none) ↦ absurd none
          ];
          apart = apart_push lits l are.known.apart (free_apart lits l free);
        };
      }

    -- the last literal goes
    module _ (fewer : Lits) (is : lits ≡ fewer ++ l ∷ []) where
      was_apart : (m : Literal) → Has fewer m → m.variable ≢ l.variable
      was_apart m h = apart_last fewer l m (subst (λ t. IsAssignmentOf variables t) is are.known).apart h

      dropped_held : (m : Literal) → (get_or (set truths (code l) false) (code m) false ≡ true) ↔ Has fewer m
      dropped_held m = elim (cases_eq (code m) (code l)) [
        | inl e ↦ (
          λ h. absurd (true≢false (sym h ∙ ap (λ k. get_or (set truths (code l) false) k false) e ∙ get_or-set_same truths (code l) false false (code_inside l within))),
          λ h. absurd (was_apart m h (ap (λ (x : Literal). x.variable) (code_injective m l e))),
        )
        | inr ne ↦ (
          λ h. elim ((Has-append fewer (l ∷ []) m).0 (subst (λ t. Has t m) is ((are.held m).0 (sym (get_or-set_other truths (code l) (code m) false false ne) ∙ h)))) [
            | inl old ↦ old
            | inr (inl e) ↦ absurd (ne (ap code (sym e)))
            | inr (inr none) ↦ absurd none
          ],
          λ h. get_or-set_other truths (code l) (code m) false false ne ∙ (are.held m).1 (subst (λ t. Has t m) (sym is) ((Has-append fewer (l ∷ []) m).1 (inl h))),
        )
      ]

      -- the truths say so of the others
      pub truths_dropped : AreTruths variables (set truths (code l) false) fewer
      truths_dropped = record {
        small = are.small;
        size = length-set truths (code l) false ∙ are.size;
        held = dropped_held;
        known = record {
          literals = λ m h. are.known.literals m (subst (λ t. Has t m) (sym is) ((Has-append fewer (l ∷ []) m).1 (inl h)));
          apart = apart_front fewer l (subst (λ t. IsAssignmentOf variables t) is are.known).apart;
        };
      }

-- a list is its front and its last element
pub last_split : (lits : Lits) (n : ℕ) (l : Literal) → n + 1 ≡ length lits → l ≡ get_or lits n l → lits ≡ take n lits ++ l ∷ []
last_split lits n l len read =
    sym (take_all (n + 1) lits (omega arith)) ∙ take_more lits n l (omega arith) ∙ ap (λ x. take n lits ++ x ∷ []) (sym read)

-- the last literal's variable is one of the variables
pub last_within : (variables : ℕ) (truths : List Bool) (lits : Lits) → AreTruths variables truths lits → (l : Literal) (fewer : Lits) → lits ≡ fewer ++ l ∷ []
    → l.variable ≤ variables
last_within variables truths lits are l fewer is = (are.known.literals l (subst (λ t. Has t l) (sym is) ((Has-append fewer (l ∷ []) l).1 (inr (inl refl))))).1

-- and its code has a truth
pub last_inside : (variables : ℕ) (truths : List Bool) (lits : Lits) → AreTruths variables truths lits → (l : Literal) (fewer : Lits) → lits ≡ fewer ++ l ∷ []
    → code l < length truths
last_inside variables truths lits are l fewer is = code_inside variables truths lits are l (last_within variables truths lits are l fewer is)

-- without literals nothing is true
pub truths_none : (variables n : ℕ) (truths : List Bool) (lits : Lits) → variables ≤ MAX_VARIABLE → truths ≡ replicate n false → n ≡ 2 * variables + 2 → lits ≡ []
    → AreTruths variables truths lits
truths_none variables n truths lits small e len empty =
    let false_there : (k : ℕ) → get_or (replicate n false) k false ≡ false = λ k. elim (cases_lt k n) [
      | inl lt ↦ get_or-replicate n k false false lt
      | inr past ↦ get_or_past (replicate n false) k false (let a = length-replicate n false in omega arith)
    ] in
    subst (AreTruths variables truths) (sym empty) (record {
      small = small;
      size = ap length e ∙ length-replicate n false ∙ len;
      held = λ l. (λ h. absurd (true≢false (sym h ∙ ap (λ t. get_or t (code l) false) e ∙ false_there (code l))), λ none. absurd none);
      known = record { literals = λ l none. absurd none; apart = tt };
    })
