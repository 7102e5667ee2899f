-- Clauses are compared as sets: each question on them is answered by yes or no.
use Rattle.std.proofs.Common.{◌↔◌, ◌⊎◌, inl, inr, List, [], ◌∷◌, ◌++◌, refl, sym, subst}
use Rattle.clause_defs.specs.Literals.{Literal}
use Rattle.clause_defs.specs.Clauses.{Lits, Has, SameSet, HasClause}
use Rattle.clause_laws.proofs.LiteralLemmas.{literal_cases}

-- a clause has a literal or not
pub has_cases : (c : Lits) (l : Literal) → Has c l ⊎ (Has c l → ⊥)
has_cases [] l = inr (λ h. h)
has_cases (m ∷ ms) l =
    elim (literal_cases m l) [
      | inl e ↦ inl (inl e)
      | inr other ↦ elim (has_cases ms l) [ inl h ↦ inl (inr h) | inr none ↦ inr (λ h. elim h [ inl e ↦ other e | inr i ↦ none i ]) ]
    ]

-- all literals of the first stand in the second
abbrev Within : Lits → Lits → Type 0
Within d c = (l : Literal) → Has d l → Has c l

-- they do or not
within_cases : (d c : Lits) → Within d c ⊎ (Within d c → ⊥)
within_cases [] c = inl (λ l h. absurd h)
within_cases (m ∷ ms) c =
    elim (has_cases c m) [
      | inr none ↦ inr (λ h. none (h m (inl refl)))
      | inl here ↦ elim (within_cases ms c) [
        | inr other ↦ inr (λ h. other (λ l i. h l (inr i)))
        | inl rest ↦ inl (λ l h. elim h [ inl e ↦ subst (Has c) e here | inr i ↦ rest l i ])
      ]
    ]

-- two clauses are the same or not
pub same_set_cases : (d c : Lits) → SameSet d c ⊎ (SameSet d c → ⊥)
same_set_cases d c =
    elim (within_cases d c) [
      | inr not ↦ inr (λ same. not (λ l. (same l).0))
      | inl there ↦ elim (within_cases c d) [
        | inr not ↦ inr (λ same. not (λ l. (same l).1))
        | inl back ↦ inl (λ l. (there l, back l))
      ]
    ]

-- a list has a clause or not
pub has_clause_cases : (f : List Lits) (c : Lits) → HasClause f c ⊎ (HasClause f c → ⊥)
has_clause_cases [] c = inr (λ h. h.1)
has_clause_cases (d ∷ ds) c =
    elim (same_set_cases d c) [
      | inl same ↦ inl (d, inl refl, same)
      | inr other ↦ elim (has_clause_cases ds c) [
        | inl h ↦ inl (h.0, inr h.1, h.2)
        | inr none ↦ inr (λ h. elim h.1 [ inl e ↦ other (let S : Lits → Type 0 = λ x. SameSet x c in subst S (sym e) h.2) | inr i ↦ none (h.0, i, h.2) ])
      ]
    ]

-- what two lists one after the other have, one of them has
pub Has_append : (c d : Lits) (l : Literal) → Has (c ++ d) l ↔ (Has c l ⊎ Has d l)
Has_append [] d l = (λ h. inr h, λ h. elim h [ inl i ↦ absurd i | inr i ↦ i ])
Has_append (m ∷ ms) d l =
    let rest = Has_append ms d l in (
      λ h. elim h [ inl e ↦ inl (inl e) | inr i ↦ elim (rest.0 i) [ inl j ↦ inl (inr j) | inr j ↦ inr j ] ],
      λ h. elim h [ inl i ↦ elim i [ inl e ↦ inl e | inr j ↦ inr (rest.1 (inl j)) ] | inr i ↦ inr (rest.1 (inr i)) ],
    )
