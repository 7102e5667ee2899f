-- Each chain comes to an end: a faulty step, another clause than the stated one, or the stated one.
use Rattle.std.proofs.Common.{◌≡◌, ℕ, ◌+◌, ◌⊎◌, inl, inr, List, [], ◌∷◌, Option, Some, None, Result, Ok, Err, refl, sym, ◌∙◌, subst}
use Rattle.clause_defs.specs.Literals.{Literal, negation}
use Rattle.clause_defs.specs.Clauses.{Lits, Has}
use Rattle.clause_defs.specs.Resolution.{Clashes, Step, NoClash, ManyClash, resolvent_on}
use Rattle.clause_defs.specs.Verdicts.{EndsAt, ChainEnds, ChainFault}
use Rattle.clause_defs.specs.declared.verdict.ChainError.{ChainError}
use Rattle.clause_laws.proofs.LiteralLemmas.{literal_cases}
use Rattle.clause_laws.proofs.ClauseTests.{has_cases, same_set_cases}
use Rattle.clause_laws.proofs.Resolvents.{step_on}

-- exactly one literal clashes
record OneClashes (r c : Lits) : Type 0 where
  pivot : Literal
  clashes : Clashes r c pivot
  only : (l : Literal) → Clashes r c l → l ≡ pivot

-- none, one or several
abbrev HowManyClash : Lits → Lits → Type 0
HowManyClash r c = NoClash r c ⊎ (OneClashes r c ⊎ ManyClash r c)

-- a literal of the rest that clashes is one of the whole
clashes_behind : (m : Literal) (ms c : Lits) (l : Literal) → Clashes ms c l → Clashes (m ∷ ms) c l
clashes_behind m ms c l h = (inr h.0, h.1)

-- so are several
several_behind : (m : Literal) (ms c : Lits) → ManyClash ms c → ManyClash (m ∷ ms) c
several_behind m ms c h = (h.0, h.1, h.2, clashes_behind m ms c h.0 h.3, clashes_behind m ms c h.1 h.4)

-- a first literal that doesn't clash changes nothing
quiet_first : (m : Literal) (ms c : Lits) → (Has c (negation m) → ⊥) → HowManyClash ms c → HowManyClash (m ∷ ms) c
quiet_first m ms c quiet (inl none) =
    inl (λ l h. elim h.0 [ inl e ↦ quiet (let N : Literal → Type 0 = λ x. Has c (negation x) in subst N (sym e) h.1) | inr i ↦ none l (i, h.1) ])
quiet_first m ms c quiet (inr (inl one)) =
    inr (inl (record {
      pivot = one.pivot;
      clashes = clashes_behind m ms c one.pivot one.clashes;
      only = λ l h. elim h.0 [ inl e ↦ absurd (quiet (let N : Literal → Type 0 = λ x. Has c (negation x) in subst N (sym e) h.1)) | inr i ↦ one.only l (i, h.1) ];
    }))
quiet_first m ms c quiet (inr (inr several)) = inr (inr (several_behind m ms c several))

-- a first literal that clashes is the only one, the same as the only one of the rest, or a second one
clashing_first : (m : Literal) (ms c : Lits) → Has c (negation m) → HowManyClash ms c → HowManyClash (m ∷ ms) c
clashing_first m ms c here (inl none) =
    inr (inl (record {
      pivot = m;
      clashes = (inl refl, here);
      only = λ l h. elim h.0 [ inl e ↦ sym e | inr i ↦ absurd (none l (i, h.1)) ];
    }))
clashing_first m ms c here (inr (inl one)) =
    elim (literal_cases m one.pivot) [
      | inl same ↦ inr (inl (record {
        pivot = one.pivot;
        clashes = clashes_behind m ms c one.pivot one.clashes;
        only = λ l h. elim h.0 [ inl e ↦ sym e ∙ same | inr i ↦ one.only l (i, h.1) ];
      }))
      | inr other ↦ inr (inr (m, one.pivot, other, (inl refl, here), clashes_behind m ms c one.pivot one.clashes))
    ]
clashing_first m ms c here (inr (inr several)) = inr (inr (several_behind m ms c several))

-- none clashes, one does, or several do
how_many_clash : (r c : Lits) → HowManyClash r c
how_many_clash [] c = inl (λ l h. h.0)
how_many_clash (m ∷ ms) c =
    elim (has_cases c (negation m)) [
      | inl here ↦ clashing_first m ms c here (how_many_clash ms c)
      | inr quiet ↦ quiet_first m ms c quiet (how_many_clash ms c)
    ]

-- where one literal clashes there is a resolvent
step_exists : (r c : Lits) → OneClashes r c → (s : Lits) × Step r c s
step_exists r c one = (resolvent_on one.pivot r c, step_on r c one.pivot one.clashes one.only)

-- a chain that was followed to its end comes to what is stated, or to something else
stop_exists : (index : ℕ) (stated : Option Lits) (r : Lits) → (end : Result (Unit {0}) ChainError) × EndsAt index stated r end
stop_exists index None r = (Ok tt, refl)
stop_exists index (Some stated) r =
    elim (same_set_cases r stated) [
      | inl same ↦ (Ok tt, inl (same, refl))
      | inr other ↦ (Err (ChainError.Other index), inr (other, refl))
    ]

-- a chain has an end, from each of its steps on
end_exists : (index : ℕ) (stated : Option Lits) (step : ℕ) (r : Lits) (cs : List Lits)
    → (end : Result (Unit {0}) ChainError) × ChainEnds index stated step r cs end
end_exists index stated step r [] = stop_exists index stated r
end_exists index stated step r (c ∷ cs) =
    elim (how_many_clash r c) [
      | inl none ↦ (Err (ChainError.NoClash index step), inl (none, refl))
      | inr some ↦ elim some [
        | inr several ↦ (Err (ChainError.ManyClash index step), inr (inl (several, refl)))
        | inl one ↦
            let next = step_exists r c one in
            let rest = end_exists index stated (step + 1) next.0 cs in
            (rest.0, inr (inr (next.0, next.1, rest.1)))
      ]
    ]

-- the chain of a derived clause has an end
pub chain_end_exists : (index : ℕ) (stated : Option Lits) (r : Lits) (cs : List Lits)
    → (end : Result (Unit {0}) ChainError) × ChainFault index stated (r ∷ cs) end
chain_end_exists index stated r cs = end_exists index stated 1 r cs
