-- A step of a chain, literal by literal of its antecedent.
use Rattle.std.proofs.Common.{◌≡◌, ◌≢◌, ℕ, ◌+◌, ◌<◌, ◌↔◌, ◌⊎◌, inl, inr, length, get_or, take, Option, Some, None, sym, ◌∙◌, ap, subst}
use Rattle.clause_defs.specs.Literals.{Literal, negation}
use Rattle.clause_defs.specs.Clauses.{Lits, Has}
use Rattle.clause_defs.specs.Resolution.{Clashes, Step, NoClash, ManyClash}
use Rattle.clause_laws.proofs.LiteralLemmas.{literal_cases, negation-negation}
use Rattle.chain_check.specs.Steps.{IsPivot, AddsToStep, RepeatsNone}
use Rattle.chain_check.proofs.ClauseLists.{Has-take_more, Has-take, has_cases, negation_swap, not_own_negation}

module _ (r c : Lits) (i : ℕ) (l : Literal) (lt : i < length c) (read : l ≡ get_or c i l) where
  -- the next literal doesn't clash, and is added
  pub adds_more : (f g : Lits) → (Has r (negation l) → ⊥) → ((x : Literal) → Has g x ↔ (Has f x ⊎ ((x ≡ l) × (Has r x → ⊥))))
      → AddsToStep r (take i c) f → AddsToStep r (take (i + 1) c) g
  adds_more f g calm added before x =
      let more = Has-take_more c i l x lt read in (
        λ h. elim ((added x).0 h) [
          | inl k ↦ let old = (before x).0 k in (more.1 (inl old.0), old.1, old.2)
          | inr k ↦ (more.1 (inr (sym k.0)), (λ o. calm (subst (λ m. Has r (negation m)) k.0 o)), k.1)
        ],
        λ h. elim (more.0 h.0) [
          | inl k ↦ (added x).1 (inl ((before x).1 (k, h.1, h.2)))
          | inr e ↦ (added x).1 (inr (sym e, h.2))
        ],
      )

  -- with a literal more that isn't in the running clause, or clashes with it, none is repeated if none was
  pub repeats_still : (Has r l → Has r (negation l)) → RepeatsNone r (take i c) → RepeatsNone r (take (i + 1) c)
  repeats_still calm before x h there =
      elim ((Has-take_more c i l x lt read).0 h) [
        | inl k ↦ before x k there
        | inr e ↦ subst (λ m. Has r (negation m)) e (calm (subst (Has r) (sym e) there))
      ]

  -- one more literal whose negation isn't in the running clause clashes with none
  none_still : (Has r (negation l) → ⊥) → NoClash r (take i c) → NoClash r (take (i + 1) c)
  none_still calm before x h =
      elim ((Has-take_more c i l (negation x) lt read).0 h.1) [
        | inl k ↦ before x (h.0, k)
        | inr e ↦ calm (subst (Has r) (negation_swap x l (sym e)) h.0)
      ]

  -- one more literal whose negation isn't in the running clause leaves the pivot as it is
  pub pivot_same : (p : Option Literal) → (Has r (negation l) → ⊥) → IsPivot r (take i c) p → IsPivot r (take (i + 1) c) p
  pivot_same None calm before = none_still calm before
  pivot_same (Some p) calm before = (
    (before.0.0, (Has-take_more c i l (negation p) lt read).1 (inl before.0.1)),
    λ x h. elim ((Has-take_more c i l (negation x) lt read).0 h.1) [
      | inl k ↦ before.1 x (h.0, k)
      | inr e ↦ absurd (calm (subst (Has r) (negation_swap x l (sym e)) h.0))
    ],
  )

  -- the next literal clashes, and is not
  pub adds_same : (f : Lits) → Has r (negation l) → AddsToStep r (take i c) f → AddsToStep r (take (i + 1) c) f
  adds_same f clash before x =
      let more = Has-take_more c i l x lt read in (
        λ h. let old = (before x).0 h in (more.1 (inl old.0), old.1, old.2),
        λ h. elim (more.0 h.0) [
          | inl k ↦ (before x).1 (k, h.1, h.2)
          | inr e ↦ absurd (h.1 (subst (λ m. Has r (negation m)) e clash))
        ],
      )

  -- the literal that clashes is the pivot where no other one does
  pivot_new : Has r (negation l) → ((x : Literal) → Clashes r (take i c) x → x ≡ negation l) → IsPivot r (take (i + 1) c) (Some (negation l))
  pivot_new clash before = (
    (clash, (Has-take_more c i l (negation (negation l)) lt read).1 (inr (sym (negation-negation l)))),
    λ x h. elim ((Has-take_more c i l (negation x) lt read).0 h.1) [
      | inl k ↦ before x (h.0, k)
      | inr e ↦ negation_swap x l (sym e)
    ],
  )

  -- the first clashing literal becomes the pivot
  pub pivot_first : Has r (negation l) → IsPivot r (take i c) None → IsPivot r (take (i + 1) c) (Some (negation l))
  pivot_first clash before = pivot_new clash (λ x h. absurd (before x h))

  -- a literal that stands twice in the antecedent clashes once
  pub pivot_again : (p : Literal) → Has r (negation l) → p ≡ negation l → IsPivot r (take i c) (Some p) → IsPivot r (take (i + 1) c) (Some p)
  pivot_again p clash same before =
      subst (λ q. IsPivot r (take (i + 1) c) (Some q)) (sym same) (pivot_new clash (λ x h. before.1 x h ∙ same))

  -- a second literal clashes
  pub several : (p : Literal) → IsPivot r (take i c) (Some p) → Has r (negation l) → Has c l → p ≢ negation l → ManyClash r c
  several p before clash there other =
      (p, negation l, other, (before.0.0, Has-take c i (negation p) before.0.1), (clash, subst (Has c) (sym (negation-negation l)) there))

module _ (r c f s : Lits) (p : Literal) (pivot : IsPivot r c (Some p)) (adds : AddsToStep r c f)
    (joined : (x : Literal) → Has s x ↔ (Has r x ⊎ Has f x)) where
  -- what the step adds is of the antecedent, and isn't the negation of the pivot
  added_from : (x : Literal) → Has f x → Has c x × (x ≢ negation p)
  added_from x h =
      let k = (adds x).0 h in
      (k.0, λ e. k.1 (subst (Has r) (sym (ap negation e ∙ negation-negation p)) pivot.0.0))

  -- the antecedent's other literals are there after the step
  there_from : (x : Literal) → Has c x → x ≢ negation p → Has r x ⊎ Has f x
  there_from x in_c other =
      elim (has_cases r x) [
        | inl h ↦ inl h
        | inr new ↦ inr ((adds x).1 (in_c, (λ h. other (negation_swap x p (pivot.1 (negation x) (h, subst (Has c) (sym (negation-negation x)) in_c)))), new))
      ]

  -- the antecedent has the pivot too, which stays
  pub step_kept : Has c p → Step r c s
  step_kept both = record {
    pivot = p;
    clashes = pivot.0;
    only = pivot.1;
    resolvent = λ x. (
      λ h. elim ((joined x).0 h) [
        | inl k ↦ elim (literal_cases x p) [ inl e ↦ inr (subst (Has c) (sym e) both, λ o. not_own_negation p (sym e ∙ o)) | inr ne ↦ inl (k, ne) ]
        | inr k ↦ inr (added_from x k)
      ],
      λ h. (joined x).1 (elim h [ inl k ↦ inl k.0 | inr k ↦ there_from x k.0 k.1 ]),
    );
  }

  -- or it doesn't, and the pivot is taken out
  pub step_removed : (Has c p → ⊥) → (q : Lits) → ((x : Literal) → Has q x ↔ (Has s x × (x ≢ p))) → Step r c q
  step_removed absent q removed = record {
    pivot = p;
    clashes = pivot.0;
    only = pivot.1;
    resolvent = λ x. (
      λ h. let k = (removed x).0 h in elim ((joined x).0 k.0) [ inl o ↦ inl (o, k.1) | inr o ↦ inr (added_from x o) ],
      λ h. elim h [
        | inl k ↦ (removed x).1 ((joined x).1 (inl k.0), k.1)
        | inr k ↦ (removed x).1 ((joined x).1 (there_from x k.0 k.1), λ e. absent (subst (Has c) e k.0))
      ],
    );
  }

-- a clause that repeats no literal of the running clause doesn't have the pivot
pub pivot_absent : (r c : Lits) (p : Literal) → IsPivot r c (Some p) → RepeatsNone r c → Has c p → ⊥
pivot_absent r c p pivot none there =
    let clash : Clashes r c (negation p) = (none p there pivot.0.0, subst (Has c) (sym (negation-negation p)) there) in
    not_own_negation p (sym (pivot.1 (negation p) clash))
