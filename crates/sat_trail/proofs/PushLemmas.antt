-- A number was put in front of a list.
use Rattle.std.proofs.Common.{◌≡◌, ◌≢◌, ◌⊎◌, ℕ, ◌<◌, List, [], ◌∷◌, length, set, inl, inr, refl, sym, ap, ◌∙◌, subst, get_or-set_same, get_or-set_other}
use Rattle.std.proofs.lemmas.Bool.{cases_eq}
use Rattle.clause_defs.specs.Clauses.{Has}
use Rattle.link_lists.specs.Linked.{list_at}

module _ (lists pushed : List (List ℕ)) (p x : ℕ) (inside : p < length lists) (put : pushed ≡ set lists p (x ∷ list_at lists p)) where
  pub push_at : list_at pushed p ≡ x ∷ list_at lists p
  push_at = ap (λ ls. list_at ls p) put ∙ get_or-set_same lists p (x ∷ list_at lists p) [] inside

  pub push_other : (k : ℕ) → k ≢ p → list_at pushed k ≡ list_at lists k
  push_other k ne = ap (λ ls. list_at ls k) put ∙ get_or-set_other lists p k (x ∷ list_at lists p) [] ne

  pub push_in : Has (list_at pushed p) x
  push_in = subst (λ ws. Has ws x) (sym push_at) (inl refl)

  -- what was in a list still is
  pub push_still : (k v : ℕ) → Has (list_at lists k) v → Has (list_at pushed k) v
  push_still k v has = elim (cases_eq k p) [
    | inl e ↦ subst (λ j. Has (list_at pushed j) v) (sym e) (subst (λ ws. Has ws v) (sym push_at) (inr (subst (λ j. Has (list_at lists j) v) e has)))
    | inr ne ↦ subst (λ ws. Has ws v) (sym (push_other k ne)) has
  ]

  -- what is in a list came there now, or was there
  pub push_came : (k v : ℕ) → Has (list_at pushed k) v → ((k ≡ p) × (x ≡ v)) ⊎ Has (list_at lists k) v
  push_came k v has = elim (cases_eq k p) [
    | inl e ↦ elim (subst (λ ws. Has ws v) push_at (subst (λ j. Has (list_at pushed j) v) e has)) [
      | inl same ↦ inl (e, same)
      | inr old ↦ inr (subst (λ j. Has (list_at lists j) v) (sym e) old)
    ]
    | inr ne ↦ inr (subst (λ ws. Has ws v) (push_other k ne) has)
  ]
