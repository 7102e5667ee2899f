-- Which clauses are bound depends only on which are loose, and not on their order.
use Rattle.std.proofs.Common.{◌≡◌, ◌≢◌, ◌⊎◌, ◌↔◌, ℕ, ◌+◌, ◌*◌, ◌/◌, List, length, take, Option, inl, inr, sym, ap, ◌∙◌, subst, arith}
use Rattle.std.proofs.lemmas.Bool.{cases_eq}
use Rattle.clause_defs.specs.Literals.{Literal, negation}
use Rattle.clause_defs.specs.Clauses.{Lits, Has}
use Rattle.sat_trail.specs.Watching.{lit_at, other, IsBound, IsWatched}
use Rattle.sat_trail.specs.Stages.{stage_at, AreStages}
use Rattle.sat_trail.specs.declared.levels.Stage.{Stage}
use Rattle.sat_trail.proofs.OtherLemmas.{other_half, other_of_odd}

-- the two lists have the same numbers
abbrev pub SameNumbers : List ℕ → List ℕ → Type 0
SameNumbers xs ys = (w : ℕ) → Has xs w ↔ Has ys w

pub bound_same : (clauses : List (Option Lits)) (loose loose2 : List ℕ) → SameNumbers loose loose2 → (w : ℕ) → IsBound clauses loose2 w → IsBound clauses loose w
bound_same clauses loose loose2 same w bound = record { live = bound.live; tied = λ h. bound.tied ((same (2 * (w / 2))).0 h) }

pub watched_same : (clauses : List (Option Lits)) (loose loose2 : List ℕ) (watch t passed : Lits) → SameNumbers loose loose2
    → IsWatched clauses loose watch t passed → IsWatched clauses loose2 watch t passed
watched_same clauses loose loose2 watch t passed same watched w bound has = watched w (bound_same clauses loose loose2 same w bound) has

pub stages_same : (clauses : List (Option Lits)) (loose loose2 : List ℕ) (watch t : Lits) (done : ℕ) (stages : List Stage) → SameNumbers loose loose2
    → AreStages clauses loose watch t done stages → AreStages clauses loose2 watch t done stages
stages_same clauses loose loose2 watch t done stages same are = record {
  passed = are.passed;
  now = watched_same clauses loose loose2 watch t (take done t) same are.now;
  each = λ j lt.
      let e = are.each j lt in
      (e.0, watched_same clauses loose loose2 watch (take (stage_at stages j).len t) (take (stage_at stages j).done t) same e.1);
  rising = are.rising;
}

-- ---- a loose clause is bound by two of its literals that aren't false

module _ (clauses : List (Option Lits)) (loose loose2 : List ℕ) (watch : Lits) (b : ℕ) (first second : Literal)
    (was : (w : ℕ) → Has loose w ↔ ((w ≡ 2 * b) ⊎ Has loose2 w)) (gone : Has loose2 (2 * b) → ⊥) where
  -- a clause that is bound now was bound, or is this one
  pub bound_cases : (w : ℕ) → IsBound clauses loose2 w → IsBound clauses loose w ⊎ (w / 2 ≡ b)
  bound_cases w bound = elim (cases_eq (w / 2) b) [
    | inl e ↦ inr e
    | inr ne ↦ inl (record {
      live = bound.live;
      tied = λ h. elim ((was (2 * (w / 2))).0 h) [
        | inl same ↦ ne (omega arith)
        | inr there ↦ bound.tied there
      ];
    })
  ]

  module _ (later : Lits) (size : length later ≡ length watch) (at_first : lit_at later (2 * b) ≡ first) (at_second : lit_at later (2 * b + 1) ≡ second)
      (others : (w : ℕ) → w / 2 ≢ b → lit_at later w ≡ lit_at watch w) where
    -- What was watched stays so: the first new watch binds nothing, and where the second one is false the first one
    -- is true.
    pub bound_watched : (t passed : Lits) → (Has passed (negation first) → ⊥) → (Has passed (negation second) → Has t first)
        → IsWatched clauses loose watch t passed → IsWatched clauses loose2 later t passed
    bound_watched t passed open_first beside_second watched w bound has = elim (cases_eq (w / 2) b) [
      | inl e ↦ elim (cases_eq w (2 * b)) [
        | inl f ↦ absurd (open_first (subst (λ l. Has passed (negation l)) (ap (lit_at later) f ∙ at_first) has))
        | inr nf ↦
            let g : w ≡ 2 * b + 1 = omega arith in
            let back : other w ≡ 2 * b = ap other g ∙ other_of_odd (2 * b) (omega arith) in
            subst (Has t) (sym (ap (lit_at later) back ∙ at_first))
            (beside_second (subst (λ l. Has passed (negation l)) (ap (lit_at later) g ∙ at_second) has))
      ]
      | inr ne ↦ elim (bound_cases w bound) [
        | inr e ↦ absurd (ne e)
        | inl old ↦
            let same = others w ne in
            let beside = others (other w) (λ e. ne (sym (other_half w) ∙ e)) in
            subst (Has t) (sym beside) (watched w old (subst (λ l. Has passed (negation l)) same has))
      ]
    ]
