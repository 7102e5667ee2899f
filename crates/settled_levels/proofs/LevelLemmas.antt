-- What keeps the levels settled.
use Rattle.std.proofs.Common.{◌≡◌, ◌≢◌, ℕ, ◌+◌, ◌<◌, ◌≤◌, inl, inr, take, Some, sym, ◌∙◌, arith}
use Rattle.std.proofs.lemmas.Bool.{cases_lt}
use Rattle.clause_defs.specs.Literals.{Literal, negation}
use Rattle.clause_defs.specs.Clauses.{Lits, Has}
use Rattle.clause_laws.proofs.LiteralLemmas.{literal_cases}
use Rattle.chain_check.proofs.ClauseLists.{Has-take}
use Rattle.trail_defs.specs.Assignments.{IsFree, IsConflict, IsSettled}
use Rattle.trail_defs.specs.Trails.{Assigned, clause_at, level_of, IsTrail}
use Rattle.conflict_chain.proofs.StepLemmas.{consistent}
use Rattle.conflict_analysis.proofs.EndLemmas.{has_place, at_take}
use Rattle.settled_levels.specs.Levels.{IsFront, IsSettledBelow, IsTaught}

module _ (t : Assigned) (known : IsTrail t) (c : Lits) (u : Literal) (b : ℕ) (taught : IsTaught t c u b) where
  -- its other literals have their values up to level b
  valued : (n : ℕ) → IsFront t b n → (x : Literal) → Has c x → x ≢ u → Has (take n t.lits) (negation x)
  valued n front x h other =
      let at = has_place t.lits (negation x) (taught.all_false x h) in
      elim (cases_lt at.0 n) [
        | inl lt ↦ at_take t.lits n at.0 (negation x) at.1 lt
        | inr past ↦
            let gone : b < level_of t x = front.gone at.0 (negation x) at.1 past in
            let most = taught.most x h other in
            absurd (omega arith)
      ]

  -- so it isn't settled there
  not_settled : (n : ℕ) → IsFront t b n → IsSettled (take n t.lits) c → ⊥
  not_settled n front (inl (x, h, true_there)) =
      consistent t.lits x known.assignment.apart (Has-take t.lits n x true_there) (taught.all_false x h)
  not_settled n front (inr (x, y, differ, (h, free_x), (k, free_y))) =
      elim (literal_cases x u) [
        | inr other ↦ free_x.1 (valued n front x h other)
        | inl same ↦ elim (literal_cases y u) [
          | inr other ↦ free_y.1 (valued n front y k other)
          | inl also ↦ differ (same ∙ sym also)
        ]
      ]

  -- and isn't live
  pub taught_is_new : IsSettledBelow t → (n : ℕ) → IsFront t b n → (k : ℕ) → clause_at t.clauses k ≡ Some c → ⊥
  taught_is_new settled n front k live = not_settled n front (settled k c live b n taught.lower front)

  -- a literal of a higher level is free at a front below
  free_below : (a n : ℕ) → IsFront t a n → (x : Literal) → Has c x → a < level_of t x → IsFree (take n t.lits) x
  free_below a n front x h high = (
    λ is. consistent t.lits x known.assignment.apart (Has-take t.lits n x is) (taught.all_false x h),
    λ is. let low : level_of t x ≤ a = front.left (negation x) is in absurd (omega arith),
  )

  -- below the level that it goes back to it has two literals without a value
  pub taught_is_open : (a n : ℕ) → a < b → IsFront t a n → IsSettled (take n t.lits) c
  taught_is_open a n less front = elim taught.reached [
    | inl none ↦ absurd (omega arith)
    | inr some ↦
        let lower = taught.lower in
        let own = taught.own in
        let level = some.3 in
        inr (
          u,
          some.0,
          (λ e. some.2 (sym e)),
          (taught.there, free_below a n front u taught.there (omega arith)),
          (some.1, free_below a n front some.0 some.1 (omega arith)),
        )
  ]

-- a conflict has a literal of the present level
pub conflict_is_present : (t : Assigned) → IsTrail t → (c : Lits) (n b : ℕ) → IsConflict t.lits c → b + 1 ≡ t.present → IsFront t b n
    → IsSettled (take n t.lits) c → (x : Literal) × Has c x × (level_of t x ≡ t.present)
conflict_is_present t known c n b all_false next front (inl (x, h, true_there)) =
    absurd (consistent t.lits x known.assignment.apart (Has-take t.lits n x true_there) (all_false x h))
conflict_is_present t known c n b all_false next front (inr (x, y, differ, (h, free_x), rest)) =
    let at = has_place t.lits (negation x) (all_false x h) in
    let top : level_of t x ≤ t.present = known.top (negation x) (all_false x h) in
    elim (cases_lt at.0 n) [
      | inl lt ↦ absurd (free_x.1 (at_take t.lits n at.0 (negation x) at.1 lt))
      | inr past ↦ let gone : b < level_of t x = front.gone at.0 (negation x) at.1 past in (x, h, omega arith)
    ]
