-- What is settled when all literals were passed on.
use Rattle.std.proofs.Common.{◌≡◌, ◌⊎◌, ℕ, ◌*◌, ◌/◌, List, [], ◌∷◌, get_or, Option, Some, None, inl, inr, sym, ap, ◌∙◌, subst, arith}
use Rattle.std.proofs.lemmas.Bool.{cases_eq}
use Rattle.clause_defs.specs.Literals.{Literal, code}
use Rattle.clause_defs.specs.Clauses.{Lits, Has}
use Rattle.pch_base.specs.LitCodes.{code_injective}
use Rattle.trail_defs.specs.Assignments.{IsSettled}
use Rattle.link_lists.specs.Linked.{list_at}
use Rattle.sat_trail.specs.Loosening.{AreSettledIn}
use Rattle.sat_trail.specs.Watching.{lit_at, other, lits_in, lits_at, IsBound, AreWatches, IsWatched}
use Rattle.sat_trail.proofs.OtherLemmas.{other_half, other_other, bound_other}

-- a literal is in the list, or it isn't
pub has_cases : (t : Lits) (l : Literal) → Has t l ⊎ (Has t l → ⊥)
has_cases [] l = inr (λ none. none)
has_cases (k ∷ ks) l = elim (cases_eq (code k) (code l)) [
  | inl e ↦ inl (inl (code_injective k l e))
  | inr ne ↦ elim (has_cases ks l) [
    | inl there ↦ inl (inr there)
    | inr out ↦ inr (λ h. elim h [
      | inl same ↦ ne (ap code same)
      | inr there ↦ out there
    ])
  ]
]

module _ (clauses : List (Option Lits)) (loose : List ℕ) (watch t : Lits) (watches : AreWatches clauses loose watch)
    (watched : IsWatched clauses loose watch t t) (w : ℕ) (bound : IsBound clauses loose w) where
  first_in : Has (lits_at clauses (w / 2)) (lit_at watch w)
  first_in = watches.members w bound

  second_in : Has (lits_at clauses (w / 2)) (lit_at watch (other w))
  second_in = subst (λ b. Has (lits_at clauses b) (lit_at watch (other w))) (other_half w)
      (watches.members (other w) (bound_other clauses loose w bound))

  -- a clause that is bound has a true literal, or its two watches are without a value
  pub bound_settled : IsSettled t (lits_at clauses (w / 2))
  bound_settled = elim (has_cases t (lit_at watch w)) [
    | inl first ↦ inl (lit_at watch w, first_in, first)
    | inr not_first ↦ elim (has_cases t (lit_at watch (other w))) [
      | inl second ↦ inl (lit_at watch (other w), second_in, second)
      | inr not_second ↦ inr (
        lit_at watch w,
        lit_at watch (other w),
        watches.two w bound,
        (first_in, (not_first, λ f. not_second (watched w bound f))),
        (second_in, (not_second, λ f. not_first (subst (λ u. Has t (lit_at watch u)) (other_other w) (watched (other w) (bound_other clauses loose w bound) f)))),
      )
    ]
  ]

-- a number is in the list, or it isn't
pub number_cases : (ws : List ℕ) (w : ℕ) → Has ws w ⊎ (Has ws w → ⊥)
number_cases [] w = inr (λ none. none)
number_cases (v ∷ vs) w = elim (cases_eq v w) [
  | inl e ↦ inl (inl e)
  | inr ne ↦ elim (number_cases vs w) [
    | inl there ↦ inl (inr there)
    | inr out ↦ inr (λ h. elim h [
      | inl same ↦ ne same
      | inr there ↦ out there
    ])
  ]
]

-- each live clause is settled: the loose ones have a true literal, and the others are watched
pub all_settled : (clauses : List (Option Lits)) (lists : List (List ℕ)) (watch t : Lits) → AreWatches clauses (list_at lists 1) watch
    → IsWatched clauses (list_at lists 1) watch t t → AreSettledIn clauses lists t
    → (b : ℕ) (c : Lits) → get_or clauses b None ≡ Some c → IsSettled t c
all_settled clauses lists watch t watches watched loose b c e =
    let half : 2 * b / 2 ≡ b = omega arith in
    let is : lits_at clauses (2 * b / 2) ≡ c = ap (lits_at clauses) half ∙ ap lits_in e in
    subst (IsSettled t) is (elim (number_cases (list_at lists 1) (2 * b)) [
      | inl there ↦ inl (loose (2 * b) there)
      | inr out ↦ bound_settled clauses (list_at lists 1) watch t watches watched (2 * b) (record {
        live = λ none. let a : get_or clauses b None ≡ None = ap (λ k. get_or clauses k None) (sym half) ∙ none in absurd (cc);
        tied = subst (λ k. Has (list_at lists 1) (2 * k) → ⊥) (sym half) out;
      })
    ])
