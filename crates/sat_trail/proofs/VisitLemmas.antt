-- One watch of a literal that became false is visited: it is taken from list 0 and put into the list of its
-- literal, which may be another one then.
use Rattle.std.proofs.Common.{◌≡◌, ◌≢◌, ◌⊎◌, ℕ, ◌<◌, ◌≤◌, List, [], ◌∷◌, length, set, Option, inl, inr, refl, sym, ap, ◌∙◌, subst, arith, get_or-set_same, get_or-set_other}
use Rattle.std.proofs.lemmas.Bool.{cases_eq}
use Rattle.clause_defs.specs.Literals.{Literal, code}
use Rattle.clause_defs.specs.Clauses.{Lits, Has}
use Rattle.pch_base.specs.LitCodes.{code_injective}
use Rattle.link_lists.specs.Linked.{list_at}
use Rattle.sat_trail.specs.Watching.{lit_at, other, IsBound, AreWatches, AreVisited, AreAnswered}
use Rattle.sat_trail.proofs.OtherLemmas.{other_ne}
use Rattle.sat_trail.proofs.MoveLemmas.{IsMoved}

module _ (clauses : List (Option Lits)) (loose : List ℕ) (watch later : Lits) (x m : Literal)
    (lists popped pushed : List (List ℕ)) (w p : ℕ) (visited : AreVisited clauses loose watch lists x)
    (first : list_at lists 0 ≡ w ∷ list_at popped 0) (rest : popped ≡ set lists 0 (list_at popped 0))
    (out : (k : ℕ) → Has (list_at popped k) w → ⊥)
    (p_is : p ≡ code m) (high : 2 ≤ p) (inside : p < length popped) (put : pushed ≡ set popped p (w ∷ list_at popped p))
    (moved : IsMoved watch later w m) where
  -- the watch is one of x
  pub in_hand : IsBound clauses loose w × (lit_at watch w ≡ x)
  in_hand = visited.left w (subst (λ ws. Has ws w) (sym first) (inl refl))

  -- lists but 0 and p are as before
  popped_other : (k : ℕ) → k ≢ 0 → list_at popped k ≡ list_at lists k
  popped_other k ne = ap (λ ls. list_at ls k) rest ∙ get_or-set_other lists 0 k (list_at popped 0) [] ne

  pushed_other : (k : ℕ) → k ≢ p → list_at pushed k ≡ list_at popped k
  pushed_other k ne = ap (λ ls. list_at ls k) put ∙ get_or-set_other popped p k (w ∷ list_at popped p) [] ne

  pushed_p : list_at pushed p ≡ w ∷ list_at popped p
  pushed_p = ap (λ ls. list_at ls p) put ∙ get_or-set_same popped p (w ∷ list_at popped p) [] inside

  -- what was in a list still is
  still : (k v : ℕ) → Has (list_at popped k) v → Has (list_at pushed k) v
  still k v has = elim (cases_eq k p) [
    | inl e ↦ subst (λ j. Has (list_at pushed j) v) (sym e) (subst (λ ws. Has ws v) (sym pushed_p) (inr (subst (λ j. Has (list_at popped j) v) e has)))
    | inr ne ↦ subst (λ ws. Has ws v) (sym (pushed_other k ne)) has
  ]

  -- what is in a list came there now, or was there
  came : (k v : ℕ) → Has (list_at pushed k) v → ((k ≡ p) × (w ≡ v)) ⊎ Has (list_at popped k) v
  came k v has = elim (cases_eq k p) [
    | inl e ↦ elim (subst (λ ws. Has ws v) pushed_p (subst (λ j. Has (list_at pushed j) v) e has)) [
      | inl same ↦ inl (e, same)
      | inr old ↦ inr (subst (λ j. Has (list_at popped j) v) (sym e) old)
    ]
    | inr ne ↦ inr (subst (λ ws. Has ws v) (pushed_other k ne) has)
  ]

  apart_from_w : (k v : ℕ) → Has (list_at popped k) v → v ≢ w
  apart_from_w k v has e = out k (subst (Has (list_at popped k)) e has)

  -- a code of a watched literal is neither 0 nor 1
  module _ (codes : (v : ℕ) → IsBound clauses loose v → 2 ≤ code (lit_at watch v)) where
    there_still : (v : ℕ) → IsBound clauses loose v → Has (list_at pushed (code (lit_at later v))) v ⊎ Has (list_at pushed 0) v
    there_still v bound = elim (cases_eq v w) [
      | inl e ↦ inl (subst (λ u. Has (list_at pushed (code (lit_at later u))) u) (sym e)
          (subst (λ k. Has (list_at pushed k) w) (p_is ∙ ap code (sym moved.at)) (subst (λ ws. Has ws w) (sym pushed_p) (inl refl))))
      | inr ne ↦ elim (visited.there v bound) [
        | inl listed ↦
            let high_v = codes v bound in
            let in_popped : Has (list_at popped (code (lit_at watch v))) v =
            subst (λ ws. Has ws v) (sym (popped_other (code (lit_at watch v)) (λ z. absurd (omega arith)))) listed in
            inl (subst (λ l. Has (list_at pushed (code l)) v) (sym (moved.others v ne)) (still (code (lit_at watch v)) v in_popped))
        | inr pending ↦ elim (subst (λ ws. Has ws v) first pending) [
          | inl same ↦ absurd (ne (sym same))
          | inr behind ↦ inr (still 0 v behind)
        ]
      ]
    ]

    only_still : (k v : ℕ) → 2 ≤ k → Has (list_at pushed k) v → IsBound clauses loose v × (code (lit_at later v) ≡ k)
    only_still k v two has = elim (came k v has) [
      | inl now ↦ subst (λ u. IsBound clauses loose u × (code (lit_at later u) ≡ k)) now.1 (in_hand.0, ap code moved.at ∙ sym p_is ∙ sym now.0)
      | inr old ↦
          let was = visited.only k v two (subst (λ ws. Has ws v) (popped_other k (λ z. absurd (omega arith))) old) in
          (was.0, ap code (moved.others v (apart_from_w k v old)) ∙ was.1)
    ]

    left_still : (v : ℕ) → Has (list_at pushed 0) v → IsBound clauses loose v × (lit_at later v ≡ x)
    left_still v has = elim (came 0 v has) [
      | inl now ↦ let z = now.0 in absurd (omega arith)
      | inr old ↦
          let was = visited.left v (subst (λ ws. Has ws v) (sym first) (inr old)) in
          (was.0, moved.others v (apart_from_w 0 v old) ∙ was.1)
    ]

    -- and list 1 stays
    pub one_same : list_at pushed 1 ≡ list_at lists 1
    one_same = pushed_other 1 (λ e. absurd (omega arith)) ∙ popped_other 1 (λ e. absurd (omega arith))

    -- the watches stand in the lists of their literals
    pub visited_on : AreVisited clauses loose later pushed x
    visited_on = record {
      there = there_still;
      only = only_still;
      loose_are = λ v. (λ h. (visited.loose_are v).0 (subst (λ ws. Has ws v) one_same h), λ h. subst (λ ws. Has ws v) (sym one_same) ((visited.loose_are v).1 h));
      even = visited.even;
      left = left_still;
    }

    -- Those that came back to the list of x have a true literal beside them, if this one has or went elsewhere.
    pub answered_on : (watches : AreWatches clauses loose watch) (t later_t : Lits) → ((l : Literal) → Has t l → Has later_t l)
        → 2 ≤ code x → AreAnswered watch lists t x → (m ≡ x → Has later_t (lit_at watch (other w))) → AreAnswered later pushed later_t x
    answered_on watches t later_t grows two answered beside v has = elim (came (code x) v has) [
      | inl now ↦
          subst (λ u. Has later_t (lit_at later (other u))) now.1
          (subst (Has later_t) (sym (moved.others (other w) (other_ne w)))
          (beside (code_injective m x (sym (now.0 ∙ p_is)))))
      | inr old ↦
          let in_lists = subst (λ ws. Has ws v) (popped_other (code x) (λ z. absurd (omega arith))) old in
          let was = visited.only (code x) v two in_lists in
          let ne : other v ≢ w = λ e. watches.two v was.0 (code_injective (lit_at watch v) x was.1 ∙ sym in_hand.1 ∙ ap (lit_at watch) (sym e)) in
          subst (Has later_t) (sym (moved.others (other v) ne)) (grows (lit_at watch (other v)) (answered v in_lists))
    ]
