-- What a trail keeps when a clause goes that is no reason.
use Rattle.std.proofs.Common.{◌≡◌, ◌≢◌, ℕ, zero, suc, ◌+◌, ◌*◌, ◌/◌, ◌<◌, ◌≤◌, List, [], length, set, get_or, take, Option, None, inl, inr, refl, sym, ap, ◌∙◌, subst, arith, length-set, get_or-set_same, get_or-set_other}
use Rattle.std.proofs.lemmas.Bool.{cases_eq, cases_lt}
use Rattle.std.proofs.lemmas.List.{get_or_past}
use Rattle.clause_defs.specs.Literals.{Literal, code}
use Rattle.clause_defs.specs.Clauses.{Lits, Has}
use Rattle.link_lists.specs.Linked.{Linked, list_at}
use Rattle.trail_defs.specs.Trails.{clause_at, IsReason}
use Rattle.sat_trail.specs.Watching.{lit_at, lits_in, IsBound, IsWatched}
use Rattle.sat_trail.specs.Kept.{IsKept}
use Rattle.sat_trail.specs.Releases.{IsWithout, IsReleased, AreReleased}
use Rattle.sat_trail.specs.declared.levels.Stage.{Stage}
use Rattle.sat_trail.proofs.StageLemmas.{stages_still}
use Rattle.sat_trail.proofs.PlaceLemmas.{at_has}

-- no watch stands in a list that isn't there
pub without_past : (lists : List (List ℕ)) (l w : ℕ) → length lists ≤ l → list_at lists 0 ≡ [] → IsWithout lists l w lists
without_past lists l w past left = record {
  many = refl;
  were = λ k v h. h;
  kept = λ k v h. inr h;
  gone = λ h. let none : Has [] w = subst (λ ws. Has ws w) (get_or_past lists l [] past) h in none;
  left = left;
}

-- a number of a live clause is one more than a place
pub place_of_live : (clauses : List (Option Lits)) (k n : ℕ) → k ≡ suc n → clause_at clauses k ≢ None → n < length clauses
place_of_live clauses k n e live = elim (cases_lt n (length clauses)) [
  | inl lt ↦ lt
  | inr past ↦ absurd (live (ap (clause_at clauses) e ∙ get_or_past clauses n None past))
]

module _ (variables originals : ℕ) (clauses : List (Option Lits)) (t : Lits) (levels reasons : List ℕ) (stages : List Stage)
    (done : ℕ) (watch : Lits) (links : Linked) (kept : IsKept variables originals clauses t levels reasons stages done watch links)
    (n : ℕ) (in_range : n < length clauses) (learned : originals ≤ n) (no_reason : (l : Literal) → Has t l → get_or reasons l.variable 0 ≢ suc n)
    (clauses2 : List (Option Lits)) (is2 : clauses2 ≡ set clauses n None) (links2 : Linked) (size : links2.size ≡ links.size)
    (released : AreReleased links.lists watch n links2.lists) where
  at_n : get_or clauses2 n None ≡ None
  at_n = ap (λ cs. get_or cs n None) is2 ∙ get_or-set_same clauses n None None in_range

  at_other : (b : ℕ) → b ≢ n → get_or clauses2 b None ≡ get_or clauses b None
  at_other b ne = ap (λ cs. get_or cs b None) is2 ∙ get_or-set_other clauses n b None None ne

  live_still : (b : ℕ) → get_or clauses2 b None ≢ None → b ≢ n
  live_still b live e = live (ap (λ j. get_or clauses2 j None) e ∙ at_n)

  -- only watches of the clause were taken out
  mine : (k v : ℕ) → IsReleased watch n k v → v / 2 ≡ n
  mine k v (inl a) = let e = a.1 in omega arith
  mine k v (inr (inl a)) = let e = a.1 in omega arith
  mine k v (inr (inr a)) = let e = a.1 in omega arith

  kept_in : (k v : ℕ) → v / 2 ≢ n → Has (list_at links.lists k) v → Has (list_at links2.lists k) v
  kept_in k v ne h = elim (released.kept k v h) [
    | inl out ↦ absurd (ne (mine k v out))
    | inr there ↦ there
  ]

  -- what is bound was bound, and isn't the clause
  old_bound : (w : ℕ) → IsBound clauses2 (list_at links2.lists 1) w → IsBound clauses (list_at links.lists 1) w
  old_bound w bound =
      let ne = live_still (w / 2) bound.live in
      record {
        live = subst (λ o. o ≢ None) (at_other (w / 2) ne) bound.live;
        tied = λ h. bound.tied (kept_in 1 (2 * (w / 2)) (λ e. ne (omega arith)) h);
      }

  new_bound : (w : ℕ) → w / 2 ≢ n → IsBound clauses (list_at links.lists 1) w → IsBound clauses2 (list_at links2.lists 1) w
  new_bound w ne bound = record {
    live = subst (λ o. o ≢ None) (sym (at_other (w / 2) ne)) bound.live;
    tied = λ h. bound.tied (released.were 1 (2 * (w / 2)) h);
  }

  -- no watch of the clause is left in the list of its literal
  not_mine : (k w : ℕ) → code (lit_at watch w) ≡ k → Has (list_at links2.lists k) w → w / 2 ≢ n
  not_mine k w code_is h e = elim (cases_eq w (2 * n)) [
    | inl f ↦ released.gone k w (inr (inl (sym code_is ∙ ap (λ v. code (lit_at watch v)) f, f))) h
    | inr nf ↦
        let g : w ≡ 2 * n + 1 = omega arith in
        released.gone k w (inr (inr (sym code_is ∙ ap (λ v. code (lit_at watch v)) g, g))) h
  ]

  not_loose : (w : ℕ) → w ≡ 2 * (w / 2) → Has (list_at links2.lists 1) w → w / 2 ≢ n
  not_loose w even h e = released.gone 1 w (inl (refl, omega arith)) h

  watched_still : (u passed : Lits) → IsWatched clauses (list_at links.lists 1) watch u passed → IsWatched clauses2 (list_at links2.lists 1) watch u passed
  watched_still u passed watched w bound h = watched w (old_bound w bound) h

  reason_still : (before : Lits) (k : ℕ) (l : Literal) → k ≢ suc n → IsReason clauses before k l → IsReason clauses2 before k l
  reason_still before zero l ne reason = reason
  reason_still before (suc b) l ne reason = (reason.0, at_other b (λ e. ne (ap suc e)) ∙ reason.1, reason.2)

  pub kept_forgotten : IsKept variables originals clauses2 t levels reasons stages done watch links2
  kept_forgotten = record {
    over = λ b d e. kept.over b d (sym (at_other b (live_still b (λ none. absurd (cc)))) ∙ e);
    live = λ b lt none. kept.live b lt (sym (at_other b (λ e. absurd (omega arith))) ∙ none);
    sizes = record {
      size = let a = kept.sizes.size in let b = ap length is2 ∙ length-set clauses n None in omega arith;
      few = let a = kept.sizes.few in omega arith;
      lists = released.many ∙ kept.sizes.lists;
    };
    watches = record {
      size = let a = kept.watches.size in let b = ap length is2 ∙ length-set clauses n None in omega arith;
      members = λ w bound. subst (λ ls. Has ls (lit_at watch w)) (sym (ap lits_in (at_other (w / 2) (live_still (w / 2) bound.live)))) (kept.watches.members w (old_bound w bound));
      two = λ w bound. kept.watches.two w (old_bound w bound);
    };
    listed = record {
      there = λ w bound. kept_in (code (lit_at watch w)) w (live_still (w / 2) bound.live) (kept.listed.there w (old_bound w bound));
      only = λ k w two h.
          let was = kept.listed.only k w two (released.were k w h) in
          (new_bound w (not_mine k w was.1 h) was.0, was.1);
      loose_are = λ w. (λ h. h, λ h. h);
      even = λ w h.
          let was = kept.listed.even w (released.were 1 w h) in
          (was.0, subst (λ o. o ≢ None) (sym (at_other (w / 2) (not_loose w was.0 h))) was.1);
      left = released.left;
    };
    stages_are = stages_still clauses clauses2 (list_at links.lists 1) (list_at links2.lists 1) watch t done stages watched_still kept.stages_are;
    marked = record {
      level_size = kept.marked.level_size;
      reason_size = kept.marked.reason_size;
      levels_are = kept.marked.levels_are;
      top = kept.marked.top;
      implied = λ i l at some. reason_still (take i t) (get_or reasons l.variable 0) l (no_reason l (at_has t i l at)) (kept.marked.implied i l at some);
      decided = kept.marked.decided;
    };
  }
