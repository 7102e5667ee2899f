-- What a trail keeps when a clause comes: it is loose.
use Rattle.std.proofs.Common.{◌≡◌, ◌≢◌, ℕ, zero, suc, ◌*◌, ◌/◌, ◌<◌, ◌≤◌, List, ◌∷◌, length, set, get_or, take, Option, Some, None, inl, inr, sym, ap, ◌∙◌, subst, arith, length-set, get_or-set_same, get_or-set_other}
use Rattle.std.proofs.lemmas.Bool.{cases_eq}
use Rattle.clause_defs.specs.Literals.{Literal, code}
use Rattle.clause_defs.specs.Clauses.{Lits, Has, IsClause, WithinVariables}
use Rattle.link_lists.specs.Linked.{Linked, list_at}
use Rattle.trail_defs.specs.Trails.{IsReason}
use Rattle.sat_trail.specs.Watching.{lit_at, lits_in, lits_at, IsBound, IsWatched}
use Rattle.sat_trail.specs.Kept.{IsKept}
use Rattle.sat_trail.specs.declared.levels.Stage.{Stage}
use Rattle.sat_trail.proofs.StageLemmas.{stages_still}
use Rattle.sat_trail.proofs.PushLemmas.{push_at, push_other}
use Rattle.sat_trail.proofs.VisitCases.{code_high}

module _ (variables originals : ℕ) (clauses : List (Option Lits)) (t : Lits) (levels reasons : List ℕ) (stages : List Stage)
    (done : ℕ) (watch : Lits) (links : Linked) (kept : IsKept variables originals clauses t levels reasons stages done watch links)
    (n : ℕ) (c : Lits) (fresh : get_or clauses n None ≡ None) (in_range : n < length clauses) (clause : IsClause c) (within : WithinVariables variables c)
    (clauses2 : List (Option Lits)) (is2 : clauses2 ≡ set clauses n (Some c)) (links2 : Linked) (size : links2.size ≡ links.size)
    (p : ℕ) (p_is : p ≡ 2 * n) (put : links2.lists ≡ set links.lists 1 (p ∷ list_at links.lists 1)) where
  one_inside : 1 < length links.lists
  one_inside = let a = kept.sizes.lists in omega arith

  loose_is : list_at links2.lists 1 ≡ p ∷ list_at links.lists 1
  loose_is = push_at links.lists links2.lists 1 p one_inside put

  at_rest : (k : ℕ) → k ≢ 1 → list_at links2.lists k ≡ list_at links.lists k
  at_rest k ne = push_other links.lists links2.lists 1 p one_inside put k ne

  at_n : get_or clauses2 n None ≡ Some c
  at_n = ap (λ cs. get_or cs n None) is2 ∙ get_or-set_same clauses n (Some c) None in_range

  at_other : (b : ℕ) → b ≢ n → get_or clauses2 b None ≡ get_or clauses b None
  at_other b ne = ap (λ cs. get_or cs b None) is2 ∙ get_or-set_other clauses n b (Some c) None ne

  -- what is bound was bound, and isn't the new clause
  not_new : (w : ℕ) → IsBound clauses2 (list_at links2.lists 1) w → w / 2 ≢ n
  not_new w bound e = bound.tied (subst (λ ws. Has ws (2 * (w / 2))) (sym loose_is) (inl (p_is ∙ ap (λ b. 2 * b) (sym e))))

  old_bound : (w : ℕ) → IsBound clauses2 (list_at links2.lists 1) w → IsBound clauses (list_at links.lists 1) w
  old_bound w bound = record {
    live = subst (λ o. o ≢ None) (at_other (w / 2) (not_new w bound)) bound.live;
    tied = λ h. bound.tied (subst (λ ws. Has ws (2 * (w / 2))) (sym loose_is) (inr h));
  }

  live_old : (b : ℕ) → get_or clauses b None ≢ None → b ≢ n
  live_old b live e = live (ap (λ j. get_or clauses j None) e ∙ fresh)

  new_bound : (w : ℕ) → IsBound clauses (list_at links.lists 1) w → IsBound clauses2 (list_at links2.lists 1) w
  new_bound w bound =
      let ne = live_old (w / 2) bound.live in
      record {
        live = subst (λ o. o ≢ None) (sym (at_other (w / 2) ne)) bound.live;
        tied = λ h. elim (subst (λ ws. Has ws (2 * (w / 2))) loose_is h) [
          | inl e ↦ ne (omega arith)
          | inr old ↦ bound.tied old
        ];
      }

  same_lits : (b : ℕ) → b ≢ n → lits_at clauses2 b ≡ lits_at clauses b
  same_lits b ne = ap lits_in (at_other b ne)

  watched_still : (u passed : Lits) → IsWatched clauses (list_at links.lists 1) watch u passed → IsWatched clauses2 (list_at links2.lists 1) watch u passed
  watched_still u passed watched w bound h = watched w (old_bound w bound) h

  high : (w : ℕ) → IsBound clauses (list_at links.lists 1) w → 2 ≤ code (lit_at watch w)
  high w bound = code_high variables clauses kept.over (w / 2) (lit_at watch w) (kept.watches.members w bound)

  reason_still : (before : Lits) (k : ℕ) (l : Literal) → IsReason clauses before k l → IsReason clauses2 before k l
  reason_still before zero l reason = reason
  reason_still before (suc b) l reason = (reason.0, at_other b (live_old b (λ none. absurd (let a = reason.1 in cc))) ∙ reason.1, reason.2)

  pub kept_learned : IsKept variables originals clauses2 t levels reasons stages done watch links2
  kept_learned = record {
    over = λ b d e. elim (cases_eq b n) [
      | inl same ↦
          let both : Some c ≡ Some d = sym at_n ∙ ap (λ j. get_or clauses2 j None) (sym same) ∙ e in
          let is : c ≡ d = cc in
          subst (λ x. IsClause x × WithinVariables variables x) is (clause, within)
      | inr ne ↦ kept.over b d (sym (at_other b ne) ∙ e)
    ];
    live = λ b lt none. elim (cases_eq b n) [
      | inl same ↦ let some : Some c ≡ None = sym at_n ∙ ap (λ j. get_or clauses2 j None) (sym same) ∙ none in absurd (cc)
      | inr ne ↦ kept.live b lt (sym (at_other b ne) ∙ none)
    ];
    sizes = record {
      size = let a = kept.sizes.size in let b = ap length is2 ∙ length-set clauses n (Some c) in omega arith;
      few = let a = kept.sizes.few in omega arith;
      lists = ap length put ∙ length-set links.lists 1 (p ∷ list_at links.lists 1) ∙ kept.sizes.lists;
    };
    watches = record {
      size = let a = kept.watches.size in let b = ap length is2 ∙ length-set clauses n (Some c) in omega arith;
      members = λ w bound. subst (λ ls. Has ls (lit_at watch w)) (sym (same_lits (w / 2) (not_new w bound))) (kept.watches.members w (old_bound w bound));
      two = λ w bound. kept.watches.two w (old_bound w bound);
    };
    listed = record {
      there = λ w bound. subst (λ ws. Has ws w) (sym (at_rest (code (lit_at watch w)) (λ e. let a = high w (old_bound w bound) in absurd (omega arith))))
          (kept.listed.there w (old_bound w bound));
      only = λ k w two h.
          let was = kept.listed.only k w two (subst (λ ws. Has ws w) (at_rest k (λ e. absurd (omega arith))) h) in
          (new_bound w was.0, was.1);
      loose_are = λ w. (λ h. h, λ h. h);
      even = λ w h. elim (subst (λ ws. Has ws w) loose_is h) [
        | inl e ↦
            let half : w / 2 ≡ n = omega arith in
            (omega arith, λ none. let some : Some c ≡ None = sym at_n ∙ ap (λ j. get_or clauses2 j None) (sym half) ∙ none in absurd (cc))
        | inr old ↦
            let was = kept.listed.even w old in
            (was.0, subst (λ o. o ≢ None) (sym (at_other (w / 2) (live_old (w / 2) was.1))) was.1)
      ];
      left = at_rest 0 (λ e. absurd (omega arith)) ∙ kept.listed.left;
    };
    stages_are = stages_still clauses clauses2 (list_at links.lists 1) (list_at links2.lists 1) watch t done stages watched_still kept.stages_are;
    marked = record {
      level_size = kept.marked.level_size;
      reason_size = kept.marked.reason_size;
      levels_are = kept.marked.levels_are;
      top = kept.marked.top;
      implied = λ i l at some. reason_still (take i t) (get_or reasons l.variable 0) l (kept.marked.implied i l at some);
      decided = kept.marked.decided;
    };
  }
