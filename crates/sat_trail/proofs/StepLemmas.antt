-- What a trail keeps when a level is opened, or it goes back.
use Rattle.std.proofs.Common.{◌≡◌, ℕ, ◌+◌, ◌<◌, ◌≤◌, List, [], ◌∷◌, ◌++◌, length, set, get_or, take, Option, inl, inr, refl, sym, ap, ◌∙◌, subst, arith, length-take-le}
use Rattle.std.proofs.lemmas.Bool.{cases_lt}
use Rattle.std.proofs.lemmas.List.{length_push, get_or_push, get_or_append_left}
use Rattle.clause_defs.specs.Literals.{Literal}
use Rattle.clause_defs.specs.Clauses.{Lits, Has}
use Rattle.link_lists.specs.Linked.{Linked, list_at}
use Rattle.trail_defs.specs.Assignments.{IsAt, IsFree}
use Rattle.sat_trail.specs.Stages.{first_stage, stage_at, AreMarked}
use Rattle.sat_trail.specs.Kept.{IsKept}
use Rattle.sat_trail.specs.declared.levels.Stage.{Stage}
use Rattle.sat_trail.proofs.LevelLemmas.{marked_put, marked_opened, marked_back}
use Rattle.sat_trail.proofs.StageLemmas.{stages_opened, stages_back}
use Rattle.sat_trail.proofs.TrailLemmas.{has_place, has_place_before}

module _ (variables originals : ℕ) (clauses : List (Option Lits)) (t : Lits) (levels reasons : List ℕ) (stages : List Stage)
    (done : ℕ) (watch : Lits) (links : Linked) (kept : IsKept variables originals clauses t levels reasons stages done watch links) where
  -- a level is opened, and a literal comes at it
  module _ (l : Literal) (free : IsFree t l) (within : l.variable ≤ variables) (s : Stage) (len_is : s.len ≡ length t) (done_is : s.done ≡ done) where
    opened : AreMarked clauses variables t levels reasons (stages ++ s ∷ [])
    opened = marked_opened clauses variables t levels reasons stages kept.marked s len_is

    below : (j : ℕ) → j < length (stages ++ s ∷ []) → (stage_at (stages ++ s ∷ []) j).len ≤ length t
    below j lt = elim (cases_lt j (length stages)) [
      | inl old ↦
          let e = ap (λ (q : Stage). q.len) (get_or_append_left stages (s ∷ []) first_stage j old) in
          let a = (kept.stages_are.each j old).0.within in
          omega arith
      | inr past ↦
          let len = length_push stages s in
          let e = ap (λ (q : Stage). q.len) (get_or_push stages s first_stage j (omega arith)) in
          omega arith
    ]

    pub kept_assigned : (present : ℕ) → present ≡ length stages + 1
        → IsKept variables originals clauses (t ++ l ∷ []) (set levels l.variable present) (set reasons l.variable 0) (stages ++ s ∷ []) done watch links
    kept_assigned present e = record {
      over = kept.over;
      live = kept.live;
      sizes = kept.sizes;
      watches = kept.watches;
      listed = kept.listed;
      stages_are = stages_opened clauses (list_at links.lists 1) watch t done stages kept.stages_are l s len_is done_is;
      marked = subst (λ k. AreMarked clauses variables (t ++ l ∷ []) (set levels l.variable k) (set reasons l.variable 0) (stages ++ s ∷ []))
          (length_push stages s ∙ sym e)
          (marked_put clauses variables t levels reasons (stages ++ s ∷ []) opened l 0 free within below (λ z. absurd (z refl))
          (λ _. (length stages, let a = length_push stages s in omega arith, ap (λ (q : Stage). q.len) (get_or_push stages s first_stage (length stages) refl) ∙ len_is)));
    }

  -- the trail goes back to level n
  module _ (n : ℕ) (lt : n < length stages) where
    inside : (stage_at stages n).len ≤ length t
    inside = let a = (kept.stages_are.each n lt).0.within in omega arith

    pub kept_back : IsKept variables originals clauses (take (stage_at stages n).len t) levels reasons (take n stages) (stage_at stages n).done watch links
    kept_back = record {
      over = kept.over;
      live = kept.live;
      sizes = kept.sizes;
      watches = kept.watches;
      listed = kept.listed;
      stages_are = stages_back clauses (list_at links.lists 1) watch t done stages kept.stages_are n lt;
      marked = marked_back clauses variables t levels reasons stages kept.marked n lt inside kept.stages_are.rising;
    }

    -- its literals are those of the levels up to n
    pub back_left : (l : Literal) → Has (take (stage_at stages n).len t) l → get_or levels l.variable 0 ≤ n
    back_left l h =
        let place = has_place_before t (stage_at stages n).len l inside h in
        let before = place.2 in
        elim (cases_lt n (get_or levels l.variable 0)) [
          | inl high ↦ let reached = (kept.marked.levels_are place.0 l place.1 n lt).1 high in absurd (omega arith)
          | inr low ↦ low
        ]

    pub back_gone : (i : ℕ) (l : Literal) → IsAt t i l → (stage_at stages n).len ≤ i → n < get_or levels l.variable 0
    back_gone i l at past = (kept.marked.levels_are i l at n lt).0 past

  -- no level is above the present one
  pub top_left : (n : ℕ) → n ≡ length stages → (l : Literal) → Has t l → get_or levels l.variable 0 ≤ n
  top_left n e l h = let place = has_place t l h in let top = kept.marked.top place.0 l place.1 in omega arith

-- ---- the same, as it is written

module _ (variables originals : ℕ) (clauses : List (Option Lits)) (t : Lits) (levels reasons : List ℕ) (stages : List Stage)
    (done : ℕ) (watch : Lits) (links : Linked) (kept : IsKept variables originals clauses t levels reasons stages done watch links) where
  pub assigned_as : (l : Literal) → IsFree t l → l.variable ≤ variables → (s : Stage) → s.len ≡ length t → s.done ≡ done → (present : ℕ) → present ≡ length stages + 1
      → (variables2 : ℕ) (t2 : Lits) (levels2 reasons2 : List ℕ) (stages2 : List Stage)
      → variables2 ≡ variables → t2 ≡ t ++ l ∷ [] → levels2 ≡ set levels l.variable present → reasons2 ≡ set reasons l.variable 0 → stages2 ≡ stages ++ s ∷ []
      → IsKept variables2 originals clauses t2 levels2 reasons2 stages2 done watch links
  assigned_as l free within s len_is done_is present e variables2 t2 levels2 reasons2 stages2 ev et el er es =
      subst (λ n. IsKept n originals clauses t2 levels2 reasons2 stages2 done watch links) (sym ev)
      (subst (λ u. IsKept variables originals clauses u levels2 reasons2 stages2 done watch links) (sym et)
      (subst (λ ks. IsKept variables originals clauses (t ++ l ∷ []) ks reasons2 stages2 done watch links) (sym el)
      (subst (λ rs. IsKept variables originals clauses (t ++ l ∷ []) (set levels l.variable present) rs stages2 done watch links) (sym er)
      (subst (λ ss. IsKept variables originals clauses (t ++ l ∷ []) (set levels l.variable present) (set reasons l.variable 0) ss done watch links) (sym es)
      (kept_assigned variables originals clauses t levels reasons stages done watch links kept l free within s len_is done_is present e)))))

  pub back_as : (n : ℕ) → n < length stages → (s : Stage) → s ≡ stage_at stages n → (variables2 : ℕ) (t2 : Lits) (stages2 : List Stage)
      → variables2 ≡ variables → t2 ≡ take s.len t → stages2 ≡ take n stages → IsKept variables2 originals clauses t2 levels reasons stages2 s.done watch links
  back_as n lt s is variables2 t2 stages2 ev et es =
      subst (λ k. IsKept k originals clauses t2 levels reasons stages2 s.done watch links) (sym ev)
      (subst (λ u. IsKept variables originals clauses u levels reasons stages2 s.done watch links) (sym et)
      (subst (λ ss. IsKept variables originals clauses (take s.len t) levels reasons ss s.done watch links) (sym es)
      (subst (λ (q : Stage). IsKept variables originals clauses (take q.len t) levels reasons (take n stages) q.done watch links) (sym is)
      (kept_back variables originals clauses t levels reasons stages done watch links kept n lt))))

-- what is left is a front of what there was
pub front_is : (t u before : Lits) (n : ℕ) → u ≡ take n t → n ≤ length t → t ≡ before → u ≡ take (length u) before
front_is t u before n e le same = e ∙ ap (λ k. take k t) (sym (ap length e ∙ length-take-le n t le)) ∙ ap (take (length u)) same
