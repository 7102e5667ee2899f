-- Levels and reasons when a literal comes, a level is opened, or the trail goes back.
use Rattle.std.proofs.Common.{◌≡◌, ◌≢◌, ◌↔◌, ℕ, ◌<◌, ◌≤◌, List, [], ◌∷◌, ◌++◌, length, set, get_or, take, Option, inl, inr, sym, ap, ◌∙◌, subst, arith, length-set, length-take-le, get_or-set_same, get_or-set_other, get_or-take, take-take}
use Rattle.std.proofs.lemmas.Bool.{cases_lt}
use Rattle.std.proofs.lemmas.List.{length_push, get_or_push, get_or_append_left}
use Rattle.clause_defs.specs.Literals.{Literal}
use Rattle.clause_defs.specs.Clauses.{Lits}
use Rattle.trail_defs.specs.Assignments.{IsAt, IsFree}
use Rattle.trail_defs.specs.Trails.{IsReason}
use Rattle.assignment.proofs.ApartLemmas.{free_apart}
use Rattle.sat_trail.specs.Stages.{first_stage, stage_at, AreLevels, AreMarked}
use Rattle.sat_trail.specs.declared.levels.Stage.{Stage}
use Rattle.sat_trail.proofs.PlaceLemmas.{at_has, at_cases, take_grown, take_before_new, at_cut}

module _ (clauses : List (Option Lits)) (variables : ℕ) (t : Lits) (levels reasons : List ℕ) (stages : List Stage)
    (marked : AreMarked clauses variables t levels reasons stages) where
  -- a literal without a value comes, at the present level
  module _ (l : Literal) (number : ℕ) (free : IsFree t l) (within : l.variable ≤ variables)
      (below : (j : ℕ) → j < length stages → (stage_at stages j).len ≤ length t)
      (implied : number ≢ 0 → IsReason clauses t number l)
      (decided : number ≡ 0 → (j : ℕ) × (j < length stages) × ((stage_at stages j).len ≡ length t)) where
    abbrev pub levels2 : List ℕ
    levels2 = set levels l.variable (length stages)

    abbrev pub reasons2 : List ℕ
    reasons2 = set reasons l.variable number

    apart : (i : ℕ) (m : Literal) → IsAt t i m → m.variable ≢ l.variable
    apart i m at = free_apart t l free m (at_has t i m at)

    level_old : (i : ℕ) (m : Literal) → IsAt t i m → get_or levels2 m.variable 0 ≡ get_or levels m.variable 0
    level_old i m at = get_or-set_other levels l.variable m.variable (length stages) 0 (apart i m at)

    level_new : (m : Literal) → m ≡ l → get_or levels2 m.variable 0 ≡ length stages
    level_new m e = ap (λ (k : Literal). get_or levels2 k.variable 0) e
        ∙ get_or-set_same levels l.variable (length stages) 0 (let a = marked.level_size in omega arith)

    reason_old : (i : ℕ) (m : Literal) → IsAt t i m → get_or reasons2 m.variable 0 ≡ get_or reasons m.variable 0
    reason_old i m at = get_or-set_other reasons l.variable m.variable number 0 (apart i m at)

    reason_new : (m : Literal) → m ≡ l → get_or reasons2 m.variable 0 ≡ number
    reason_new m e = ap (λ (k : Literal). get_or reasons2 k.variable 0) e
        ∙ get_or-set_same reasons l.variable number 0 (let a = marked.reason_size in omega arith)

    put_levels : AreLevels (t ++ l ∷ []) levels2 stages
    put_levels i m at j lt = elim (at_cases t l i m at) [
      | inl old ↦ subst (λ k. ((stage_at stages j).len ≤ i) ↔ (j < k)) (sym (level_old i m old)) (marked.levels_are i m old j lt)
      | inr new ↦
          let e = new.0 in
          let low = below j lt in
          (λ _. subst (λ k. j < k) (sym (level_new m new.1)) lt, λ _. omega arith)
    ]

    put_top : (i : ℕ) (m : Literal) → IsAt (t ++ l ∷ []) i m → get_or levels2 m.variable 0 ≤ length stages
    put_top i m at = elim (at_cases t l i m at) [
      | inl old ↦ let a = level_old i m old in let b = marked.top i m old in omega arith
      | inr new ↦ let a = level_new m new.1 in omega arith
    ]

    put_implied : (i : ℕ) (m : Literal) → IsAt (t ++ l ∷ []) i m → get_or reasons2 m.variable 0 ≢ 0
        → IsReason clauses (take i (t ++ l ∷ [])) (get_or reasons2 m.variable 0) m
    put_implied i m at some = elim (at_cases t l i m at) [
      | inl old ↦
          let e = reason_old i m old in
          subst (λ k. IsReason clauses (take i (t ++ l ∷ [])) k m) (sym e)
          (subst (λ b. IsReason clauses b (get_or reasons m.variable 0) m) (sym (take_grown t l i (let a = old.within in omega arith)))
          (marked.implied i m old (λ z. some (e ∙ z))))
      | inr new ↦
          let e = reason_new m new.1 in
          subst (λ k. IsReason clauses (take i (t ++ l ∷ [])) k m) (sym e)
          (subst (λ b. IsReason clauses b number m) (sym (take_before_new t l i new.0))
          (subst (IsReason clauses t number) (sym new.1) (implied (λ z. some (e ∙ z)))))
    ]

    put_decided : (i : ℕ) (m : Literal) → IsAt (t ++ l ∷ []) i m → get_or reasons2 m.variable 0 ≡ 0
        → (j : ℕ) × (j < length stages) × ((stage_at stages j).len ≡ i)
    put_decided i m at none = elim (at_cases t l i m at) [
      | inl old ↦ marked.decided i m old (sym (reason_old i m old) ∙ none)
      | inr new ↦
          let d = decided (sym (reason_new m new.1) ∙ none) in
          (d.0, d.1, d.2 ∙ sym new.0)
    ]

    -- it has this level and reason, and the others keep theirs
    pub marked_put : AreMarked clauses variables (t ++ l ∷ []) levels2 reasons2 stages
    marked_put = record {
      level_size = length-set levels l.variable (length stages) ∙ marked.level_size;
      reason_size = length-set reasons l.variable number ∙ marked.reason_size;
      levels_are = put_levels;
      top = put_top;
      implied = put_implied;
      decided = put_decided;
    }

  -- a level is opened
  module _ (s : Stage) (here : s.len ≡ length t) where
    stage_old : (j : ℕ) → j < length stages → stage_at (stages ++ s ∷ []) j ≡ stage_at stages j
    stage_old j lt = get_or_append_left stages (s ∷ []) first_stage j lt

    stage_new : (j : ℕ) → j ≡ length stages → stage_at (stages ++ s ∷ []) j ≡ s
    stage_new j e = get_or_push stages s first_stage j (sym e)

    opened_levels : AreLevels t levels (stages ++ s ∷ [])
    opened_levels i l at j lt = elim (cases_lt j (length stages)) [
      | inl old ↦ subst (λ (q : Stage). (q.len ≤ i) ↔ (j < get_or levels l.variable 0)) (sym (stage_old j old)) (marked.levels_are i l at j old)
      | inr past ↦
          let len = length_push stages s in
          let high = marked.top i l at in
          let low = at.within in
          subst (λ (q : Stage). (q.len ≤ i) ↔ (j < get_or levels l.variable 0)) (sym (stage_new j (omega arith)))
          (λ le. absurd (omega arith), λ lt2. absurd (omega arith))
    ]

    -- the literals that came before it keep their levels
    pub marked_opened : AreMarked clauses variables t levels reasons (stages ++ s ∷ [])
    marked_opened = record {
      level_size = marked.level_size;
      reason_size = marked.reason_size;
      levels_are = opened_levels;
      top = λ i l at. let a = marked.top i l at in let b = length_push stages s in omega arith;
      implied = marked.implied;
      decided = λ i l at none.
          let d = marked.decided i l at none in
          (d.0, let a = d.1 in let b = length_push stages s in omega arith, ap (λ (q : Stage). q.len) (stage_old d.0 d.1) ∙ d.2);
    }

  -- the trail goes back to level n
  module _ (n : ℕ) (lt : n < length stages) (inside : (stage_at stages n).len ≤ length t)
      (rising : (i j : ℕ) → i < j → j < length stages → (stage_at stages i).len < (stage_at stages j).len) where
    few : length (take n stages) ≡ n
    few = length-take-le n stages (omega arith)

    stage_kept : (j : ℕ) → j < n → stage_at (take n stages) j ≡ stage_at stages j
    stage_kept j low = get_or-take n stages j first_stage low

    abbrev pub front : Lits
    front = take (stage_at stages n).len t

    cut : (i : ℕ) (l : Literal) → IsAt front i l → IsAt t i l × (i < (stage_at stages n).len)
    cut i l at = at_cut t (stage_at stages n).len i l inside at

    back_levels : AreLevels front levels (take n stages)
    back_levels i l at j low =
        let len = few in
        let old = (cut i l at).0 in
        let lower : j < n = omega arith in
        subst (λ (q : Stage). (q.len ≤ i) ↔ (j < get_or levels l.variable 0)) (sym (stage_kept j lower)) (marked.levels_are i l old j (omega arith))

    -- only levels up to n are left
    pub back_top : (i : ℕ) (l : Literal) → IsAt front i l → get_or levels l.variable 0 ≤ n
    back_top i l at = elim (cases_lt n (get_or levels l.variable 0)) [
      | inl high ↦
          let reached = (marked.levels_are i l (cut i l at).0 n lt).1 high in
          let low = (cut i l at).1 in
          absurd (omega arith)
      | inr le ↦ le
    ]

    back_decided : (i : ℕ) (l : Literal) → IsAt front i l → get_or reasons l.variable 0 ≡ 0
        → (j : ℕ) × (j < length (take n stages)) × ((stage_at (take n stages) j).len ≡ i)
    back_decided i l at none =
        let d = marked.decided i l (cut i l at).0 none in
        let below = (cut i l at).1 in
        elim (cases_lt d.0 n) [
          | inl low ↦ (d.0, subst (λ k. d.0 < k) (sym few) low, ap (λ (q : Stage). q.len) (stage_kept d.0 low) ∙ d.2)
          | inr high ↦
              let e = d.2 in
              elim (cases_lt n d.0) [
                | inl more ↦ let up = rising n d.0 more d.1 in absurd (omega arith)
                | inr le ↦ let same : d.0 ≡ n = omega arith in let f = ap (λ k. (stage_at stages k).len) same in absurd (omega arith)
              ]
        ]

    -- the others keep their levels and reasons
    pub marked_back : AreMarked clauses variables front levels reasons (take n stages)
    marked_back = record {
      level_size = marked.level_size;
      reason_size = marked.reason_size;
      levels_are = back_levels;
      top = λ i l at. let a = back_top i l at in let b = few in omega arith;
      implied = λ i l at some.
          subst (λ b. IsReason clauses b (get_or reasons l.variable 0) l)
          (sym (take-take i (stage_at stages n).len t (let a = (cut i l at).1 in omega arith)))
          (marked.implied i l (cut i l at).0 some);
      decided = back_decided;
    }
