-- What is kept of levels and reasons gives a trail.
use Rattle.std.proofs.Common.{◌≡◌, ◌≢◌, ℕ, zero, suc, ◌-◌, ◌<◌, ◌≤◌, List, length, get_or, take, Option, inl, inr, sym, arith}
use Rattle.std.proofs.Math.Nat.{eq-zero-or-pos}
use Rattle.std.proofs.lemmas.Bool.{cases_lt}
use Rattle.clause_defs.specs.Literals.{Literal}
use Rattle.clause_defs.specs.Clauses.{Lits, Has}
use Rattle.pch_base.proofs.SetLemmas.{Has-Contains}
use Rattle.trail_defs.specs.Assignments.{IsAt}
use Rattle.sat_trail.specs.Watching.{IsWatched}
use Rattle.sat_trail.specs.Stages.{stage_at, AreMarked, AreStages}
use Rattle.sat_trail.specs.declared.levels.Stage.{Stage}
use Rattle.sat_trail.proofs.PlaceLemmas.{at_cut}

-- a literal of the list stands at a place
pub has_place : (t : Lits) (l : Literal) → Has t l → (i : ℕ) × IsAt t i l
has_place t l has = let c = Has-Contains t l has in (c.0, record { within = c.1; read = sym c.2 })

-- one of the first n literals stands at one of the first n places
pub has_place_before : (t : Lits) (n : ℕ) (l : Literal) → n ≤ length t → Has (take n t) l → (i : ℕ) × IsAt t i l × (i < n)
has_place_before t n l le has =
    let place = has_place (take n t) l has in
    let cut = at_cut t n place.0 l le place.1 in
    (place.0, cut.0, cut.1)

module _ (clauses : List (Option Lits)) (variables : ℕ) (t : Lits) (levels reasons : List ℕ) (stages : List Stage)
    (marked : AreMarked clauses variables t levels reasons stages) where
  -- a literal that was decided is the first of its level
  pub first_of_level : (i : ℕ) (l m : Literal) → IsAt t i l → get_or reasons l.variable 0 ≡ 0 → Has (take i t) m
      → get_or levels m.variable 0 ≢ get_or levels l.variable 0
  first_of_level i l m at none has =
      let d = marked.decided i l at none in
      let before = has_place_before t i m (let a = at.within in omega arith) has in
      let here = d.2 in
      let low = before.2 in
      let reached = (marked.levels_are i l at d.0 d.1).0 (omega arith) in
      elim (cases_lt d.0 (get_or levels m.variable 0)) [
        | inl high ↦ let back = (marked.levels_are before.0 m before.1 d.0 d.1).1 high in absurd (omega arith)
        | inr le ↦ λ e. absurd (omega arith)
      ]

  -- a literal of level 0 has a reason
  pub level_0_implied : (l : Literal) → Has t l → get_or levels l.variable 0 ≡ 0 → get_or reasons l.variable 0 ≢ 0
  level_0_implied l has zero_level none =
      let place = has_place t l has in
      let d = marked.decided place.0 l place.1 none in
      let here = d.2 in
      let reached = (marked.levels_are place.0 l place.1 d.0 d.1).0 (omega arith) in
      absurd (omega arith)

  -- levels rise with the places
  pub levels_rise : (i : ℕ) (l m : Literal) → IsAt t i l → Has (take i t) m → get_or levels m.variable 0 ≤ get_or levels l.variable 0
  levels_rise i l m at has =
      let before = has_place_before t i m (let a = at.within in omega arith) has in
      let low = before.2 in
      let top = marked.top before.0 m before.1 in
      elim (cases_lt (get_or levels l.variable 0) (get_or levels m.variable 0)) [
        | inl high ↦
            let inside : get_or levels l.variable 0 < length stages = omega arith in
            let back = (marked.levels_are before.0 m before.1 (get_or levels l.variable 0) inside).1 high in
            let forth = (marked.levels_are i l at (get_or levels l.variable 0) inside).0 (omega arith) in
            absurd (omega arith)
        | inr le ↦ le
      ]

-- ---- how many levels there are

module _ (clauses : List (Option Lits)) (loose : List ℕ) (watch t : Lits) (done : ℕ) (stages : List Stage)
    (are : AreStages clauses loose watch t done stages) where
  stage_low : (j : ℕ) → j < length stages → j ≤ (stage_at stages j).len
  stage_low zero lt = omega arith
  stage_low (suc j) lt = let a = stage_low j (omega arith) in let b = are.rising j (suc j) (omega arith) lt in omega arith

  -- there are no more levels than literals
  pub few_stages : length stages ≤ length t
  few_stages = elim (eq-zero-or-pos (length stages)) [
    | inl none ↦ omega arith
    | inr some ↦
        let a = stage_low (length stages - 1) (omega arith) in
        let b = (are.each (length stages - 1) (omega arith)).0.within in
        omega arith
  ]

  -- more literals were passed on
  pub stages_passed : (done2 : ℕ) → done2 ≤ length t → IsWatched clauses loose watch t (take done2 t) → AreStages clauses loose watch t done2 stages
  stages_passed done2 le watched = record { passed = le; now = watched; each = are.each; rising = are.rising }
