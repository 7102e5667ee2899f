-- What is watched when a literal comes, a level is opened, or the trail goes back.
use Rattle.std.proofs.Common.{◌≡◌, ℕ, ◌+◌, ◌<◌, ◌≤◌, not, Bool, true, false, List, [], ◌∷◌, ◌++◌, length, take, Option, inl, inr, refl, sym, ap, ◌∙◌, subst, subst₂, arith, length-take-le, get_or-take, take-take, take_all}
use Rattle.std.proofs.lemmas.Bool.{cases_lt}
use Rattle.std.proofs.lemmas.List.{length_push, get_or_push, get_or_append_left}
use Rattle.clause_defs.specs.Literals.{Literal, negation, code}
use Rattle.clause_defs.specs.Clauses.{Lits, Has}
use Rattle.pch_base.proofs.SetLemmas.{Has-append, Has-take_next}
use Rattle.link_lists.specs.Linked.{list_at}
use Rattle.trail_defs.specs.Assignments.{IsAt}
use Rattle.sat_trail.specs.Watching.{lit_at, other, IsWatched, AreListed, AreAnswered}
use Rattle.sat_trail.specs.Stages.{first_stage, stage_at, IsStage, IsWatchedAt, AreStages, KeepsStages}
use Rattle.sat_trail.specs.declared.levels.Stage.{Stage}
use Rattle.sat_trail.proofs.PlaceLemmas.{take_grown, take_before_new}

not_not : (b : Bool) → not (not b) ≡ b
not_not true = refl
not_not false = refl

-- the negation of a negation is the literal
pub negation_negation : (l : Literal) → negation (negation l) ≡ l
negation_negation l i = record { variable = l.variable; positive = not_not l.positive i }

module _ (clauses : List (Option Lits)) (loose : List ℕ) (watch t : Lits) where
  -- one more true literal takes nothing away
  pub watched_more : (l : Literal) (done : ℕ) → done ≤ length t → IsWatched clauses loose watch t (take done t)
      → IsWatched clauses loose watch (t ++ l ∷ []) (take done (t ++ l ∷ []))
  watched_more l done le watched w bound has =
      (Has-append t (l ∷ []) (lit_at watch (other w))).1 (inl (watched w bound
      (subst (λ p. Has p (negation (lit_at watch w))) (take_grown t l done le) has)))

  -- nor from a stage
  pub stage_more : (l : Literal) (s : Stage) → IsStage (length t) s → IsWatchedAt clauses loose watch t s → IsWatchedAt clauses loose watch (t ++ l ∷ []) s
  stage_more l s stage watched =
      let a = stage.within in
      let b = stage.passed in
      subst₂ (λ u p. IsWatched clauses loose watch u p) (sym (take_grown t l s.len (omega arith))) (sym (take_grown t l s.done (omega arith))) watched

  -- one more literal was passed on: the watches of its negation are answered
  pub passed_on : (lists : List (List ℕ)) (done : ℕ) (l : Literal) → IsAt t done l → AreListed clauses loose watch lists
      → AreAnswered watch lists t (negation l) → IsWatched clauses loose watch t (take done t) → IsWatched clauses loose watch t (take (done + 1) t)
  passed_on lists done l at listed answered watched w bound has =
      elim (Has-take_next t done l (negation (lit_at watch w)) at.within has) [
        | inl before ↦ watched w bound before
        | inr e ↦
            let is : lit_at watch w ≡ negation l = sym (negation_negation (lit_at watch w)) ∙ ap negation (sym e ∙ sym at.read) in
            answered w (subst (λ k. Has (list_at lists (code k)) w) is (listed.there w bound))
      ]

  module _ (done : ℕ) (stages : List Stage) (are : AreStages clauses loose watch t done stages) where
    -- the watches moved
    pub stages_kept : (later : Lits) → KeepsStages clauses loose watch later t → AreStages clauses loose later t done stages
    stages_kept later keeps = record {
      passed = are.passed;
      now =
          let all : take (length t) t ≡ t = take_all (length t) t (omega arith) in
          subst (λ u. IsWatched clauses loose later u (take done t)) all
          (keeps (length t) done (subst (λ u. IsWatched clauses loose watch u (take done t)) (sym all) are.now));
      each = λ j lt. let e = are.each j lt in (e.0, keeps (stage_at stages j).len (stage_at stages j).done e.1);
      rising = are.rising;
    }

    -- a literal comes at the present level
    pub stages_more : (l : Literal) → AreStages clauses loose watch (t ++ l ∷ []) done stages
    stages_more l = record {
      passed = let a = are.passed in let b = length_push t l in omega arith;
      now = watched_more l done are.passed are.now;
      each = λ j lt.
          let e = are.each j lt in
          (record { within = let a = e.0.within in let b = length_push t l in omega arith; passed = e.0.passed }, stage_more l (stage_at stages j) e.0 e.1);
      rising = are.rising;
    }

    -- a level is opened, and a literal comes at it
    module _ (l : Literal) (s : Stage) (len_is : s.len ≡ length t) (done_is : s.done ≡ done) where
      stage_old : (j : ℕ) → j < length stages → stage_at (stages ++ s ∷ []) j ≡ stage_at stages j
      stage_old j lt = get_or_append_left stages (s ∷ []) first_stage j lt

      stage_new : (j : ℕ) → j ≡ length stages → stage_at (stages ++ s ∷ []) j ≡ s
      stage_new j e = get_or_push stages s first_stage j (sym e)

      new_good : IsStage (length (t ++ l ∷ [])) s × IsWatchedAt clauses loose watch (t ++ l ∷ []) s
      new_good =
          let a = are.passed in
          let b = length_push t l in (
            record { within = omega arith; passed = omega arith },
            subst₂ (λ u p. IsWatched clauses loose watch u p) (sym (take_before_new t l s.len len_is))
                (sym (take_grown t l s.done (omega arith) ∙ ap (λ k. take k t) done_is)) are.now,
          )

      old_good : (j : ℕ) → j < length stages → IsStage (length (t ++ l ∷ [])) (stage_at stages j) × IsWatchedAt clauses loose watch (t ++ l ∷ []) (stage_at stages j)
      old_good j lt = (stages_more l).each j lt

      opened_each : (j : ℕ) → j < length (stages ++ s ∷ [])
          → IsStage (length (t ++ l ∷ [])) (stage_at (stages ++ s ∷ []) j) × IsWatchedAt clauses loose watch (t ++ l ∷ []) (stage_at (stages ++ s ∷ []) j)
      opened_each j lt = elim (cases_lt j (length stages)) [
        | inl old ↦ subst (λ q. IsStage (length (t ++ l ∷ [])) q × IsWatchedAt clauses loose watch (t ++ l ∷ []) q) (sym (stage_old j old)) (old_good j old)
        | inr past ↦
            let len = length_push stages s in
            subst (λ q. IsStage (length (t ++ l ∷ [])) q × IsWatchedAt clauses loose watch (t ++ l ∷ []) q) (sym (stage_new j (omega arith))) new_good
      ]

      opened_rising : (i j : ℕ) → i < j → j < length (stages ++ s ∷ []) → (stage_at (stages ++ s ∷ []) i).len < (stage_at (stages ++ s ∷ []) j).len
      opened_rising i j lt below =
          let len = length_push stages s in
          let first = ap (λ (q : Stage). q.len) (stage_old i (omega arith)) in
          elim (cases_lt j (length stages)) [
            | inl old ↦
                let second = ap (λ (q : Stage). q.len) (stage_old j old) in
                let up = are.rising i j lt old in
                omega arith
            | inr past ↦
                let second = ap (λ (q : Stage). q.len) (stage_new j (omega arith)) in
                let up = (are.each i (omega arith)).0.within in
                omega arith
          ]

      pub stages_opened : AreStages clauses loose watch (t ++ l ∷ []) done (stages ++ s ∷ [])
      stages_opened = record {
        passed = let a = are.passed in let b = length_push t l in omega arith;
        now = watched_more l done are.passed are.now;
        each = opened_each;
        rising = opened_rising;
      }

    -- the trail goes back to level n
    module _ (n : ℕ) (lt : n < length stages) where
      there : IsStage (length t) (stage_at stages n) × IsWatchedAt clauses loose watch t (stage_at stages n)
      there = are.each n lt

      front_len : length (take (stage_at stages n).len t) ≡ (stage_at stages n).len
      front_len = length-take-le (stage_at stages n).len t (let a = there.0.within in omega arith)

      few : length (take n stages) ≡ n
      few = length-take-le n stages (omega arith)

      stage_kept : (j : ℕ) → j < n → stage_at (take n stages) j ≡ stage_at stages j
      stage_kept j low = get_or-take n stages j first_stage low

      back_each : (j : ℕ) → j < length (take n stages)
          → IsStage (length (take (stage_at stages n).len t)) (stage_at (take n stages) j)
          × IsWatchedAt clauses loose watch (take (stage_at stages n).len t) (stage_at (take n stages) j)
      back_each j low =
          let len = few in
          let lower : j < n = omega arith in
          let old = are.each j (omega arith) in
          let up = are.rising j n lower lt in
          let passed = old.0.passed in
          let long = front_len in
          subst (λ q. IsStage (length (take (stage_at stages n).len t)) q × IsWatchedAt clauses loose watch (take (stage_at stages n).len t) q) (sym (stage_kept j lower)) (
            record { within = omega arith; passed = passed },
            subst₂ (λ u p. IsWatched clauses loose watch u p)
                (sym (take-take (stage_at stages j).len (stage_at stages n).len t (omega arith)))
                (sym (take-take (stage_at stages j).done (stage_at stages n).len t (omega arith))) old.1,
          )

      pub stages_back : AreStages clauses loose watch (take (stage_at stages n).len t) (stage_at stages n).done (take n stages)
      stages_back = record {
        passed = let a = there.0.passed in let b = front_len in omega arith;
        now = subst (IsWatched clauses loose watch (take (stage_at stages n).len t))
            (sym (take-take (stage_at stages n).done (stage_at stages n).len t there.0.passed)) there.1;
        each = back_each;
        rising = λ i j low below.
            let len = few in
            let first = ap (λ (q : Stage). q.len) (stage_kept i (omega arith)) in
            let second = ap (λ (q : Stage). q.len) (stage_kept j (omega arith)) in
            let up = are.rising i j low (omega arith) in
            omega arith;
      }

-- where whatever was watched still is, by other clauses, the stages are watched by these
pub stages_still : (clauses clauses2 : List (Option Lits)) (loose loose2 : List ℕ) (watch t : Lits) (done : ℕ) (stages : List Stage)
    → ((u passed : Lits) → IsWatched clauses loose watch u passed → IsWatched clauses2 loose2 watch u passed)
    → AreStages clauses loose watch t done stages → AreStages clauses2 loose2 watch t done stages
stages_still clauses clauses2 loose loose2 watch t done stages still are = record {
  passed = are.passed;
  now = still t (take done t) are.now;
  each = λ j lt. let e = are.each j lt in (e.0, still (take (stage_at stages j).len t) (take (stage_at stages j).done t) e.1);
  rising = are.rising;
}
