-- Changes that follow one another.
use Rattle.std.proofs.Common.{◌≡◌, ◌≢◌, ℕ, ◌+◌, ◌<◌, ◌≤◌, List, [], ◌∷◌, ◌++◌, length, set, get_or, take, Option, inl, inr, refl, sym, ap, ◌∙◌, subst, arith, length-append, append_assoc, append-nil, get_or-set_same, get_or-set_other}
use Rattle.clause_defs.specs.Literals.{Literal}
use Rattle.clause_defs.specs.Clauses.{Lits, Has}
use Rattle.pch_base.proofs.SetLemmas.{Has-append}
use Rattle.trail_defs.specs.Assignments.{IsFree}
use Rattle.trail_defs.specs.Trails.{IsReason}
use Rattle.assignment.proofs.ApartLemmas.{free_apart}
use Rattle.sat_trail.specs.Watching.{IsWatched}
use Rattle.sat_trail.specs.Stages.{AreMarked, AreStages, KeepsStages, Grows}
use Rattle.sat_trail.specs.Looks.{AreWithin, Keeps}
use Rattle.sat_trail.specs.declared.levels.Stage.{Stage}
use Rattle.sat_trail.proofs.LevelLemmas.{marked_put}
use Rattle.sat_trail.proofs.StageLemmas.{watched_more, stages_kept, stages_more}

-- nothing grew
pub grows_none : (t : Lits) (levels reasons : List ℕ) (level : ℕ) → Grows t t levels levels reasons reasons level
grows_none t levels reasons level = record {
  more = [];
  is = sym (append-nil t);
  levels_kept = λ l h. refl;
  reasons_kept = λ l h. refl;
  levels_new = λ l none. absurd none;
  reasons_new = λ l none. absurd none;
}

-- one literal came, implied at the present level
pub grows_one : (t : Lits) (levels reasons : List ℕ) (level number : ℕ) (l : Literal) → IsFree t l → l.variable < length levels → l.variable < length reasons
    → number ≢ 0 → Grows t (t ++ l ∷ []) levels (set levels l.variable level) reasons (set reasons l.variable number) level
grows_one t levels reasons level number l free in_levels in_reasons some = record {
  more = l ∷ [];
  is = refl;
  levels_kept = λ m h. get_or-set_other levels l.variable m.variable level 0 (free_apart t l free m h);
  reasons_kept = λ m h. get_or-set_other reasons l.variable m.variable number 0 (free_apart t l free m h);
  levels_new = λ m h. elim h [
    | inl e ↦ ap (λ (k : Literal). get_or (set levels l.variable level) k.variable 0) (sym e) ∙ get_or-set_same levels l.variable level 0 in_levels
    | inr none ↦ absurd none
  ];
  reasons_new = λ m h. elim h [
    | inl e ↦ λ z. some (sym (ap (λ (k : Literal). get_or (set reasons l.variable number) k.variable 0) (sym e) ∙ get_or-set_same reasons l.variable number 0 in_reasons) ∙ z)
    | inr none ↦ absurd none
  ];
}

-- first some came, then more
pub grows_on : (t u v : Lits) (levels levels1 levels2 reasons reasons1 reasons2 : List ℕ) (level : ℕ)
    → Grows t u levels levels1 reasons reasons1 level → Grows u v levels1 levels2 reasons1 reasons2 level → Grows t v levels levels2 reasons reasons2 level
grows_on t u v levels levels1 levels2 reasons reasons1 reasons2 level first second =
    let old : (l : Literal) → Has t l → Has u l = λ l h. subst (λ s. Has s l) (sym first.is) ((Has-append t first.more l).1 (inl h)) in
    let newer : (l : Literal) → Has first.more l → Has u l = λ l h. subst (λ s. Has s l) (sym first.is) ((Has-append t first.more l).1 (inr h)) in
    record {
      more = first.more ++ second.more;
      is = second.is ∙ ap (λ s. s ++ second.more) first.is ∙ append_assoc t first.more second.more;
      levels_kept = λ l h. second.levels_kept l (old l h) ∙ first.levels_kept l h;
      reasons_kept = λ l h. second.reasons_kept l (old l h) ∙ first.reasons_kept l h;
      levels_new = λ l h. elim ((Has-append first.more second.more l).0 h) [
        | inl a ↦ second.levels_kept l (newer l a) ∙ first.levels_new l a
        | inr b ↦ second.levels_new l b
      ];
      reasons_new = λ l h. elim ((Has-append first.more second.more l).0 h) [
        | inl a ↦ λ z. first.reasons_new l a (sym (second.reasons_kept l (newer l a)) ∙ z)
        | inr b ↦ second.reasons_new l b
      ];
    }

-- no level begins behind more literals either
within_more : (t u : Lits) (levels levels1 reasons reasons1 : List ℕ) (level : ℕ) (stages : List Stage) → Grows t u levels levels1 reasons reasons1 level
    → AreWithin (length t) stages → AreWithin (length u) stages
within_more t u levels levels1 reasons reasons1 level stages grows within j lt =
    let a = within j lt in
    let b : length u ≡ length t + length grows.more = ap length grows.is ∙ length-append t grows.more in
    omega arith

-- with no level open there is the present alone
no_stages : (clauses : List (Option Lits)) (loose : List ℕ) (watch t : Lits) (done : ℕ) → done ≤ length t → IsWatched clauses loose watch t (take done t)
    → AreStages clauses loose watch t done []
no_stages clauses loose watch t done le was = record {
  passed = le;
  now = was;
  each = λ j lt. absurd (omega arith);
  rising = λ i j up lt. absurd (omega arith);
}

module _ (clauses : List (Option Lits)) (variables level : ℕ) (loose loose1 loose2 : List ℕ) where
  -- what two changes keep one after another, they keep together
  pub keeps_on : (watch t : Lits) (levels reasons : List ℕ) (watch1 t1 : Lits) (levels1 reasons1 : List ℕ) (watch2 t2 : Lits) (levels2 reasons2 : List ℕ)
      → Keeps clauses variables level loose loose1 watch t levels reasons watch1 t1 levels1 reasons1
      → Keeps clauses variables level loose1 loose2 watch1 t1 levels1 reasons1 watch2 t2 levels2 reasons2
      → Keeps clauses variables level loose loose2 watch t levels reasons watch2 t2 levels2 reasons2
  keeps_on watch t levels reasons watch1 t1 levels1 reasons1 watch2 t2 levels2 reasons2 first second = record {
    grows = grows_on t t1 t2 levels levels1 levels2 reasons reasons1 reasons2 level first.grows second.grows;
    watched = λ done le was.
        second.watched done (let a = ap length first.grows.is ∙ length-append t first.grows.more in omega arith) (first.watched done le was);
    stages = λ done stages len marked are.
        second.stages done stages len (first.marked stages len (λ j lt. let a = (are.each j lt).0.within in omega arith) marked)
        (first.stages done stages len marked are);
    marked = λ stages len within marked.
        second.marked stages len (within_more t t1 levels levels1 reasons reasons1 level stages first.grows within) (first.marked stages len within marked);
  }

  -- nothing changed
  pub keeps_same : (watch t : Lits) (levels reasons : List ℕ) → Keeps clauses variables level loose loose watch t levels reasons watch t levels reasons
  keeps_same watch t levels reasons = record {
    grows = grows_none t levels reasons level;
    watched = λ done le was. was;
    stages = λ done stages len marked are. are;
    marked = λ stages len within marked. marked;
  }

  -- the watches moved, and no literal came
  pub keeps_moved : (watch later t : Lits) (levels reasons : List ℕ) → KeepsStages clauses loose watch later t
      → Keeps clauses variables level loose loose watch t levels reasons later t levels reasons
  keeps_moved watch later t levels reasons keeps = record {
    grows = grows_none t levels reasons level;
    watched = λ done le was. (stages_kept clauses loose watch t done [] (no_stages clauses loose watch t done le was) later keeps).now;
    stages = λ done stages len marked are. stages_kept clauses loose watch t done stages are later keeps;
    marked = λ stages len within marked. marked;
  }

  -- an implied literal came
  pub keeps_put : (watch t : Lits) (levels reasons : List ℕ) (l : Literal) (number : ℕ) → IsFree t l → l.variable ≤ variables
      → length levels ≡ variables + 1 → length reasons ≡ variables + 1 → number ≢ 0 → IsReason clauses t number l
      → Keeps clauses variables level loose loose watch t levels reasons watch (t ++ l ∷ []) (set levels l.variable level) (set reasons l.variable number)
  keeps_put watch t levels reasons l number free inside level_size reason_size some reason = record {
    grows = grows_one t levels reasons level number l free (omega arith) (omega arith) some;
    watched = λ done le was. watched_more clauses loose watch t l done le was;
    stages = λ done stages len marked are. stages_more clauses loose watch t done stages are l;
    marked = λ stages len within marked.
        subst (λ k. AreMarked clauses variables (t ++ l ∷ []) (set levels l.variable k) (set reasons l.variable number) stages) len
        (marked_put clauses variables t levels reasons stages marked l number free inside within (λ _. reason) (λ z. absurd (some z)));
  }
