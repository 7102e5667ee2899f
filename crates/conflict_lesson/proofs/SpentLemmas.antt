-- The words of a lesson.
use Rattle.std.proofs.Common.{◌≡◌, ℕ, Result, Ok, Err, ◌+◌, ◌*◌, ◌<◌, ◌≤◌, List, [], ◌∷◌, ◌++◌, length, map, ap, ◌∙◌, arith}
use Rattle.std.proofs.lemmas.List.Sums.{sum_by_push}
use Rattle.clause_defs.specs.Clauses.{Lits}
use Rattle.clause_defs.specs.Resolution.{Resolves}
use Rattle.log_defs.specs.Logs.{Derived, LogValue, words_of, Words, clause_of_log}
use Rattle.log_defs.specs.Deriving.{IsNew, IsTaken, DeriveEnds}
use Rattle.log_defs.specs.declared.log_end.LogEnd.{LogEnd}
use Rattle.log_defs.specs.declared.log_end.LogEnd.TheVariants.{Kept, Spent}
use Rattle.conflict_analysis.specs.Analyses.{IsLesson}
use Rattle.search_defs.specs.Ends.{IsSpent}
use Rattle.conflict_lesson.specs.Lessons.{LessonEnds}

-- a clause follows from some clauses
some_antecedent : (f : ℕ → Lits) (antecedents : List ℕ) (c : Lits) → Resolves (map f antecedents) c → 1 ≤ length antecedents
some_antecedent f [] c h = absurd h
some_antecedent f (a ∷ rest) c h = omega arith

module _ (log : LogValue) (trail : Lits) (levels antecedents : List ℕ) (c : Lits) (lesson : IsLesson log trail levels antecedents c) where
  -- a lesson that is over the limit
  pub spent_of : (limit used need : ℕ) → IsNew log [] → used ≡ Words log.derived → need ≡ 3 + length c + length antecedents → limit < used + need
      → IsSpent log limit used need
  spent_of limit used need none used_is need_is over =
      let some = some_antecedent (clause_of_log log) antecedents c lesson.resolves in
      let few = lesson.few_antecedents in
      let small = lesson.few_literals in
      record {
        used_is = used_is;
        need_low = omega arith;
        need_high = omega arith;
        over = over;
        not_empty = none;
      }

-- the words after one more clause
pub words_taken : (log : LogValue) (c : Lits) (antecedents : List ℕ) (index : ℕ) (later : LogValue) → IsTaken log (record { lits = c; antecedents = antecedents }) index later
    → Words later.derived ≡ Words log.derived + (3 + length c + length antecedents)
words_taken log c antecedents index later taken =
    let same = ap (λ (l : LogValue). Words l.derived) taken.appended in
    let more = sum_by_push words_of log.derived (record { lits = c; antecedents = antecedents }) in omega arith

-- deriving it within the limit
module _ (before : LogValue) (limit : ℕ) (d : Derived) (after : LogValue) (within : limit ≤ before.budget) (fits : Words before.derived + words_of d ≤ limit) where
  -- ends as deriving does, and is never over the limit
  pub lesson_ends : (r : Result ℕ LogEnd) → DeriveEnds before d r after → LessonEnds before limit d r after
  lesson_ends (Ok index) taken = taken
  lesson_ends (Err (Kept index)) kept = kept
  lesson_ends (Err (Spent used need)) over =
      absurd (let a = over.0.over in let b = over.0.used_is in let e = over.0.need_is in omega arith)

  -- and leaves the words within it
  pub words_within : (r : Result ℕ LogEnd) → DeriveEnds before d r after → Words after.derived ≤ limit
  words_within (Ok index) taken = let more = words_taken before d.lits d.antecedents index after taken in omega arith
  words_within (Err (Kept index)) kept = let same = ap (λ (l : LogValue). Words l.derived) kept.1 in omega arith
  words_within (Err (Spent used need)) over = let same = ap (λ (l : LogValue). Words l.derived) over.1 in omega arith
