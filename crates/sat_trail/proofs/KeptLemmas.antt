-- What a trail keeps gives the readers their answers.
use Rattle.std.proofs.Common.{◌≡◌, ℕ, zero, suc, List, length, Option, Some, arith}
use Rattle.clause_defs.specs.Clauses.{Lits, IsClause, WithinVariables}
use Rattle.link_lists.specs.Linked.{Linked}
use Rattle.trail_defs.specs.Assignments.{IsAssignmentOf}
use Rattle.trail_defs.specs.Trails.{clause_at, IsTrail}
use Rattle.sat_trail.specs.Watching.{AreOver}
use Rattle.sat_trail.specs.Kept.{IsKept}
use Rattle.sat_trail.specs.declared.levels.Stage.{Stage}
use Rattle.sat_trail.proofs.TrailLemmas.{has_place, first_of_level, level_0_implied, levels_rise}

-- a live clause is a clause over the variables
pub clause_over : (variables : ℕ) (clauses : List (Option Lits)) → AreOver variables clauses → (k : ℕ) (c : Lits) → clause_at clauses k ≡ Some c
    → IsClause c × WithinVariables variables c
clause_over variables clauses over zero c e = absurd (cc)
clause_over variables clauses over (suc b) c e = over b c e

module _ (variables originals : ℕ) (clauses : List (Option Lits)) (t : Lits) (levels reasons : List ℕ) (stages : List Stage)
    (done : ℕ) (watch : Lits) (links : Linked) (kept : IsKept variables originals clauses t levels reasons stages done watch links)
    (known : IsAssignmentOf variables t) where
  -- it is a trail
  pub kept_trail : (present words : ℕ) → present ≡ length stages → IsTrail (record {
    variables = variables;
    originals = originals;
    clauses = clauses;
    lits = t;
    levels = levels;
    reasons = reasons;
    present = present;
    words = words;
  })
  kept_trail present words e = record {
    assignment = known;
    clauses = clause_over variables clauses kept.over;
    implied = kept.marked.implied;
    decided = first_of_level clauses variables t levels reasons stages kept.marked;
    no_decision = level_0_implied clauses variables t levels reasons stages kept.marked;
    rising = levels_rise clauses variables t levels reasons stages kept.marked;
    top = λ l h. let place = has_place t l h in let top = kept.marked.top place.0 l place.1 in omega arith;
  }
