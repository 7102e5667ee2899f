-- What a trail keeps.
use Rattle.std.specs.Prelude.{◌≢◌, ℕ, ◌<◌, List, get_or, Option, None}
use Rattle.clause_defs.specs.Clauses.{Lits}
use Rattle.link_lists.specs.Linked.{Linked, list_at}
use Rattle.sat_trail.specs.Watching.{AreOver, HasSizes, AreWatches, AreListed}
use Rattle.sat_trail.specs.Stages.{AreMarked, AreStages}
use Rattle.sat_trail.specs.declared.levels.Stage.{Stage}

-- The clauses are over the variables, and the originals are live; each is watched, or loose; what was passed on at
-- each stage was watched then; and each literal has its level and its reason.
pub record IsKept (variables originals : ℕ) (clauses : List (Option Lits)) (t : Lits) (levels reasons : List ℕ) (stages : List Stage)
    (done : ℕ) (watch : Lits) (links : Linked) : Type 0 where
  pub over : AreOver variables clauses
  pub live : (b : ℕ) → b < originals → get_or clauses b None ≢ None
  pub sizes : HasSizes clauses variables links
  pub watches : AreWatches clauses (list_at links.lists 1) watch
  pub listed : AreListed clauses (list_at links.lists 1) watch links.lists
  pub stages_are : AreStages clauses (list_at links.lists 1) watch t done stages
  pub marked : AreMarked clauses variables t levels reasons stages
