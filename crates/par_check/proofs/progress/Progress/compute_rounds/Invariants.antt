use Rattle.par_check.specs.Progress.{KeepsUp, Advances, IsDeskFor}
use Rattle.par_check.proofs.progress.Progress.compute_rounds.Given as goal

-- the clauses of the rounds so far are done
abbrev pub invariant-loop-r : goal.invariant-loop-r
invariant-loop-r g l = record {
  advances : Advances l.fn.self l.self l.fn.room l.room;
  so_far : KeepsUp l.self l.room;
  desk : IsDeskFor l.room l.desk;
}
