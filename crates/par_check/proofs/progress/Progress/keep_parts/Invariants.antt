use Rattle.par_check.specs.Progress.{KeepsUp, Advances, StaysComputed}
use Rattle.par_check.proofs.progress.Progress.keep_parts.Given as goal

-- the clauses of the parts so far are done, and what was computed stays so
abbrev pub invariant-loop-p : goal.invariant-loop-p
invariant-loop-p l = record {
  advances : Advances l.fn.self l.self l.fn.room l.room;
  so_far : KeepsUp l.self l.room;
  later : StaysComputed l.fn.self l.self l.fn.room l.room;
}
