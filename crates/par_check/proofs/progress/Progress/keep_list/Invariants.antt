use Rattle.par_check.specs.Progress.{KeepsUp, Advances, StaysComputed}
use Rattle.par_check.proofs.progress.Progress.keep_list.Given as goal

-- the clauses so far are done, and what was computed stays so
abbrev pub invariant-loop-i : goal.invariant-loop-i
invariant-loop-i l = record {
  advances : Advances l.fn.self l.self l.fn.room l.room;
  so_far : KeepsUp l.self l.room;
  later : StaysComputed l.fn.self l.self l.fn.room l.room;
}
