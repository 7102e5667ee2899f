use Rattle.std.proofs.Common.{◌≡◌, ◌≤◌, length, take}
use Rattle.std.specs.List.{AllZip}
use Rattle.flat_lists.specs.Flat.{total}
use Rattle.par_check.specs.Progress.{IsComputedBy, IsSameDesk}
use Rattle.par_check.proofs.progress.Progress.compute_list.Given as goal

-- the clauses at the places so far were computed
abbrev pub invariant-loop-k : goal.invariant-loop-k
invariant-loop-k l = record {
  desk : IsSameDesk l.fn.desk l.desk;
  count : length l.lists.lists ≡ l.k-index;
  few : total l.lists.lists ≤ l.most;
  lists : AllZip (IsComputedBy l.self.t.now l.room.computed.clauses l.self.done.items) (take l.k-index l.places) l.lists.lists;
}
