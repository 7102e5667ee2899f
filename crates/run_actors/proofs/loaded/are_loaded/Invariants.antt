use Rattle.std.proofs.Common.{map, take}
use Rattle.run_actors.specs.Loading.{contents_of, AreOfKinds}
use Rattle.run_actors.proofs.loaded.are_loaded.Given as goal

-- the files so far are of the kinds that they are used as
abbrev pub invariant-loop-i : goal.invariant-loop-i
invariant-loop-i l = AreOfKinds (take l.i l.uses) (map contents_of (take l.i l.files))
