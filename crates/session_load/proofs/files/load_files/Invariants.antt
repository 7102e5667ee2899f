use Rattle.std.proofs.Common.{◌≡◌, ◌≤◌, map, drop}
use Rattle.run_actors.specs.Loading.{contents_of}
use Rattle.session_load.specs.declared.limits.TheConstants.{MAX_SESSION_BYTES}
use Rattle.session_load.proofs.Usables.{Completes, Stops}
use Rattle.session_load.proofs.files.load_files.Given as goal

-- the files so far can be used; the store didn't fail
abbrev pub invariant-loop-i : goal.invariant-loop-i
invariant-loop-i g l = record {
  told : g.S.Store.files l.store ≡ g.S.Store.files l.fn.store;
  calm : g.S.Store.faults l.store ≡ g.S.Store.faults l.fn.store;
  within : l.used ≤ MAX_SESSION_BYTES;
  usable : Completes (g.S.Store.files l.fn.store) l.used (drop l.i l.uses) l.uses (map contents_of l.files.items);
  stops : Stops (g.S.Store.files l.fn.store) l.used (drop l.i l.uses) l.uses l.i;
}
