use Rattle.std.proofs.Common.{◌≡◌, ◌++◌, ℕ, List, drop, map}
use Rattle.pch_io.specs.declared.store.LoadFail.{LoadFail}
use Rattle.pch_lines.specs.Commands.{file_seen}
use Rattle.pch_shell.specs.Loading.{AreLoaded, IsNotLoaded}
use Rattle.pch_shell.proofs.loading.load_all.Given as goal

-- the files that are left decide what is loaded and what fails
abbrev pub invariant-loop-file : goal.invariant-loop-file
invariant-loop-file g l = record {
  files : g.S.Store.files l.store ≡ g.S.Store.files l.fn.store;
  calm : g.S.Store.faults l.store ≡ g.S.Store.faults l.fn.store;
  loaded : (bs : List (List ℕ)) → AreLoaded (g.S.Store.files l.fn.store) (map file_seen (drop l.file-index l.files)) bs
      → AreLoaded (g.S.Store.files l.fn.store) (map file_seen l.files) (l.loaded ++ bs);
  failed : (now : ℕ) (name : List ℕ) (fail : LoadFail)
      → IsNotLoaded (g.S.Store.files l.fn.store) (g.S.Store.faults l.fn.store) now (map file_seen (drop l.file-index l.files)) name fail
      → IsNotLoaded (g.S.Store.files l.fn.store) (g.S.Store.faults l.fn.store) now (map file_seen l.files) name fail;
}
