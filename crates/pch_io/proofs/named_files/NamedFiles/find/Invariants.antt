use Rattle.std.proofs.Common.{◌≡◌, drop}
use Rattle.pch_io.specs.Memory.{bytes_of, files_in}
use Rattle.pch_io.proofs.named_files.NamedFiles.find.Given as goal

-- the files that are left have the name's bytes
abbrev pub invariant-loop-stored : goal.invariant-loop-stored
invariant-loop-stored l = bytes_of (files_in (drop l.stored-index l.stored-items)) l.name ≡ bytes_of (files_in l.stored-items) l.name
