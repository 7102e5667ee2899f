use Rattle.std.proofs.Common.{◌≡◌, ◌+◌, drop}
use Rattle.pch_io.specs.Memory.{place_of, files_in}
use Rattle.pch_io.proofs.named_files.NamedFiles.place.Given as goal

-- the file has its place among those that are left
abbrev pub invariant-loop-i : goal.invariant-loop-i
invariant-loop-i l = l.i + place_of (files_in (drop l.i l.self-inside.entries.items)) l.name ≡ place_of (files_in l.self-inside.entries.items) l.name
