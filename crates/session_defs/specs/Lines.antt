-- The entries of a journal as the lines of a transcript.
use Rattle.std.specs.Prelude.{List, map}
use Rattle.journal_defs.specs.Journals.{Change, agreed, installed, evicted, EntryValue}
use Rattle.script_defs.specs.declared.line.EntryKind.{EntryKind}
use Rattle.script_defs.specs.declared.line.EntryKind.TheVariants.{Agreed, Installed, Evicted}
use Rattle.script_defs.specs.declared.line.Line.{Line}

-- the kind of an entry
abbrev pub kind_of : Change → EntryKind
kind_of (agreed net) = Agreed
kind_of (installed net config) = Installed
kind_of evicted = Evicted

-- the line of an entry
abbrev pub line_of : EntryValue → Line
line_of e = record { kind = kind_of e.change; lane = e.lane; turn = e.turn; slot = e.slot }

-- the lines of a journal
abbrev pub lines_of : List EntryValue → List Line
lines_of h = map line_of h
