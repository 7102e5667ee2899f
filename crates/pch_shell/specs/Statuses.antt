-- The numbers of the exit statuses.
use Rattle.std.specs.Prelude.{ℕ}
use Rattle.pch_shell.specs.declared.status.Status.{Status}
use Rattle.pch_shell.specs.declared.status.Status.TheVariants.{Done, NotAccepted, Words, Store, Sink, Memory, Differs, Unroutable, Spent, BadInput}

-- the number of each exit status
abbrev pub code_of : Status → ℕ
code_of Done = 0
code_of NotAccepted = 1
code_of Words = 2
code_of Store = 3
code_of Sink = 4
code_of Memory = 5
code_of Differs = 6
code_of Unroutable = 7
code_of Spent = 8
code_of BadInput = 9
