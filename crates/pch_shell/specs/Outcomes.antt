-- What a command comes to: a status, the text that is written with it, and the bytes that are saved before.
use Rattle.std.specs.Prelude.{ℕ, List, [], Option, Some, None, codes}
use Rattle.pch_io.specs.declared.store.LoadFail.{LoadFail}
use Rattle.pch_io.specs.declared.store.LoadFail.TheVariants as fails
use Rattle.pch_lines.specs.Lines.{and_word, and_number, ended}
use Rattle.pch_shell.specs.declared.status.Status.{Status}
use Rattle.pch_shell.specs.declared.status.Status.TheVariants.{Done, NotAccepted, Words, Store, Differs, Unroutable, Spent, BadInput}

-- the status of a command, the text that is written, and the bytes that are saved before, if any
pub record Outcome : Type 0 where
  pub status : Status
  pub text : List ℕ
  pub saved : Option (List ℕ)

-- a status and its text; nothing is saved
abbrev pub ends_with : Status → List ℕ → Outcome
ends_with status text = record { status = status; text = text; saved = None }

-- what was asked for is done
abbrev pub done : List ℕ → Outcome
done text = ends_with Done text

-- what was asked for is done, and these bytes are its fruit
abbrev pub done_with : List ℕ → List ℕ → Outcome
done_with bytes text = record { status = Done; text = text; saved = Some bytes }

-- what was delivered isn't accepted
abbrev pub refused : List ℕ → Outcome
refused text = ends_with NotAccepted text

-- a specification and a design differ
abbrev pub differs : List ℕ → Outcome
differs text = ends_with Differs text

-- a budget is spent, and these bytes are what it was spent on
abbrev pub spent_with : List ℕ → List ℕ → Outcome
spent_with bytes text = record { status = Spent; text = text; saved = Some bytes }

-- a design needs more than a fabric has
abbrev pub unroutable : List ℕ → Outcome
unroutable text = ends_with Unroutable text

-- a file isn't as its format says
abbrev pub bad_input : List ℕ → Outcome
bad_input text = ends_with BadInput text

-- `written` with the number of bytes
abbrev pub written_line : ℕ → List ℕ
written_line count = ended (and_number (codes "written") count)

-- the words have none of the forms
abbrev pub no_words : Outcome
no_words = ends_with Words (ended (codes "words"))

-- `store NAME` with what went wrong; no line says that memory was wanting
abbrev pub store_line : List ℕ → LoadFail → List ℕ
store_line name fails.Failed = ended (and_word (and_word (codes "store") name) (codes "failed"))
store_line name fails.Absent = ended (and_word (and_word (codes "store") name) (codes "absent"))
store_line name fails.TooLong = ended (and_word (and_word (codes "store") name) (codes "too-long"))
store_line name fails.NoMemory = []

-- a file wasn't loaded or saved
abbrev pub not_stored : List ℕ → LoadFail → Outcome
not_stored name fail = ends_with Store (store_line name fail)
