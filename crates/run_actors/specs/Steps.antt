-- What one command does to a device: it is answered, and makes an entry or none.
use Rattle.std.specs.Prelude.{◌≡◌, ◌⊎◌, ℕ, ◌+◌, ◌<◌, ◌≤◌, List, [], ◌∷◌, ◌++◌, length}
use Rattle.journal_defs.specs.Journals.{EntryValue}
use Rattle.slot_core.specs.Values.{TableValue}
use Rattle.script_defs.specs.declared.command.Command.{Command}
use Rattle.script_defs.specs.Transcripts.{ReplyValue, agreed, installed, evicted, full, unagreed, refused, stale, out, vacant, width, ones, IsPrintable}
use Rattle.session_defs.specs.Files.{Contents}
use Rattle.session_defs.specs.Meant.{MeansChange}
use Rattle.session_defs.specs.Points.{before, after}
use Rattle.session_defs.specs.Replies.{Meets}
use Rattle.session_defs.specs.Transcripts.{slot_of, made}
use Rattle.session_defs.specs.Lines.{kind_of}
use Rattle.run_actors.specs.declared.turn.Turn.{Turn}

-- the reply is none to a command that made an entry
abbrev pub MakesNone : ReplyValue → Type 0
MakesNone (agreed at) = ⊥
MakesNone (installed at) = ⊥
MakesNone (evicted at) = ⊥
MakesNone (full at) = Unit {0}
MakesNone (unagreed at) = Unit {0}
MakesNone (refused why at) = Unit {0}
MakesNone (stale checked at) = Unit {0}
MakesNone (out y bit at) = Unit {0}
MakesNone (vacant at) = Unit {0}
MakesNone (width want at) = Unit {0}
MakesNone (ones counts outputs at) = Unit {0}

-- a command that began to be answered after so many entries may have this reply, which has a text, after the
-- journal of the device, and makes no entry
pub record AnswersAlone (files : List Contents) (from : ℕ) (command : Command) (reply : ReplyValue) (t : TableValue)
    : Type 0 where
  pub no_entry : MakesNone reply
  pub printable : IsPrintable reply
  pub meets : Meets t.geometry t.limit files t.journal command reply
  pub begins : from ≤ before reply
  pub rises : before reply ≤ after reply
  pub within : after reply ≤ length t.journal

-- there is room in the journal, and the command of this turn makes this entry after it
pub record Makes (files : List Contents) (at : Turn) (command : Command) (reply : ReplyValue) (t : TableValue)
    (e : EntryValue) : Type 0 where
  pub room : length t.journal < t.limit
  pub lane : e.lane ≡ at.lane
  pub turn : e.turn ≡ at.number
  pub slot : slot_of command ≡ e.slot
  pub means : MeansChange files t.journal (kind_of e.change) e.slot command e.change
  pub says : reply ≡ made (kind_of e.change) (length t.journal + 1)
  pub meets : Meets t.geometry t.limit files (t.journal ++ e ∷ []) command reply

-- the device after one more entry
abbrev pub with_entry : TableValue → EntryValue → TableValue
with_entry t e = record t { journal = t.journal ++ e ∷ [] }

-- the command makes no entry, or one
abbrev pub Answered : List Contents → ℕ → Turn → Command → ReplyValue → TableValue → TableValue → Type 0
Answered files from at command reply old new =
    (AnswersAlone files from command reply old × (new ≡ old))
    ⊎ ((e : EntryValue) × Makes files at command reply old e × (new ≡ with_entry old e))
