-- What a lane knows once all its commands are answered. It's said over the entries that the lane itself has seen,
-- and of no other lane.
use Rattle.std.specs.Prelude.{◌≡◌, ℕ, ◌-◌, ◌≤◌, Bool, true, false, List, length, take, slice_get, Some, sum_by}
use Rattle.std.specs.List.{count_by}
use Rattle.fabric_defs.specs.Geometries.{GeometryValue}
use Rattle.journal_defs.specs.Journals.{EntryValue}
use Rattle.script_defs.specs.declared.command.Command.{Command}
use Rattle.script_defs.specs.declared.line.EntryKind.{EntryKind}
use Rattle.script_defs.specs.Scripts.{ScriptValue}
use Rattle.script_defs.specs.Transcripts.{ReplyValue, agreed, installed, evicted, full, unagreed, refused, stale, out, vacant, width, ones}
use Rattle.session_defs.specs.Files.{Contents}
use Rattle.session_defs.specs.Lines.{kind_of}
use Rattle.session_defs.specs.Meant.{MeansChange}
use Rattle.session_defs.specs.Points.{PointsRise}
use Rattle.session_defs.specs.Replies.{Meets}
use Rattle.session_defs.specs.Transcripts.{slot_of, made}

-- among these entries stands, with this number, one of this kind that the command of this turn of this lane made
pub record MadeEntry (files : List Contents) (h : List EntryValue) (lane turn : ℕ) (command : Command) (kind : EntryKind)
    (number : ℕ) : Type 0 where
  pub entry : EntryValue
  pub numbered : 1 ≤ number
  pub stands : slice_get h (number - 1) ≡ Some entry
  pub kind_is : kind_of entry.change ≡ kind
  pub lane_is : entry.lane ≡ lane
  pub turn_is : entry.turn ≡ turn
  pub slot_is : slot_of command ≡ entry.slot
  pub means : MeansChange files (take (number - 1) h) kind entry.slot command entry.change

-- the reply is one of a command that made an entry
abbrev pub makes_entry : ReplyValue → Bool
makes_entry (agreed at) = true
makes_entry (installed at) = true
makes_entry (evicted at) = true
makes_entry (full at) = false
makes_entry (unagreed at) = false
makes_entry (refused why at) = false
makes_entry (stale checked at) = false
makes_entry (out y bit at) = false
makes_entry (vacant at) = false
makes_entry (width want at) = false
makes_entry (ones counts outputs at) = false

-- how many entries the commands with these replies made
abbrev pub entries_made : List ReplyValue → ℕ
entries_made replies = count_by makes_entry replies

-- the commands of a lane have these replies, each of which is right after the entries that the lane has seen: its
-- points never fall, and what it was told to have made stands among them
pub record LaneEnds (g : GeometryValue) (limit : ℕ) (files : List Contents) (h : List EntryValue) (lane : ℕ)
    (commands : List Command) (replies : List ReplyValue) : Type 0 where
  pub answered : length replies ≡ length commands
  pub points : PointsRise (length h) replies
  pub meets : (turn : ℕ) (command : Command) (reply : ReplyValue) → slice_get commands turn ≡ Some command
      → slice_get replies turn ≡ Some reply → Meets g limit files h command reply
  pub entries : (turn number : ℕ) (kind : EntryKind) (command : Command) → slice_get commands turn ≡ Some command
      → slice_get replies turn ≡ Some (made kind number) → MadeEntry files h lane turn command kind number

-- all lanes of a script have ended, each has seen the whole journal, and they made as many entries as it has
pub record LanesEnd (s : ScriptValue) (files : List Contents) (h : List EntryValue) (replies : List (List ReplyValue))
    : Type 0 where
  pub lanes : length replies ≡ length s.lanes
  pub ends : (lane : ℕ) (commands : List Command) (r : List ReplyValue) → slice_get s.lanes lane ≡ Some commands
      → slice_get replies lane ≡ Some r → LaneEnds s.geometry s.limit files h lane commands r
  pub counted : sum_by entries_made replies ≡ length h
  pub short : length h ≤ s.limit
