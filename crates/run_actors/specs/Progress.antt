-- What a device and the replies so far have to do with a script of which some commands were answered.
use Rattle.std.specs.Prelude.{◌≡◌, ℕ, List, [], ◌∷◌, ◌++◌, length}
use Rattle.slot_core.specs.Values.{TableValue}
use Rattle.script_defs.specs.declared.command.Command.{Command}
use Rattle.script_defs.specs.Scripts.{ScriptValue}
use Rattle.script_defs.specs.Transcripts.{ReplyValue, TranscriptValue}
use Rattle.session_defs.specs.Files.{Contents}
use Rattle.session_defs.specs.Transcripts.{IsTranscript}
use Rattle.session_defs.specs.Lines.{lines_of}

-- the script with these lanes in place of its own
abbrev pub with_lanes : ScriptValue → List (List Command) → ScriptValue
with_lanes s lanes = record s { lanes = lanes }

-- the transcript of a device with these replies
abbrev pub transcript_with : TableValue → List (List ReplyValue) → TranscriptValue
transcript_with t replies = record { journal = lines_of t.journal; lanes = replies }

-- the device is one of the script, and its journal and these replies are a transcript of these lanes
pub record HasRun (s : ScriptValue) (files : List Contents) (lanes : List (List Command)) (t : TableValue)
    (replies : List (List ReplyValue)) : Type 0 where
  pub geometry : t.geometry ≡ s.geometry
  pub limit : t.limit ≡ s.limit
  pub transcript : IsTranscript (with_lanes s lanes) files (transcript_with t replies) t.journal

-- the second device is the first with other entries
pub record IsSameDevice (old new : TableValue) : Type 0 where
  pub geometry : new.geometry ≡ old.geometry
  pub slots : new.slots ≡ old.slots
  pub limit : new.limit ≡ old.limit

-- what was run before the lane with this number, and the lane after it, are run
abbrev pub RunsLane : List Contents → ℕ → List Command → List ReplyValue → TableValue → TableValue → Type 0
RunsLane files lane commands replies old new =
    (s : ScriptValue) (lanes : List (List Command)) (before : List (List ReplyValue)) → length lanes ≡ lane
    → HasRun s files lanes old before
    → HasRun s files (lanes ++ commands ∷ []) new (before ++ replies ∷ [])
