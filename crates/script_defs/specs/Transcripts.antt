-- The value of a transcript: the journal of a session, and what each command was answered.
use Rattle.std.specs.Prelude.{ℕ, ◌≤◌, List, All}
use Rattle.fabric_defs.specs.declared.limits.TheConstants.{MAX_SIDE}
use Rattle.verify_defs.specs.declared.refusal.Refusal.{Refusal}
use Rattle.refusal_text.specs.Reasons.{HasReason}
use Rattle.script_defs.specs.declared.line.Line.{Line}

-- What a command was answered. The last number of each is that of the entries after which it is so, or of the
-- entry that the command made.
pub data ReplyValue : Type 0 where
  -- the command made the entry
  agreed : ℕ → ReplyValue
  installed : ℕ → ReplyValue
  evicted : ℕ → ReplyValue
  -- the journal had its limit
  full : ℕ → ReplyValue
  -- no specification was agreed
  unagreed : ℕ → ReplyValue
  -- the bundle was refused
  refused : Refusal → ℕ → ReplyValue
  -- the bundle was accepted for the specification after the first number of entries, which is no longer agreed
  stale : ℕ → ℕ → ReplyValue
  -- the bits of the outputs, and the bit of the cell
  out : List ℕ → ℕ → ℕ → ReplyValue
  -- nothing ran in the slot
  vacant : ℕ → ReplyValue
  -- the wanted number of inputs
  width : ℕ → ℕ → ReplyValue
  -- the counts for all output pads, and how many of them are outputs of the agreed specification
  ones : List ℕ → ℕ → ℕ → ReplyValue

-- the entries of the journal, and the replies of each lane by turn
pub record TranscriptValue : Type 0 where
  pub journal : List Line
  pub lanes : List (List ReplyValue)

-- a reply that has a text: a refusal has a reason, and counts are there for each output
abbrev pub IsPrintable : ReplyValue → Type 0
IsPrintable (agreed at) = Unit {0}
IsPrintable (installed at) = Unit {0}
IsPrintable (evicted at) = Unit {0}
IsPrintable (full at) = Unit {0}
IsPrintable (unagreed at) = Unit {0}
IsPrintable (refused refusal at) = HasReason refusal
IsPrintable (stale checked at) = Unit {0}
IsPrintable (out y bit at) = Unit {0}
IsPrintable (vacant at) = Unit {0}
IsPrintable (width want at) = Unit {0}
IsPrintable (ones counts outputs at) = outputs ≤ MAX_SIDE

-- each reply of the transcript has a text
abbrev pub ArePrintable : List (List ReplyValue) → Type 0
ArePrintable lanes = All (All IsPrintable) lanes
