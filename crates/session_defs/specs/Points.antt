-- The points of the journal at which a command was answered.
use Rattle.std.specs.Prelude.{◌≡◌, ℕ, ◌+◌, ◌-◌, ◌≤◌, List, slice_get, Some}
use Rattle.script_defs.specs.Transcripts.{ReplyValue, agreed, installed, evicted, full, unagreed, refused, stale, out, vacant, width, ones}

-- how many entries there were where the command began to be answered
abbrev pub before : ReplyValue → ℕ
before (agreed at) = at - 1
before (installed at) = at - 1
before (evicted at) = at - 1
before (full at) = at
before (unagreed at) = at
before (refused refusal at) = at
before (stale checked at) = checked
before (out y bit at) = at
before (vacant at) = at
before (width want at) = at
before (ones counts outputs at) = at

-- how many entries there were where the answer was given
abbrev pub after : ReplyValue → ℕ
after (agreed at) = at
after (installed at) = at
after (evicted at) = at
after (full at) = at
after (unagreed at) = at
after (refused refusal at) = at
after (stale checked at) = at
after (out y bit at) = at
after (vacant at) = at
after (width want at) = at
after (ones counts outputs at) = at

-- the points of a lane's replies never fall, and none is behind the journal's end
pub record PointsRise (entries : ℕ) (replies : List ReplyValue) : Type 0 where
  pub rises : (turn : ℕ) (r : ReplyValue) → slice_get replies turn ≡ Some r → before r ≤ after r
  pub within : (turn : ℕ) (r : ReplyValue) → slice_get replies turn ≡ Some r → after r ≤ entries
  pub never_falls : (turn : ℕ) (r next : ReplyValue) → slice_get replies turn ≡ Some r
      → slice_get replies (turn + 1) ≡ Some next → after r ≤ before next
