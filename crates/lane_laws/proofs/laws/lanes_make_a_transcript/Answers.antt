use Rattle.lane_laws.proofs.Joined.{lanes-transcript}
use Rattle.lane_laws.proofs.laws.lanes_make_a_transcript.Goals as goal

-- each line is of a lane by counting, and all else is what the lanes know
pub returns : goal.returns
returns c = lanes-transcript
