use Rattle.session_laws.proofs.OneLane.{points-count}
use Rattle.session_laws.proofs.laws.points_of_one_lane_count.Goals as goal

-- in one lane the points rise with the turns, so the entries before a point are the earlier ones
pub returns : goal.returns
returns c = points-count
