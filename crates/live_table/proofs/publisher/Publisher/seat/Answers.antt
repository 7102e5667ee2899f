use Rattle.std.proofs.Common.{rules}
use Rattle.live_table.proofs.RuleSteps.{tells, learns}
use Rattle.live_table.proofs.publisher.Publisher.seat.Goals as goal

-- the writer tells what it has seen
pub tell-requires : goal.tell-requires
tell-requires g c = tells _ _

-- and the newcomer learns it
pub learn-requires : goal.learn-requires
learn-requires g c = record { own = search rules; rule = learns _ _ _ _ }
