use Rattle.live_table.proofs.RuleSteps.{admits}
use Rattle.live_table.proofs.publisher.newcomer.Goals as goal

-- a newcomer may come
pub reader-requires : goal.reader-requires
reader-requires g c = admits
