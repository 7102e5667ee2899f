use Rattle.live_table.proofs.RuleSteps.{meets, follows_self}
use Rattle.live_table.proofs.live.meet.Goals as goal

-- to look at the published copy keeps the rule
pub enter_as-requires : goal.enter_as-requires
enter_as-requires g c x = meets _ _ x x (λ whole. whole) (follows_self x)
