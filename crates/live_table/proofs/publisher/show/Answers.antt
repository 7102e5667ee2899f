use Rattle.std.proofs.Common.{◌∙◌}
use Rattle.live_table.proofs.Seeing.{by_two}
use Rattle.live_table.proofs.Publications.{fold_one, publishes}
use Rattle.live_table.proofs.publisher.show.Goals as goal

-- the copy with the change goes on from the published one
pub publish_as-requires : goal.publish_as-requires
publish_as-requires g c next is =
    let one = c.requires in
    publishes _ _ _ next one.0.entry one.0.front one.2 (is ∙ fold_one _ _ one.0 _ one.1)

-- that copy is published, or nothing
pub returns : goal.returns
returns g c = by_two c.publish_as.result.1
    (λ _ values rule. ((λ k one. values.0 ∙ fold_one _ _ k _ one), values.1, rule.2))
    (λ _ values rule. (values.0, rule))
    c.publish_as.ensures.values
    c.publish_as.ensures.rule
