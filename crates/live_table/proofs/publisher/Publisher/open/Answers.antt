use Rattle.std.proofs.Common.{◌∙◌}
use Rattle.live_table.proofs.Publications.{fold_none, republishes}
use Rattle.live_table.proofs.publisher.Publisher.open.Goals as goal

-- nothing is pending, so the published table stays
pub publish_as-writer-requires : goal.publish_as-writer-requires
publish_as-writer-requires g c next is =
    republishes _ _ _ next (is ∙ fold_none _ _ _ c.in_ok-writer.ensures.1)
