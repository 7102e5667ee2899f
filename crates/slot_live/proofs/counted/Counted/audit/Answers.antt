use Rattle.slot_live.proofs.Sharing.{same_share}
use Rattle.slot_live.proofs.counted.Counted.audit.Goals as goal

-- nothing changes
pub returns-clause-share : goal.returns-clause-share
returns-clause-share g c = same_share c.audit.new.share c.args.whole.now c.audit.ensures.parts c.audit.ensures.amount
