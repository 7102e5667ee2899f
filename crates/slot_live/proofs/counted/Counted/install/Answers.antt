use Rattle.std.proofs.Common.{◌+◌}
use Rattle.slot_live.proofs.Sharing.{same_share}
use Rattle.slot_live.proofs.counted.Counted.install.Goals as goal

-- the entry counts in the share
pub returns-clause-counted : goal.returns-clause-counted
returns-clause-counted g c =
    same_share c.add.new.share (record c.args.share.now { amount = c.args.share.now.amount + 1 }) c.add.ensures.parts
    c.add.ensures.amount
