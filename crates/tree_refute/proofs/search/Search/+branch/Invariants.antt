use Rattle.std.proofs.Common.{◌-◌, length}
use Rattle.tree_refute.proofs.search.Search.+branch.Given as goal

-- the inputs below
abbrev pub decreases-branch : goal.decreases-branch
decreases-branch l = length l.self.now.net.inputs - l.i
