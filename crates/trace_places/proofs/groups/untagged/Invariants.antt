use Rattle.std.proofs.Common.{◌≡◌, ◌+◌, ◌<◌, ◌≤◌, get_or, IfSome}
use Rattle.trace_places.specs.declared.groups.TheConstants.{GROUP}
use Rattle.trace_places.proofs.groups.untagged.Given as goal

-- the slot that was found is one of the group, and has no tag
abbrev pub invariant-loop-slot : goal.invariant-loop-slot
invariant-loop-slot l = IfSome l.untagged (λ s. (l.first ≤ s) × (s < l.first + GROUP) × (get_or l.tags s 0 ≡ 0))
