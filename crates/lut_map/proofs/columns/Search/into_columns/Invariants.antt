use Rattle.std.proofs.Common.{◌≡◌, map, take}
use Rattle.lut_map.specs.Search.{column_of}
use Rattle.lut_map.proofs.columns.Search.into_columns.Given as goal

abbrev pub invariant-loop-state : goal.invariant-loop-state
invariant-loop-state l = l.columns.items ≡ map column_of (take l.state-index l.fn.self.states.items)
