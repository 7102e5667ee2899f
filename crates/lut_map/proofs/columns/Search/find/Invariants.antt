use Rattle.std.proofs.Common.{◌≡◌}
use Rattle.lut_map.specs.Search.{state_at, StayMet}
use Rattle.lut_map.specs.Searches.{IsSound, work_of}
use Rattle.lut_map.specs.declared.columns.State.TheVariants.{New}
use Rattle.lut_map.proofs.columns.Search.find.Given as goal

abbrev pub invariant-loop-last : goal.invariant-loop-last
invariant-loop-last l = record {
  sound : IsSound l.cells l.self;
  stay : StayMet l.fn.self.states.items l.self.states.items;
  met : state_at l.self.states.items l.root ≡ New → ⊥;
}

abbrev pub decreases-loop-last : goal.decreases-loop-last
decreases-loop-last l = work_of l.self
