use Rattle.std.proofs.Common.{◌≡◌, ℕ, ◌<◌, []}
use Rattle.lut_map.specs.Search.{state_at}
use Rattle.lut_map.specs.Searches.{IsSound}
use Rattle.lut_map.specs.declared.columns.State.TheVariants.{New}
use Rattle.lut_map.proofs.columns.columns_of.Given as goal

abbrev pub invariant-loop-k : goal.invariant-loop-k
invariant-loop-k l = record {
  sound : IsSound l.cells l.search;
  empty : l.search.stack.items ≡ [];
  met : (j : ℕ) → j < l.k → state_at l.search.states.items j ≡ New → ⊥;
}
