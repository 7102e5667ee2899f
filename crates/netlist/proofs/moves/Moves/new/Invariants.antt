use Rattle.std.proofs.Common.{◌≡◌, ℕ, ◌<◌, length, get_or}
use Rattle.netlist.proofs.moves.Moves.new.Given as goal

-- what stood at the first places knows its new place
abbrev pub invariant-loop-i : goal.invariant-loop-i
invariant-loop-i l = record {
  as_many : length l.new_places.items ≡ length l.places;
  put : (j : ℕ) → j < l.i → get_or l.new_places.items (get_or l.places j 0) 0 ≡ j;
}
