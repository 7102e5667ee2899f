use Rattle.std.proofs.Common.{◌≡◌, ◌-◌, length, take}
use Rattle.sat_trail.specs.Loading.{IsLoading, AreLoadedLists}
use Rattle.sat_trail.proofs.trail.load.Given as goal

abbrev pub invariant-loop-k : goal.invariant-loop-k
invariant-loop-k l = record {
  loading : IsLoading l.set.clauses (length l.fn.region.held) l.k l.region.held;
  names : l.region.unused ≡ take (length l.fn.region.held - l.k) l.fn.region.unused;
  words : l.region.words ≡ l.fn.region.words;
  watch : l.watches.watch ≡ l.fn.watches.watch;
  size : l.watches.links.size ≡ l.fn.watches.links.size;
  lists : AreLoadedLists l.k l.watches.links.lists;
  many_lists : length l.watches.links.lists ≡ length l.fn.watches.links.lists;
}
