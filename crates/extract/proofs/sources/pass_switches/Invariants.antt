use Rattle.extract.proofs.WalkLemmas.{IsBetween}
use Rattle.extract.proofs.sources.pass_switches.Given as goal

-- the tracks so far have the sources behind the column, the others those before it
abbrev pub invariant-loop-t : goal.invariant-loop-t
invariant-loop-t l = IsBetween l.config l.column l.t l.tracks.items
