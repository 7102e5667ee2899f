use Rattle.std.proofs.Common.{◌≡◌, take}
use Rattle.extract.specs.Walks.{tapped_sources}
use Rattle.extract.proofs.sources.tap.Given as goal

-- the words so far have the sources of the tracks that they tap
abbrev pub invariant-loop-word : goal.invariant-loop-word
invariant-loop-word l = l.sources.items ≡ tapped_sources l.tracks (take l.word-index l.words)
