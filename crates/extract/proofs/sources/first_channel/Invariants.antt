use Rattle.std.proofs.Common.{◌≡◌, map, take}
use Rattle.cell_defs.specs.Sources.{pad_source}
use Rattle.extract.proofs.sources.first_channel.Given as goal

-- the tracks so far have their pads
abbrev pub invariant-loop-word : goal.invariant-loop-word
invariant-loop-word l = l.tracks.items ≡ map pad_source (take l.word-index l.words)
