use Rattle.std.proofs.Common.{◌≡◌}
use Rattle.extract.specs.Walks.{IsChannel, cells_before}
use Rattle.extract.proofs.sources.sources_of.Given as goal

-- the tracks have their sources in this channel, and the cells before it are listed
abbrev pub invariant-loop-column : goal.invariant-loop-column
invariant-loop-column l = record {
  channel : IsChannel l.config l.column l.tracks.items;
  cells : l.cells ≡ cells_before l.config l.column 0;
}
