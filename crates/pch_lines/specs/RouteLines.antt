-- The line that says of what a fabric has too little.
use Rattle.std.specs.Prelude.{ℕ, List, codes}
use Rattle.route_defs.specs.declared.demand.Demand.{Demand}
use Rattle.route_defs.specs.declared.demand.Resource.{Resource}
use Rattle.route_defs.specs.declared.demand.Resource.TheVariants.{InputPads, OutputPads, Columns, Cells, Tracks}
use Rattle.pch_lines.specs.Lines.{and_word, and_number, ended}

-- the word of a resource
abbrev pub resource_word : Resource → List ℕ
resource_word InputPads = codes "input-pads"
resource_word OutputPads = codes "output-pads"
resource_word Columns = codes "columns"
resource_word Cells = codes "cells"
resource_word Tracks = codes "tracks"

-- `unroutable RESOURCE PLACE NEED HAVE`
abbrev pub unroutable_line : Demand → List ℕ
unroutable_line d =
    ended (and_number (and_number (and_number (and_word (codes "unroutable") (resource_word d.resource)) d.place) d.need) d.have)
