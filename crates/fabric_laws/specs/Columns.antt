-- Words that take cells of their own column only.
use Rattle.std.specs.Prelude.{ℕ, ◌+◌, ◌<◌, ◌≤◌}
use Rattle.fabric_defs.specs.Configurations.{ConfigValue, track_word}

-- Each track of the channel after a column is off, is kept, or takes a cell of this column: no
-- track takes a cell of a later column, whose bit may depend on the track itself.
abbrev pub TakesOwnColumns : ConfigValue → Type 0
TakesOwnColumns config = (column t : ℕ) → column < config.geometry.columns
    → t < config.geometry.tracks → track_word config column t ≤ config.geometry.rows + 1
