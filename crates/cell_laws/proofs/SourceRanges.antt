-- The sources that a configuration gives are input pads and cells of earlier columns.
use Rattle.std.proofs.Common.{ℕ, zero, suc, ◌+◌, ◌*◌, ◌<◌, ◌≤◌, arith}
use Rattle.fabric_defs.specs.Geometries.{GeometryValue, pin_count}
use Rattle.fabric_defs.specs.Configurations.{ConfigValue, first_word, pin_word, track_word, output_word}
use Rattle.fabric_laws.specs.Ranges.{HasRanges}
use Rattle.cell_defs.specs.declared.source.Source.{Source}
use Rattle.cell_defs.specs.declared.source.Source.TheVariants.{Zero, Pad, Cell}
use Rattle.cell_defs.specs.Cells.{IsSourceBelow}
use Rattle.cell_defs.specs.Sources.{pad_source, tapped_source, switched_source, track_source, pin_source, output_source}

-- what is below one number is below a greater one
pub below-weaker : (pads m n : ℕ) (s : Source) → m ≤ n → IsSourceBelow pads m s → IsSourceBelow pads n s
below-weaker pads m n Zero le h = tt
below-weaker pads m n (Pad p) le h = h
below-weaker pads m n (Cell k) le h = omega arith

-- a track of channel 0 listens to no cell
pad_source-below : (pads word : ℕ) → word ≤ pads → IsSourceBelow pads 0 (pad_source word)
pad_source-below pads zero le = tt
pad_source-below pads (suc p) le = omega arith

-- a track after a column listens to a cell of this column, or to what stood before
switched_source-below : (g : GeometryValue) (c : ℕ) (before : Source) (word : ℕ) → word ≤ g.rows + 1
    → IsSourceBelow g.input_pads (c * g.rows) before → IsSourceBelow g.input_pads (suc c * g.rows) (switched_source g c before word)
switched_source-below g c before zero le h = tt
switched_source-below g c before (suc zero) le h = below-weaker g.input_pads (c * g.rows) (suc c * g.rows) before (omega arith) h
switched_source-below g c before (suc (suc row)) le h = omega arith

-- what listens to a track listens to no later cell than the track
pub tapped_source-below : (pads end tracks : ℕ) (of_track : ℕ → Source) (word : ℕ) → word ≤ tracks
    → ((t : ℕ) → t < tracks → IsSourceBelow pads end (of_track t)) → IsSourceBelow pads end (tapped_source of_track word)
tapped_source-below pads end tracks of_track zero le h = tt
tapped_source-below pads end tracks of_track (suc t) le h = h t (omega arith)

-- the source of a track is an input pad or a cell of an earlier column
pub track_source-below : (config : ConfigValue) → HasRanges config → (c t : ℕ) → c ≤ config.geometry.columns → t < config.geometry.tracks
    → IsSourceBelow config.geometry.input_pads (c * config.geometry.rows) (track_source config c t)
track_source-below config h zero t le lt =
    below-weaker config.geometry.input_pads 0 (0 * config.geometry.rows) (track_source config zero t) (omega arith)
    (pad_source-below config.geometry.input_pads (first_word config t) (h.first_words t lt))
track_source-below config h (suc c) t le lt =
    switched_source-below config.geometry c (track_source config c t) (track_word config c t) (h.track_words c t (omega arith) lt)
    (track_source-below config h c t (omega arith) lt)

-- so a pin listens to a cell of an earlier column
pub pin_source-below : (config : ConfigValue) → HasRanges config → (column row pin : ℕ) → column < config.geometry.columns
    → row < config.geometry.rows → pin < pin_count config.geometry
    → IsSourceBelow config.geometry.input_pads (column * config.geometry.rows) (pin_source config column row pin)
pin_source-below config h column row pin lt less within =
    tapped_source-below config.geometry.input_pads (column * config.geometry.rows) config.geometry.tracks (track_source config column)
    (pin_word config column row pin) (h.pin_words column row pin lt less within)
    (λ t below. track_source-below config h column t (omega arith) below)

-- and an output pad to a cell of the fabric
pub output_source-below : (config : ConfigValue) → HasRanges config → (pad : ℕ) → pad < config.geometry.output_pads
    → IsSourceBelow config.geometry.input_pads (config.geometry.columns * config.geometry.rows) (output_source config pad)
output_source-below config h pad lt =
    tapped_source-below config.geometry.input_pads (config.geometry.columns * config.geometry.rows) config.geometry.tracks
    (track_source config config.geometry.columns) (output_word config pad) (h.output_words pad lt)
    (λ t below. track_source-below config h config.geometry.columns t (omega arith) below)
