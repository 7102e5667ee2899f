-- In a wiring each track, pin and output pad has the bit of its source.
use Rattle.std.proofs.Common.{◌≡◌, ℕ, zero, suc, ◌<◌, ◌≤◌, List, get_or, refl, ap, sym, ◌∙◌, arith, add-one}
use Rattle.fabric_defs.specs.Numbered.{list_of}
use Rattle.fabric_defs.specs.Geometries.{GeometryValue, pin_count, cell_count, cell_number}
use Rattle.fabric_defs.specs.Configurations.{ConfigValue, first_word, pin_word, table, track_word, output_word}
use Rattle.fabric_defs.specs.Wirings.{Wiring, Wired, channel, cell_pins, pad_bit, tapped_bit, switched_bit, table_bit, pad_bits}
use Rattle.fabric_laws.specs.Ranges.{HasRanges}
use Rattle.fabric_laws.proofs.NumberedLemmas.{list_of-agree, list_of-get_or, map-list_of}
use Rattle.cell_defs.specs.declared.source.Source.{Source}
use Rattle.cell_defs.specs.Cells.{CellsValue}
use Rattle.cell_defs.specs.Sources.{AreSourcesOf, pad_source, tapped_source, switched_source, track_source, pin_source, output_source}
use Rattle.cell_defs.specs.Evaluation.{source_bit, source_bits, chosen_bit, IsCellBit, CellBits, output_bits}
use Rattle.cell_laws.proofs.Places.{by_place}

-- the bit of a track of channel 0 is that of its source
pad_bit-source : (x a : List ℕ) (word : ℕ) → pad_bit x word ≡ source_bit x a (pad_source word)
pad_bit-source x a zero = refl
pad_bit-source x a (suc p) = refl

-- and that of a track after a column, where the track before has the bit of its source
switched_bit-source : (g : GeometryValue) (x a : List ℕ) (c before word : ℕ) (source : Source) → before ≡ source_bit x a source
    → switched_bit before (λ row. get_or a (cell_number g c row) 0) word ≡ source_bit x a (switched_source g c source word)
switched_bit-source g x a c before zero source e = refl
switched_bit-source g x a c before (suc zero) source e = e
switched_bit-source g x a c before (suc (suc row)) source e = refl

-- the bit of a track is that of its source
pub channel-source : (config : ConfigValue) (x : List ℕ) (w : Wiring) → Wired config x w → (c t : ℕ) → c ≤ config.geometry.columns
    → t < config.geometry.tracks → get_or (channel w c) t 0 ≡ source_bit x w.cells (track_source config c t)
channel-source config x w h zero t le lt = h.first_channel t lt ∙ pad_bit-source x w.cells (first_word config t)
channel-source config x w h (suc c) t le lt =
    ap (λ n. get_or (channel w n) t 0) (sym (add-one c))
    ∙ h.next_channels c t (omega arith) lt
    ∙ switched_bit-source config.geometry x w.cells c (get_or (channel w c) t 0) (track_word config c t) (track_source config c t)
    (channel-source config x w h c t (omega arith) lt)

-- what listens to a track of a channel has the bit of its source
tapped_bit-source : (config : ConfigValue) (x : List ℕ) (w : Wiring) → Wired config x w → (c word : ℕ) → c ≤ config.geometry.columns
    → word ≤ config.geometry.tracks → tapped_bit (channel w c) word ≡ source_bit x w.cells (tapped_source (track_source config c) word)
tapped_bit-source config x w h c zero le within = refl
tapped_bit-source config x w h c (suc t) le within = channel-source config x w h c t le (omega arith)

-- the bits of a cell's pins
cell_pins-source : (config : ConfigValue) (x : List ℕ) (w : Wiring) → HasRanges config → Wired config x w → (column row : ℕ)
    → column < config.geometry.columns → row < config.geometry.rows → cell_number config.geometry column row < cell_count config.geometry
    → cell_pins w (cell_number config.geometry column row)
    ≡ source_bits x w.cells (list_of (pin_count config.geometry) (pin_source config column row))
cell_pins-source config x w ranges h column row lt less within =
    sym (list_of-get_or (pin_count config.geometry) (cell_pins w (cell_number config.geometry column row)) 0
    (h.shape.pins (cell_number config.geometry column row) within))
    ∙ list_of-agree (pin_count config.geometry) _ _
    (λ pin below. h.pins column row pin lt less below
    ∙ tapped_bit-source config x w h column (pin_word config column row pin) (omega arith) (ranges.pin_words column row pin lt less below))
    ∙ sym (map-list_of (source_bit x w.cells) (pin_count config.geometry) (pin_source config column row))

-- the equation of the cell at a column and a row
wired_bit : (config : ConfigValue) (cells : CellsValue) (x : List ℕ) (w : Wiring) → HasRanges config → AreSourcesOf config cells → Wired config x w
    → (column row : ℕ) → column < config.geometry.columns → row < config.geometry.rows
    → cell_number config.geometry column row < cell_count config.geometry → IsCellBit cells x w.cells (cell_number config.geometry column row)
wired_bit config cells x w ranges of h column row lt less within =
    h.cells column row lt less
    ∙ ap (table_bit (table config column row)) (cell_pins-source config x w ranges h column row lt less within)
    ∙ ap (chosen_bit x w.cells) (sym (of.each column row lt less))

-- the cells of a wiring obey the equations of all cells
pub wired_bits : (config : ConfigValue) (cells : CellsValue) (x : List ℕ) (w : Wiring) → HasRanges config → AreSourcesOf config cells → Wired config x w
    → CellBits cells x w.cells
wired_bits config cells x w ranges of h = record {
  count = h.shape.cells ∙ sym of.count;
  each = λ n lt. by_place config.geometry (IsCellBit cells x w.cells) (wired_bit config cells x w ranges of h) n (omega (arith, of.count));
}

-- the output pads have the bits of their sources
pub pad_bits-source : (config : ConfigValue) (cells : CellsValue) (x : List ℕ) (w : Wiring) → HasRanges config → AreSourcesOf config cells → Wired config x w
    → output_bits cells x w.cells ≡ pad_bits config w
pad_bits-source config cells x w ranges of h =
    ap (source_bits x w.cells) of.outputs
    ∙ map-list_of (source_bit x w.cells) config.geometry.output_pads (output_source config)
    ∙ list_of-agree config.geometry.output_pads _ _
    (λ pad lt. sym (tapped_bit-source config x w h config.geometry.columns (output_word config pad) (omega arith) (ranges.output_words pad lt)))
