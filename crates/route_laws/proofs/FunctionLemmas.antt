-- A configuration that places mapped cells has their bits and their outputs.
use Rattle.std.proofs.Common.{◌≡◌, ℕ, ◌^◌, ◌<◌, ◌≤◌, ⊎_elim, List, length, take, get_or, refl, ap, subst, sym, ◌∙◌, arith}
use Rattle.std.specs.Int.{bit_at}
use Rattle.std.proofs.lemmas.Bool.{cases_lt}
use Rattle.std.proofs.lemmas.List.{get_or_past, get_or-take, length-take-le, length-map, ext_get_or}
use Rattle.std.proofs.Math.ListN.{get_or-map}
use Rattle.pch_base.specs.BitLists.{word_of}
use Rattle.fabric_defs.specs.Numbered.{list_of}
use Rattle.fabric_defs.specs.Bits.{AreBits}
use Rattle.fabric_defs.specs.Geometries.{GeometryValue, pin_count, cell_count}
use Rattle.fabric_defs.specs.Configurations.{ConfigValue}
use Rattle.fabric_defs.specs.Wirings.{Wiring, Wired, pad_bits, tapped_bit, channel, FabOut}
use Rattle.fabric_defs.specs.Configurations.{output_word}
use Rattle.fabric_laws.proofs.NumberedLemmas.{length-list_of, get_or-list_of}
use Rattle.fabric_laws.proofs.LayoutLemmas.{cell_number-lt}
use Rattle.fabric_laws.proofs.LimitLemmas.{has_ranges}
use Rattle.fabric_laws.proofs.BitLemmas.{AreBits-get_or, AreBits-from_get_or, wired_cells-bits}
use Rattle.map_laws.proofs.TableLemmas.{word_of-lt}
use Rattle.cell_defs.specs.declared.source.Source.{Source}
use Rattle.cell_defs.specs.declared.source.Source.TheVariants.{Zero, Pad, Cell}
use Rattle.cell_defs.specs.Cells.{IsSourceBelow}
use Rattle.cell_defs.specs.Sources.{pin_source, output_source, output_sources}
use Rattle.cell_defs.specs.Evaluation.{source_bit, source_bits, chosen_bit}
use Rattle.cell_laws.proofs.WiredSources.{wired_bits, pad_bits-source}
use Rattle.cell_laws.proofs.CellsExistence.{sources_in, sources_in-are}
use Rattle.map_defs.specs.Mapped.{MappedValue, mapped_cell, AreMapped}
use Rattle.map_defs.specs.Outputs.{MappedBits, LutOut}
use Rattle.route_defs.specs.declared.span.Span.{Span}
use Rattle.route_defs.specs.Placed.{IsPlaced, placed_number, placed_source, row_of, pin_of, output_of}
use Rattle.route_laws.proofs.BitLemmas.{word_of-same, bit_at-least}
use Rattle.route_laws.proofs.SourceLemmas.{pins_below, All-place}

-- the mapped cells have the bits a, where the cells of the fabric have the bits b
abbrev pub AreBitsOf : MappedValue → GeometryValue → List ℕ → List ℕ → List ℕ → Type 0
AreBitsOf l g columns b a = (k : ℕ) → k < length l.cells → get_or a k 0 ≡ get_or b (placed_number g columns k) 0

-- a source has the bit of the source that stands for it
placed_source-bit : (l : MappedValue) (g : GeometryValue) (columns x b a : List ℕ) (s : Source) → AreBitsOf l g columns b a
    → IsSourceBelow l.inputs (length l.cells) s → source_bit x b (placed_source g columns s) ≡ source_bit x a s
placed_source-bit l g columns x b a Zero same below = refl
placed_source-bit l g columns x b a (Pad i) same below = refl
placed_source-bit l g columns x b a (Cell k) same below = sym (same k below)

-- the bit of a source is a bit
source_bit-le : (x b : List ℕ) (s : Source) → AreBits x → AreBits b → source_bit x b s ≤ 1
source_bit-le x b Zero p q = omega arith
source_bit-le x b (Pad i) p q = AreBits-get_or x i p
source_bit-le x b (Cell k) p q = AreBits-get_or b k q

-- the bits of sources at each place, 0 past the last one
get_or-source_bits : (x b : List ℕ) (ss : List Source) (i : ℕ) → get_or (source_bits x b ss) i 0 ≡ source_bit x b (get_or ss i Zero)
get_or-source_bits x b ss i = get_or-map (source_bit x b) ss i Zero

-- so the bits of several sources are bits
source_bits-bits : (x b : List ℕ) (ss : List Source) → AreBits x → AreBits b → AreBits (source_bits x b ss)
source_bits-bits x b ss p q =
    AreBits-from_get_or (source_bits x b ss)
    (λ i lt. let e : get_or (source_bits x b ss) i 0 ≡ source_bit x b (get_or ss i Zero) = get_or-source_bits x b ss i in
    let le : source_bit x b (get_or ss i Zero) ≤ 1 = source_bit-le x b (get_or ss i Zero) p q in
    omega arith)

-- the pins of the placed cell have the bits of the mapped cell's pins, and 0 past them
pin_bit : (l : MappedValue) (columns tracks : List ℕ) (spans : List Span) (config : ConfigValue) (x b a : List ℕ) (k i : ℕ)
    → AreMapped l → IsPlaced l columns spans tracks config → AreBitsOf l config.geometry columns b a → k < length l.cells
    → source_bit x b (get_or (list_of (pin_count config.geometry) (pin_source config (get_or columns k 0) (row_of columns k))) i Zero)
    ≡ source_bit x a (pin_of (mapped_cell l k) i)
pin_bit l columns tracks spans config x b a k i mapped placed same lt =
    let g = config.geometry in
    let n = pin_count g in
    let ps : ℕ → Source = pin_source config (get_or columns k 0) (row_of columns k) in
    let pins = (mapped_cell l k).pins in
    ⊎_elim
    (λ here. ap (source_bit x b) (get_or-list_of n ps i Zero here ∙ placed.cells.pins k i lt here)
    ∙ placed_source-bit l g columns x b a (pin_of (mapped_cell l k) i) same
    (All-place (IsSourceBelow l.inputs (length l.cells)) pins i (pins_below l k mapped.settled lt) tt))
    (λ past. let few : length pins ≤ n = placed.few_pins k lt in
    ap (source_bit x b) (get_or_past (list_of n ps) i Zero (omega (arith, length-list_of n ps)))
    ∙ sym (ap (source_bit x a) (get_or_past pins i Zero (omega arith))))
    (cases_lt i n)

-- the bit of a placed cell is the one that its pins choose
cell_bit : (l : MappedValue) (columns tracks : List ℕ) (spans : List Span) (config : ConfigValue) (x a : List ℕ) (w : Wiring) (k : ℕ)
    → AreMapped l → IsPlaced l columns spans tracks config → AreBits x → Wired config x w
    → AreBitsOf l config.geometry columns w.cells a → k < length l.cells
    → get_or w.cells (placed_number config.geometry columns k) 0 ≡ chosen_bit x a (mapped_cell l k)
cell_bit l columns tracks spans config x a w k mapped placed bits wired same lt =
    let g = config.geometry in
    let n = pin_count g in
    let c = get_or columns k 0 in
    let r = row_of columns k in
    let t = (mapped_cell l k).table in
    let ss = list_of n (pin_source config c r) in
    let column = placed.room.column k lt in
    let row = placed.room.row k lt in
    let of = sources_in-are config in
    let ranges = has_ranges config placed.configuration in
    let all = wired_bits config (sources_in config) x w ranges of wired in
    let number : placed_number g columns k < cell_count g = cell_number-lt g c r column row in
    let short : word_of (source_bits x w.cells ss) < 2 ^ length (source_bits x w.cells ss) =
    word_of-lt (source_bits x w.cells ss) (source_bits-bits x w.cells ss bits (wired_cells-bits config x w wired)) in
    let long : length (source_bits x w.cells ss) ≡ n = length-map ss (source_bit x w.cells) ∙ length-list_of n (pin_source config c r) in
    let P : ℕ → Type 0 = λ m. word_of (source_bits x w.cells ss) < 2 ^ m in
    all.each (placed_number g columns k) (omega (arith, of.count))
    ∙ ap (chosen_bit x w.cells) (of.each c r column row)
    ∙ ap (λ m. bit_at m (word_of (source_bits x w.cells ss))) (placed.cells.tables k lt)
    ∙ bit_at-least t (2 ^ n) (word_of (source_bits x w.cells ss)) (subst P long short)
    ∙ ap (bit_at t) (word_of-same (source_bits x w.cells ss) (source_bits x a (mapped_cell l k).pins)
    (λ i. get_or-source_bits x w.cells ss i
    ∙ pin_bit l columns tracks spans config x w.cells a k i mapped placed same lt
    ∙ sym (get_or-source_bits x a (mapped_cell l k).pins i)))

-- so the mapped cells have the bits of the placed ones
pub mapped_bits : (l : MappedValue) (columns tracks : List ℕ) (spans : List Span) (config : ConfigValue) (x a : List ℕ) (w : Wiring)
    → AreMapped l → IsPlaced l columns spans tracks config → AreBits x → Wired config x w → length a ≡ length l.cells
    → AreBitsOf l config.geometry columns w.cells a → MappedBits l x a
mapped_bits l columns tracks spans config x a w mapped placed bits wired count same = record {
  count = count;
  each = λ k lt. same k lt ∙ cell_bit l columns tracks spans config x a w k mapped placed bits wired same lt;
}

-- an output pad has the bit of the output
output_bit : (l : MappedValue) (columns tracks : List ℕ) (spans : List Span) (config : ConfigValue) (x a : List ℕ) (w : Wiring) (i : ℕ)
    → AreMapped l → IsPlaced l columns spans tracks config → Wired config x w
    → AreBitsOf l config.geometry columns w.cells a → i < length l.outputs
    → get_or (pad_bits config w) i 0 ≡ get_or (source_bits x a l.outputs) i 0
output_bit l columns tracks spans config x a w i mapped placed wired same lt =
    let g = config.geometry in
    let of = sources_in-are config in
    let pads = output_sources config in
    let less : i < g.output_pads = omega (arith, placed.room.output_pads) in
    let all : source_bits x w.cells pads ≡ pad_bits config w =
    ap (source_bits x w.cells) (sym of.outputs) ∙ pad_bits-source config (sources_in config) x w (has_ranges config placed.configuration) of wired in
    ap (λ bits. get_or bits i 0) (sym all)
    ∙ get_or-source_bits x w.cells pads i
    ∙ ap (source_bit x w.cells) (get_or-list_of g.output_pads (output_source config) i Zero less ∙ placed.output_pads.outputs i less)
    ∙ placed_source-bit l g columns x w.cells a (output_of l i) same
    (All-place (IsSourceBelow l.inputs (length l.cells)) l.outputs i mapped.outputs tt)
    ∙ sym (get_or-source_bits x a l.outputs i)

-- and so the first output pads have the outputs
pub placed_outputs : (l : MappedValue) (columns tracks : List ℕ) (spans : List Span) (config : ConfigValue) (x z : List ℕ)
    → AreMapped l → IsPlaced l columns spans tracks config → AreBits x → FabOut config x z → LutOut l x (take (length l.outputs) z)
placed_outputs l columns tracks spans config x z mapped placed bits out =
    let g = config.geometry in
    let w = out.0 in
    let n = length l.outputs in
    let f : ℕ → ℕ = λ k. get_or w.cells (placed_number g columns k) 0 in
    let a = list_of (length l.cells) f in
    let same : AreBitsOf l g columns w.cells a = λ k lt. get_or-list_of (length l.cells) f k 0 lt in
    let long : length z ≡ g.output_pads =
    ap length out.2 ∙ length-list_of g.output_pads (λ pad. tapped_bit (channel w g.columns) (output_word config pad)) in
    let short : length (take n z) ≡ n = length-take-le n z (omega (arith, placed.room.output_pads)) in (
      a,
      mapped_bits l columns tracks spans config x a w mapped placed bits out.1 (length-list_of (length l.cells) f) same,
      ext_get_or 0 (take n z) (source_bits x a l.outputs)
          (short ∙ sym (length-map l.outputs (source_bit x a)))
          (λ i lt. let within : i < n = omega arith in
          get_or-take n z i 0 within
          ∙ ap (λ bits. get_or bits i 0) out.2
          ∙ output_bit l columns tracks spans config x a w i mapped placed out.1 same within),
    )
