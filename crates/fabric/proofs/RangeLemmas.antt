-- Words in their ranges, from one run of words with the same greatest value to the next.
use Rattle.std.proofs.Common.{◌≡◌, ℕ, ◌+◌, ◌-◌, ◌^◌, ◌<◌, ◌≤◌, ⊎_elim, List, [], ◌∷◌, length, suc, get_or, ap, sym, ◌∙◌, arith, subst}
use Rattle.std.specs.List.{AllZip}
use Rattle.std.proofs.lemmas.Bool.{cases_lt}
use Rattle.fabric_defs.specs.Geometries.{GeometryValue, IsGeometry, pin_count}
use Rattle.fabric_defs.specs.Layout.{table_words, word_count, column_place, cell_place, table_place, channel_place, output_place, limits}
use Rattle.fabric_defs.specs.Configurations.{IsConfig}
use Rattle.fabric_defs.specs.declared.faults.ConfigError.{ConfigError}
use Rattle.fabric.specs.Ranges.{AreAtMost, NamesFirstAbove, AreInRange, NamesFirst}
use Rattle.fabric_defs.specs.declared.limits.TheConstants.{MAX_WORD}
use Rattle.fabric_laws.proofs.LayoutLemmas.{column_place-more, cell_place-more, cell_place-le, column_place-le, table_place-end}
use Rattle.fabric_laws.proofs.LimitLemmas.{length-limits, get_or-limits-first, get_or-limits-pin, get_or-limits-table, get_or-limits-track, get_or-limits-output}

-- one more run of words, whose greatest value is one number
pub AreInRange-more : (g : GeometryValue) (words : List ℕ) (at count most : ℕ) → AreInRange g words at
    → AreAtMost most words at (at + count) → ((i : ℕ) → i < count → get_or (limits g) (at + i) 0 ≡ most)
    → AreInRange g words (at + count)
AreInRange-more g words at count most before run same = λ i lt.
    ⊎_elim (λ earlier. before i earlier)
    (λ past. let e : at + (i - at) ≡ i = omega arith in
    let limit : get_or (limits g) (at + (i - at)) 0 ≡ most = same (i - at) (omega arith) in
    let here : get_or (limits g) i 0 ≡ most = ap (λ m. get_or (limits g) m 0) (sym e) ∙ limit in
    omega (arith, run i (omega arith) lt))
    (cases_lt i at)

-- the first word above the greatest value of its run is the first out of its range
pub NamesFirst-here : (g : GeometryValue) (words : List ℕ) (at count most : ℕ) (error : ConfigError) → AreInRange g words at
    → NamesFirstAbove most words at (at + count) error → ((i : ℕ) → i < count → get_or (limits g) (at + i) 0 ≡ most)
    → at + count ≤ word_count g → NamesFirst g words error
NamesFirst-here g words at count most error before fault same fits =
    let p : ℕ = fault.place in
    let e : at + (p - at) ≡ p = omega (arith, fault.after) in
    let limit : get_or (limits g) (at + (p - at)) 0 ≡ most = same (p - at) (omega (arith, fault.within, fault.after)) in
    let here : get_or (limits g) p 0 ≡ most = ap (λ m. get_or (limits g) m 0) (sym e) ∙ limit in
    let earlier : AreInRange g words (at + (p - at)) =
    AreInRange-more g words at (p - at) most before (λ i from to. fault.earlier i from (omega arith))
    (λ i lt. same i (omega (arith, fault.within, fault.after))) in (
      p,
      fault.named,
      record {
        within = omega (arith, fault.within, length-limits g);
        here = omega (arith, fault.here);
        earlier = λ i lt. earlier i (omega arith);
      },
    )

-- one more cell: its pins are in their ranges, and its table may be any words
pub AreInRange-cell : (g : GeometryValue) (words : List ℕ) (column row : ℕ) → column < g.columns → row < g.rows
    → AreInRange g words (cell_place g column row)
    → AreAtMost g.tracks words (cell_place g column row) (cell_place g column row + pin_count g)
    → ((i : ℕ) → get_or words i 0 < 2 ^ 16)
    → AreInRange g words (cell_place g column (row + 1))
AreInRange-cell g words column row c_lt r_lt before pins short =
    let with_pins : AreInRange g words (table_place g column row) =
    AreInRange-more g words (cell_place g column row) (pin_count g) g.tracks before pins
    (λ i lt. get_or-limits-pin g column row i c_lt r_lt lt) in
    let with_table : AreInRange g words (table_place g column row + table_words g) =
    AreInRange-more g words (table_place g column row) (table_words g) MAX_WORD with_pins
    (λ i from to. omega (arith, short i)) (λ j lt. get_or-limits-table g column row j c_lt r_lt lt) in
    λ i lt. with_table i (omega (arith, cell_place-more g column row, table_place-end g column row))

-- the channel after the cells of a column
pub AreInRange-channel : (g : GeometryValue) (words : List ℕ) (column row : ℕ) → column < g.columns → row ≡ g.rows
    → AreInRange g words (cell_place g column row)
    → AreAtMost (g.rows + 1) words (channel_place g column) (channel_place g column + g.tracks)
    → AreInRange g words (column_place g (column + 1))
AreInRange-channel g words column row c_lt all before tracks =
    let P : ℕ → Type 0 = λ r. AreInRange g words (cell_place g column r) in
    let whole : AreInRange g words (channel_place g column + g.tracks) =
    AreInRange-more g words (channel_place g column) g.tracks (g.rows + 1) (subst P all before) tracks
    (λ i lt. get_or-limits-track g column i c_lt lt) in
    λ i lt. whole i (omega (arith, column_place-more g column))

-- the output pads after all columns
pub AreInRange-outputs : (g : GeometryValue) (words : List ℕ) (column : ℕ) → column ≡ g.columns
    → AreInRange g words (column_place g column)
    → AreAtMost g.tracks words (output_place g) (output_place g + g.output_pads)
    → AreInRange g words (word_count g)
AreInRange-outputs g words column all before pads =
    let P : ℕ → Type 0 = λ c. AreInRange g words (column_place g c) in
    AreInRange-more g words (output_place g) g.output_pads g.tracks (subst P all before) pads (λ i lt. get_or-limits-output g i lt)

-- the tracks of channel 0
pub AreInRange-first : (g : GeometryValue) (words : List ℕ) → AreAtMost g.input_pads words 0 (0 + g.tracks)
    → AreInRange g words (column_place g 0)
AreInRange-first g words run =
    let whole : AreInRange g words (0 + g.tracks) =
    AreInRange-more g words 0 g.tracks g.input_pads (λ i lt. absurd (omega arith)) run
    (λ i lt. let e : 0 + i ≡ i = omega arith in ap (λ m. get_or (limits g) m 0) e ∙ get_or-limits-first g i lt) in
    λ i lt. whole i (omega arith)

-- the fault of the tracks of channel 0
pub NamesFirst-first : (g : GeometryValue) (words : List ℕ) (error : ConfigError)
    → NamesFirstAbove g.input_pads words 0 (0 + g.tracks) error → NamesFirst g words error
NamesFirst-first g words error fault =
    NamesFirst-here g words 0 g.tracks g.input_pads error (λ i lt. absurd (omega arith)) fault
    (λ i lt. let e : 0 + i ≡ i = omega arith in ap (λ m. get_or (limits g) m 0) e ∙ get_or-limits-first g i lt)
    (omega arith)

-- the fault of the pins of a cell
pub NamesFirst-pin : (g : GeometryValue) (words : List ℕ) (column row : ℕ) (error : ConfigError) → column < g.columns → row < g.rows
    → AreInRange g words (cell_place g column row)
    → NamesFirstAbove g.tracks words (cell_place g column row) (cell_place g column row + pin_count g) error → NamesFirst g words error
NamesFirst-pin g words column row error c_lt r_lt before fault =
    NamesFirst-here g words (cell_place g column row) (pin_count g) g.tracks error before fault
    (λ i lt. get_or-limits-pin g column row i c_lt r_lt lt)
    (omega (arith, cell_place-le g column row r_lt, column_place-more g column, column_place-le g (column + 1) (omega arith)))

-- the fault of the channel after a column
pub NamesFirst-track : (g : GeometryValue) (words : List ℕ) (column row : ℕ) (error : ConfigError) → column < g.columns → row ≡ g.rows
    → AreInRange g words (cell_place g column row)
    → NamesFirstAbove (g.rows + 1) words (channel_place g column) (channel_place g column + g.tracks) error → NamesFirst g words error
NamesFirst-track g words column row error c_lt all before fault =
    let P : ℕ → Type 0 = λ r. AreInRange g words (cell_place g column r) in
    NamesFirst-here g words (channel_place g column) g.tracks (g.rows + 1) error (subst P all before) fault
    (λ i lt. get_or-limits-track g column i c_lt lt)
    (omega (arith, column_place-more g column, column_place-le g (column + 1) (omega arith)))

-- the fault of the output pads
pub NamesFirst-output : (g : GeometryValue) (words : List ℕ) (column : ℕ) (error : ConfigError) → column ≡ g.columns
    → AreInRange g words (column_place g column)
    → NamesFirstAbove g.tracks words (output_place g) (output_place g + g.output_pads) error → NamesFirst g words error
NamesFirst-output g words column error all before fault =
    let P : ℕ → Type 0 = λ c. AreInRange g words (column_place g c) in
    NamesFirst-here g words (output_place g) g.output_pads g.tracks error (subst P all before) fault (λ i lt. get_or-limits-output g i lt)
    (omega arith)

-- words that are within their limits at each place are a list within its limits
AllZip-by_place : (most words : List ℕ) → length words ≡ length most
    → ((i : ℕ) → i < length words → get_or words i 0 ≤ get_or most i 0) → AllZip (λ limit word. word ≤ limit) most words
AllZip-by_place [] [] e h = tt
AllZip-by_place [] (y ∷ ys) e h = absurd (omega arith)
AllZip-by_place (x ∷ xs) [] e h = absurd (omega arith)
AllZip-by_place (x ∷ xs) (y ∷ ys) e h = (h 0 (omega arith), AllZip-by_place xs ys (omega arith) (λ i lt. h (suc i) (omega arith)))

-- words that were judged to their end, with a geometry, are a configuration
pub IsConfig-judged : (g : GeometryValue) (words : List ℕ) → IsGeometry g → length words ≡ word_count g
    → AreInRange g words (word_count g) → IsConfig (record { geometry = g; words = words })
IsConfig-judged g words is_geometry long within = record {
  geometry = is_geometry;
  words = AllZip-by_place (limits g) words (long ∙ sym (length-limits g)) (λ i lt. within i (omega arith));
}
