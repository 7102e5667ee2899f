-- Steps of the pass over the columns.
use Rattle.std.proofs.Common.{◌≡◌, ℕ, zero, suc, ◌+◌, ◌*◌, ◌^◌, ◌<◌, ◌≤◌, Bool, List, [], ◌∷◌, ◌++◌, length, map, take, set, get_or, All, refl, ap, subst, sym, ◌∙◌, ⊎_elim, arith, add-one, length-append}
use Rattle.std.proofs.lemmas.List.{append_assoc, append-nil, length-set, get_or-set_same, get_or-set_other, get_or_read, take_all}
use Rattle.std.proofs.lemmas.List.Elements.{All-append}
use Rattle.std.proofs.lemmas.List.Sums.{sum_by-le}
use Rattle.std.proofs.lemmas.Bool.{cases_lt, cases_eq}
use Rattle.fabric_defs.specs.declared.limits.TheConstants.{MAX_PINS, MAX_SIDE}
use Rattle.fabric_defs.specs.Numbered.{list_of, joined}
use Rattle.fabric_defs.specs.Geometries.{GeometryValue, IsGeometry, pin_count}
use Rattle.fabric_defs.specs.Configurations.{ConfigValue, IsConfig, first_word, first_words, pin_word, pin_words, table, track_word, output_word, output_words}
use Rattle.fabric_laws.proofs.NumberedLemmas.{length-list_of, get_or-list_of, list_of-more, list_of-agree, map-list_of, joined-more, All-list_of, All-joined, get_or-rows, length-rows}
use Rattle.fabric_laws.proofs.LayoutLemmas.{pins_of-le}
use Rattle.fabric_laws.proofs.LimitLemmas.{pin_word-le, output_word-le}
use Rattle.cell_defs.specs.declared.source.Source.{Source}
use Rattle.cell_defs.specs.declared.source.Source.TheVariants.{Zero}
use Rattle.cell_defs.specs.Cells.{CellValue, no_cell}
use Rattle.cell_defs.specs.Sources.{pad_source, tapped_source, switched_source, track_source, pin_source, cell_of, output_sources, AreSourcesOf}
use Rattle.extract.specs.CellLists.{pins_in}
use Rattle.extract.specs.Kept.{cells_with}
use Rattle.extract.specs.Walks.{IsChannel, tapped_sources, cells_before}

-- the first t tracks were passed on to the next channel
pub record IsBetween (config : ConfigValue) (c t : ℕ) (tracks : List Source) : Type 0 where
  pub count : length tracks ≡ config.geometry.tracks
  pub passed : (i : ℕ) → i < t → get_or tracks i Zero ≡ track_source config (c + 1) i
  pub rest : (i : ℕ) → t ≤ i → i < config.geometry.tracks → get_or tracks i Zero ≡ track_source config c i

-- the tracks of the next channel
track_source-more : (config : ConfigValue) (c t : ℕ)
    → track_source config (c + 1) t ≡ switched_source config.geometry c (track_source config c t) (track_word config c t)
track_source-more config c t = ap (λ n. track_source config n t) (add-one c)

-- one more track is passed on
switch_more : (config : ConfigValue) (c t : ℕ) (tracks : List Source) → t < config.geometry.tracks → IsBetween config c t tracks
    → IsBetween config c (t + 1) (set tracks t (switched_source config.geometry c (get_or tracks t Zero) (track_word config c t)))
switch_more config c t tracks lt h =
    let next = switched_source config.geometry c (get_or tracks t Zero) (track_word config c t) in
    record {
      count = length-set tracks t next ∙ h.count;
      passed = λ i below. ⊎_elim
          (λ same. let at : t < length tracks = omega (arith, h.count) in
          ap (λ j. get_or (set tracks t next) j Zero) same
          ∙ get_or-set_same tracks t next Zero at
          ∙ ap (λ s. switched_source config.geometry c s (track_word config c t)) (h.rest t (omega arith) lt)
          ∙ sym (track_source-more config c t)
          ∙ ap (track_source config (c + 1)) (sym same))
          (λ other. get_or-set_other tracks t i next Zero other
          ∙ h.passed i (⊎_elim (λ less. less) (λ more. let e : i ≡ t = omega arith in absurd (other e)) (cases_lt i t)))
          (cases_eq i t);
      rest = λ i le within. let other = λ (e : i ≡ t). let no : ⊥ = omega arith in no in
          get_or-set_other tracks t i next Zero other ∙ h.rest i (omega arith) within;
    }

-- as the code writes it
pub switched_more : (config : ConfigValue) (c t word : ℕ) (g : GeometryValue) (tracks : List Source) (read next : Source) → g ≡ config.geometry
    → t < config.geometry.tracks → word ≡ track_word config c t → read ≡ get_or tracks t read → next ≡ switched_source g c read word
    → IsBetween config c t tracks → IsBetween config c (t + 1) (set tracks t next)
switched_more config c t word g tracks read next g_is lt word_is read_is next_is h =
    let e : next ≡ switched_source config.geometry c (get_or tracks t Zero) (track_word config c t) =
    next_is ∙ ap (λ (v : GeometryValue). switched_source v c read word) g_is
    ∙ ap (λ s. switched_source config.geometry c s word) (get_or_read tracks t read (omega (arith, h.count)) read_is Zero)
    ∙ ap (switched_source config.geometry c (get_or tracks t Zero)) word_is in
    let P : Source → Type 0 = λ s. IsBetween config c (t + 1) (set tracks t s) in
    subst P (sym e) (switch_more config c t tracks lt h)

-- no track is passed on yet
pub none_passed : (config : ConfigValue) (c : ℕ) (tracks : List Source) → IsChannel config c tracks → IsBetween config c 0 tracks
none_passed config c tracks h =
    record { count = h.count; passed = λ i lt. absurd (omega arith); rest = λ i le lt. h.each i lt }

-- after the last track, all are those of the next channel
pub channel_passed : (config : ConfigValue) (c t : ℕ) (tracks : List Source) → config.geometry.tracks ≤ t → IsBetween config c t tracks
    → IsChannel config (c + 1) tracks
channel_passed config c t tracks le h = record { count = h.count; each = λ i lt. h.passed i (omega arith) }

-- the tracks of channel 0
pub first_listed : (config : ConfigValue) (words : List ℕ) (i : ℕ) (tracks : List Source) → words ≡ first_words config
    → tracks ≡ map pad_source (take i words) → length words ≤ i → IsChannel config 0 tracks
first_listed config words i tracks words_are tracks_are past =
    let n : ℕ = config.geometry.tracks in
    let all : tracks ≡ list_of n (λ t. pad_source (first_word config t)) =
    tracks_are ∙ ap (map pad_source) (take_all i words past) ∙ ap (map pad_source) words_are
    ∙ map-list_of pad_source n (first_word config) in
    record {
      count = ap length all ∙ length-list_of n (λ t. pad_source (first_word config t));
      each = λ t lt. ap (λ ss. get_or ss t Zero) all ∙ get_or-list_of n (λ t. pad_source (first_word config t)) t Zero lt;
    }

-- tracks with the same sources are listened to alike
tapped_source-agree : (n : ℕ) (f g : ℕ → Source) (word : ℕ) → ((t : ℕ) → t < n → f t ≡ g t) → word ≤ n
    → tapped_source f word ≡ tapped_source g word
tapped_source-agree n f g zero h le = refl
tapped_source-agree n f g (suc t) h le = h t (omega arith)

-- where words that are listed by their places listen
tapped_sources-listed : (config : ConfigValue) (c n : ℕ) (word : ℕ → ℕ) (tracks : List Source) → IsChannel config c tracks
    → ((i : ℕ) → i < n → word i ≤ config.geometry.tracks)
    → tapped_sources tracks (list_of n word) ≡ list_of n (λ i. tapped_source (track_source config c) (word i))
tapped_sources-listed config c n word tracks h within =
    let listens : ℕ → Source = tapped_source (λ t. get_or tracks t Zero) in
    map-list_of listens n word
    ∙ list_of-agree n (λ i. listens (word i)) (λ i. tapped_source (track_source config c) (word i))
    (λ i lt. tapped_source-agree config.geometry.tracks (λ t. get_or tracks t Zero) (track_source config c) (word i) h.each (within i lt))

-- the sources of the pins of a cell
pub pins_tapped : (config : ConfigValue) (column row : ℕ) (tracks : List Source) (words : List ℕ) → IsConfig config
    → column < config.geometry.columns → row < config.geometry.rows → IsChannel config column tracks → words ≡ pin_words config column row
    → tapped_sources tracks words ≡ (cell_of config column row).pins
pins_tapped config column row tracks words h lt inside channel words_are =
    ap (tapped_sources tracks) words_are
    ∙ tapped_sources-listed config column (pin_count config.geometry) (pin_word config column row) tracks channel
    (λ i below. pin_word-le config column row i h lt inside below)

-- the sources of the output pads
pub pads_tapped : (config : ConfigValue) (column : ℕ) (tracks : List Source) (words : List ℕ) → IsConfig config
    → column ≡ config.geometry.columns → IsChannel config column tracks → words ≡ output_words config
    → tapped_sources tracks words ≡ output_sources config
pads_tapped config column tracks words h column_is channel words_are =
    let C : ℕ → Type 0 = λ c. IsChannel config c tracks in
    ap (tapped_sources tracks) words_are
    ∙ tapped_sources-listed config config.geometry.columns config.geometry.output_pads (output_word config) tracks (subst C column_is channel)
    (λ i below. output_word-le config i h below)

-- how many cells were passed
length-cells_before : (config : ConfigValue) (column row : ℕ)
    → length (cells_before config column row) ≡ column * config.geometry.rows + row
length-cells_before config column row =
    length-append (joined column (λ c. list_of config.geometry.rows (cell_of config c))) (list_of row (cell_of config column))
    ∙ omega (arith, length-rows column config.geometry.rows (cell_of config), length-list_of row (cell_of config column))

-- a cell of any kind has few pins
pins-le : (config : ConfigValue) (column row : ℕ) → length (cell_of config column row).pins ≤ MAX_PINS
pins-le config column row =
    omega (arith, length-list_of (pin_count config.geometry) (pin_source config column row), pins_of-le config.geometry.kind)

-- so the cells that were passed have few pins together
pins_before-le : (config : ConfigValue) (column row : ℕ)
    → pins_in (cells_before config column row) ≤ (column * config.geometry.rows + row) * MAX_PINS
pins_before-le config column row =
    let P : CellValue → Type 0 = λ cell. length cell.pins ≤ MAX_PINS in
    let all : All P (cells_before config column row) =
    All-append P (joined column (λ c. list_of config.geometry.rows (cell_of config c))) (list_of row (cell_of config column))
    (All-joined P column (λ c. list_of config.geometry.rows (cell_of config c))
    (λ c lt. All-list_of P config.geometry.rows (cell_of config c) (λ r less. pins-le config c r)))
    (All-list_of P row (cell_of config column) (λ r less. pins-le config column r)) in
    let most = sum_by-le (λ (cell : CellValue). length cell.pins) MAX_PINS (cells_before config column row) all in
    omega (arith, most, length-cells_before config column row)

-- there is room for one more
pub room_for : (config : ConfigValue) (column row : ℕ) (cells : List CellValue) (pins : ℕ) → IsGeometry config.geometry
    → column < config.geometry.columns → row < config.geometry.rows → cells ≡ cells_before config column row → pins ≡ pin_count config.geometry
    → (pins_in cells + pins < 2 ^ 32) × (length cells + 1 < 2 ^ 32)
room_for config column row cells pins g lt inside cells_are pins_are =
    let below : column * config.geometry.rows + row ≤ MAX_SIDE * MAX_SIDE = grind (arith, g.columns, g.rows) in (
      omega (arith, ap pins_in cells_are, pins_before-le config column row, pins_of-le config.geometry.kind),
      omega (arith, ap length cells_are, length-cells_before config column row),
    )

-- one more cell of the column
pub cell_passed : (config : ConfigValue) (column row : ℕ) (cells : List CellValue) (pins : List Source) (bits : ℕ)
    → cells ≡ cells_before config column row → pins ≡ (cell_of config column row).pins → bits ≡ table config column row
    → cells ++ record { pins = pins; table = bits } ∷ [] ≡ cells_before config column (row + 1)
cell_passed config column row cells pins bits cells_are pins_are bits_are =
    let front = joined column (λ c. list_of config.geometry.rows (cell_of config c)) in
    let cell : CellValue = record { pins = pins; table = bits } in
    let same : cell ≡ cell_of config column row =
    ap (λ ps. let v : CellValue = record { pins = ps; table = bits } in v) pins_are
    ∙ ap (λ b. let v : CellValue = record { pins = (cell_of config column row).pins; table = b } in v) bits_are in
    ap (λ cs. cs ++ cell ∷ []) cells_are
    ∙ ap (λ v. cells_before config column row ++ v ∷ []) same
    ∙ append_assoc front (list_of row (cell_of config column)) (cell_of config column row ∷ [])
    ∙ ap (λ cs. front ++ cs) (sym (list_of-more row (cell_of config column)))

-- after its last cell, the column was passed
pub column_passed : (config : ConfigValue) (column row : ℕ) (cells : List CellValue) → row ≡ config.geometry.rows
    → cells ≡ cells_before config column row → cells ≡ cells_before config (column + 1) 0
column_passed config column row cells all cells_are =
    let parts = λ (c : ℕ). list_of config.geometry.rows (cell_of config c) in
    cells_are
    ∙ ap (λ r. joined column parts ++ list_of r (cell_of config column)) all
    ∙ sym (joined-more column parts)
    ∙ sym (append-nil (joined (column + 1) parts))

-- after the last column, the cells and the output pads are those of the configuration
pub all_passed : (config : ConfigValue) (column : ℕ) (cells : List CellValue) (outputs : List Source) (cone : List Bool)
    → column ≡ config.geometry.columns → cells ≡ cells_before config column 0 → outputs ≡ output_sources config
    → AreSourcesOf config (cells_with config.geometry cells outputs cone)
all_passed config column cells outputs cone all cells_are outputs_are =
    let parts = λ (c : ℕ). list_of config.geometry.rows (cell_of config c) in
    let same : cells ≡ joined config.geometry.columns parts =
    cells_are ∙ append-nil (joined column parts) ∙ ap (λ n. joined n parts) all in
    record {
      geometry = refl;
      count = ap length same ∙ length-rows config.geometry.columns config.geometry.rows (cell_of config);
      each = λ column row lt inside. ap (λ cs. get_or cs (column * config.geometry.rows + row) no_cell) same
          ∙ get_or-rows config.geometry.columns config.geometry.rows (cell_of config) column row no_cell lt inside;
      outputs = outputs_are;
    }
