-- The words of each part of a configuration, as runs that the code cuts out of all words.
use Rattle.std.proofs.Common.{◌≡◌, ℕ, ◌+◌, ◌<◌, ◌≤◌, List, length, take, All, ap, subst, sym, ◌∙◌, arith}
use Rattle.std.specs.List.{slice_range}
use Rattle.fabric_defs.specs.Geometries.{GeometryValue, pin_count}
use Rattle.fabric_defs.specs.Layout.{table_words, cell_place, table_place, channel_place, output_place}
use Rattle.fabric_defs.specs.Configurations.{ConfigValue, IsConfig, first_words, pin_words, table_words_at, track_words, output_words}
use Rattle.fabric_laws.proofs.PartLemmas.{range_is, pin_words-within, table_words-within, track_words-within, output_words-end, first_words-take, pin_words-range, table_words-range, track_words-range, first_words-le, pin_words-le, track_words-le, output_words-le}

-- the run of this width from this place on is there and lists these words, none of them above the greatest value
pub record IsRun (words listed : List ℕ) (place width most : ℕ) : Type 0 where
  pub fits : place + width ≤ length words
  pub value : slice_range words place (place + width) ≡ listed
  pub within : All (λ word. word ≤ most) (slice_range words place (place + width))

-- a run of the same words, with the same place and width
run_is : (own listed words : List ℕ) (from count place width most : ℕ) → words ≡ own → place ≡ from → width ≡ count
    → from + count ≤ length own → slice_range own from (from + count) ≡ listed → All (λ word. word ≤ most) listed
    → IsRun words listed place width most
run_is own listed words from count place width most same place_is width_is fits value within =
    let P : List ℕ → Type 0 = All (λ word. word ≤ most) in
    let read : slice_range words place (place + width) ≡ listed =
    ap (λ ws. slice_range ws place (place + width)) same
    ∙ ap (λ p. slice_range own p (p + width)) place_is
    ∙ ap (λ n. slice_range own from (from + n)) width_is
    ∙ value in
    record {
      fits = omega (arith, ap length same);
      value = read;
      within = subst P (sym read) within;
    }

-- channel 0
pub first_read : (config : ConfigValue) (words : List ℕ) (width : ℕ) → IsConfig config → words ≡ config.words → width ≡ config.geometry.tracks
    → take width words ≡ first_words config
first_read config words width h same width_is =
    ap (λ ws. take width ws) same ∙ ap (λ n. take n config.words) width_is ∙ first_words-take config h

-- none of its words is above the number of input pads
pub first_within : (config : ConfigValue) (words : List ℕ) (width : ℕ) → IsConfig config → words ≡ config.words → width ≡ config.geometry.tracks
    → All (λ word. word ≤ config.geometry.input_pads) (take width words)
first_within config words width h same width_is =
    let P : List ℕ → Type 0 = All (λ word. word ≤ config.geometry.input_pads) in
    subst P (sym (first_read config words width h same width_is)) (first_words-le config h)

-- the pins of a cell
pub pins_read : (config : ConfigValue) (g : GeometryValue) (words : List ℕ) (column row place width : ℕ) → IsConfig config → g ≡ config.geometry
    → words ≡ config.words → place ≡ cell_place g column row → width ≡ pin_count g
    → column < config.geometry.columns → row < config.geometry.rows
    → IsRun words (pin_words config column row) place width config.geometry.tracks
pins_read config g words column row place width h of same place_is width_is lt inside =
    run_is config.words (pin_words config column row) words (cell_place config.geometry column row) (pin_count config.geometry) place width config.geometry.tracks same
    (place_is ∙ ap (λ g. cell_place g column row) of) (width_is ∙ ap pin_count of)
    (pin_words-within config column row h lt inside) (pin_words-range config column row h lt inside) (pin_words-le config column row h lt inside)

-- the channel after a column
pub tracks_read : (config : ConfigValue) (g : GeometryValue) (words : List ℕ) (column place width : ℕ) → IsConfig config → g ≡ config.geometry
    → words ≡ config.words → place ≡ channel_place g column → width ≡ g.tracks → column < config.geometry.columns
    → IsRun words (track_words config column) place width (config.geometry.rows + 1)
tracks_read config g words column place width h of same place_is width_is lt =
    run_is config.words (track_words config column) words (channel_place config.geometry column) config.geometry.tracks place width (config.geometry.rows + 1) same
    (place_is ∙ ap (λ g. channel_place g column) of) (width_is ∙ ap (λ (g : GeometryValue). g.tracks) of)
    (track_words-within config column h lt) (track_words-range config column h lt) (track_words-le config column h lt)

-- the output pads
pub pads_read : (config : ConfigValue) (g : GeometryValue) (words : List ℕ) (place width : ℕ) → IsConfig config → g ≡ config.geometry
    → words ≡ config.words → place ≡ output_place g → width ≡ g.output_pads
    → IsRun words (output_words config) place width config.geometry.tracks
pads_read config g words place width h of same place_is width_is =
    let fits : output_place config.geometry + config.geometry.output_pads ≤ length config.words = omega (arith, output_words-end config h) in
    run_is config.words (output_words config) words (output_place config.geometry) config.geometry.output_pads place width config.geometry.tracks same
    (place_is ∙ ap output_place of) (width_is ∙ ap (λ (g : GeometryValue). g.output_pads) of)
    fits (range_is config.words (output_place config.geometry) config.geometry.output_pads fits) (output_words-le config h)

-- the words of a cell's table are there
pub table_fits : (config : ConfigValue) (g : GeometryValue) (words : List ℕ) (column row place width : ℕ) → IsConfig config → g ≡ config.geometry
    → words ≡ config.words → place ≡ table_place g column row → width ≡ table_words g
    → column < config.geometry.columns → row < config.geometry.rows
    → place + width ≤ length words
table_fits config g words column row place width h of same place_is width_is lt inside =
    let at : place ≡ table_place config.geometry column row = place_is ∙ ap (λ g. table_place g column row) of in
    let wide : width ≡ table_words config.geometry = width_is ∙ ap table_words of in
    omega (arith, table_words-within config column row h lt inside, ap length same)

-- and they are its words
pub table_read : (config : ConfigValue) (g : GeometryValue) (words : List ℕ) (column row place width : ℕ) → IsConfig config → g ≡ config.geometry
    → words ≡ config.words → place ≡ table_place g column row → width ≡ table_words g
    → column < config.geometry.columns → row < config.geometry.rows
    → slice_range words place (place + width) ≡ table_words_at config column row
table_read config g words column row place width h of same place_is width_is lt inside =
    let at : place ≡ table_place config.geometry column row = place_is ∙ ap (λ g. table_place g column row) of in
    let wide : width ≡ table_words config.geometry = width_is ∙ ap table_words of in
    ap (λ ws. slice_range ws place (place + width)) same
    ∙ ap (λ p. slice_range config.words p (p + width)) at
    ∙ ap (λ n. slice_range config.words (table_place config.geometry column row) (table_place config.geometry column row + n)) wide
    ∙ table_words-range config column row h lt inside
