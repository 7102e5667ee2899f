-- Channels and cells, from one column to the next.
use Rattle.std.proofs.Common.{◌≡◌, ℕ, suc, ◌+◌, ◌*◌, ◌<◌, ⊎_elim, List, [], ◌∷◌, length, map, set, get_or, ap, sym, ◌∙◌, arith}
use Rattle.std.proofs.lemmas.List.{get_or-set_same, get_or-set_other, ext_get_or}
use Rattle.std.proofs.lemmas.Bool.{cases_eq}
use Rattle.fabric_defs.specs.Geometries.{cell_count, cell_number}
use Rattle.fabric_defs.specs.Configurations.{ConfigValue, IsConfig, first_word, pin_words, table, track_word, output_word}
use Rattle.fabric_defs.specs.Wirings.{Wiring, Wired, channel, pad_bit, tapped_bit, switched_bit, table_bit, pad_bits}
use Rattle.fabric_laws.proofs.NumberedLemmas.{list_of_elements}
use Rattle.fabric_laws.proofs.LayoutLemmas.{cell_number-lt}
use Rattle.fabric_laws.proofs.LimitLemmas.{track_word-le}
use Rattle.fabric_laws.proofs.WiringLemmas.{switched_bit-agree}
use Rattle.fabric.specs.Evaluation.{HasChannel, HasCells}
use Rattle.fabric.proofs.PinLemmas.{tapped_at, pins_wired}

-- a list that begins with 0 and goes on as a channel does
off_and_channel : (tracks bits : List ℕ) → length tracks ≡ length bits + 1 → get_or tracks 0 0 ≡ 0
    → ((t : ℕ) → t < length bits → get_or tracks (t + 1) 0 ≡ get_or bits t 0) → tracks ≡ 0 ∷ bits
off_and_channel [] bits e off h = absurd (omega arith)
off_and_channel (b ∷ bs) bits e off h =
    let rest : bs ≡ bits =
    ext_get_or 0 bs bits (omega arith)
    (λ t lt. let at : t + 1 ≡ suc t = omega arith in
    ap (λ m. get_or (b ∷ bs) m 0) (sym at) ∙ h t (omega arith)) in
    cc

-- the tracks have the bits of channel 0
pub HasChannel-first : (config : ConfigValue) (x tracks : List ℕ) → length tracks ≡ config.geometry.tracks + 1 → get_or tracks 0 0 ≡ 0
    → ((t : ℕ) → t < config.geometry.tracks → get_or tracks (t + 1) 0 ≡ pad_bit x (first_word config t)) → HasChannel config x 0 tracks
HasChannel-first config x tracks long off h = λ w wired.
    let width : length (channel w 0) ≡ config.geometry.tracks = wired.shape.tracks 0 (omega arith) in
    off_and_channel tracks (channel w 0) (omega arith) off
    (λ t lt. h t (omega arith) ∙ sym (wired.first_channel t (omega arith)))

-- the tracks have the bits of the channel after a column
pub channel_next : (config : ConfigValue) (x old tracks : List ℕ) (column : ℕ) (w : Wiring) → column < config.geometry.columns → Wired config x w
    → length tracks ≡ config.geometry.tracks + 1 → old ≡ 0 ∷ channel w column → get_or tracks 0 0 ≡ get_or old 0 0
    → ((t : ℕ) → t < config.geometry.tracks → get_or tracks (t + 1) 0 ≡ get_or (channel w (column + 1)) t 0)
    → tracks ≡ 0 ∷ channel w (column + 1)
channel_next config x old tracks column w lt wired long before off h =
    let width : length (channel w (column + 1)) ≡ config.geometry.tracks = wired.shape.tracks (column + 1) (omega arith) in
    off_and_channel tracks (channel w (column + 1)) (omega arith) (off ∙ ap (λ l. get_or l 0 0) before) (λ t within. h t (omega arith))

-- one more cell of a column
pub HasCells-more : (config : ConfigValue) (x tracks cells : List ℕ) (column row bit : ℕ) → column < config.geometry.columns → row < config.geometry.rows
    → length cells ≡ cell_count config.geometry → HasChannel config x column tracks
    → HasCells config x (column * config.geometry.rows + row) cells
    → bit ≡ table_bit (table config column row) (map (λ word. get_or tracks word 0) (pin_words config column row))
    → HasCells config x (column * config.geometry.rows + (row + 1)) (set cells (column * config.geometry.rows + row) bit)
HasCells-more config x tracks cells column row bit c_lt r_lt long before done is = λ w wired n lt.
    let first : ℕ = column * config.geometry.rows in
    let inside : first + row < cell_count config.geometry = cell_number-lt config.geometry column row c_lt r_lt in
    let right : bit ≡ get_or w.cells (first + row) 0 =
    is ∙ ap (table_bit (table config column row)) (pins_wired config x w tracks column row wired (before w wired) c_lt r_lt) ∙ sym (wired.cells column row c_lt r_lt) in
    ⊎_elim
    (λ here. ap (λ m. get_or (set cells (first + row) bit) m 0) here
    ∙ get_or-set_same cells (first + row) bit 0 (omega arith)
    ∙ right ∙ ap (λ m. get_or w.cells m 0) (sym here))
    (λ other. get_or-set_other cells (first + row) n bit 0 other ∙ done w wired n (omega arith))
    (cases_eq n (first + row))

-- the bit that a track takes after a column
pub switched_right : (config : ConfigValue) (x tracks cells : List ℕ) (column t before : ℕ) (w : Wiring) → IsConfig config → column < config.geometry.columns
    → t < config.geometry.tracks → HasChannel config x column tracks → HasCells config x ((column + 1) * config.geometry.rows) cells → Wired config x w
    → before ≡ get_or tracks (t + 1) 0
    → switched_bit before (λ row. get_or cells (column * config.geometry.rows + row) 0) (track_word config column t) ≡ get_or (channel w (column + 1)) t 0
switched_right config x tracks cells column t before w h c_lt lt has_channel has_cells wired is =
    let next : t + 1 ≡ suc t = omega arith in
    let kept : before ≡ get_or (channel w column) t 0 =
    is ∙ ap (λ m. get_or tracks m 0) next ∙ ap (λ l. get_or l (suc t) 0) (has_channel w wired) in
    switched_bit-agree config.geometry.rows before (get_or (channel w column) t 0)
    (λ row. get_or cells (column * config.geometry.rows + row) 0) (λ row. get_or w.cells (cell_number config.geometry column row) 0)
    (track_word config column t) kept
    (λ row below. has_cells w wired (column * config.geometry.rows + row) (grind arith))
    (track_word-le config column t h c_lt lt)
    ∙ sym (wired.next_channels column t c_lt lt)

-- a track is written
pub track_written : (tracks : List ℕ) (t bit j : ℕ) → t + 1 < length tracks → j ≡ t → get_or (set tracks (t + 1) bit) (j + 1) 0 ≡ bit
track_written tracks t bit j lt e =
    ap (λ m. get_or (set tracks (t + 1) bit) (m + 1) 0) e ∙ get_or-set_same tracks (t + 1) bit 0 lt

-- and no other one
pub track_left : (tracks : List ℕ) (t bit j : ℕ) → (j ≡ t → ⊥) → get_or (set tracks (t + 1) bit) (j + 1) 0 ≡ get_or tracks (j + 1) 0
track_left tracks t bit j other = get_or-set_other tracks (t + 1) (j + 1) bit 0 (λ e. other (omega arith))

-- the bits of the output pads
pub pads_right : (config : ConfigValue) (x tracks bits : List ℕ) (w : Wiring) → HasChannel config x config.geometry.columns tracks → Wired config x w
    → length bits ≡ config.geometry.output_pads
    → ((pad : ℕ) → pad < config.geometry.output_pads → get_or bits pad 0 ≡ get_or tracks (output_word config pad) 0)
    → bits ≡ pad_bits config w
pads_right config x tracks bits w has_channel wired long h =
    list_of_elements config.geometry.output_pads (λ pad. tapped_bit (channel w config.geometry.columns) (output_word config pad)) bits 0 long
    (λ pad lt. h pad lt ∙ ap (λ l. get_or l (output_word config pad) 0) (has_channel w wired)
    ∙ tapped_at (channel w config.geometry.columns) (output_word config pad))
