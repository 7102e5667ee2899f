-- The wiring of a configuration and input bits, column by column: it is one, and the only one.
use Rattle.std.proofs.Common.{◌≡◌, ℕ, zero, suc, ◌+◌, ◌<◌, ◌≤◌, List, [], length, get_or, refl, ap, sym, ◌∙◌, arith}
use Rattle.fabric_defs.specs.Numbered.{list_of, joined}
use Rattle.fabric_defs.specs.Geometries.{pin_count, cell_number}
use Rattle.fabric_defs.specs.Configurations.{ConfigValue, first_word, pin_word, table, track_word}
use Rattle.fabric_defs.specs.Wirings.{Wiring, Wired, IsShaped, channel, cell_pins, pad_bit, tapped_bit, switched_bit, table_bit}
use Rattle.fabric_laws.specs.Columns.{TakesOwnColumns}
use Rattle.fabric_laws.proofs.LayoutLemmas.{cell_number-lt}
use Rattle.fabric_laws.proofs.NumberedLemmas.{length-list_of, get_or-list_of, list_of_elements, get_or-rows, length-rows, rows_elements, All-list_of, All-joined}

-- the bits of the pins of a cell, where the channel before it has these bits
pub pins_of : ConfigValue → List ℕ → ℕ → ℕ → List ℕ
pins_of k tracks column row = list_of (pin_count k.geometry) (λ pin. tapped_bit tracks (pin_word k column row pin))

-- and the bit of the cell
pub bit_of : ConfigValue → List ℕ → ℕ → ℕ → ℕ
bit_of k tracks column row = table_bit (table k column row) (pins_of k tracks column row)

-- the bits of the tracks of a channel, from those of the channel before it
pub channel_bits : ConfigValue → List ℕ → ℕ → List ℕ
channel_bits k x zero = list_of k.geometry.tracks (λ t. pad_bit x (first_word k t))
channel_bits k x (suc c) =
    list_of k.geometry.tracks
    (λ t. switched_bit (get_or (channel_bits k x c) t 0) (bit_of k (channel_bits k x c) c) (track_word k c t))

-- all bits, column by column
pub wiring : ConfigValue → List ℕ → Wiring
wiring k x = record {
  channels = list_of (k.geometry.columns + 1) (channel_bits k x);
  pins = joined k.geometry.columns (λ c. list_of k.geometry.rows (pins_of k (channel_bits k x c) c));
  cells = joined k.geometry.columns (λ c. list_of k.geometry.rows (bit_of k (channel_bits k x c) c));
}

-- a channel has a bit for each track
length-channel_bits : (k : ConfigValue) (x : List ℕ) (c : ℕ) → length (channel_bits k x c) ≡ k.geometry.tracks
unfolding channel_bits
length-channel_bits k x zero = length-list_of k.geometry.tracks _
length-channel_bits k x (suc c) = length-list_of k.geometry.tracks _

-- a cell has a bit for each pin
length-pins_of : (k : ConfigValue) (tracks : List ℕ) (column row : ℕ) → length (pins_of k tracks column row) ≡ pin_count k.geometry
unfolding pins_of
length-pins_of k tracks column row =
    length-list_of (pin_count k.geometry) (λ pin. tapped_bit tracks (pin_word k column row pin))

-- what a track reads rests on its own bit before and on the cells of the column alone
pub switched_bit-agree : (rows a b : ℕ) (f g : ℕ → ℕ) (s : ℕ) → a ≡ b → ((r : ℕ) → r < rows → f r ≡ g r) → s ≤ rows + 1
    → switched_bit a f s ≡ switched_bit b g s
switched_bit-agree rows a b f g zero e h le = refl
switched_bit-agree rows a b f g (suc zero) e h le = e
switched_bit-agree rows a b f g (suc (suc r)) e h le = h r (omega arith)

-- the channels of the wiring by place
channel-wiring : (k : ConfigValue) (x : List ℕ) (c : ℕ) → c ≤ k.geometry.columns → channel (wiring k x) c ≡ channel_bits k x c
unfolding wiring
channel-wiring k x c le = get_or-list_of (k.geometry.columns + 1) (channel_bits k x) c [] (omega arith)

-- the pins of the cell at a column and a row
cell_pins-wiring : (k : ConfigValue) (x : List ℕ) (column row : ℕ) → column < k.geometry.columns → row < k.geometry.rows
    → cell_pins (wiring k x) (cell_number k.geometry column row) ≡ pins_of k (channel_bits k x column) column row
unfolding wiring
cell_pins-wiring k x column row lt within =
    get_or-rows k.geometry.columns k.geometry.rows (λ c. pins_of k (channel_bits k x c) c) column row [] lt within

-- and its own bit
cells-wiring : (k : ConfigValue) (x : List ℕ) (column row : ℕ) → column < k.geometry.columns → row < k.geometry.rows
    → get_or (wiring k x).cells (cell_number k.geometry column row) 0 ≡ bit_of k (channel_bits k x column) column row
unfolding wiring
cells-wiring k x column row lt within =
    get_or-rows k.geometry.columns k.geometry.rows (λ c. bit_of k (channel_bits k x c) c) column row 0 lt within

-- the wiring has as many bits as the geometry asks for
wiring-shape : (k : ConfigValue) (x : List ℕ) → IsShaped k.geometry (wiring k x)
unfolding wiring
wiring-shape k x = record {
  channels = length-list_of (k.geometry.columns + 1) (channel_bits k x);
  tracks = λ c le. ap length (channel-wiring k x c le) ∙ length-channel_bits k x c;
  pin_lists = length-rows k.geometry.columns k.geometry.rows (λ c. pins_of k (channel_bits k x c) c);
  pins = λ cell lt.
      All-joined (λ bits. length bits ≡ pin_count k.geometry) k.geometry.columns
      (λ c. list_of k.geometry.rows (pins_of k (channel_bits k x c) c))
      (λ c below. All-list_of (λ bits. length bits ≡ pin_count k.geometry) k.geometry.rows (pins_of k (channel_bits k x c) c)
      (λ row inside. length-pins_of k (channel_bits k x c) c row))
      cell [] (omega (arith, length-rows k.geometry.columns k.geometry.rows (λ c. pins_of k (channel_bits k x c) c)));
  cells = length-rows k.geometry.columns k.geometry.rows (λ c. bit_of k (channel_bits k x c) c);
}

-- the tracks of channel 0 read the input pads
wiring-first_channel : (k : ConfigValue) (x : List ℕ) (t : ℕ) → t < k.geometry.tracks
    → get_or (channel (wiring k x) 0) t 0 ≡ pad_bit x (first_word k t)
unfolding channel_bits
wiring-first_channel k x t lt =
    ap (λ bits. get_or bits t 0) (channel-wiring k x 0 (omega arith))
    ∙ get_or-list_of k.geometry.tracks (λ t. pad_bit x (first_word k t)) t 0 lt

-- pins read the channel before their column
wiring-pins : (k : ConfigValue) (x : List ℕ) (column row pin : ℕ) → column < k.geometry.columns → row < k.geometry.rows
    → pin < pin_count k.geometry
    → get_or (cell_pins (wiring k x) (cell_number k.geometry column row)) pin 0
    ≡ tapped_bit (channel (wiring k x) column) (pin_word k column row pin)
unfolding pins_of
wiring-pins k x column row pin lt within at =
    ap (λ bits. get_or bits pin 0) (cell_pins-wiring k x column row lt within)
    ∙ get_or-list_of (pin_count k.geometry) (λ pin. tapped_bit (channel_bits k x column) (pin_word k column row pin)) pin 0 at
    ∙ ap (λ bits. tapped_bit bits (pin_word k column row pin)) (sym (channel-wiring k x column (omega arith)))

-- cells read their tables
wiring-cells : (k : ConfigValue) (x : List ℕ) (column row : ℕ) → column < k.geometry.columns → row < k.geometry.rows
    → get_or (wiring k x).cells (cell_number k.geometry column row) 0
    ≡ table_bit (table k column row) (cell_pins (wiring k x) (cell_number k.geometry column row))
unfolding bit_of
wiring-cells k x column row lt within =
    cells-wiring k x column row lt within
    ∙ ap (table_bit (table k column row)) (sym (cell_pins-wiring k x column row lt within))

-- the channel behind a column, at the place that a wiring gives it
channel_bits-next : (k : ConfigValue) (x : List ℕ) (c t : ℕ) → t < k.geometry.tracks
    → get_or (channel_bits k x (c + 1)) t 0
    ≡ switched_bit (get_or (channel_bits k x c) t 0) (bit_of k (channel_bits k x c) c) (track_word k c t)
unfolding channel_bits
channel_bits-next k x c t lt =
    let next : c + 1 ≡ suc c = omega arith in
    ap (λ m. get_or (channel_bits k x m) t 0) next
    ∙ get_or-list_of k.geometry.tracks
    (λ t. switched_bit (get_or (channel_bits k x c) t 0) (bit_of k (channel_bits k x c) c) (track_word k c t)) t 0 lt

-- the tracks behind a column read the channel before it and the cells of the column
wiring-next_channels : (k : ConfigValue) (x : List ℕ) → TakesOwnColumns k
    → (column t : ℕ) → column < k.geometry.columns → t < k.geometry.tracks
    → get_or (channel (wiring k x) (column + 1)) t 0
    ≡ switched_bit (get_or (channel (wiring k x) column) t 0)
    (λ row. get_or (wiring k x).cells (cell_number k.geometry column row) 0) (track_word k column t)
wiring-next_channels k x own column t lt inside =
    ap (λ bits. get_or bits t 0) (channel-wiring k x (column + 1) (omega arith))
    ∙ channel_bits-next k x column t inside
    ∙ switched_bit-agree k.geometry.rows _ _ _ _ (track_word k column t)
    (ap (λ bits. get_or bits t 0) (sym (channel-wiring k x column (omega arith))))
    (λ row within. sym (cells-wiring k x column row lt within))
    (own column t lt inside)

-- the wiring is one
pub wiring_is_wired : (k : ConfigValue) (x : List ℕ) → TakesOwnColumns k → Wired k x (wiring k x)
wiring_is_wired k x own = record {
  shape = wiring-shape k x;
  first_channel = wiring-first_channel k x;
  pins = wiring-pins k x;
  cells = wiring-cells k x;
  next_channels = wiring-next_channels k x own;
}

-- in every wiring, a cell has the bits that its channel gives
wired_pins : (k : ConfigValue) (x : List ℕ) (w : Wiring) → Wired k x w
    → (column row : ℕ) → column < k.geometry.columns → row < k.geometry.rows
    → cell_pins w (cell_number k.geometry column row) ≡ pins_of k (channel w column) column row
unfolding pins_of
wired_pins k x w h column row lt within =
    list_of_elements (pin_count k.geometry) (λ pin. tapped_bit (channel w column) (pin_word k column row pin)) _ 0
    (h.shape.pins (cell_number k.geometry column row) (cell_number-lt k.geometry column row lt within))
    (λ pin below. h.pins column row pin lt within below)

-- and the bit of its table that they choose
wired_cell : (k : ConfigValue) (x : List ℕ) (w : Wiring) → Wired k x w
    → (column row : ℕ) → column < k.geometry.columns → row < k.geometry.rows
    → get_or w.cells (cell_number k.geometry column row) 0 ≡ bit_of k (channel w column) column row
unfolding bit_of
wired_cell k x w h column row lt within =
    h.cells column row lt within ∙ ap (table_bit (table k column row)) (wired_pins k x w h column row lt within)

-- and each channel has the bits that are computed
pub wired_channel : (k : ConfigValue) (x : List ℕ) (w : Wiring) → TakesOwnColumns k → Wired k x w
    → (c : ℕ) → c ≤ k.geometry.columns → channel w c ≡ channel_bits k x c
unfolding channel_bits
wired_channel k x w own h zero le =
    list_of_elements k.geometry.tracks (λ t. pad_bit x (first_word k t)) (channel w 0) 0 (h.shape.tracks 0 le) h.first_channel
wired_channel k x w own h (suc c) le =
    let next : suc c ≡ c + 1 = omega arith in
    let lt : c < k.geometry.columns = omega arith in
    let before : channel w c ≡ channel_bits k x c = wired_channel k x w own h c (omega arith) in
    list_of_elements k.geometry.tracks
    (λ t. switched_bit (get_or (channel_bits k x c) t 0) (bit_of k (channel_bits k x c) c) (track_word k c t))
    (channel w (suc c)) 0 (h.shape.tracks (suc c) le)
    (λ t inside.
    ap (λ m. get_or (channel w m) t 0) next
    ∙ h.next_channels c t lt inside
    ∙ switched_bit-agree k.geometry.rows _ _ _ _ (track_word k c t)
    (ap (λ bits. get_or bits t 0) before)
    (λ row within. wired_cell k x w h c row lt within ∙ ap (λ bits. bit_of k bits c row) before)
    (own c t lt inside))

-- wirings with the same parts are the same
same_parts : (v w : Wiring) → v.channels ≡ w.channels → v.pins ≡ w.pins → v.cells ≡ w.cells → v ≡ w
same_parts v w p q r =
    ap (λ channels. let u : Wiring = record { channels = channels; pins = v.pins; cells = v.cells } in u) p
    ∙ ap (λ pins. let u : Wiring = record { channels = w.channels; pins = pins; cells = v.cells } in u) q
    ∙ ap (λ cells. let u : Wiring = record { channels = w.channels; pins = w.pins; cells = cells } in u) r

-- so every wiring is that one
pub wired_is_wiring : (k : ConfigValue) (x : List ℕ) (w : Wiring) → TakesOwnColumns k → Wired k x w → w ≡ wiring k x
unfolding wiring
wired_is_wiring k x w own h =
    same_parts w (wiring k x)
    (list_of_elements (k.geometry.columns + 1) (channel_bits k x) w.channels [] h.shape.channels
    (λ c lt. wired_channel k x w own h c (omega arith)))
    (rows_elements k.geometry.columns k.geometry.rows (λ c. pins_of k (channel_bits k x c) c) w.pins [] h.shape.pin_lists
    (λ column row lt within.
    wired_pins k x w h column row lt within
    ∙ ap (λ bits. pins_of k bits column row) (wired_channel k x w own h column (omega arith))))
    (rows_elements k.geometry.columns k.geometry.rows (λ c. bit_of k (channel_bits k x c) c) w.cells 0 h.shape.cells
    (λ column row lt within.
    wired_cell k x w h column row lt within
    ∙ ap (λ bits. bit_of k bits column row) (wired_channel k x w own h column (omega arith))))

-- and two are the same
pub wiring_is_unique : (k : ConfigValue) (x : List ℕ) (v w : Wiring) → TakesOwnColumns k → Wired k x v → Wired k x w → v ≡ w
wiring_is_unique k x v w own p q = wired_is_wiring k x v own p ∙ sym (wired_is_wiring k x w own q)
