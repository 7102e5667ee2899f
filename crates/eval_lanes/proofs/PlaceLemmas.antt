-- Places of what tracks carry.
use Rattle.std.proofs.Common.{◌≡◌, ℕ, zero, suc, ◌+◌, ◌-◌, ◌*◌, ◌<◌, ◌≤◌, ⊎_elim, List, [], ◌∷◌, All, false, nat_lt, length, map, set, get_or, refl, ap, sym, ◌∙◌, arith}
use Rattle.std.specs.Int.{bit_at}
use Rattle.std.proofs.Math.ListN.{get_or-map}
use Rattle.std.proofs.lemmas.Bool.{cases_lt, cases_eq, lt-ltb, le-ltb}
use Rattle.std.proofs.lemmas.List.{length-map, get_or_default, get_or_past, get_or-set_same, get_or-set_other}
use Rattle.fabric_defs.specs.Geometries.{GeometryValue, cell_number}
use Rattle.fabric_defs.specs.Configurations.{ConfigValue, first_word, first_words, pin_words, table, track_word, track_words}
use Rattle.fabric_defs.specs.Wirings.{Wiring, Wired, channel, pad_bit, switched_bit, table_bit}
use Rattle.fabric.proofs.PinLemmas.{listed_at, pins_wired}
use Rattle.fabric.proofs.ColumnLemmas.{HasChannel-first, channel_next}
use Rattle.lanes_defs.specs.Lanes.{lane}
use Rattle.lanes_defs.specs.declared.TheConstants.{LANES}
use Rattle.eval_lanes.specs.Places.{cell_place, place_bit, seen_bit, cell_bit, NamesChannel, HaveValues}
use Rattle.eval_lanes.proofs.LaneLemmas.{lane_at, pad_lane}

-- the bit at the place that stands at i
named_at : (g : GeometryValue) (x cells tracks : List ℕ) (i : ℕ)
    → get_or (map (place_bit g x cells) tracks) i 0 ≡ place_bit g x cells (get_or tracks i 0)
named_at g x cells tracks i = get_or-map (place_bit g x cells) tracks i 0

-- off and the pads come first
pub pad_place : (g : GeometryValue) (x cells : List ℕ) (p : ℕ) → p ≤ g.input_pads → place_bit g x cells p ≡ pad_bit x p
pad_place g x cells zero le = refl
pad_place g x cells (suc p) le = rw (lt-ltb p g.input_pads (omega arith)) refl

-- the places behind the pads are those of the cells
behind_pads : (g : GeometryValue) (x cells : List ℕ) (n : ℕ) → place_bit g x cells (suc (g.input_pads + n)) ≡ get_or cells n 0
behind_pads g x cells n =
    let past : nat_lt (g.input_pads + n) g.input_pads ≡ false = le-ltb (g.input_pads + n) g.input_pads (omega arith) in
    rw past (ap (λ m. get_or cells m 0) (let e : g.input_pads + n - g.input_pads ≡ n = omega arith in e))

-- the cells come behind them
pub cell_at : (g : GeometryValue) (x cells : List ℕ) (n : ℕ) → place_bit g x cells (cell_place g n) ≡ get_or cells n 0
cell_at g x cells n =
    ap (place_bit g x cells) (let e : g.input_pads + 1 + n ≡ suc (g.input_pads + n) = omega arith in e) ∙ behind_pads g x cells n

-- all places are below a bound
all_behind : (bound : ℕ) (tracks : List ℕ) → get_or tracks 0 0 < bound → ((t : ℕ) → t + 1 < length tracks → get_or tracks (t + 1) 0 < bound)
    → (i d : ℕ) → i < length tracks → get_or tracks i d < bound
all_behind bound tracks first rest zero d lt = omega (arith, first, get_or_default tracks 0 d 0 lt)
all_behind bound tracks first rest (suc t) d lt =
    let e : t + 1 ≡ suc t = omega arith in
    omega (arith, rest t (omega arith), ap (λ m. get_or tracks m 0) e, get_or_default tracks (suc t) d 0 lt)

-- so is what is read past their end
pub place_below : (bound : ℕ) (tracks : List ℕ) → All (λ place. place < bound) tracks → 0 < bound → (i : ℕ) → get_or tracks i 0 < bound
place_below bound tracks all some i =
    ⊎_elim (λ here. all i 0 here) (λ past. omega (arith, get_or_past tracks i 0 past)) (cases_lt i (length tracks))

-- the tracks name channel 0
pub names_first : (config : ConfigValue) (tracks words : List ℕ) → length tracks ≡ config.geometry.tracks + 1 → get_or tracks 0 0 ≡ 0
    → words ≡ first_words config → length words ≡ config.geometry.tracks → All (λ word. word ≤ config.geometry.input_pads) words
    → ((t : ℕ) → t < config.geometry.tracks → get_or tracks (t + 1) 0 ≡ get_or words t 0) → NamesChannel config 0 tracks
names_first config tracks words count off is long within done =
    let g = config.geometry in
    record {
      count = count;
      within = all_behind (cell_place g (0 * g.rows)) tracks (omega arith)
          (λ t lt. omega (arith, done t (omega arith), within t 0 (omega arith)));
      bits = λ x w wired. HasChannel-first config x (map (place_bit g x w.cells) tracks)
          (length-map tracks (place_bit g x w.cells) ∙ count)
          (named_at g x w.cells tracks 0 ∙ ap (place_bit g x w.cells) off)
          (λ t lt. named_at g x w.cells tracks (t + 1)
          ∙ ap (place_bit g x w.cells) (done t lt)
          ∙ pad_place g x w.cells (get_or words t 0) (within t 0 (omega arith))
          ∙ ap (pad_bit x) (listed_at g.tracks (first_word config) words t is lt)) w wired;
    }

-- to choose a place and read the bit there is to choose a bit
switched_named : (f : ℕ → ℕ) (before word : ℕ) (places bits : ℕ → ℕ) → f 0 ≡ 0 → ((row : ℕ) → f (places row) ≡ bits row)
    → f (switched_bit before places word) ≡ switched_bit (f before) bits word
switched_named f before zero places bits off h = off
switched_named f before (suc zero) places bits off h = refl
switched_named f before (suc (suc row)) places bits off h = h row

-- the place that is chosen is below the bound
switched_below : (rows first before bound word : ℕ) → before < bound → first + rows ≤ bound → word ≤ rows + 1
    → switched_bit before (λ row. first + row) word < bound
switched_below rows first before bound zero lt fits le = omega arith
switched_below rows first before bound (suc zero) lt fits le = lt
switched_below rows first before bound (suc (suc row)) lt fits le = omega arith

-- the tracks name the channel after a column
pub names_next : (config : ConfigValue) (old tracks words : List ℕ) (column : ℕ) → column < config.geometry.columns → NamesChannel config column old
    → words ≡ track_words config column → length words ≡ config.geometry.tracks → All (λ word. word ≤ config.geometry.rows + 1) words
    → length tracks ≡ length old → get_or tracks 0 0 ≡ get_or old 0 0
    → ((t : ℕ) → t < config.geometry.tracks → get_or tracks (t + 1) 0
    ≡ switched_bit (get_or old (t + 1) 0) (λ row. cell_place config.geometry (column * config.geometry.rows) + row) (get_or words t 0))
    → NamesChannel config (column + 1) tracks
names_next config old tracks words column c_lt before is long within count off done =
    let g = config.geometry in
    let first : ℕ = column * g.rows in
    let next : (column + 1) * g.rows ≡ first + g.rows = grind arith in
    let below : (i : ℕ) → get_or old i 0 < cell_place g first = place_below (cell_place g first) old before.within (omega arith) in
    record {
      count = count ∙ before.count;
      within = all_behind (cell_place g ((column + 1) * g.rows)) tracks
          (omega (arith, off, below 0, next))
          (λ t lt. let inside : t < g.tracks = omega (arith, count, before.count) in
          omega (
            arith,
            done t inside,
            switched_below g.rows (cell_place g first) (get_or old (t + 1) 0) (cell_place g ((column + 1) * g.rows)) (get_or words t 0)
                (omega (arith, below (t + 1), next)) (omega (arith, next)) (within t 0 (omega arith)),
          ));
      bits = λ x w wired.
          let f : ℕ → ℕ = place_bit g x w.cells in
          channel_next config x (map f old) (map f tracks) column w c_lt wired
          (length-map tracks f ∙ count ∙ before.count) (before.bits x w wired)
          (named_at g x w.cells tracks 0 ∙ ap f off ∙ sym (named_at g x w.cells old 0))
          (λ t lt. named_at g x w.cells tracks (t + 1) ∙ ap f (done t lt)
          ∙ switched_named f (get_or old (t + 1) 0) (get_or words t 0) (λ row. cell_place g first + row)
          (λ row. get_or w.cells (cell_number g column row) 0) refl
          (λ row. ap f (let e : g.input_pads + 1 + first + row ≡ g.input_pads + 1 + (first + row) = omega arith in e) ∙ cell_at g x w.cells (first + row))
          ∙ ap (λ b. switched_bit b (λ row. get_or w.cells (cell_number g column row) 0) (get_or words t 0))
          (sym (named_at g x w.cells old (t + 1)) ∙ ap (λ l. get_or l (t + 1) 0) (before.bits x w wired)
          ∙ ap (λ m. get_or (0 ∷ channel w column) m 0) (let e : t + 1 ≡ suc t = omega arith in e))
          ∙ ap (switched_bit (get_or (channel w column) t 0) (λ row. get_or w.cells (cell_number g column row) 0))
          (listed_at g.tracks (track_word config column) words t is lt)
          ∙ sym (wired.next_channels column t c_lt lt));
    }

-- the word at the place of what a track carries has the bits of the track
pub seen_wired : (config : ConfigValue) (inputs : ℕ → List ℕ) (words tracks : List ℕ) (c count j word : ℕ) (w : Wiring)
    → NamesChannel config c tracks → c * config.geometry.rows ≤ count → HaveValues config inputs count words → j < LANES → Wired config (inputs j) w
    → seen_bit (lane words j) tracks word ≡ get_or (0 ∷ channel w c) word 0
seen_wired config inputs words tracks c count j word w names le have j_lt wired =
    let g = config.geometry in
    let place : ℕ = get_or tracks word 0 in
    let bound : ℕ = c * g.rows in
    let below : place < cell_place g bound = place_below (cell_place g bound) tracks names.within (omega arith) word in
    lane_at words j place
    ∙ have j w j_lt wired place (omega arith)
    ∙ sym (named_at g (inputs j) w.cells tracks word)
    ∙ ap (λ l. get_or l word 0) (names.bits (inputs j) w wired)

-- two functions with the same values give the same list
same_map : (f g : ℕ → ℕ) → ((i : ℕ) → f i ≡ g i) → (xs : List ℕ) → map f xs ≡ map g xs
same_map f g h [] = refl
same_map f g h (x ∷ xs) = let head : f x ≡ g x = h x in let tail : map f xs ≡ map g xs = same_map f g h xs in cc

-- one more cell of a column, which was computed of the words before the column
pub HaveValues-more : (config : ConfigValue) (inputs : ℕ → List ℕ) (words seen tracks : List ℕ) (column row word : ℕ)
    → column < config.geometry.columns → row < config.geometry.rows
    → cell_place config.geometry (column * config.geometry.rows + row) < length words → NamesChannel config column tracks
    → HaveValues config inputs (column * config.geometry.rows) seen
    → HaveValues config inputs (column * config.geometry.rows + row) words
    → ((j : ℕ) → j < LANES → bit_at word j ≡ cell_bit config (lane seen j) tracks column row)
    → HaveValues config inputs (column * config.geometry.rows + (row + 1))
    (set words (cell_place config.geometry (column * config.geometry.rows + row)) word)
HaveValues-more config inputs words seen tracks column row word c_lt r_lt fits names before have is = λ j w j_lt wired p lt.
    let g = config.geometry in
    let first : ℕ = column * g.rows in
    let n : ℕ = first + row in
    let at : ℕ = cell_place g n in
    let f : ℕ → ℕ = place_bit g (inputs j) w.cells in
    let own : bit_at word j ≡ get_or w.cells n 0 =
    is j j_lt
    ∙ ap (table_bit (table config column row))
    (same_map (seen_bit (lane seen j) tracks) (λ pin. get_or (map f tracks) pin 0)
    (λ pin. seen_wired config inputs seen tracks column first j pin w names (omega arith) before j_lt wired
    ∙ ap (λ l. get_or l pin 0) (sym (names.bits (inputs j) w wired))) (pin_words config column row)
    ∙ pins_wired config (inputs j) w (map f tracks) column row wired (names.bits (inputs j) w wired) c_lt r_lt)
    ∙ sym (wired.cells column row c_lt r_lt) in
    ⊎_elim
    (λ here. ap (λ m. bit_at (get_or (set words at word) m 0) j) here
    ∙ ap (λ m. bit_at m j) (get_or-set_same words at word 0 fits)
    ∙ own ∙ sym (cell_at g (inputs j) w.cells n) ∙ ap f (sym here))
    (λ other. ap (λ m. bit_at m j) (get_or-set_other words at p word 0 other)
    ∙ have j w j_lt wired p (let near : p < at = omega arith in near))
    (cases_eq p at)

-- the words of the inputs are those of off and the pads
pub inputs_have : (config : ConfigValue) (inputs words : List ℕ) → ((p : ℕ) → p ≤ config.geometry.input_pads → get_or words p 0 ≡ pad_bit inputs p)
    → HaveValues config (lane inputs) 0 words
inputs_have config inputs words h = λ j w j_lt wired p lt.
    ap (λ b. bit_at b j) (h p (omega arith))
    ∙ pad_lane inputs j p
    ∙ sym (pad_place config.geometry (lane inputs j) w.cells p (omega arith))

-- the words of off and the pads, by their bits
pub values_have : (config : ConfigValue) (inputs : ℕ → List ℕ) (words : List ℕ)
    → ((j p : ℕ) → j < LANES → p ≤ config.geometry.input_pads → bit_at (get_or words p 0) j ≡ pad_bit (inputs j) p)
    → HaveValues config inputs 0 words
values_have config inputs words h = λ j w j_lt wired p lt.
    h j p j_lt (omega arith) ∙ sym (pad_place config.geometry (inputs j) w.cells p (omega arith))
