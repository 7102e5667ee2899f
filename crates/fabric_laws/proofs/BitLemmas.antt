-- The bits of a wiring are 0 or 1 where the input bits are.
use Rattle.std.proofs.Common.{◌≡◌, ℕ, zero, suc, ◌+◌, ◌<◌, ◌≤◌, inl, inr, ⊎_elim, List, [], ◌∷◌, length, get_or, refl, ap, subst, sym, ◌∙◌, arith}
use Rattle.std.specs.Int.{bit_at}
use Rattle.std.proofs.lemmas.Bool.{cases_lt}
use Rattle.std.proofs.lemmas.List.{get_or_past}
use Rattle.std.proofs.lemmas.Nat.Bits.{bit_at-lt}
use Rattle.pch_base.specs.BitLists.{word_of}
use Rattle.fabric_defs.specs.Geometries.{pin_count, cell_count, cell_number}
use Rattle.fabric_defs.specs.Configurations.{ConfigValue, first_word, pin_word, table, track_word, output_word}
use Rattle.fabric_defs.specs.Wirings.{Wiring, Wired, channel, cell_pins, pad_bit, tapped_bit, switched_bit, table_bit, pad_bits}
use Rattle.fabric_defs.specs.Bits.{AreBits}
use Rattle.fabric_laws.proofs.NumberedLemmas.{length-list_of, get_or-list_of, place_splits}

-- bits by places: past the end stands 0
pub AreBits-get_or : (bits : List ℕ) (i : ℕ) → AreBits bits → get_or bits i 0 ≤ 1
AreBits-get_or [] i h = omega arith
AreBits-get_or (b ∷ bs) zero h = h b (inl refl)
AreBits-get_or (b ∷ bs) (suc i) h = AreBits-get_or bs i (λ other later. h other (inr later))

-- a list whose elements are all 0 or 1 is one of bits
pub AreBits-from_get_or : (bits : List ℕ) → ((i : ℕ) → i < length bits → get_or bits i 0 ≤ 1) → AreBits bits
AreBits-from_get_or [] h b m = absurd m
AreBits-from_get_or (a ∷ bs) h b (inl e) = let first : a ≤ 1 = h 0 (omega arith) in omega arith
AreBits-from_get_or (a ∷ bs) h b (inr later) = AreBits-from_get_or bs (λ i lt. h (suc i) (omega arith)) b later

-- what a track of channel 0 reads
pad_bit-le : (x : List ℕ) (s : ℕ) → AreBits x → pad_bit x s ≤ 1
pad_bit-le x zero h = omega arith
pad_bit-le x (suc p) h = AreBits-get_or x p h

-- what a pin or an output pad reads
tapped_bit-le : (tracks : List ℕ) (s : ℕ) → AreBits tracks → tapped_bit tracks s ≤ 1
tapped_bit-le tracks zero h = omega arith
tapped_bit-le tracks (suc t) h = AreBits-get_or tracks t h

-- what a track behind a column reads
switched_bit-le : (before : ℕ) (row_bit : ℕ → ℕ) (s : ℕ) → before ≤ 1 → ((r : ℕ) → row_bit r ≤ 1) → switched_bit before row_bit s ≤ 1
switched_bit-le before row_bit zero h rows = omega arith
switched_bit-le before row_bit (suc zero) h rows = h
switched_bit-le before row_bit (suc (suc r)) h rows = rows r

-- what a cell reads of its table
table_bit-le : (bits : ℕ) (pin_bits : List ℕ) → table_bit bits pin_bits ≤ 1
table_bit-le bits pin_bits = let lt : bit_at bits (word_of pin_bits) < 2 = bit_at-lt bits (word_of pin_bits) in omega arith

-- whatever the input bits are, cells have bits
pub wired_cells-bits : (k : ConfigValue) (x : List ℕ) (w : Wiring) → Wired k x w → AreBits w.cells
wired_cells-bits k x w h =
    AreBits-from_get_or w.cells
    (λ cell lt. let below : cell < cell_count k.geometry = omega (arith, h.shape.cells) in
    let at = place_splits k.geometry.columns k.geometry.rows cell below in
    let e : get_or w.cells cell 0 ≡ table_bit (table k at.0 at.1) (cell_pins w (cell_number k.geometry at.0 at.1)) =
    ap (λ p. get_or w.cells p 0) at.4 ∙ h.cells at.0 at.1 at.2 at.3 in
    omega (arith, table_bit-le (table k at.0 at.1) (cell_pins w (cell_number k.geometry at.0 at.1))))

-- each channel has bits where the one before it has
channels-bits : (k : ConfigValue) (x : List ℕ) (w : Wiring) → AreBits x → Wired k x w
    → (c : ℕ) → c ≤ k.geometry.columns → AreBits (channel w c)
channels-bits k x w bits h zero le =
    AreBits-from_get_or (channel w 0)
    (λ t lt. let e : get_or (channel w 0) t 0 ≡ pad_bit x (first_word k t) = h.first_channel t (omega (arith, h.shape.tracks 0 le)) in
    omega (arith, pad_bit-le x (first_word k t) bits))
channels-bits k x w bits h (suc c) le =
    let next : suc c ≡ c + 1 = omega arith in
    let cell_bit : ℕ → ℕ = λ row. get_or w.cells (cell_number k.geometry c row) 0 in
    AreBits-from_get_or (channel w (suc c))
    (λ t lt. let e : get_or (channel w (suc c)) t 0 ≡ switched_bit (get_or (channel w c) t 0) cell_bit (track_word k c t) =
    ap (λ m. get_or (channel w m) t 0) next ∙ h.next_channels c t (omega arith) (omega (arith, h.shape.tracks (suc c) le)) in
    omega (
      arith,
      switched_bit-le (get_or (channel w c) t 0) cell_bit (track_word k c t)
          (AreBits-get_or (channel w c) t (channels-bits k x w bits h c (omega arith)))
          (λ row. AreBits-get_or w.cells (cell_number k.geometry c row) (wired_cells-bits k x w h)),
    ))

-- channels past the last one are empty
pub wired_channel-bits : (k : ConfigValue) (x : List ℕ) (w : Wiring) (c : ℕ) → AreBits x → Wired k x w → AreBits (channel w c)
wired_channel-bits k x w c bits h =
    ⊎_elim
    (λ past. let none : channel w c ≡ [] = get_or_past w.channels c [] (omega (arith, h.shape.channels)) in
    subst AreBits (sym none) (λ b m. absurd m))
    (λ le. channels-bits k x w bits h c le)
    (cases_lt k.geometry.columns c)

-- pins have bits, as the channel before their cell has
pub wired_pins-bits : (k : ConfigValue) (x : List ℕ) (w : Wiring) (cell : ℕ) → AreBits x → Wired k x w → AreBits (cell_pins w cell)
wired_pins-bits k x w cell bits h =
    ⊎_elim
    (λ below. let at = place_splits k.geometry.columns k.geometry.rows cell below in
    AreBits-from_get_or (cell_pins w cell)
    (λ pin lt. let within : pin < pin_count k.geometry = omega (arith, h.shape.pins cell below) in
    let e : get_or (cell_pins w cell) pin 0 ≡ tapped_bit (channel w at.0) (pin_word k at.0 at.1 pin) =
    ap (λ p. get_or (cell_pins w p) pin 0) at.4 ∙ h.pins at.0 at.1 pin at.2 at.3 within in
    omega (arith, tapped_bit-le (channel w at.0) (pin_word k at.0 at.1 pin) (wired_channel-bits k x w at.0 bits h))))
    (λ past. let none : cell_pins w cell ≡ [] = get_or_past w.pins cell [] (omega (arith, h.shape.pin_lists)) in
    subst AreBits (sym none) (λ b m. absurd m))
    (cases_lt cell (cell_count k.geometry))

-- output pads have bits, as the last channel has
pub pad_bits-bits : (k : ConfigValue) (x : List ℕ) (w : Wiring) → AreBits x → Wired k x w → AreBits (pad_bits k w)
pad_bits-bits k x w bits h =
    let pad_bit_of : ℕ → ℕ = λ pad. tapped_bit (channel w k.geometry.columns) (output_word k pad) in
    AreBits-from_get_or (pad_bits k w)
    (λ pad lt. let e : get_or (pad_bits k w) pad 0 ≡ pad_bit_of pad =
    get_or-list_of k.geometry.output_pads pad_bit_of pad 0 (omega (arith, length-list_of k.geometry.output_pads pad_bit_of)) in
    omega (
      arith,
      tapped_bit-le (channel w k.geometry.columns) (output_word k pad) (wired_channel-bits k x w k.geometry.columns bits h),
    ))
