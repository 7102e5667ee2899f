-- A cell as levels of multiplexers, pin 0 first. The words of a level have in each lane the bits of
-- the table that the pins so far leave to choose from.
use Rattle.std.specs.Prelude.{◌≡◌, ℕ, ◌+◌, ◌*◌, ◌^◌, ◌<◌, List, take, nat_eq, bit_and, bit_xor, if◌then◌else◌}
use Rattle.std.specs.Int.{bit_at}
use Rattle.pch_base.specs.BitLists.{word_of}

-- what a multiplexer gives
abbrev pub chosen : ℕ → ℕ → ℕ → ℕ
chosen pin odd even = if nat_eq pin 1 then odd else even

-- the word that a multiplexer gives: in each lane it chooses by the pin's bit
abbrev pub mux : ℕ → ℕ → ℕ → ℕ
mux odd even pin = bit_xor even (bit_and pin (bit_xor even odd))

-- The bits of one lane after the levels of the first m pins: bit k is that one of the bits from
-- k * 2^m to (k + 1) * 2^m - 1 of the table that the bits of these pins choose.
abbrev pub IsLevel : ℕ → List ℕ → ℕ → ℕ → (ℕ → ℕ) → Type 0
IsLevel table pin_bits m count bit = (k : ℕ) → k < count
    → bit k ≡ bit_at table (k * 2 ^ m + word_of (take m pin_bits))
