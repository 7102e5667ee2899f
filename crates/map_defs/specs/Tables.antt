-- The tables of mapped cells: 64 bits, whatever the number of pins.
use Rattle.std.specs.Prelude.{◌≡◌, ℕ, ◌<◌, ◌%◌, ◌^◌, Bool, List, if◌then◌else◌}
use Rattle.std.specs.Int.{bit_at}
use Rattle.pch_base.specs.BitLists.{bits_of, word_of}
use Rattle.fabric_defs.specs.Numbered.{list_of}
use Rattle.map_defs.specs.declared.limits.TheConstants.{TABLE_BITS}

-- a test as a bit
abbrev pub bit_of : Bool → ℕ
bit_of test = if test then 1 else 0

-- the table of a function of the bits of so many pins: bit k is the function's value where bit j of k
-- is the bit of pin j, and bits of k past the pins don't matter
abbrev pub table_of : ℕ → (List ℕ → ℕ) → ℕ
table_of pins f = word_of (list_of TABLE_BITS (λ k. f (bits_of pins k)))

-- the table is repeated over the pins that aren't there: bits of k past the pins don't matter
abbrev pub IsRepeated : ℕ → ℕ → Type 0
IsRepeated pins table = (k : ℕ) → k < TABLE_BITS → bit_at table k ≡ bit_at table (k % 2 ^ pins)
