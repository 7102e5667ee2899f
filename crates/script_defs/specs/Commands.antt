-- What a line of a script says by itself, where the numbers that bound it are known.
use Rattle.std.specs.Prelude.{ℕ, ◌-◌, ◌^◌, Bool, ◌&&◌, ◌||◌, ◌==◌, nat_lt, nat_le, List, [], ◌∷◌, length, map, Option, Some, None, if◌then◌else◌, codes}
use Rattle.std.specs.List.{list_all}
use Rattle.std.specs.Option.{option_map}
use Rattle.std.specs.Str.{bytes_eq}
use Rattle.text_defs.specs.Numbers.{number_in, number_within, positive_within}
use Rattle.fabric_defs.specs.declared.kind.CellKind.TheVariants.{FourInputs}
use Rattle.fabric_defs.specs.declared.limits.TheConstants.{MAX_SIDE, MAX_TRACKS}
use Rattle.fabric_defs.specs.Geometries.{GeometryValue}
use Rattle.script_defs.specs.declared.command.Kind.{Kind}
use Rattle.script_defs.specs.declared.command.Kind.TheVariants.{Spec, Bundle}
use Rattle.script_defs.specs.declared.command.Command.{Command}
use Rattle.script_defs.specs.declared.command.Command.TheVariants.{Agree, Deliver, Evict, Cycle, Sweep}
use Rattle.script_defs.specs.declared.limits.TheConstants.{MAX_SWEEP}

-- ---- numbers and bits

-- the number, where there is one and it is below the bound
abbrev pub below : ℕ → Option ℕ → Option ℕ
below bound None = None
below bound (Some n) = if nat_lt n bound then Some n else None

-- the number below the bound that the word spells
abbrev pub number_below : ℕ → List ℕ → Option ℕ
number_below bound word = below bound (number_in word)

-- the greatest number of 64 bits
abbrev pub max_long : ℕ
max_long = 2 ^ 64 - 1

-- `0` or `1`
abbrev pub is_bit_byte : ℕ → Bool
is_bit_byte b = (b == 48) || (b == 49)

-- the bit that a byte spells
abbrev pub bit_in : ℕ → ℕ
bit_in b = if b == 49 then 1 else 0

-- the word has 1 to 64 bits
abbrev pub are_bits : List ℕ → Bool
are_bits word = nat_le 1 (length word) && nat_le (length word) 64 && list_all is_bit_byte word

-- the bits that a word spells, the first one first: none for `-`
abbrev pub bits_in : List ℕ → Option (List ℕ)
bits_in word =
    if bytes_eq word (codes "-") then Some []
    else (if are_bits word then Some (map bit_in word) else None)

-- ---- the lines in front of the lanes

-- the fabric of these numbers, where all of them are there
abbrev pub fabric_with : (c r t i o : Option ℕ) → Option GeometryValue
fabric_with None r t i o = None
fabric_with (Some c) None t i o = None
fabric_with (Some c) (Some r) None i o = None
fabric_with (Some c) (Some r) (Some t) None o = None
fabric_with (Some c) (Some r) (Some t) (Some i) None = None
fabric_with (Some c) (Some r) (Some t) (Some i) (Some o) =
    Some (record { kind = FourInputs; columns = c; rows = r; tracks = t; input_pads = i; output_pads = o })

-- the fabric whose columns, rows, tracks, input pads and output pads the words say
abbrev pub fabric_in : List (List ℕ) → Option GeometryValue
fabric_in [] = None
fabric_in (c ∷ []) = None
fabric_in (c ∷ r ∷ []) = None
fabric_in (c ∷ r ∷ t ∷ []) = None
fabric_in (c ∷ r ∷ t ∷ i ∷ []) = None
fabric_in (c ∷ r ∷ t ∷ i ∷ o ∷ []) =
    fabric_with (positive_within MAX_SIDE c) (positive_within MAX_SIDE r) (positive_within MAX_TRACKS t) (positive_within MAX_SIDE i) (positive_within MAX_SIDE o)
fabric_in (c ∷ r ∷ t ∷ i ∷ o ∷ more ∷ rest) = None

-- `fabric C R T I O`
abbrev pub fabric_line : List ℕ → List (List ℕ) → Option GeometryValue
fabric_line first more = if bytes_eq first (codes "fabric") then fabric_in more else None

-- the number from 1 to the limit that the only word spells
abbrev pub only_count : ℕ → List (List ℕ) → Option ℕ
only_count limit [] = None
only_count limit (word ∷ []) = positive_within limit word
only_count limit (word ∷ more ∷ rest) = None

-- this word and a number from 1 to the limit
abbrev pub count_line : List ℕ → ℕ → List ℕ → List (List ℕ) → Option ℕ
count_line word limit first more = if bytes_eq first word then only_count limit more else None

-- ---- commands

-- what a line says: a command, or one that names a file, which is read as this kind, with its slot
pub data Said : Type 0 where
  plain : Command → Said
  named : Kind → ℕ → List ℕ → Said

-- a file is named with a slot
abbrev pub named_with : Kind → Option ℕ → List ℕ → Option Said
named_with kind None name = None
named_with kind (Some slot) name = Some (named kind slot name)

-- `SLOT FILE`, of a device with so many slots
abbrev pub named_by : Kind → ℕ → List (List ℕ) → Option Said
named_by kind slots [] = None
named_by kind slots (slot ∷ []) = None
named_by kind slots (slot ∷ name ∷ []) = named_with kind (number_below slots slot) name
named_by kind slots (slot ∷ name ∷ more ∷ rest) = None

-- `SLOT`
abbrev pub evict_by : ℕ → List (List ℕ) → Option Said
evict_by slots [] = None
evict_by slots (slot ∷ []) = option_map (λ s. plain (Evict s)) (number_below slots slot)
evict_by slots (slot ∷ more ∷ rest) = None

-- a cycle with its numbers, where all of them are there
abbrev pub cycle_with : Option ℕ → Option (List ℕ) → Option ℕ → Option Said
cycle_with None bits probe = None
cycle_with (Some slot) None probe = None
cycle_with (Some slot) (Some bits) None = None
cycle_with (Some slot) (Some bits) (Some probe) = Some (plain (Cycle slot bits probe))

-- `SLOT BITS PROBE`, with so many cells to a slot
abbrev pub cycle_by : ℕ → ℕ → List (List ℕ) → Option Said
cycle_by slots cells [] = None
cycle_by slots cells (slot ∷ []) = None
cycle_by slots cells (slot ∷ bits ∷ []) = None
cycle_by slots cells (slot ∷ bits ∷ probe ∷ []) =
    cycle_with (number_below slots slot) (bits_in bits) (number_below cells probe)
cycle_by slots cells (slot ∷ bits ∷ probe ∷ more ∷ rest) = None

-- a sweep with its numbers, where all of them are there
abbrev pub sweep_with : (slot first count : Option ℕ) → Option Said
sweep_with None first count = None
sweep_with (Some slot) None count = None
sweep_with (Some slot) (Some first) None = None
sweep_with (Some slot) (Some first) (Some count) = Some (plain (Sweep slot first count))

-- `SLOT FIRST COUNT`
abbrev pub sweep_by : ℕ → List (List ℕ) → Option Said
sweep_by slots [] = None
sweep_by slots (slot ∷ []) = None
sweep_by slots (slot ∷ first ∷ []) = None
sweep_by slots (slot ∷ first ∷ count ∷ []) =
    sweep_with (number_below slots slot) (number_within max_long first) (positive_within MAX_SWEEP count)
sweep_by slots (slot ∷ first ∷ count ∷ more ∷ rest) = None

-- what the line says with this first word and these others, where it names no file
abbrev pub plain_by : ℕ → ℕ → List ℕ → List (List ℕ) → Option Said
plain_by slots cells first more =
    if bytes_eq first (codes "evict") then evict_by slots more
    else (if bytes_eq first (codes "cycle") then cycle_by slots cells more
    else (if bytes_eq first (codes "sweep") then sweep_by slots more
    else None))

-- what the line says with this first word and these others
abbrev pub said_by : ℕ → ℕ → List ℕ → List (List ℕ) → Option Said
said_by slots cells first more =
    if bytes_eq first (codes "agree") then named_by Spec slots more
    else (if bytes_eq first (codes "deliver") then named_by Bundle slots more
    else plain_by slots cells first more)
