-- A table, groups of slots and a map that say where indices stand.
use Rattle.std.specs.Prelude.{◌≡◌, ℕ, ◌+◌, ◌<◌, ◌⊎◌, slice_index, get_or, List, length, Option, Some}
use Rattle.clause_defs.specs.Traces.{place_of}
use Rattle.trace_places.specs.Groups.{AreSlots, AreWithin, StandsInSlot}

-- each index is found at its own place
abbrev pub AreDistinct : List ℕ → Type 0
AreDistinct indices = (k : ℕ) → k < length indices → place_of indices (get_or indices k 0) ≡ Some k

-- the place that the map has of an index is its place in the list
abbrev pub MapsRight : List ℕ → (ℕ → Option ℕ) → Type 0
MapsRight indices others = (x p : ℕ) → others x ≡ Some p → place_of indices x ≡ Some p

-- the map has all that the other one has
abbrev pub HasAll : (ℕ → Option ℕ) → (ℕ → Option ℕ) → Type 0
HasAll others more = (x p : ℕ) → others x ≡ Some p → more x ≡ Some p

-- one of the three has place k of the indices: the table, the slots or the map
abbrev pub IsKnown : List ℕ → List ℕ → ℕ → List ℕ → List ℕ → (ℕ → Option ℕ) → ℕ → Type 0
IsKnown indices table count tags numbers others k =
    (slice_index table (get_or indices k 0) ≡ k + 1)
    ⊎ (StandsInSlot count tags numbers (get_or indices k 0) k ⊎ (others (get_or indices k 0) ≡ Some k))

-- the indices are distinct, one of the three has each place, and what they have is so
pub record ArePlaces (indices table : List ℕ) (count : ℕ) (tags numbers : List ℕ) (others : ℕ → Option ℕ) : Type 0 where
  pub are_slots : AreSlots count tags numbers
  pub distinct : AreDistinct indices
  pub tabled : (x p : ℕ) → slice_index table x ≡ p + 1 → place_of indices x ≡ Some p
  pub within : AreWithin indices numbers
  pub mapped : MapsRight indices others
  pub each : (k : ℕ) → k < length indices → IsKnown indices table count tags numbers others k

-- what slots had before stands in the new slots or in the map
abbrev pub AreKept : ℕ → List ℕ → List ℕ → ℕ → List ℕ → List ℕ → (ℕ → Option ℕ) → Type 0
AreKept count tags numbers new_count new_tags new_numbers others =
    (x p : ℕ) → StandsInSlot count tags numbers x p → StandsInSlot new_count new_tags new_numbers x p ⊎ (others x ≡ Some p)

-- the same of the indices themselves
abbrev pub AreAllKept : List ℕ → ℕ → List ℕ → List ℕ → ℕ → List ℕ → List ℕ → (ℕ → Option ℕ) → Type 0
AreAllKept indices count tags numbers new_count new_tags new_numbers others =
    (k : ℕ) → StandsInSlot count tags numbers (get_or indices k 0) k
    → StandsInSlot new_count new_tags new_numbers (get_or indices k 0) k ⊎ (others (get_or indices k 0) ≡ Some k)

-- slot s of the old ones is empty, or its index stands in the new slots or in the map
abbrev pub IsMoved : List ℕ → List ℕ → ℕ → List ℕ → List ℕ → (ℕ → Option ℕ) → ℕ → Type 0
IsMoved indices numbers new_count new_tags new_numbers others s =
    (p : ℕ) → get_or numbers s 0 ≡ p + 1
    → StandsInSlot new_count new_tags new_numbers (get_or indices p 0) p ⊎ (others (get_or indices p 0) ≡ Some p)
