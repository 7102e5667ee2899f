-- Slots for the places of indices. An index's place may stand in one of the eight slots of its group, which a
-- number that is computed of the index says: one more than the place, and 0 in an empty slot; beside it its tag.
use Rattle.std.specs.Prelude.{◌≡◌, ℕ, ◌+◌, ◌-◌, ◌*◌, ◌/◌, ◌%◌, ◌^◌, ◌<◌, ◌≤◌, bit_and, List, length, get_or}
use Rattle.trace_places.specs.declared.groups.TheConstants.{MULTIPLIER, GROUP}

-- the first slot of this index, among so many groups of slots
abbrev pub first_slot : ℕ → ℕ → ℕ
first_slot count x = GROUP * bit_and ((x * MULTIPLIER) % 2 ^ 64 / 2 ^ 32) (count - 1)

-- the tag of this index, which is not 0
abbrev pub tag_of : ℕ → ℕ
tag_of x = (x * MULTIPLIER) % 2 ^ 64 / 2 ^ 57 + 1

-- the lists are those of so many groups
pub record AreSlots (count : ℕ) (tags numbers : List ℕ) : Type 0 where
  pub few : count < 2 ^ 60
  pub many_tags : length tags ≡ GROUP * count
  pub many_numbers : length numbers ≡ GROUP * count

-- each place in a slot is one of these indices
abbrev pub AreWithin : List ℕ → List ℕ → Type 0
AreWithin indices numbers = (s p : ℕ) → get_or numbers s 0 ≡ p + 1 → p < length indices

-- a slot of the index's group has its tag, and this place
pub record StandsInSlot (count : ℕ) (tags numbers : List ℕ) (x place : ℕ) : Type 0 where
  pub slot : ℕ
  pub low : first_slot count x ≤ slot
  pub high : slot < first_slot count x + GROUP
  pub tag : get_or tags slot 0 ≡ tag_of x
  pub number : get_or numbers slot 0 ≡ place + 1

-- all slots are empty
abbrev pub NoSlots : List ℕ → Type 0
NoSlots numbers = (s : ℕ) → get_or numbers s 0 ≡ 0
