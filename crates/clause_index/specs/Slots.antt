-- Slots for the numbers of clauses. A clause may stand in one of eight slots, which a number that is
-- computed of its literals says. Numbers count from 1 here, and 0 is in an empty slot; each number has a
-- tag beside it, which is computed of the literals too.
use Rattle.std.specs.Prelude.{◌≡◌, ℕ, ◌+◌, ◌-◌, ◌*◌, ◌/◌, ◌%◌, ◌^◌, ◌<◌, ◌≤◌, bit_and, bit_xor, List, [], ◌∷◌, length, get_or}
use Rattle.clause_defs.specs.Literals.{code}
use Rattle.clause_defs.specs.Clauses.{Lits}
use Rattle.clause_index.specs.declared.slots.TheConstants.{MULTIPLIER, GROUP}

-- the hash of the literals behind those whose hash is h
abbrev pub hash_from : ℕ → Lits → ℕ
hash_from h [] = h
hash_from h (l ∷ ls) = hash_from ((bit_xor (bit_xor h (h / 2 ^ 32)) (code l) * MULTIPLIER) % 2 ^ 64) ls

-- the tag of these literals
abbrev pub tag_of : Lits → ℕ
tag_of c = hash_from 0 c % 2 ^ 32

-- the first slot of these literals, among so many groups of slots
abbrev pub first_slot : ℕ → Lits → ℕ
first_slot groups c = GROUP * bit_and (hash_from 0 c / 2 ^ 32) (groups - 1)

-- slot s is one of those where these literals may stand
pub record MayStand (groups : ℕ) (c : Lits) (s : ℕ) : Type 0 where
  pub low : first_slot groups c ≤ s
  pub high : s < first_slot groups c + GROUP

-- the lists are those of so many groups, with numbers of no more than n clauses
pub record AreSlots (groups : ℕ) (tags numbers : List ℕ) (n : ℕ) : Type 0 where
  pub some : 0 < groups
  pub few : groups < 2 ^ 60
  pub many_tags : length tags ≡ GROUP * groups
  pub many_numbers : length numbers ≡ GROUP * groups
  pub within : (s : ℕ) → get_or numbers s 0 ≤ n

-- clause k, with these literals, stands in a slot
pub record StandsInSlot (groups : ℕ) (tags numbers : List ℕ) (c : Lits) (k : ℕ) : Type 0 where
  pub slot : ℕ
  pub may : MayStand groups c slot
  pub tag : get_or tags slot 0 ≡ tag_of c
  pub number : get_or numbers slot 0 ≡ k + 1
