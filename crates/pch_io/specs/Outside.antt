-- What stores, sinks and their calls mean. A store tells its files or tells nothing, a sink tells the
-- bytes that it holds or tells nothing, and each has a count of faults that never falls.
use Rattle.std.specs.Prelude.{◌≡◌, ◌≢◌, ℕ, ◌+◌, ◌-◌, ◌^◌, ◌<◌, ◌≤◌, min, List, ◌++◌, length, take, Option, Some, None, IsSomeAnd}
use Rattle.pch_io.specs.declared.store.LoadFail.{LoadFail}
use Rattle.pch_io.specs.declared.store.LoadFail.TheVariants as fails

-- files by their names: what no name has isn't there
abbrev pub Files : Type 0
Files = List ℕ → Option (List ℕ)

-- The count of faults rose. A count at its last value, which can't rise, is taken to have risen.
abbrev pub Rose : ℕ → ℕ → Type 0
Rose before now = min (before + 1) (2 ^ 64 - 1) ≤ now

-- what one call does to the count: it stays, or rises by one
abbrev pub CountsOnce : ℕ → ℕ → Type 0
CountsOnce before now = (before ≤ now) × (now ≤ before + 1)

-- what a load gives that answers Ok: the whole file, which isn't longer than the limit
abbrev pub Loads : Option Files → List ℕ → ℕ → List ℕ → Type 0
Loads None name limit bytes = length bytes ≤ limit
Loads (Some files) name limit bytes = (files name ≡ Some bytes) × (length bytes ≤ limit)

-- why a load answers that there is no such file
abbrev pub AbsentCause : Option Files → List ℕ → ℕ → ℕ → Type 0
AbsentCause None name before now = Rose before now
AbsentCause (Some files) name before now = files name ≡ None

-- why a load answers that the file is longer than the limit
abbrev pub TooLongCause : Option Files → List ℕ → ℕ → ℕ → ℕ → Type 0
TooLongCause None name limit before now = Rose before now
TooLongCause (Some files) name limit before now = IsSomeAnd (files name) (λ bytes. limit < length bytes)

-- why a load gives no bytes; want of memory has no cause
abbrev pub LoadCause : Option Files → List ℕ → (limit before now : ℕ) → LoadFail → Type 0
LoadCause told name limit before now fails.Failed = Rose before now
LoadCause told name limit before now fails.Absent = AbsentCause told name before now
LoadCause told name limit before now fails.TooLong = TooLongCause told name limit before now
LoadCause told name limit before now fails.NoMemory = Unit {0}

-- every other name has what it had
abbrev pub OthersStay : Files → Files → List ℕ → Type 0
OthersStay old new name = (other : List ℕ) → other ≢ name → new other ≡ old other

-- what a save does that answers Ok
abbrev pub Saves : Option Files → Option Files → List ℕ → List ℕ → Type 0
Saves None None name bytes = Unit {0}
Saves None (Some new) name bytes = ⊥
Saves (Some old) None name bytes = ⊥
Saves (Some old) (Some new) name bytes = (new name ≡ Some bytes) × OthersStay old new name

-- what a save may do that answers otherwise: the named file may be absent or hold any bytes
abbrev pub Spoils : Option Files → Option Files → List ℕ → Type 0
Spoils None None name = Unit {0}
Spoils None (Some new) name = ⊥
Spoils (Some old) None name = ⊥
Spoils (Some old) (Some new) name = OthersStay old new name

-- what a put does that answers Ok
abbrev pub Appends : Option (List ℕ) → Option (List ℕ) → List ℕ → Type 0
Appends None None bytes = Unit {0}
Appends None (Some new) bytes = ⊥
Appends (Some old) None bytes = ⊥
Appends (Some old) (Some new) bytes = new ≡ old ++ bytes

-- what a put does that answers otherwise: a front of the bytes may be there
abbrev pub AppendsPrefix : Option (List ℕ) → Option (List ℕ) → List ℕ → Type 0
AppendsPrefix None None bytes = Unit {0}
AppendsPrefix None (Some new) bytes = ⊥
AppendsPrefix (Some old) None bytes = ⊥
AppendsPrefix (Some old) (Some new) bytes = (n : ℕ) × (new ≡ old ++ take n bytes)
