-- The files that a command loads, in their order: all of them, or those up to the first that fails.
use Rattle.std.specs.Prelude.{◌≡◌, ◌⊎◌, ℕ, List, [], ◌∷◌, Option}
use Rattle.pch_io.specs.declared.store.LoadFail.{LoadFail}
use Rattle.pch_io.specs.Outside.{Files, Loads, LoadCause}
use Rattle.pch_lines.specs.Files.{FileValue}

-- the files have these bytes, each within its limit
abbrev pub AreLoaded : Option Files → List FileValue → List (List ℕ) → Type 0
AreLoaded told [] [] = Unit {0}
AreLoaded told [] (b ∷ bs) = ⊥
AreLoaded told (f ∷ fs) [] = ⊥
AreLoaded told (f ∷ fs) (b ∷ bs) = Loads told f.name f.limit b × AreLoaded told fs bs

-- The file of this name, the first one that fails, wasn't loaded; the store's count of faults was `before` and
-- is `now`.
abbrev pub IsNotLoaded : Option Files → (before now : ℕ) → List FileValue → List ℕ → LoadFail → Type 0
IsNotLoaded told before now [] name fail = ⊥
IsNotLoaded told before now (f ∷ fs) name fail =
    ((name ≡ f.name) × LoadCause told f.name f.limit before now fail)
    ⊎ (((bytes : List ℕ) × Loads told f.name f.limit bytes) × IsNotLoaded told before now fs name fail)
