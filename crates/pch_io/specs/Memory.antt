-- The stores and the sink in memory: files as a list of names with bytes, and calls that are to fail.
use Rattle.std.specs.Prelude.{◌≡◌, ℕ, suc, ◌+◌, ◌-◌, ◌^◌, min, List, [], ◌∷◌, Option, Some, None, if◌then◌else◌, Vec, map, Contains}
use Rattle.std.specs.declared.alloc.Global.{Global}
use Rattle.std.specs.Str.{bytes_eq}

-- a file in memory
pub record File : Type 0 where
  pub name : List ℕ
  pub bytes : List ℕ

-- the files that a list of names with bytes has
abbrev pub files_in : List (List ℕ × Vec ℕ Global) → List File
files_in entries = map (λ e. record { name = e.0; bytes = e.1.items }) entries

-- the bytes of the file with this name
abbrev pub bytes_of : List File → List ℕ → Option (List ℕ)
bytes_of [] name = None
bytes_of (f ∷ fs) name = if bytes_eq f.name name then Some f.bytes else bytes_of fs name

-- the place of the first file with this name, or the number of files where there is none
abbrev pub place_of : List File → List ℕ → ℕ
place_of [] name = 0
place_of (f ∷ fs) name = if bytes_eq f.name name then 0 else suc (place_of fs name)

-- which calls are to fail, counted from 1; how many calls there were; how many have failed
pub record Calls : Type 0 where
  pub failing : List ℕ
  pub made : ℕ
  pub faults : ℕ

-- the number of the next call; the last number stands still
abbrev pub next_number : Calls → ℕ
next_number c = min (c.made + 1) (2 ^ 32 - 1)

-- the next call is to fail
abbrev pub FailsNext : Calls → Type 0
FailsNext c = Contains c.failing (next_number c)

-- What one call does to the counts: it is counted, and its fault where it is one that is to fail. The count
-- of faults rises by exactly one then, and stays at its last value.
pub record CountsCall (old new : Calls) : Type 0 where
  pub failing : new.failing ≡ old.failing
  pub made : new.made ≡ next_number old
  pub calm : ¬ FailsNext old → new.faults ≡ old.faults
  pub rose : FailsNext old → new.faults ≡ min (old.faults + 1) (2 ^ 64 - 1)

-- what a store in memory holds
pub record Stored : Type 0 where
  pub files : List File
  pub calls : Calls

-- what a sink in memory holds
pub record Sunk : Type 0 where
  pub bytes : List ℕ
  pub calls : Calls
