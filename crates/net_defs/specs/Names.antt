-- Names that are looked for in a list of names.
use Rattle.std.specs.Prelude.{ℕ, ◌<◌, List, [], length, take, slice_index_or, All, Contains}

-- the wanted name at this place is the first that isn't among the names
pub record IsFirstMissing (names wanted : List (List ℕ)) (place : ℕ) : Type 0 where
  pub within : place < length wanted
  pub earlier : All (Contains names) (take place wanted)
  pub here : ¬ Contains names (slice_index_or wanted place [])
