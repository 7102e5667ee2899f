-- Where the inputs of a net come to, by place.
use Rattle.std.specs.Prelude.{◌≡◌, ℕ, ◌<◌, List, length, slice_get, slice_index, Some}

-- each place of the one list is the partner of the place that the other has for it
pub record IsInverse (places new_places : List ℕ) : Type 0 where
  pub as_many : length new_places ≡ length places
  pub partners : (s : ℕ) → s < length places → slice_get places (slice_index new_places s) ≡ Some s
