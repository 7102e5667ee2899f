-- The ends of the last signals on tracks.
use Rattle.std.specs.Prelude.{ℕ, ◌<◌, List, slice_index, count_by}
use Rattle.std.proofs.Common.{ltb}

-- how many tracks are not free on channel c
abbrev pub taken : List ℕ → ℕ → ℕ
taken ends c = count_by (ltb c) ends

-- the first tracks are not free on this channel
abbrev pub AreTaken : List ℕ → ℕ → ℕ → Type 0
AreTaken ends c count = (j : ℕ) → j < count → c < slice_index ends j
