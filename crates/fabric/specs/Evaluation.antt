-- Bits that were evaluated so far, as those that every wiring has.
use Rattle.std.specs.Prelude.{◌≡◌, ℕ, ◌<◌, List, ◌∷◌, slice_index}
use Rattle.fabric_defs.specs.Configurations.{ConfigValue}
use Rattle.fabric_defs.specs.Wirings.{Wiring, Wired, channel}

-- 0 for off, and after it the bits of the tracks of this channel
abbrev pub HasChannel : ConfigValue → List ℕ → ℕ → List ℕ → Type 0
HasChannel config x c tracks = (w : Wiring) → Wired config x w → tracks ≡ 0 ∷ channel w c

-- the bits of the cells below this number
abbrev pub HasCells : ConfigValue → List ℕ → ℕ → List ℕ → Type 0
HasCells config x count cells = (w : Wiring) → Wired config x w
    → (n : ℕ) → n < count → slice_index cells n ≡ slice_index w.cells n
