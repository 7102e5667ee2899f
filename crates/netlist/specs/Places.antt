-- Bits of signals in memory.
use Rattle.std.specs.Prelude.{◌≡◌, ℕ, ◌<◌, Bool, List, length, slice_index, if◌then◌else◌}
use Rattle.net_defs.specs.Networks.{Network, signals}
use Rattle.net_defs.specs.Evaluation.{Settles}

-- a truth value as a bit
abbrev pub bit_of : Bool → ℕ
bit_of b = if b then 1 else 0

-- both lists have the same bits at the first n places
abbrev pub SameBits : ℕ → List ℕ → List ℕ → Type 0
SameBits n p q = (i : ℕ) → i < n → slice_index p i ≡ slice_index q i

-- wherever the first places had the bits of the inputs in an assignment, all signals have their bits in it now
abbrev pub Completes : Network → List ℕ → List ℕ → Type 0
Completes net old new =
    (x a : List ℕ) → Settles net x a → SameBits (length net.inputs) old a → SameBits (signals net) new a
