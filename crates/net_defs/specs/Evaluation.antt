-- The values of the signals and of the outputs of a network, where its inputs have the bits x. No order of
-- evaluation is named. (BLIF: a row matches where each 0 and 1 is the value of its input.)
use Rattle.std.specs.Prelude.{◌≡◌, ℕ, ◌+◌, ◌<◌, ◌==◌, Bool, true, false, ◌&&◌, if◌then◌else◌, List, [], ◌∷◌, length, map, take, slice_index}
use Rattle.std.specs.List.{list_any}
use Rattle.blif_defs.specs.declared.mark.Mark.{Mark}
use Rattle.blif_defs.specs.declared.mark.Mark.TheVariants.{Zero, One, Any}
use Rattle.net_defs.specs.Networks.{Node, Output, Network, node_at, signals}

-- the mark may stand over this bit
abbrev pub allows : Mark → ℕ → Bool
allows Zero b = b == 0
allows One b = b == 1
allows Any b = true

-- a row hits a list of values where each of its marks may stand over its value
abbrev pub hits : List Mark → List ℕ → Bool
hits [] values = true
hits (m ∷ ms) [] = false
hits (m ∷ ms) (b ∷ bs) = allows m b && hits ms bs

-- some row of the node hits the values
abbrev pub some_row_hits : Node → List ℕ → Bool
some_row_hits node values = list_any (λ row. hits row values) node.rows

-- 1 exactly where 'some row hits' has the truth value `on`
abbrev pub node_bit : Node → List ℕ → ℕ
node_bit node values =
    if some_row_hits node values
    then (if node.on then 1 else 0)
    else (if node.on then 0 else 1)

-- the bits of a list of signals, where signal s has bit s of a
abbrev pub bits_at : List ℕ → List ℕ → List ℕ
bits_at a ss = map (λ s. slice_index a s) ss

-- The signals have the bits a: the inputs those of x, and each node its own of the bits of its fan-ins.
-- All these equations hold at once.
pub record Settles (net : Network) (x a : List ℕ) : Type 0 where
  pub all_signals : length a ≡ signals net
  pub inputs : take (length net.inputs) a ≡ x
  pub nodes : (v : ℕ) → v < length net.nodes
      → slice_index a (length net.inputs + v) ≡ node_bit (node_at net v) (bits_at a (node_at net v).fan_ins)

-- the signals of the outputs, in their order
abbrev pub output_signals : Network → List ℕ
output_signals net = map (λ (o : Output). o.signal) net.outputs

-- where the inputs have the bits x, the outputs have the bits y
abbrev pub SpecOut : Network → List ℕ → List ℕ → Type 0
SpecOut net x y = (a : List ℕ) × Settles net x a × (y ≡ bits_at a (output_signals net))
