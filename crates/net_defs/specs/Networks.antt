-- A network of nodes, as a BLIF design describes it. Signals are numbered from 0, the inputs first and then
-- the nodes in the order of the file. (BLIF)
use Rattle.std.specs.Prelude.{ℕ, ◌+◌, Bool, true, List, [], length, slice_index_or}
use Rattle.blif_defs.specs.declared.mark.Mark.{Mark}

-- a node: its fan-ins are signals, and it is `on` exactly where some row hits their values
pub record Node : Type 0 where
  pub fan_ins : List ℕ
  pub on : Bool
  pub rows : List (List Mark)

-- an output: its name, and the signal that it has
pub record Output : Type 0 where
  pub name : List ℕ
  pub signal : ℕ

-- the names of the inputs, the nodes in the order of the file, and the outputs
pub record Network : Type 0 where
  pub inputs : List (List ℕ)
  pub nodes : List Node
  pub outputs : List Output

-- what stands past the last node, where nothing looks
abbrev pub no_node : Node
no_node = record { fan_ins = []; on = true; rows = [] }

-- node v, counted from 0
abbrev pub node_at : Network → ℕ → Node
node_at net v = slice_index_or net.nodes v no_node

-- how many signals there are
abbrev pub signals : Network → ℕ
signals net = length net.inputs + length net.nodes
