-- Which nodes have a value that the inputs determine.
use Rattle.std.specs.Prelude.{ℕ, zero, suc, ◌-◌, ◌<◌, ◌⊎◌, length, All}
use Rattle.net_defs.specs.Networks.{Network, node_at}

-- node v is settled after this many rounds: all its fan-ins are inputs or nodes settled one round before
abbrev pub Settled : Network → ℕ → ℕ → Type 0
Settled net zero v = ⊥
Settled net (suc k) v =
    (v < length net.nodes)
    × All (λ s. (s < length net.inputs) ⊎ Settled net k (s - length net.inputs)) (node_at net v).fan_ins

-- every node is settled after as many rounds as there are nodes
abbrev pub IsAcyclic : Network → Type 0
IsAcyclic net = (v : ℕ) → v < length net.nodes → Settled net (length net.nodes) v
