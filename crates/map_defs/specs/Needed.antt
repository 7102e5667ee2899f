-- The nodes of a network that its outputs need: the least set that has the nodes among the outputs and
-- the nodes among the fan-ins of its members.
use Rattle.std.specs.Prelude.{◌≡◌, ℕ, ◌+◌, ◌<◌, Bool, true, length}
use Rattle.clause_defs.specs.Clauses.{Has}
use Rattle.net_defs.specs.Networks.{Network, node_at}
use Rattle.net_defs.specs.Evaluation.{output_signals}

-- a set of nodes, told by a test, that has all which the outputs and its members need
pub record HasFanIns (net : Network) (set : ℕ → Bool) : Type 0 where
  pub outputs : (v : ℕ) → v < length net.nodes → Has (output_signals net) (length net.inputs + v) → set v ≡ true
  pub fan_ins : (u v : ℕ) → u < length net.nodes → v < length net.nodes → set u ≡ true
      → Has (node_at net u).fan_ins (length net.inputs + v) → set v ≡ true

-- the least of these sets
pub record IsNeeded (net : Network) (set : ℕ → Bool) : Type 0 where
  pub closed : HasFanIns net set
  pub least : (other : ℕ → Bool) → HasFanIns net other → (v : ℕ) → v < length net.nodes
      → set v ≡ true → other v ≡ true
