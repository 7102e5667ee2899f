-- Sets of nodes against the settled ones.
use Rattle.std.proofs.Common.{ℕ, zero, suc, ◌-◌, ◌<◌, ◌≤◌, ◌⊎◌, inl, inr, ⊎_elim, length, All, arith}
use Rattle.net_defs.specs.Networks.{Network, node_at}
use Rattle.net_defs.specs.Settling.{Settled}

-- a node that is settled stays so in later rounds
pub Settled-later : (net : Network) (k m v : ℕ) → k ≤ m → Settled net k v → Settled net m v
Settled-later net zero m v le h = absurd h
Settled-later net (suc k) zero v le h = absurd (omega arith)
Settled-later net (suc k) (suc m) v le h =
    (h.0, λ i d lt. ⊎_elim (λ here. inl here) (λ there. inr (Settled-later net k m _ (omega arith) there)) (h.1 i d lt))

-- a node whose fan-ins are inputs or in P isn't there outside P: the settled nodes are in every such P
pub Settled-least : (net : Network) (P : ℕ → Type 0)
    → ((v : ℕ) → v < length net.nodes → All (λ s. (s < length net.inputs) ⊎ P (s - length net.inputs)) (node_at net v).fan_ins → P v)
    → (k v : ℕ) → Settled net k v → P v
Settled-least net P closed zero v h = absurd h
Settled-least net P closed (suc k) v h =
    closed v h.0
    (λ i d lt. ⊎_elim (λ here. inl here) (λ there. inr (Settled-least net P closed k _ there)) (h.1 i d lt))
