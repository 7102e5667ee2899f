-- What an order, and what a stack that leads back into itself, say of the settled nodes.
use Rattle.std.proofs.Common.{◌≡◌, ℕ, zero, suc, ◌+◌, ◌-◌, ◌<◌, ◌≤◌, ◌⊎◌, inl, inr, ⊎_elim, List, length, take, get_or, All, Contains, sym, subst, ◌∙◌, arith}
use Rattle.std.proofs.lemmas.List.{get_or_default, get_or-take, length-take-le}
use Rattle.net_defs.specs.Networks.{Network, node_at}
use Rattle.net_defs.specs.Settling.{Settled}
use Rattle.net_defs.specs.Orders.{ComesAfterFanIns}

-- the first m nodes of an order are settled after m rounds
pub Settled-ordered : (net : Network) (order : List ℕ) → All (λ v. v < length net.nodes) order → ComesAfterFanIns net order
    → (m j : ℕ) → j < m → j < length order → Settled net m (get_or order j 0)
Settled-ordered net order within after zero j j_m j_lt = absurd (omega arith)
Settled-ordered net order within after (suc m) j j_m j_lt = (
  within j 0 j_lt,
  λ k d k_lt. ⊎_elim (λ here. inl here)
      (λ earlier. let i : ℕ = earlier.0 in
      let size : length (take j order) ≡ j = length-take-le j order (omega arith) in
      let i_lt : i < j = omega (arith, earlier.1) in
      let e : get_or order i 0 ≡ get_or (node_at net (get_or order j 0)).fan_ins k d - length net.inputs =
      get_or_default order i 0 _ (omega arith) ∙ sym (get_or-take j order i _ i_lt) ∙ earlier.2 in
      let P : ℕ → Type 0 = λ w. Settled net m w in
      inr (subst P e (Settled-ordered net order within after m i (omega arith) (omega arith))))
      (after j j_lt k d k_lt),
)

-- no node of a set in which each node has a fan-in is ever settled
pub not_settled : (net : Network) (P : ℕ → Type 0)
    → ((v : ℕ) → P v → (w : ℕ) × P w × Contains (node_at net v).fan_ins (length net.inputs + w))
    → (k v : ℕ) → P v → Settled net k v → ⊥
not_settled net P needs zero v p h = h
not_settled net P needs (suc k) v p h =
    let next = needs v p in
    let w : ℕ = next.0 in
    let at = next.2 in
    let s : ℕ = length net.inputs + w in
    let e : s - length net.inputs ≡ w = omega arith in
    let Q : ℕ → Type 0 = λ u. (u < length net.inputs) ⊎ Settled net k (u - length net.inputs) in
    let Qw : ℕ → Type 0 = λ u. Settled net k u in
    ⊎_elim (λ here. omega arith)
    (λ there. not_settled net P needs k w next.1 (subst Qw e there))
    (subst Q at.2 (h.1 at.0 s at.1))

-- a node that stands in an order is settled
pub Settled-in_order : (net : Network) (order : List ℕ) (v : ℕ) → All (λ u. u < length net.nodes) order → ComesAfterFanIns net order
    → length order ≤ length net.nodes → Contains order v → Settled net (length net.nodes) v
Settled-in_order net order v within after short h =
    let P : ℕ → Type 0 = λ u. Settled net (length net.nodes) u in
    subst P (get_or_default order h.0 0 v h.1 ∙ h.2)
    (Settled-ordered net order within after (length net.nodes) h.0 (omega (arith, h.1)) h.1)
