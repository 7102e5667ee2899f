-- There is exactly one assignment of bits to the signals.
use Rattle.std.proofs.Common.{◌≡◌, ℕ, zero, suc, ◌+◌, ◌-◌, ◌<◌, ⊎_elim, List, [], ◌++◌, length, map, take, get_or, All, refl, ap, subst, sym, ◌∙◌, arith, length-append}
use Rattle.std.proofs.lemmas.List.{get_or_append_left, get_or-append-add, get_or-map, get_or-take, length-map, same_lists, ext_get_or, take_at}
use Rattle.std.proofs.lemmas.Bool.{cases_lt}
use Rattle.net_defs.specs.Networks.{Node, Network, no_node, node_at, signals}
use Rattle.net_defs.specs.Settling.{Settled, IsAcyclic}
use Rattle.net_defs.specs.Evaluation.{node_bit, bits_at, Settles}

-- p and q agree at the signal s
abbrev pub AgreeAt : List ℕ → List ℕ → ℕ → Type 0
AgreeAt p q s = get_or p s 0 ≡ get_or q s 0

-- lists that agree at these signals have the same bits there
pub bits_at-same : (p q ss : List ℕ) → All (AgreeAt p q) ss → bits_at p ss ≡ bits_at q ss
bits_at-same p q ss h =
    same_lists (bits_at p ss) (bits_at q ss)
    (length-map ss _ ∙ sym (length-map ss _))
    (λ k d lt. let within : k < length ss = omega (arith, length-map ss (λ s. get_or p s 0)) in
    get_or-map (λ s. get_or p s 0) ss k 0 d within ∙ h k 0 within ∙ sym (get_or-map (λ s. get_or q s 0) ss k 0 d within))

-- p and q agree at the inputs, and at the nodes that are settled after k rounds
record Agree (net : Network) (k : ℕ) (p q : List ℕ) : Type 0 where
  at_inputs : (s : ℕ) → s < length net.inputs → AgreeAt p q s
  at_nodes : (v : ℕ) → Settled net k v → AgreeAt p q (length net.inputs + v)

-- the bits of all signals, from those of their fan-ins
next_bits : Network → List ℕ → List ℕ → List ℕ
next_bits net x p = x ++ map (λ (node : Node). node_bit node (bits_at p node.fan_ins)) net.nodes

-- a round gives the inputs their bits
next_bits-input : (net : Network) (x p : List ℕ) (s : ℕ) → s < length x → get_or (next_bits net x p) s 0 ≡ get_or x s 0
unfolding next_bits
next_bits-input net x p s lt = get_or_append_left x _ 0 s lt

-- and each node that of its fan-ins before the round
next_bits-node : (net : Network) (x p : List ℕ) (v n : ℕ) → length x ≡ n → v < length net.nodes
    → get_or (next_bits net x p) (n + v) 0 ≡ node_bit (node_at net v) (bits_at p (node_at net v).fan_ins)
unfolding next_bits
next_bits-node net x p v n e lt =
    ap (λ m. get_or (next_bits net x p) (m + v) 0) (sym e)
    ∙ get_or-append-add x _ v 0
    ∙ get_or-map (λ (node : Node). node_bit node (bits_at p node.fan_ins)) net.nodes v no_node 0 lt

-- a round has a bit for each signal
length-next_bits : (net : Network) (x p : List ℕ) → length (next_bits net x p) ≡ length x + length net.nodes
unfolding next_bits
length-next_bits net x p =
    length-append x _ ∙ ap (λ m. length x + m) (length-map net.nodes _)

-- where p and q agree after k rounds, the fan-ins of a node that is settled one round later have the same bits
fan_ins-agree : (net : Network) (k : ℕ) (p q : List ℕ) (v : ℕ) → Agree net k p q → Settled net (suc k) v
    → bits_at p (node_at net v).fan_ins ≡ bits_at q (node_at net v).fan_ins
fan_ins-agree net k p q v h settled =
    bits_at-same p q (node_at net v).fan_ins
    (λ i d lt. let s : ℕ = get_or (node_at net v).fan_ins i d in
    ⊎_elim (λ here. h.at_inputs s here)
    (λ there. ⊎_elim (λ here. h.at_inputs s here)
    (λ past. let e : length net.inputs + (s - length net.inputs) ≡ s = omega arith in
    let P : ℕ → Type 0 = λ m. AgreeAt p q m in subst P e (h.at_nodes (s - length net.inputs) there))
    (cases_lt s (length net.inputs)))
    (settled.1 i d lt))

-- one more round from two lists that agree
next_bits-agree : (net : Network) (x p q : List ℕ) (k : ℕ) → length x ≡ length net.inputs → Agree net k p q
    → Agree net (suc k) (next_bits net x p) (next_bits net x q)
next_bits-agree net x p q k e h = record {
  at_inputs = λ s lt. next_bits-input net x p s (omega arith) ∙ sym (next_bits-input net x q s (omega arith));
  at_nodes = λ v settled.
      next_bits-node net x p v (length net.inputs) e settled.0
      ∙ ap (node_bit (node_at net v)) (fan_ins-agree net k p q v h settled)
      ∙ sym (next_bits-node net x q v (length net.inputs) e settled.0);
}

-- the bits after so many rounds
rounds : Network → List ℕ → ℕ → List ℕ
rounds net x zero = next_bits net x []
rounds net x (suc k) = next_bits net x (rounds net x k)

-- one round more changes no node that is settled in k rounds
rounds-agree : (net : Network) (x : List ℕ) (k : ℕ) → length x ≡ length net.inputs
    → Agree net k (rounds net x (suc k)) (rounds net x k)
unfolding rounds
rounds-agree net x zero e = record {
  at_inputs = λ s lt. next_bits-input net x _ s (omega arith) ∙ sym (next_bits-input net x [] s (omega arith));
  at_nodes = λ v settled. absurd settled;
}
rounds-agree net x (suc k) e = next_bits-agree net x _ _ k e (rounds-agree net x k e)

-- all rounds have a bit for each signal
length-rounds : (net : Network) (x : List ℕ) (k : ℕ) → length (rounds net x k) ≡ length x + length net.nodes
unfolding rounds
length-rounds net x zero = length-next_bits net x []
length-rounds net x (suc k) = length-next_bits net x (rounds net x k)

-- a round begins with the bits of the inputs
take-next_bits : (net : Network) (x p : List ℕ) (n : ℕ) → length x ≡ n → take n (next_bits net x p) ≡ x
unfolding next_bits
take-next_bits net x p n e = take_at x _ n e

-- so do all rounds
take-rounds : (net : Network) (x : List ℕ) (k n : ℕ) → length x ≡ n → take n (rounds net x k) ≡ x
unfolding rounds
take-rounds net x zero n e = take-next_bits net x [] n e
take-rounds net x (suc k) n e = take-next_bits net x (rounds net x k) n e

-- the last round is one on those before
rounds-suc : (net : Network) (x : List ℕ) (k : ℕ) → rounds net x (suc k) ≡ next_bits net x (rounds net x k)
unfolding rounds
rounds-suc net x k = refl

-- an acyclic network has an assignment for each list of input bits
pub assignment_exists : (net : Network) (x : List ℕ) → IsAcyclic net → length x ≡ length net.inputs
    → (a : List ℕ) × Settles net x a
assignment_exists net x acyclic e =
    let count = length net.nodes in
    let agree = rounds-agree net x count e in (
      rounds net x count,
      record {
        all_signals = omega (arith, length-rounds net x count);
        inputs = take-rounds net x count (length net.inputs) e;
        nodes = λ v lt.
            sym (agree.at_nodes v (acyclic v lt))
            ∙ ap (λ p. get_or p (length net.inputs + v) 0) (rounds-suc net x count)
            ∙ next_bits-node net x (rounds net x count) v (length net.inputs) e lt;
      },
    )

-- two assignments agree at the inputs and at the nodes that are settled in k rounds
assignments-agree : (net : Network) (x a b : List ℕ) → Settles net x a → Settles net x b → (k : ℕ) → Agree net k a b
assignments-agree net x a b p q zero = record {
  at_inputs = λ s lt.
      sym (get_or-take (length net.inputs) a s 0 lt)
      ∙ ap (λ l. get_or l s 0) (p.inputs ∙ sym q.inputs)
      ∙ get_or-take (length net.inputs) b s 0 lt;
  at_nodes = λ v settled. absurd settled;
}
assignments-agree net x a b p q (suc k) = record {
  at_inputs = (assignments-agree net x a b p q k).at_inputs;
  at_nodes = λ v settled.
      p.nodes v settled.0
      ∙ ap (node_bit (node_at net v)) (fan_ins-agree net k a b v (assignments-agree net x a b p q k) settled)
      ∙ sym (q.nodes v settled.0);
}

-- and no second one
pub assignment_is_unique : (net : Network) (x a b : List ℕ) → IsAcyclic net → Settles net x a → Settles net x b → a ≡ b
assignment_is_unique net x a b acyclic p q =
    let agree = assignments-agree net x a b p q (length net.nodes) in
    ext_get_or 0 a b (p.all_signals ∙ sym q.all_signals)
    (λ s lt. ⊎_elim (λ here. agree.at_inputs s here)
    (λ past. let lt_all : s < signals net = omega (arith, p.all_signals) in
    let e : length net.inputs + (s - length net.inputs) ≡ s = omega arith in
    let P : ℕ → Type 0 = λ m. AgreeAt a b m in
    subst P e (agree.at_nodes (s - length net.inputs) (acyclic (s - length net.inputs) (omega arith))))
    (cases_lt s (length net.inputs)))
