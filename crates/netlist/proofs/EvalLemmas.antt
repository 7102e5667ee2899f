-- Evaluation of rows, of nodes in an order, and of outputs.
use Rattle.std.proofs.Common.{◌≡◌, ℕ, ◌+◌, ◌-◌, ◌<◌, ◌≤◌, ⊎_elim, ◌&&◌, List, [], ◌∷◌, ◌++◌, length, map, set, take, drop, get_or, All, Contains, refl, ap, sym, subst, ◌∙◌, arith}
use Rattle.std.proofs.lemmas.List.{drop_more, take_more, take_all, take_more_set, map_more, get_or-take, get_or-set_same, get_or-set_other}
use Rattle.std.proofs.lemmas.List.Elements.{Contains-push_cases, All-map}
use Rattle.std.proofs.lemmas.Bool.{cases_eq, cases_lt}
use Rattle.blif_defs.specs.declared.mark.Mark.{Mark}
use Rattle.net_defs.specs.Networks.{Output, Network, node_at, signals}
use Rattle.net_defs.specs.Evaluation.{allows, hits, node_bit, bits_at, output_signals, Settles, SpecOut}
use Rattle.net_defs.specs.Nets.{IsNet}
use Rattle.net_defs.proofs.AssignmentLemmas.{bits_at-same, assignment_exists}
use Rattle.net_defs.specs.Orders.{IsKnown, IsOrder}
use Rattle.netlist.specs.Places.{SameBits, Completes}

-- the rest of a row hits where its next mark allows its bit, and what is left after that hits
pub hits-drop : (row : List Mark) (fan_ins s : List ℕ) (i : ℕ) (m : Mark) → i < length row → length row ≡ length fan_ins
    → m ≡ get_or row i m
    → hits (drop i row) (bits_at s (drop i fan_ins))
    ≡ (allows m (get_or s (get_or fan_ins i 0) 0) && hits (drop (i + 1) row) (bits_at s (drop (i + 1) fan_ins)))
hits-drop row fan_ins s i m lt e at =
    let lt2 : i < length fan_ins = omega arith in
    let rest = drop (i + 1) row in
    let more = drop (i + 1) fan_ins in
    ap (λ r. hits r (bits_at s (drop i fan_ins))) (drop_more row i m lt)
    ∙ ap (λ f. hits (get_or row i m ∷ rest) (bits_at s f)) (drop_more fan_ins i 0 lt2)
    ∙ ap (λ k. hits (k ∷ rest) (bits_at s (get_or fan_ins i 0 ∷ more))) (sym at)

-- the bits of the outputs are those at their signals
pub bits_of_outputs : (s : List ℕ) (outputs : List Output)
    → map (λ (o : Output). get_or s o.signal 0) outputs ≡ bits_at s (map (λ (o : Output). o.signal) outputs)
bits_of_outputs s [] = refl
bits_of_outputs s (o ∷ os) = ap (λ bs. get_or s o.signal 0 ∷ bs) (bits_of_outputs s os)

-- the inputs and these nodes have the bits a
pub record Swept (net : Network) (nodes s a : List ℕ) : Type 0 where
  pub inputs : SameBits (length net.inputs) s a
  pub nodes_done : (v : ℕ) → Contains nodes v → get_or s (length net.inputs + v) 0 ≡ get_or a (length net.inputs + v) 0

-- before the first node
pub Swept-none : (net : Network) (order s a : List ℕ) → SameBits (length net.inputs) s a → Swept net (take 0 order) s a
Swept-none net order s a h = record { inputs = h; nodes_done = λ v c. absurd (omega (arith, c.1)) }

-- node number j of an order gets its bit
pub Swept-more : (net : Network) (order s x a : List ℕ) (j v bit : ℕ) → Settles net x a → IsOrder net order
    → Swept net (take j order) s a → j < length order → v ≡ get_or order j 0 → signals net ≤ length s
    → node_bit (node_at net v) (bits_at s (node_at net v).fan_ins) ≡ bit
    → Swept net (take (j + 1) order) (set s (length net.inputs + v) bit) a
Swept-more net order s x a j v bit settles is_order h lt at places bit_is =
    let n : ℕ = length net.inputs in
    let v_lt : v < length net.nodes = let P : ℕ → Type 0 = λ m. m < length net.nodes in subst P (sym at) (is_order.nodes.within j 0 lt) in
    let known : All (IsKnown net (take j order)) (node_at net v).fan_ins =
    let P : ℕ → Type 0 = λ m. All (IsKnown net (take j order)) (node_at net m).fan_ins in subst P (sym at) (is_order.after j lt) in
    let same : bits_at s (node_at net v).fan_ins ≡ bits_at a (node_at net v).fan_ins =
    bits_at-same s a (node_at net v).fan_ins (λ k d k_lt.
    let f : ℕ = get_or (node_at net v).fan_ins k d in
    ⊎_elim (λ here. h.inputs f here)
    (λ earlier. ⊎_elim (λ here. h.inputs f here)
    (λ past. let e : n + (f - n) ≡ f = omega arith in
    let P : ℕ → Type 0 = λ m. get_or s m 0 ≡ get_or a m 0 in
    subst P e (h.nodes_done (f - n) earlier))
    (cases_lt f n))
    (known k d k_lt)) in
    let right : bit ≡ get_or a (n + v) 0 = sym bit_is ∙ ap (node_bit (node_at net v)) same ∙ sym (settles.nodes v v_lt) in
    let written : get_or (set s (n + v) bit) (n + v) 0 ≡ bit = get_or-set_same s (n + v) bit 0 (omega arith) in
    let P : List ℕ → Type 0 = λ l. Swept net l (set s (n + v) bit) a in
    subst P (sym (take_more order j 0 lt))
    record {
      inputs = λ i i_lt. get_or-set_other s (n + v) i bit 0 (λ e. omega arith) ∙ h.inputs i i_lt;
      nodes_done = λ u c. ⊎_elim
          (λ e. ap (λ m. get_or (set s (n + v) bit) (n + m) 0) e ∙ written ∙ right ∙ ap (λ m. get_or a (n + m) 0) (sym e))
          (λ ne. get_or-set_other s (n + v) (n + u) bit 0 (λ e. ne (omega arith))
          ∙ h.nodes_done u (⊎_elim (λ earlier. earlier) (λ last. absurd (ne (sym last ∙ sym at)))
          (Contains-push_cases (take j order) (get_or order j 0) u c)))
          (cases_eq u v);
    }

-- once every node has its bit, all signals do
pub Swept-all : (net : Network) (order s a : List ℕ) (j : ℕ) → IsOrder net order → Swept net (take j order) s a → length order ≤ j
    → SameBits (signals net) s a
Swept-all net order s a j is_order h le i i_lt =
    let n : ℕ = length net.inputs in
    ⊎_elim (λ here. h.inputs i here)
    (λ past. let e : n + (i - n) ≡ i = omega arith in
    let P : ℕ → Type 0 = λ m. get_or s m 0 ≡ get_or a m 0 in
    let Q : List ℕ → Type 0 = λ l. Contains l (i - n) in
    subst P e (h.nodes_done (i - n) (subst Q (sym (take_all j order le)) (is_order.nodes.complete (i - n) (omega arith)))))
    (cases_lt i n)

-- one more output bit
pub outputs-more : (bits s : List ℕ) (outputs : List Output) (o bit : ℕ) (d : Output) → length bits ≡ length outputs → o < length outputs
    → get_or s (get_or outputs o d).signal 0 ≡ bit
    → take o bits ≡ map (λ (p : Output). get_or s p.signal 0) (take o outputs)
    → take (o + 1) (set bits o bit) ≡ map (λ (p : Output). get_or s p.signal 0) (take (o + 1) outputs)
outputs-more bits s outputs o bit d e lt at h =
    take_more_set bits o bit (omega arith)
    ∙ ap (λ l. l ++ bit ∷ []) h
    ∙ ap (λ b. map (λ (p : Output). get_or s p.signal 0) (take o outputs) ++ b ∷ []) (sym at)
    ∙ sym (map_more (λ (p : Output). get_or s p.signal 0) outputs o d lt)

-- all output bits
pub outputs-all : (bits s : List ℕ) (outputs : List Output) (o : ℕ) → length bits ≡ length outputs → length outputs ≤ o
    → take o bits ≡ map (λ (p : Output). get_or s p.signal 0) (take o outputs)
    → bits ≡ bits_at s (map (λ (p : Output). p.signal) outputs)
outputs-all bits s outputs o e le h =
    sym (take_all o bits (omega arith)) ∙ h
    ∙ ap (λ l. map (λ (p : Output). get_or s p.signal 0) l) (take_all o outputs le)
    ∙ bits_of_outputs s outputs

-- signals below n have the same bits in two lists that agree there
bits_at-within : (p q ss : List ℕ) (n : ℕ) → SameBits n p q → All (λ s. s < n) ss → bits_at p ss ≡ bits_at q ss
bits_at-within p q ss n h within = bits_at-same p q ss (λ k d lt. h (get_or ss k d) (within k d lt))

-- outputs within the network show signals of it
signals_within : (outputs : List Output) (n : ℕ) → All (λ (o : Output). o.signal < n) outputs → All (λ s. s < n) (map (λ (o : Output). o.signal) outputs)
signals_within outputs n h = All-map (λ s. s < n) (λ (o : Output). o.signal) outputs h

-- the bits at the outputs are what the definition says, whatever the places held before
pub SpecOut-evaluated : (net : Network) (x old new y : List ℕ) → IsNet net → length x ≡ length net.inputs
    → SameBits (length x) old x → Completes net old new → y ≡ bits_at new (output_signals net) → SpecOut net x y
SpecOut-evaluated net x old new y is_net width put complete is =
    let one = assignment_exists net x is_net.acyclic width in
    let a = one.0 in
    let first : SameBits (length net.inputs) old a = (λ i lt.
    put i (omega arith) ∙ ap (λ l. get_or l i 0) (sym one.1.inputs) ∙ get_or-take (length net.inputs) a i 0 lt) in (
      a,
      one.1,
      is ∙ bits_at-within new a (output_signals net) (signals net) (complete x a one.1 first)
          (signals_within net.outputs (signals net) is_net.output_signals),
    )
