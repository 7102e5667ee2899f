-- The reference mapping of a network: where its cells stand, and what they compute.
use Rattle.std.proofs.Common.{◌≡◌, ℕ, zero, suc, ◌+◌, ◌-◌, ◌<◌, ◌≤◌, inl, inr, ⊎_elim, Bool, true, ltb, List, [], ◌∷◌, ◌++◌, length, map, drop, get_or, All, refl, ap, sym, subst, ◌∙◌, arith, length-append}
use Rattle.std.proofs.lemmas.Bool.{cases_lt, lt-ltb, le-ltb, cond-true, cond-false}
use Rattle.std.proofs.lemmas.List.{get_or_append_left, get_or-append-add, get_or-map, get_or-drop, get_or-take, get_or_past, length-map}
use Rattle.std.proofs.lemmas.Nat.Bits.{bit_at-lt}
use Rattle.clause_defs.specs.Clauses.{Has}
use Rattle.pch_base.specs.BitLists.{word_of}
use Rattle.fabric_defs.specs.Bits.{IsBits}
use Rattle.fabric_defs.specs.Wirings.{table_bit}
use Rattle.std.proofs.lemmas.List.Elements.{All-map}
use Rattle.net_defs.specs.Networks.{Output, Network, no_node, node_at, signals}
use Rattle.net_defs.specs.Settling.{Settled}
use Rattle.net_defs.specs.Nets.{IsNet}
use Rattle.net_defs.specs.Evaluation.{node_bit, bits_at, output_signals, Settles}
use Rattle.cell_defs.specs.declared.source.Source.{Source}
use Rattle.cell_defs.specs.declared.source.Source.TheVariants.{Zero, Pad, Cell}
use Rattle.cell_defs.specs.Cells.{CellValue, no_cell, IsSourceBelow}
use Rattle.cell_defs.specs.Evaluation.{source_bit, source_bits, chosen_bit}
use Rattle.map_defs.specs.Mapped.{MappedValue, mapped_cell}
use Rattle.map_defs.specs.Outputs.{MappedBits}
use Rattle.map_defs.specs.Needed.{HasFanIns}
use Rattle.map_defs.specs.NodeCells.{node_cells}
use Rattle.map_defs.specs.Reference.{own_cells, first_cell, signal_source, source_in, cell_in, placed_cells, cells_before, mapping}
use Rattle.map_laws.proofs.GateLemmas.{HaveBits, Obey}
use Rattle.map_laws.proofs.NodeLemmas.{node_cells-bit, node_cells-some, node_bit-le}
use Rattle.map_laws.proofs.LocalLemmas.{AreLocal, node_cells-local}

-- an element of a list is in it
pub Has-get_or : {X : Type 0} (xs : List X) (i : ℕ) (d : X) → i < length xs → Has xs (get_or xs i d)
Has-get_or [] i d lt = absurd (omega arith)
Has-get_or (x ∷ xs) zero d lt = inl refl
Has-get_or (x ∷ xs) (suc i) d lt = inr (Has-get_or xs i d (omega arith))

-- the cells of a needed node
pub own_cells-needed : (net : Network) (needed : ℕ → Bool) (v : ℕ) → needed v ≡ true → own_cells net needed v ≡ node_cells (node_at net v)
own_cells-needed net needed v e = cond-true (needed v) (node_cells (node_at net v)) [] e

-- each node has its cells placed
pub length-placed_cells : (net : Network) (needed : ℕ → Bool) (v : ℕ) → length (placed_cells net needed v) ≡ length (own_cells net needed v)
length-placed_cells net needed v = length-map (own_cells net needed v) _

-- the number of the first cell of a node is that of all cells before it
pub length-cells_before : (net : Network) (needed : ℕ → Bool) (v : ℕ) → length (cells_before net needed v) ≡ first_cell net needed v
length-cells_before net needed zero = refl
length-cells_before net needed (suc v) =
    length-append (cells_before net needed v) (placed_cells net needed v)
    ∙ omega (arith, length-cells_before net needed v, length-placed_cells net needed v)

-- later nodes have later cells
pub first_cell-le : (net : Network) (needed : ℕ → Bool) (m n : ℕ) → m ≤ n → first_cell net needed m ≤ first_cell net needed n
first_cell-le net needed m zero le = let e : m ≡ 0 = omega arith in let P : ℕ → Type 0 = λ k. first_cell net needed k ≤ 0 in subst P (sym e) (omega arith)
first_cell-le net needed m (suc n) le =
    ⊎_elim
    (λ lt. let rec : first_cell net needed m ≤ first_cell net needed n = first_cell-le net needed m n (omega arith) in omega arith)
    (λ ge. let e : suc n ≡ m = omega arith in let P : ℕ → Type 0 = λ k. first_cell net needed m ≤ first_cell net needed k in
    subst P (sym e) (omega arith))
    (cases_lt m (suc n))

-- cell i of node v stands so far behind the first
pub cells_before-at : (net : Network) (needed : ℕ → Bool) (n v i : ℕ) → v < n → i < length (own_cells net needed v)
    → get_or (cells_before net needed n) (first_cell net needed v + i) no_cell ≡ get_or (placed_cells net needed v) i no_cell
cells_before-at net needed zero v i lt within = absurd (omega arith)
cells_before-at net needed (suc n) v i lt within =
    let before = cells_before net needed n in
    ⊎_elim
    (λ here. let earlier : first_cell net needed (suc v) ≤ first_cell net needed n = first_cell-le net needed (suc v) n (omega arith) in
    get_or_append_left before (placed_cells net needed n) no_cell (first_cell net needed v + i)
    (omega (arith, length-cells_before net needed n))
    ∙ cells_before-at net needed n v i here within)
    (λ past. let e : n ≡ v = omega arith in
    let P : ℕ → Type 0 = λ m. get_or (before ++ placed_cells net needed n) (first_cell net needed m + i) no_cell ≡ get_or (placed_cells net needed m) i no_cell in
    subst P e
    (ap (λ k. get_or (before ++ placed_cells net needed n) (k + i) no_cell) (sym (length-cells_before net needed n))
    ∙ get_or-append-add before (placed_cells net needed n) i no_cell))
    (cases_lt v n)

-- and so each cell is one of a node
pub place_of_cell : (net : Network) (needed : ℕ → Bool) (n k : ℕ) → k < first_cell net needed n
    → (v : ℕ) × (i : ℕ) × (v < n) × (i < length (own_cells net needed v)) × (k ≡ first_cell net needed v + i)
place_of_cell net needed zero k lt = absurd (omega arith)
place_of_cell net needed (suc n) k lt =
    ⊎_elim
    (λ here. let at = place_of_cell net needed n k here in
    let below : at.0 < suc n = let b : at.0 < n = at.2 in omega arith in
    (at.0, at.1, below, at.3, at.4))
    (λ past. (n, k - first_cell net needed n, omega arith, omega arith, omega arith))
    (cases_lt k (first_cell net needed n))

-- a cell of a node among all cells
pub mapped_cell-at : (net : Network) (needed : ℕ → Bool) (v i : ℕ) → v < length net.nodes → i < length (own_cells net needed v)
    → mapped_cell (mapping net needed) (first_cell net needed v + i)
    ≡ cell_in (signal_source net needed) (node_at net v).fan_ins (first_cell net needed v) (get_or (own_cells net needed v) i no_cell)
mapped_cell-at net needed v i lt within =
    cells_before-at net needed (length net.nodes) v i lt within
    ∙ get_or-map (cell_in (signal_source net needed) (node_at net v).fan_ins (first_cell net needed v)) (own_cells net needed v) i no_cell no_cell within

-- cells of nodes are cells
pub cell_number-within : (net : Network) (needed : ℕ → Bool) (v i : ℕ) → v < length net.nodes → i < length (own_cells net needed v)
    → first_cell net needed v + i < length (cells_before net needed (length net.nodes))
cell_number-within net needed v i lt within =
    let later : first_cell net needed (suc v) ≤ first_cell net needed (length net.nodes) = first_cell-le net needed (suc v) (length net.nodes) (omega arith) in
    omega (arith, length-cells_before net needed (length net.nodes))

-- the source of an input, and of a node
pub signal_source-input : (net : Network) (needed : ℕ → Bool) (s : ℕ) → s < length net.inputs → signal_source net needed s ≡ Pad s
signal_source-input net needed s lt = cond-true (ltb s (length net.inputs)) (Pad s) _ (lt-ltb s (length net.inputs) lt)

-- the source of a node's signal is its last cell
pub signal_source-node : (net : Network) (needed : ℕ → Bool) (s : ℕ) → length net.inputs ≤ s
    → signal_source net needed s ≡ Cell (first_cell net needed (suc (s - length net.inputs)) - 1)
signal_source-node net needed s le = cond-false (ltb s (length net.inputs)) (Pad s) _ (le-ltb s (length net.inputs) le)

-- a source of a node by itself has the same bit there
source_in-bit : (x a s fan_ins : List ℕ) (source_of : ℕ → Source) (first end : ℕ) (c : Source)
    → ((j : ℕ) → j < length fan_ins → source_bit x a (source_of (get_or fan_ins j 0)) ≡ get_or s (get_or fan_ins j 0) 0)
    → IsSourceBelow (length fan_ins) end c
    → source_bit x a (source_in source_of fan_ins first c) ≡ source_bit (bits_at s fan_ins) (drop first a) c
source_in-bit x a s fan_ins source_of first end Zero h below = refl
source_in-bit x a s fan_ins source_of first end (Pad j) h below =
    h j below ∙ sym (get_or-map (λ t. get_or s t 0) fan_ins j 0 0 below)
source_in-bit x a s fan_ins source_of first end (Cell i) h below = sym (get_or-drop first a i 0)

-- and so has each of several sources
sources_in-bits : (x a s fan_ins : List ℕ) (source_of : ℕ → Source) (first end : ℕ) (cs : List Source)
    → ((j : ℕ) → j < length fan_ins → source_bit x a (source_of (get_or fan_ins j 0)) ≡ get_or s (get_or fan_ins j 0) 0)
    → All (IsSourceBelow (length fan_ins) end) cs
    → source_bits x a (map (source_in source_of fan_ins first) cs) ≡ source_bits (bits_at s fan_ins) (drop first a) cs
sources_in-bits x a s fan_ins source_of first end [] h below = refl
sources_in-bits x a s fan_ins source_of first end (c ∷ cs) h below =
    ap (λ n. n ∷ source_bits x a (map (source_in source_of fan_ins first) cs))
    (source_in-bit x a s fan_ins source_of first end c h (below 0 c (omega arith)))
    ∙ ap (λ l. source_bit (bits_at s fan_ins) (drop first a) c ∷ l)
    (sources_in-bits x a s fan_ins source_of first end cs h (λ k d lt. below (suc k) d (omega arith)))

-- elements of a list of bits are bits, and past its end there is 0
small_elements : (xs : List ℕ) → ((i : ℕ) → i < length xs → get_or xs i 0 ≤ 1) → (i : ℕ) → get_or xs i 0 ≤ 1
small_elements xs h i =
    ⊎_elim (h i)
    (λ past. let e : get_or xs i 0 ≡ 0 = get_or_past xs i 0 past in omega arith)
    (cases_lt i (length xs))

-- the bits of all signals and of all cells
record AllBits (net : Network) (needed : ℕ → Bool) (x s a : List ℕ) : Type 0 where
  is_net : IsNet net
  closed : HasFanIns net needed
  bits : IsBits (length net.inputs) x
  settles : Settles net x s
  mapped : MappedBits (mapping net needed) x a

-- the signal of an input has the input's bit
input-bit : (net : Network) (x s : List ℕ) (t : ℕ) → Settles net x s → t < length net.inputs → get_or x t 0 ≡ get_or s t 0
input-bit net x s t h lt =
    ap (λ l. get_or l t 0) (sym h.inputs) ∙ get_or-take (length net.inputs) s t 0 lt

-- the bits of all signals are bits
signals-small : (net : Network) (x s : List ℕ) → IsBits (length net.inputs) x → Settles net x s → (t : ℕ) → get_or s t 0 ≤ 1
signals-small net x s bits h =
    small_elements s
    (λ t lt. ⊎_elim
    (λ here. let e = input-bit net x s t h here in
    let small : get_or x t 0 ≤ 1 = bits.bits (get_or x t 0) (Has-get_or x t 0 (omega (arith, bits.count))) in
    omega arith)
    (λ past. let v : ℕ = t - length net.inputs in
    let place : length net.inputs + v ≡ t = omega arith in
    let bit = h.nodes v (omega (arith, h.all_signals)) in
    let small : node_bit (node_at net v) (bits_at s (node_at net v).fan_ins) ≤ 1 = node_bit-le (node_at net v) (bits_at s (node_at net v).fan_ins) in
    let P : ℕ → Type 0 = λ k. get_or s k 0 ≤ 1 in
    subst P place (omega arith))
    (cases_lt t (length net.inputs)))

-- and so are those of all cells
cells-small : (l : MappedValue) (x a : List ℕ) → MappedBits l x a → (k : ℕ) → get_or a k 0 ≤ 1
cells-small l x a h =
    small_elements a
    (λ k lt. let e = h.each k (omega (arith, h.count)) in
    let small : chosen_bit x a (mapped_cell l k) < 2 = bit_at-lt (mapped_cell l k).table (word_of (source_bits x a (mapped_cell l k).pins)) in
    omega arith)

-- the bits of a node's fan-ins and of its own cells are bits
local-small : (net : Network) (needed : ℕ → Bool) (x s a : List ℕ) (v first : ℕ) → AllBits net needed x s a
    → HaveBits (bits_at s (node_at net v).fan_ins) (drop first a)
local-small net needed x s a v first h Zero = omega arith
local-small net needed x s a v first h (Pad j) =
    let fan_ins = (node_at net v).fan_ins in
    let small = signals-small net x s h.bits h.settles in
    small_elements (bits_at s fan_ins)
    (λ i lt. let within : i < length fan_ins = omega (arith, length-map fan_ins (λ t. get_or s t 0)) in
    let e : get_or (bits_at s fan_ins) i 0 ≡ get_or s (get_or fan_ins i 0) 0 = get_or-map (λ t. get_or s t 0) fan_ins i 0 0 within in
    let le : get_or s (get_or fan_ins i 0) 0 ≤ 1 = small (get_or fan_ins i 0) in
    omega arith)
    j
local-small net needed x s a v first h (Cell i) =
    let e : get_or (drop first a) i 0 ≡ get_or a (first + i) 0 = get_or-drop first a i 0 in
    let le : get_or a (first + i) 0 ≤ 1 = cells-small (mapping net needed) x a h.mapped (first + i) in
    omega arith

-- the rows of a node have a mark for each fan-in
pub node_rows : (net : Network) (v : ℕ) → IsNet net → v < length net.nodes → All (λ row. length row ≡ length (node_at net v).fan_ins) (node_at net v).rows
node_rows net v h lt = (h.nodes v no_node lt).rows

-- the cells of a needed node listen to its fan-ins and to earlier ones among them
pub own_cells-local : (net : Network) (needed : ℕ → Bool) (v : ℕ) → IsNet net → v < length net.nodes → needed v ≡ true
    → AreLocal (length (node_at net v).fan_ins) 0 (own_cells net needed v)
own_cells-local net needed v h lt e =
    let P : List CellValue → Type 0 = λ l. AreLocal (length (node_at net v).fan_ins) 0 l in
    subst P (sym (own_cells-needed net needed v e)) (node_cells-local (node_at net v) (node_rows net v h lt))

-- the cells of a needed node obey their equations over the bits of its fan-ins
own_cells-obey : (net : Network) (needed : ℕ → Bool) (x s a : List ℕ) (v : ℕ) → AllBits net needed x s a → v < length net.nodes → needed v ≡ true
    → ((j : ℕ) → j < length (node_at net v).fan_ins
    → source_bit x a (signal_source net needed (get_or (node_at net v).fan_ins j 0)) ≡ get_or s (get_or (node_at net v).fan_ins j 0) 0)
    → Obey (bits_at s (node_at net v).fan_ins) (drop (first_cell net needed v) a) 0 (own_cells net needed v)
own_cells-obey net needed x s a v h lt e fan i within =
    let first = first_cell net needed v in
    let fan_ins = (node_at net v).fan_ins in
    let cell = get_or (own_cells net needed v) i no_cell in
    let z : 0 + i ≡ i = omega arith in
    get_or-drop first a (0 + i) 0
    ∙ ap (λ k. get_or a (first + k) 0) z
    ∙ h.mapped.each (first + i) (cell_number-within net needed v i lt within)
    ∙ ap (chosen_bit x a) (mapped_cell-at net needed v i lt within)
    ∙ ap (table_bit cell.table)
    (sources_in-bits x a s fan_ins (signal_source net needed) first (0 + i) cell.pins fan
    (own_cells-local net needed v h.is_net lt e i within).pins)

-- a settled node is one of the network's
pub settled-within : (net : Network) (k v : ℕ) → Settled net k v → v < length net.nodes
settled-within net zero v h = absurd h
settled-within net (suc k) v h = h.0

-- the last cell of a needed node has the node's bit
node-bit : (net : Network) (needed : ℕ → Bool) (x s a : List ℕ) → AllBits net needed x s a → (k v : ℕ) → Settled net k v → needed v ≡ true
    → get_or a (first_cell net needed (suc v) - 1) 0 ≡ get_or s (length net.inputs + v) 0
node-bit net needed x s a h zero v settled e = absurd settled
node-bit net needed x s a h (suc k) v settled e =
    let node = node_at net v in
    let lt : v < length net.nodes = settled.0 in
    let first = first_cell net needed v in
    let own = own_cells net needed v in
    let values = bits_at s node.fan_ins in
    let fan : (j : ℕ) → j < length node.fan_ins → source_bit x a (signal_source net needed (get_or node.fan_ins j 0)) ≡ get_or s (get_or node.fan_ins j 0) 0 =
    λ j within. let t : ℕ = get_or node.fan_ins j 0 in
    ⊎_elim
    (λ here. ap (source_bit x a) (signal_source-input net needed t here) ∙ input-bit net x s t h.settles here)
    (λ past. let u : ℕ = t - length net.inputs in
    let place : length net.inputs + u ≡ t = omega arith in
    let earlier : Settled net k u = ⊎_elim (λ here. absurd (omega arith)) (λ there. there) (settled.1 j 0 within) in
    let has : Has node.fan_ins (length net.inputs + u) = let P : ℕ → Type 0 = λ m. Has node.fan_ins m in subst P (sym place) (Has-get_or node.fan_ins j 0 within) in
    let member : needed u ≡ true = h.closed.fan_ins v u lt (settled-within net k u earlier) e has in
    ap (source_bit x a) (signal_source-node net needed t past)
    ∙ node-bit net needed x s a h k u earlier member
    ∙ ap (λ m. get_or s m 0) place)
    (cases_lt t (length net.inputs)) in
    let P : List CellValue → Type 0 = λ l. Obey values (drop first a) 0 l in
    let obeys = subst P (own_cells-needed net needed v e) (own_cells-obey net needed x s a v h lt e fan) in
    let count : length own ≡ length (node_cells node) = ap length (own_cells-needed net needed v e) in
    let some : 0 < length (node_cells node) = node_cells-some node in
    let place : first_cell net needed (suc v) - 1 ≡ first + (length (node_cells node) - 1) = omega arith in
    ap (λ m. get_or a m 0) place
    ∙ sym (get_or-drop first a (length (node_cells node) - 1) 0)
    ∙ node_cells-bit node values (drop first a) (local-small net needed x s a v first h) (length-map node.fan_ins (λ t. get_or s t 0)) (node_rows net v h.is_net lt) obeys
    ∙ sym (h.settles.nodes v lt)

-- so each output has its bit
output-bit : (net : Network) (needed : ℕ → Bool) (x s a : List ℕ) (t : ℕ) → AllBits net needed x s a → t < signals net → Has (output_signals net) t
    → source_bit x a (signal_source net needed t) ≡ get_or s t 0
output-bit net needed x s a t h lt has =
    ⊎_elim
    (λ here. ap (source_bit x a) (signal_source-input net needed t here) ∙ input-bit net x s t h.settles here)
    (λ past. let u : ℕ = t - length net.inputs in
    let place : length net.inputs + u ≡ t = omega arith in
    let below : u < length net.nodes = omega arith in
    let there : Has (output_signals net) (length net.inputs + u) = let P : ℕ → Type 0 = λ m. Has (output_signals net) m in subst P (sym place) has in
    ap (source_bit x a) (signal_source-node net needed t past)
    ∙ node-bit net needed x s a h (length net.nodes) u (h.is_net.acyclic u below) (h.closed.outputs u below there)
    ∙ ap (λ m. get_or s m 0) place)
    (cases_lt t (length net.inputs))

-- the sources of outputs have the bits of their signals
outputs-bits : (net : Network) (needed : ℕ → Bool) (x s a ts : List ℕ) → AllBits net needed x s a
    → ((t : ℕ) → Has ts t → (t < signals net) × Has (output_signals net) t)
    → source_bits x a (map (signal_source net needed) ts) ≡ bits_at s ts
outputs-bits net needed x s a [] h outputs = refl
outputs-bits net needed x s a (t ∷ ts) h outputs =
    let at = outputs t (inl refl) in
    ap (λ n. n ∷ source_bits x a (map (signal_source net needed) ts)) (output-bit net needed x s a t h at.0 at.1)
    ∙ ap (λ l. get_or s t 0 ∷ l) (outputs-bits net needed x s a ts h (λ u has. outputs u (inr has)))

-- what holds of the signal of each output holds of each output signal
pub All-Has : (P : ℕ → Type 0) (xs : List ℕ) (x : ℕ) → All P xs → Has xs x → P x
All-Has P [] x h m = absurd m
All-Has P (y ∷ ys) x h (inl e) = subst P e (h 0 y (omega arith))
All-Has P (y ∷ ys) x h (inr m) = All-Has P ys x (λ k d lt. h (suc k) d (omega arith)) m

-- each output is a signal
pub outputs-within : (net : Network) → IsNet net → All (λ t. t < signals net) (output_signals net)
outputs-within net h = All-map (λ t. t < signals net) (λ (o : Output). o.signal) net.outputs h.output_signals

-- the outputs of the mapping have the bits of the network's
pub outputs-same : (net : Network) (needed : ℕ → Bool) (x s a : List ℕ) → IsNet net → HasFanIns net needed
    → IsBits (length net.inputs) x → Settles net x s → MappedBits (mapping net needed) x a
    → source_bits x a (mapping net needed).outputs ≡ bits_at s (output_signals net)
outputs-same net needed x s a is_net closed bits settles mapped =
    outputs-bits net needed x s a (output_signals net)
    (record { is_net = is_net; closed = closed; bits = bits; settles = settles; mapped = mapped })
    (λ t has. (All-Has (λ u. u < signals net) (output_signals net) t (outputs-within net is_net) has, has))
