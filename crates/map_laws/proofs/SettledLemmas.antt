-- The reference mapping is a list of mapped cells: each is settled, and listens to inputs and cells.
use Rattle.std.proofs.Common.{◌≡◌, ℕ, zero, suc, ◌+◌, ◌-◌, ◌*◌, ◌<◌, ◌≤◌, ⊎_elim, Bool, true, List, [], length, map, get_or, All, ◌↔◌, sym, subst, ◌∙◌, arith}
use Rattle.std.proofs.lemmas.Bool.{cases_lt, cases_Bool, cond-false}
use Rattle.std.proofs.lemmas.List.{length-map}
use Rattle.std.proofs.lemmas.List.Elements.{All-map}
use Rattle.clause_defs.specs.Clauses.{Has}
use Rattle.net_defs.specs.Networks.{Network, node_at, signals}
use Rattle.net_defs.specs.Settling.{Settled}
use Rattle.net_defs.specs.Nets.{IsNet}
use Rattle.net_defs.specs.Evaluation.{output_signals, SpecOut}
use Rattle.net_defs.proofs.AssignmentLemmas.{assignment_exists}
use Rattle.fabric_defs.specs.Bits.{IsBits}
use Rattle.fabric_defs.specs.declared.kind.CellKind.{CellKind}
use Rattle.fabric_defs.specs.declared.kind.CellKind.TheVariants.{FourInputs, SixInputs}
use Rattle.fabric_defs.specs.Kinds.{pins_of}
use Rattle.fabric_defs.specs.Geometries.{GeometryValue, pin_count}
use Rattle.map_defs.specs.declared.limits.TheConstants.{GROUP}
use Rattle.map_defs.specs.Outputs.{LutOut}
use Rattle.cell_defs.specs.declared.source.Source.{Source}
use Rattle.cell_defs.specs.declared.source.Source.TheVariants.{Zero, Pad, Cell}
use Rattle.cell_defs.specs.Cells.{CellValue, no_cell, IsSourceBelow}
use Rattle.map_defs.specs.Mapped.{MappedValue, mapped_cell, IsSourceAmong, IsSettledCell, AreSettled, IsMappedCell, AreMapped}
use Rattle.map_defs.specs.Needed.{HasFanIns}
use Rattle.map_defs.specs.Tables.{IsRepeated}
use Rattle.net_defs.proofs.SettlingLemmas.{Settled-later}
use Rattle.map_defs.specs.Reference.{own_cells, first_cell, signal_source, source_in, cell_in, cells_before, mapping, RefMap}
use Rattle.map_defs.specs.NodeCells.{node_cells}
use Rattle.map_laws.proofs.NodeLemmas.{node_cells-some}
use Rattle.map_laws.proofs.BitsLemmas.{IsSettledCell-later, bits-exist}
use Rattle.map_laws.proofs.MappingLemmas.{Has-get_or, own_cells-needed, length-cells_before, first_cell-le, place_of_cell, mapped_cell-at, cell_number-within, signal_source-input, signal_source-node, own_cells-local, settled-within, outputs-within, outputs-same}

-- the last cells of the nodes that are settled after k rounds are settled after so many
abbrev LastAreSettled : Network → (ℕ → Bool) → ℕ → ℕ → Type 0
LastAreSettled net needed k rounds =
    (v : ℕ) → Settled net k v → needed v ≡ true → IsSettledCell (mapping net needed) rounds (first_cell net needed (suc v) - 1)

-- a source of a node by itself is settled among all cells
source_in-settled : (net : Network) (needed : ℕ → Bool) (k rounds v i : ℕ) (c : Source) → HasFanIns net needed
    → LastAreSettled net needed k rounds → Settled net (suc k) v → needed v ≡ true
    → ((j : ℕ) → j < i → IsSettledCell (mapping net needed) rounds (first_cell net needed v + j))
    → IsSourceBelow (length (node_at net v).fan_ins) i c
    → IsSourceAmong (length net.inputs) (IsSettledCell (mapping net needed) rounds)
    (source_in (signal_source net needed) (node_at net v).fan_ins (first_cell net needed v) c)
source_in-settled net needed k rounds v i Zero closed last settled e own below = tt
source_in-settled net needed k rounds v i (Cell j) closed last settled e own below = own j below
source_in-settled net needed k rounds v i (Pad j) closed last settled e own below =
    let fan_ins = (node_at net v).fan_ins in
    let t : ℕ = get_or fan_ins j 0 in
    let P : Source → Type 0 = λ c. IsSourceAmong (length net.inputs) (IsSettledCell (mapping net needed) rounds) c in
    ⊎_elim
    (λ here. subst P (sym (signal_source-input net needed t here)) here)
    (λ past. let u : ℕ = t - length net.inputs in
    let place : length net.inputs + u ≡ t = omega arith in
    let earlier : Settled net k u = ⊎_elim (λ here. absurd (omega arith)) (λ there. there) (settled.1 j 0 below) in
    let has : Has fan_ins (length net.inputs + u) = let Q : ℕ → Type 0 = λ m. Has fan_ins m in subst Q (sym place) (Has-get_or fan_ins j 0 below) in
    let member : needed u ≡ true = closed.fan_ins v u settled.0 (settled-within net k u earlier) e has in
    subst P (sym (signal_source-node net needed t past)) (last u earlier member))
    (cases_lt t (length net.inputs))

-- and so is each of several sources
sources_in-settled : (net : Network) (needed : ℕ → Bool) (k rounds v i : ℕ) (cs : List Source) → HasFanIns net needed
    → LastAreSettled net needed k rounds → Settled net (suc k) v → needed v ≡ true
    → ((j : ℕ) → j < i → IsSettledCell (mapping net needed) rounds (first_cell net needed v + j))
    → All (IsSourceBelow (length (node_at net v).fan_ins) i) cs
    → All (IsSourceAmong (length net.inputs) (IsSettledCell (mapping net needed) rounds))
    (map (source_in (signal_source net needed) (node_at net v).fan_ins (first_cell net needed v)) cs)
sources_in-settled net needed k rounds v i cs closed last settled e own below =
    All-map (IsSourceAmong (length net.inputs) (IsSettledCell (mapping net needed) rounds))
    (source_in (signal_source net needed) (node_at net v).fan_ins (first_cell net needed v)) cs
    (λ n d lt. source_in-settled net needed k rounds v i (get_or cs n d) closed last settled e own (below n d lt))

-- the first cells of a node that is settled one round later are settled, one after another
own-settled : (net : Network) (needed : ℕ → Bool) (k rounds v n : ℕ) → IsNet net → HasFanIns net needed
    → LastAreSettled net needed k rounds → Settled net (suc k) v → needed v ≡ true
    → (i : ℕ) → i < n → i < length (own_cells net needed v)
    → IsSettledCell (mapping net needed) (rounds + n) (first_cell net needed v + i)
own-settled net needed k rounds v zero is_net closed last settled e i lt within = absurd (omega arith)
own-settled net needed k rounds v (suc n) is_net closed last settled e i lt within =
    let l = mapping net needed in
    let cell = get_or (own_cells net needed v) i no_cell in
    let z : 0 + i ≡ i = omega arith in
    let B : ℕ → Type 0 = λ m. All (IsSourceBelow (length (node_at net v).fan_ins) m) cell.pins in
    let below = subst B z (own_cells-local net needed v is_net settled.0 e i within).pins in
    let last_later : LastAreSettled net needed k (rounds + n) = λ u s m. IsSettledCell-later l rounds (rounds + n) (first_cell net needed (suc u) - 1) (omega arith) (last u s m) in
    let own = λ (j : ℕ) (less : j < i). own-settled net needed k rounds v n is_net closed last settled e j (omega arith) (omega arith) in
    let pins = sources_in-settled net needed k (rounds + n) v i cell.pins closed last_later settled e own below in
    let P : CellValue → Type 0 = λ c. All (IsSourceAmong (length net.inputs) (IsSettledCell l (rounds + n))) c.pins in
    let at : IsSettledCell l (suc (rounds + n)) (first_cell net needed v + i) =
    (cell_number-within net needed v i settled.0 within, subst P (sym (mapped_cell-at net needed v i settled.0 within)) pins) in
    let Q : ℕ → Type 0 = λ m. IsSettledCell l m (first_cell net needed v + i) in
    subst Q (let e2 : suc (rounds + n) ≡ rounds + suc n = omega arith in e2) at

-- no node has more cells than there are
own-fewer : (net : Network) (needed : ℕ → Bool) (v : ℕ) → v < length net.nodes
    → length (own_cells net needed v) ≤ first_cell net needed (length net.nodes)
own-fewer net needed v lt =
    let later : first_cell net needed (suc v) ≤ first_cell net needed (length net.nodes) = first_cell-le net needed (suc v) (length net.nodes) (omega arith) in
    omega arith

-- so the last cells of all settled nodes are settled
last-settled : (net : Network) (needed : ℕ → Bool) (k : ℕ) → IsNet net → HasFanIns net needed
    → LastAreSettled net needed k (k * first_cell net needed (length net.nodes))
last-settled net needed zero is_net closed v settled e = absurd settled
last-settled net needed (suc k) is_net closed v settled e =
    let all = first_cell net needed (length net.nodes) in
    let own = own_cells net needed v in
    let some : 0 < length own = let P : List CellValue → Type 0 = λ l. 0 < length l in subst P (sym (own_cells-needed net needed v e)) (node_cells-some (node_at net v)) in
    let fewer = own-fewer net needed v settled.0 in
    let found = own-settled net needed k (k * all) v all is_net closed (last-settled net needed k is_net closed) settled e
    (length own - 1) (omega arith) (omega arith) in
    let place : first_cell net needed v + (length own - 1) ≡ first_cell net needed (suc v) - 1 = omega arith in
    let more : k * all + all ≡ suc k * all = omega arith in
    let P : ℕ → Type 0 = λ m. IsSettledCell (mapping net needed) (k * all + all) m in
    let Q : ℕ → Type 0 = λ m. IsSettledCell (mapping net needed) m (first_cell net needed (suc v) - 1) in
    subst Q more (subst P place found)

-- a node that has cells is needed
needed-from_cell : (net : Network) (needed : ℕ → Bool) (v i : ℕ) → i < length (own_cells net needed v) → needed v ≡ true
needed-from_cell net needed v i lt =
    ⊎_elim (λ e. e)
    (λ e. let P : List CellValue → Type 0 = λ l. i < length l in
    absurd (let none : i < 0 = subst P (cond-false (needed v) (node_cells (node_at net v)) [] e) lt in omega arith))
    (cases_Bool (needed v))

-- and so are all cells
pub mapping-settled : (net : Network) (needed : ℕ → Bool) → IsNet net → HasFanIns net needed → AreSettled (mapping net needed)
mapping-settled net needed is_net closed =
    let all = first_cell net needed (length net.nodes) in
    let rounds = length net.nodes * all in (
      rounds + all,
      λ k lt.
          let at = place_of_cell net needed (length net.nodes) k (omega (arith, length-cells_before net needed (length net.nodes))) in
          let v = at.0 in
          let i = at.1 in
          let v_lt : v < length net.nodes = at.2 in
          let e = needed-from_cell net needed v i at.3 in
          let fewer = own-fewer net needed v v_lt in
          let later : Settled net (suc (length net.nodes)) v = Settled-later net (length net.nodes) (suc (length net.nodes)) v (omega arith) (is_net.acyclic v v_lt) in
          let P : ℕ → Type 0 = λ m. IsSettledCell (mapping net needed) (rounds + all) m in
          subst P (sym at.4)
          (own-settled net needed (length net.nodes) rounds v all is_net closed (last-settled net needed (length net.nodes) is_net closed) later e i
          (let within : i < length (own_cells net needed v) = at.3 in omega arith) at.3),
    )

-- each cell of the mapping is a mapped cell
cell_in-mapped : (source_of : ℕ → Source) (fan_ins : List ℕ) (first : ℕ) (cell : CellValue) → IsMappedCell cell → IsMappedCell (cell_in source_of fan_ins first cell)
cell_in-mapped source_of fan_ins first cell h =
    let count : length (map (source_in source_of fan_ins first) cell.pins) ≡ length cell.pins = length-map cell.pins (source_in source_of fan_ins first) in
    let P : ℕ → Type 0 = λ n. IsRepeated n cell.table in
    record {
      few_pins = omega (arith, count, h.few_pins);
      table = h.table;
      repeated = subst P (sym count) h.repeated;
    }

-- every kind of cells has as many pins as a group has terms
GROUP-pins_of : (kind : CellKind) → GROUP ≤ pins_of kind
GROUP-pins_of FourInputs = omega arith
GROUP-pins_of SixInputs = omega arith

-- no cell of the mapping has more pins than the cells of a fabric
pub mapping-narrow : (net : Network) (needed : ℕ → Bool) → IsNet net → HasFanIns net needed → (g : GeometryValue) (k : ℕ)
    → k < length (mapping net needed).cells → length (mapped_cell (mapping net needed) k).pins ≤ pin_count g
mapping-narrow net needed is_net closed g k lt =
    let at = place_of_cell net needed (length net.nodes) k (omega (arith, length-cells_before net needed (length net.nodes))) in
    let P : ℕ → Type 0 = λ m. length (mapped_cell (mapping net needed) m).pins ≤ pin_count g in
    let Q : CellValue → Type 0 = λ c. length c.pins ≤ pin_count g in
    let cell = get_or (own_cells net needed at.0) at.1 no_cell in
    let own = (own_cells-local net needed at.0 is_net at.2 (needed-from_cell net needed at.0 at.1 at.3) at.1 at.3).narrow in
    let count : length (map (source_in (signal_source net needed) (node_at net at.0).fan_ins (first_cell net needed at.0)) cell.pins) ≡ length cell.pins =
    length-map cell.pins (source_in (signal_source net needed) (node_at net at.0).fan_ins (first_cell net needed at.0)) in
    let least : GROUP ≤ pin_count g = GROUP-pins_of g.kind in
    subst P (sym at.4) (subst Q (sym (mapped_cell-at net needed at.0 at.1 at.2 at.3)) (omega (arith, count, own, least)))

-- the source of a needed signal is an input or a cell
signal_source-below : (net : Network) (needed : ℕ → Bool) (t : ℕ) → HasFanIns net needed → t < signals net → Has (output_signals net) t
    → IsSourceBelow (length net.inputs) (length (cells_before net needed (length net.nodes))) (signal_source net needed t)
signal_source-below net needed t closed lt has =
    let P : Source → Type 0 = λ c. IsSourceBelow (length net.inputs) (length (cells_before net needed (length net.nodes))) c in
    ⊎_elim
    (λ here. subst P (sym (signal_source-input net needed t here)) here)
    (λ past. let u : ℕ = t - length net.inputs in
    let place : length net.inputs + u ≡ t = omega arith in
    let below : u < length net.nodes = omega arith in
    let there : Has (output_signals net) (length net.inputs + u) = let Q : ℕ → Type 0 = λ m. Has (output_signals net) m in subst Q (sym place) has in
    let e = closed.outputs u below there in
    let own = own_cells net needed u in
    let some : 0 < length own = let Q : List CellValue → Type 0 = λ l. 0 < length l in subst Q (sym (own_cells-needed net needed u e)) (node_cells-some (node_at net u)) in
    let within : first_cell net needed u + (length own - 1) < length (cells_before net needed (length net.nodes)) = cell_number-within net needed u (length own - 1) below (omega arith) in
    let number : first_cell net needed (suc u) - 1 < length (cells_before net needed (length net.nodes)) = omega arith in
    subst P (sym (signal_source-node net needed t past)) number)
    (cases_lt t (length net.inputs))

-- the reference mapping is a list of mapped cells
pub mapping-mapped : (net : Network) (needed : ℕ → Bool) → IsNet net → HasFanIns net needed → AreMapped (mapping net needed)
mapping-mapped net needed is_net closed = record {
  each = λ k lt.
      let at = place_of_cell net needed (length net.nodes) k (omega (arith, length-cells_before net needed (length net.nodes))) in
      let P : ℕ → Type 0 = λ m. IsMappedCell (mapped_cell (mapping net needed) m) in
      let cell = get_or (own_cells net needed at.0) at.1 no_cell in
      subst P (sym at.4)
      (subst IsMappedCell (sym (mapped_cell-at net needed at.0 at.1 at.2 at.3))
      (cell_in-mapped (signal_source net needed) (node_at net at.0).fan_ins (first_cell net needed at.0) cell
      (own_cells-local net needed at.0 is_net at.2 (needed-from_cell net needed at.0 at.1 at.3) at.1 at.3).mapped));
  settled = mapping-settled net needed is_net closed;
  outputs = All-map (IsSourceBelow (length net.inputs) (length (cells_before net needed (length net.nodes)))) (signal_source net needed) (output_signals net)
      (λ n d lt. signal_source-below net needed (get_or (output_signals net) n d) closed (outputs-within net is_net n d lt) (Has-get_or (output_signals net) n d lt));
}

-- and its outputs have the bits of the network's
pub reference-outputs : (net : Network) (l : MappedValue) (x y : List ℕ) → IsNet net → RefMap net l → IsBits (length net.inputs) x
    → (LutOut l x y ↔ SpecOut net x y)
reference-outputs net l x y is_net h bits =
    let needed = h.0 in
    let closed = h.1.closed in
    let P : MappedValue → Type 0 = λ m. LutOut m x y ↔ SpecOut net x y in
    subst P (sym h.2)
    ((
      λ out.
          let s = assignment_exists net x is_net.acyclic bits.count in
          (s.0, s.1, out.2 ∙ outputs-same net needed x s.0 out.0 is_net closed bits s.1 out.1),
      λ spec.
          let a = bits-exist (mapping net needed) x (mapping-settled net needed is_net closed) in
          (a.0, a.1, spec.2 ∙ sym (outputs-same net needed x spec.0 a.0 is_net closed bits spec.1 a.1)),
    ))
