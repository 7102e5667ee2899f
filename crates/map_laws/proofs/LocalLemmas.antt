-- The cells of a node are mapped cells, and each of their pins is a fan-in or an earlier one of them.
use Rattle.std.specs.Int.{bit_at}
use Rattle.std.proofs.Common.{◌≡◌, ℕ, zero, suc, ◌+◌, ◌-◌, ◌*◌, ◌%◌, ◌^◌, ◌<◌, ◌≤◌, ◌==◌, ⊎_elim, Bool, true, false, not, if◌then◌else◌, leb, List, [], ◌∷◌, ◌++◌, length, map, drop, get_or, All, refl, ap, sym, subst, arith, length-append}
use Rattle.std.proofs.lemmas.Bool.{cases_Bool, cases_lt, le-leb, lt-leb, cond-true, cond-false, eqb-true}
use Rattle.std.proofs.lemmas.List.{get_or_append_left, get_or-append_right, length-map}
use Rattle.std.proofs.lemmas.List.Elements.{All-nil, All-cons, All-map, All-take, All-drop, All-weaker}
use Rattle.blif_defs.specs.declared.mark.Mark.{Mark}
use Rattle.blif_defs.specs.declared.mark.Mark.TheVariants.{Zero as Off, One, Any}
use Rattle.net_defs.specs.Networks.{Node}
use Rattle.net_defs.specs.Evaluation.{node_bit}
use Rattle.fabric_defs.specs.Numbered.{list_of, joined}
use Rattle.fabric_laws.proofs.NumberedLemmas.{length-list_of, All-list_of}
use Rattle.cell_defs.specs.declared.source.Source.{Source}
use Rattle.cell_defs.specs.declared.source.Source.TheVariants.{Zero, Pad, Cell}
use Rattle.cell_defs.specs.Cells.{CellValue, no_cell, IsSourceBelow}
use Rattle.map_defs.specs.declared.gate.Gate.{Gate}
use Rattle.map_defs.specs.declared.gate.Gate.TheVariants.{Conjunction, Disjunction}
use Rattle.map_defs.specs.declared.limits.TheConstants.{GROUP}
use Rattle.map_defs.specs.declared.term.Term.{Term}
use Rattle.map_defs.specs.Mapped.{IsMappedCell}
use Rattle.map_defs.specs.Tables.{bit_of, table_of}
use Rattle.map_defs.specs.Gates.{no_term, joins, gate_cell, group, group_count, group_cells, group_term, round_cells, round_terms, gate_cells_in, gate_cells}
use Rattle.map_defs.specs.NodeCells.{direct_cell, row_terms, row_cells, rows_cells, rows_terms, joined_cells, node_cells}
use Rattle.map_laws.proofs.TableLemmas.{table_of-lt, table_of-repeated}
use Rattle.map_laws.proofs.GateLemmas.{bit_of-le, length-group, length-first_cells, length-round_terms, gate_cells_in-few, gate_cells_in-many, gate_cells_in-some}
use Rattle.map_laws.proofs.NodeLemmas.{node_bit-le}

-- a mapped cell with few pins, which are among so many fan-ins and the cells below `end`
pub record IsLocal (pads end : ℕ) (cell : CellValue) : Type 0 where
  pub mapped : IsMappedCell cell
  pub narrow : length cell.pins ≤ GROUP
  pub pins : All (IsSourceBelow pads end) cell.pins

-- each of the cells, the first of which has the number `next`, listens below its own number
abbrev pub AreLocal : ℕ → ℕ → List CellValue → Type 0
AreLocal pads next cells = (i : ℕ) → i < length cells → IsLocal pads (next + i) (get_or cells i no_cell)

-- cells and those behind them all listen below their own numbers, if both lists do
AreLocal-append : (pads next : ℕ) (p q : List CellValue) → AreLocal pads next p → AreLocal pads (next + length p) q → AreLocal pads next (p ++ q)
AreLocal-append pads next p q h k i lt =
    ⊎_elim
    (λ here. let P : CellValue → Type 0 = λ c. IsLocal pads (next + i) c in
    subst P (sym (get_or_append_left p q no_cell i here)) (h i here))
    (λ past. let j : ℕ = i - length p in
    let P : CellValue → Type 0 = λ c. IsLocal pads (next + i) c in
    let Q : ℕ → Type 0 = λ n. IsLocal pads n (get_or q j no_cell) in
    let e : next + length p + j ≡ next + i = omega arith in
    subst P (sym (get_or-append_right p q (length p) i no_cell refl past))
    (subst Q e (k j (omega (arith, length-append p q)))))
    (cases_lt i (length p))

-- and so does a single cell that listens below its number
AreLocal-one : (pads next : ℕ) (cell : CellValue) → IsLocal pads next cell → AreLocal pads next (cell ∷ [])
AreLocal-one pads next cell h zero lt = let P : ℕ → Type 0 = λ n. IsLocal pads n cell in subst P (let e : next ≡ next + 0 = omega arith in e) h
AreLocal-one pads next cell h (suc i) lt = absurd (omega arith)

-- a source below a number is below each greater one
pub IsSourceBelow-more : (pads m n : ℕ) (s : Source) → m ≤ n → IsSourceBelow pads m s → IsSourceBelow pads n s
IsSourceBelow-more pads m n Zero le h = tt
IsSourceBelow-more pads m n (Pad p) le h = h
IsSourceBelow-more pads m n (Cell k) le h = let lt : k < m = h in let more : k < n = omega arith in more

-- the sources of the terms are below
abbrev AreBelow : ℕ → ℕ → List Term → Type 0
AreBelow pads end terms = All (λ (t : Term). IsSourceBelow pads end t.source) terms

-- terms below a number are below each greater one
AreBelow-more : (pads m n : ℕ) (terms : List Term) → m ≤ n → AreBelow pads m terms → AreBelow pads n terms
AreBelow-more pads m n terms le h =
    All-weaker (λ (t : Term). IsSourceBelow pads m t.source) (λ (t : Term). IsSourceBelow pads n t.source)
    (λ t b. IsSourceBelow-more pads m n t.source le b) terms h

-- the cell that joins few terms listens below a number, if they are below it
gate_cell-local : (gate : Gate) (negated : Bool) (pads end : ℕ) (terms : List Term) → length terms ≤ GROUP → AreBelow pads end terms
    → IsLocal pads end (gate_cell gate negated terms)
gate_cell-local gate negated pads end terms le h =
    let f : List ℕ → ℕ = λ bits. bit_of (if negated then not (joins gate terms bits) else joins gate terms bits) in
    let small : (bits : List ℕ) → f bits ≤ 1 = λ bits. bit_of-le (if negated then not (joins gate terms bits) else joins gate terms bits) in
    let count : length (map (λ (t : Term). t.source) terms) ≡ length terms = length-map terms (λ (t : Term). t.source) in
    let P : ℕ → Type 0 = λ n. (k : ℕ) → k < 64 → ◌≡◌ {A = ℕ} (bit_at (table_of (length terms) f) k) (bit_at (table_of (length terms) f) (k % 2 ^ n)) in
    record {
      mapped = record {
        few_pins = omega (arith, count);
        table = table_of-lt (length terms) f small;
        repeated = subst P (sym count) (table_of-repeated (length terms) f small);
      };
      narrow = omega (arith, count, le);
      pins = All-map (IsSourceBelow pads end) (λ (t : Term). t.source) terms h;
    }

-- the terms of a group are below, if all terms are
AreBelow-group : (pads end : ℕ) (terms : List Term) (i : ℕ) → AreBelow pads end terms → AreBelow pads end (group terms i)
AreBelow-group pads end terms i h =
    let P : Term → Type 0 = λ t. IsSourceBelow pads end t.source in
    All-take P GROUP (drop (GROUP * i) terms) (All-drop P (GROUP * i) terms h)

-- so the cell of a group, if it has one, listens below its own number
group_cells-local : (gate : Gate) (pads end : ℕ) (terms : List Term) → length terms ≤ GROUP → AreBelow pads end terms
    → AreLocal pads end (group_cells gate terms)
group_cells-local gate pads end terms le h =
    let P : List CellValue → Type 0 = λ l. AreLocal pads end l in
    let one = gate_cell gate false terms ∷ [] in
    ⊎_elim
    (λ e. subst P (sym (cond-true (length terms == 1) [] one e)) (λ i lt. absurd (omega arith)))
    (λ e. subst P (sym (cond-false (length terms == 1) [] one e))
    (AreLocal-one pads end (gate_cell gate false terms) (gate_cell-local gate false pads end terms le h)))
    (cases_Bool (length terms == 1))

-- and so do the cells of the first groups
first_cells-local : (gate : Gate) (pads next : ℕ) (terms : List Term) (m : ℕ) → m ≤ group_count terms → AreBelow pads next terms
    → AreLocal pads next (joined m (λ i. group_cells gate (group terms i)))
first_cells-local gate pads next terms zero le h = λ i lt. absurd (omega arith)
first_cells-local gate pads next terms (suc m) le h =
    let cells = λ (i : ℕ). group_cells gate (group terms i) in
    let end = next + length (joined m cells) in
    AreLocal-append pads next (joined m cells) (cells m)
    (first_cells-local gate pads next terms m (omega arith) h)
    (group_cells-local gate pads end (group terms m) (length-group terms m)
    (AreBelow-group pads end terms m (AreBelow-more pads next end terms (omega arith) h)))

-- and those of all groups
round_cells-local : (gate : Gate) (pads next : ℕ) (terms : List Term) → AreBelow pads next terms → AreLocal pads next (round_cells gate terms)
round_cells-local gate pads next terms h = first_cells-local gate pads next terms (group_count terms) (omega arith) h

-- the first cells are no more than all
joined-longer : (f : ℕ → List CellValue) (m n : ℕ) → m ≤ n → length (joined m f) ≤ length (joined n f)
joined-longer f m zero le = let e : m ≡ 0 = omega arith in let P : ℕ → Type 0 = λ k. length (joined k f) ≤ 0 in subst P (sym e) (omega arith)
joined-longer f m (suc n) le =
    ⊎_elim
    (λ lt. let rec : length (joined m f) ≤ length (joined n f) = joined-longer f m n (omega arith) in
    omega (arith, length-append (joined n f) (f n)))
    (λ ge. let e : suc n ≡ m = omega arith in let P : ℕ → Type 0 = λ k. length (joined m f) ≤ length (joined k f) in
    subst P (sym e) (omega arith))
    (cases_lt m (suc n))

-- the cell of a group that isn't one term has the group's number
group-within : (gate : Gate) (terms : List Term) (i : ℕ) → i < group_count terms → (length (group terms i) == 1) ≡ false
    → i < length (round_cells gate terms)
group-within gate terms i lt e =
    let cells = λ (k : ℕ). group_cells gate (group terms k) in
    let before = length-first_cells gate terms i lt in
    let one : length (cells i) ≡ 1 = ap length (cond-false (length (group terms i) == 1) [] (gate_cell gate false (group terms i) ∷ []) e) in
    let longer : length (joined (suc i) cells) ≤ length (round_cells gate terms) = joined-longer cells (suc i) (group_count terms) (omega arith) in
    omega (arith, before, one, longer, length-append (joined i cells) (cells i))

-- the terms that a round leaves are below the next cell
round_terms-below : (gate : Gate) (pads next : ℕ) (terms : List Term) → AreBelow pads next terms
    → AreBelow pads (next + length (round_cells gate terms)) (round_terms next terms)
round_terms-below gate pads next terms h =
    let end = next + length (round_cells gate terms) in
    let P : Term → Type 0 = λ t. IsSourceBelow pads end t.source in
    All-list_of P (group_count terms) (λ i. group_term (next + i) (group terms i))
    (λ i lt. let g = group terms i in
    let one = get_or g 0 no_term in
    let cell : Term = record { source = Cell (next + i); positive = true } in
    ⊎_elim
    (λ e. let single : length g ≡ 1 = eqb-true (length g) 1 e in
    let below = AreBelow-more pads next end g (omega arith) (AreBelow-group pads next terms i h) in
    subst P (sym (cond-true (length g == 1) one cell e)) (below 0 no_term (omega arith)))
    (λ e. let within : i < length (round_cells gate terms) = group-within gate terms i lt e in
    let below : next + i < end = omega arith in
    subst P (sym (cond-false (length g == 1) one cell e)) below)
    (cases_Bool (length g == 1)))

-- the cells of a gate listen below their own numbers, if its terms are below the first one
gate_cells_in-local : (rounds : ℕ) (gate : Gate) (negated : Bool) (pads next : ℕ) (terms : List Term) → length terms ≤ rounds + GROUP
    → AreBelow pads next terms → AreLocal pads next (gate_cells_in rounds gate negated next terms)
gate_cells_in-local zero gate negated pads next terms le h =
    AreLocal-one pads next (gate_cell gate negated terms) (gate_cell-local gate negated pads next terms (omega arith) h)
gate_cells_in-local (suc rounds) gate negated pads next terms le h =
    let P : List CellValue → Type 0 = λ l. AreLocal pads next l in
    ⊎_elim
    (λ many. let end = next + length (round_cells gate terms) in
    let fewer : length (round_terms next terms) ≤ rounds + GROUP = omega (arith, length-round_terms next terms) in
    subst P (sym (gate_cells_in-many rounds gate negated next terms many))
    (AreLocal-append pads next (round_cells gate terms) (gate_cells_in rounds gate negated end (round_terms next terms))
    (round_cells-local gate pads next terms h)
    (gate_cells_in-local rounds gate negated pads end (round_terms next terms) fewer (round_terms-below gate pads next terms h))))
    (λ few. subst P (sym (gate_cells_in-few (suc rounds) gate negated next terms few))
    (AreLocal-one pads next (gate_cell gate negated terms) (gate_cell-local gate negated pads next terms few h)))
    (cases_lt GROUP (length terms))

-- what a row asks is asked of the node's fan-ins
row_terms-below : (pads end pin : ℕ) (row : List Mark) → pin + length row ≤ pads → AreBelow pads end (row_terms pin row)
row_terms-below pads end pin [] le = All-nil (λ (t : Term). IsSourceBelow pads end t.source)
row_terms-below pads end pin (Off ∷ row) le =
    let here : pin < pads = omega arith in
    All-cons (λ (t : Term). IsSourceBelow pads end t.source) (record { source = Pad pin; positive = false }) (row_terms (suc pin) row) here
    (row_terms-below pads end (suc pin) row (omega arith))
row_terms-below pads end pin (One ∷ row) le =
    let here : pin < pads = omega arith in
    All-cons (λ (t : Term). IsSourceBelow pads end t.source) (record { source = Pad pin; positive = true }) (row_terms (suc pin) row) here
    (row_terms-below pads end (suc pin) row (omega arith))
row_terms-below pads end pin (Any ∷ row) le = row_terms-below pads end (suc pin) row (omega arith)

-- so the cells of a row listen below their own numbers
row_cells-local : (pads next : ℕ) (row : List Mark) → length row ≡ pads → AreLocal pads next (row_cells next row)
row_cells-local pads next row e =
    gate_cells_in-local (length (row_terms 0 row)) Conjunction false pads next (row_terms 0 row) (omega arith)
    (row_terms-below pads next 0 row (omega arith))

-- and so do those of several rows
rows_cells-local : (pads next : ℕ) (rows : List (List Mark)) → All (λ row. length row ≡ pads) rows → AreLocal pads next (rows_cells next rows)
rows_cells-local pads next [] e = λ i lt. absurd (omega arith)
rows_cells-local pads next (row ∷ rows) e =
    let first = row_cells next row in
    AreLocal-append pads next first (rows_cells (next + length first) rows)
    (row_cells-local pads next row (e 0 [] (omega arith)))
    (rows_cells-local pads (next + length first) rows (λ k d lt. e (suc k) d (omega arith)))

-- a row has a cell
row_cells-some : (next : ℕ) (row : List Mark) → 0 < length (row_cells next row)
row_cells-some next row = gate_cells_in-some (length (row_terms 0 row)) Conjunction false next (row_terms 0 row)

-- the last cell of each row is below the cell that comes after those of all rows
rows_terms-below : (pads next : ℕ) (rows : List (List Mark)) → AreBelow pads (next + length (rows_cells next rows)) (rows_terms next rows)
rows_terms-below pads next [] = All-nil (λ (t : Term). IsSourceBelow pads (next + 0) t.source)
rows_terms-below pads next (row ∷ rows) =
    let first = row_cells next row in
    let rest = rows_cells (next + length first) rows in
    let end = next + length (first ++ rest) in
    let some : 0 < length first = row_cells-some next row in
    let here : next + length first - 1 < end = omega (arith, length-append first rest) in
    All-cons (λ (t : Term). IsSourceBelow pads end t.source)
    (record { source = Cell (next + length first - 1); positive = true }) (rows_terms (next + length first) rows) here
    (AreBelow-more pads (next + length first + length rest) end (rows_terms (next + length first) rows)
    (omega (arith, length-append first rest)) (rows_terms-below pads (next + length first) rows))

-- the cells of a node with many fan-ins listen below their own numbers
joined_cells-local : (node : Node) → All (λ row. length row ≡ length node.fan_ins) node.rows
    → AreLocal (length node.fan_ins) 0 (joined_cells node)
joined_cells-local node e =
    let pads = length node.fan_ins in
    let rows = rows_cells 0 node.rows in
    let terms = rows_terms 0 node.rows in
    let z : length rows ≡ 0 + length rows = omega arith in
    let P : ℕ → Type 0 = λ n. AreLocal pads n (gate_cells Disjunction (not node.on) (length rows) terms) in
    let below = AreBelow-more pads (0 + length rows) (length rows) terms (omega arith) (rows_terms-below pads 0 node.rows) in
    AreLocal-append pads 0 rows (gate_cells Disjunction (not node.on) (length rows) terms)
    (rows_cells-local pads 0 node.rows e)
    (subst P z (gate_cells_in-local (length terms) Disjunction (not node.on) pads (length rows) terms (omega arith) below))

-- the one cell of a node with few fan-ins listens to these alone
direct_cell-local : (node : Node) → length node.fan_ins ≤ GROUP → IsLocal (length node.fan_ins) 0 (direct_cell node)
direct_cell-local node le =
    let count = length node.fan_ins in
    let f = node_bit node in
    let e : length (list_of count Pad) ≡ count = length-list_of count Pad in
    let P : ℕ → Type 0 = λ n. (k : ℕ) → k < 64 → ◌≡◌ {A = ℕ} (bit_at (table_of count f) k) (bit_at (table_of count f) (k % 2 ^ n)) in
    record {
      mapped = record {
        few_pins = omega (arith, e);
        table = table_of-lt count f (node_bit-le node);
        repeated = subst P (sym e) (table_of-repeated count f (node_bit-le node));
      };
      narrow = omega (arith, e, le);
      pins = All-list_of (IsSourceBelow count 0) count Pad (λ i lt. lt);
    }

-- all cells of a node are such
pub node_cells-local : (node : Node) → All (λ row. length row ≡ length node.fan_ins) node.rows
    → AreLocal (length node.fan_ins) 0 (node_cells node)
node_cells-local node e =
    let P : List CellValue → Type 0 = λ l. AreLocal (length node.fan_ins) 0 l in
    ⊎_elim
    (λ many. let is : node_cells node ≡ joined_cells node = cond-false (leb (length node.fan_ins) GROUP) _ _ (lt-leb (length node.fan_ins) GROUP many) in
    subst P (sym is) (joined_cells-local node e))
    (λ few. let is : node_cells node ≡ direct_cell node ∷ [] = cond-true (leb (length node.fan_ins) GROUP) _ _ (le-leb (length node.fan_ins) GROUP few) in
    subst P (sym is) (AreLocal-one (length node.fan_ins) 0 (direct_cell node) (direct_cell-local node few)))
    (cases_lt GROUP (length node.fan_ins))
