-- The cells of a node compute the node's bit.
use Rattle.std.proofs.Common.{◌≡◌, ℕ, suc, ◌+◌, ◌-◌, ◌<◌, ◌≤◌, ◌==◌, ⊎_elim, Bool, true, false, not, ◌&&◌, ◌||◌, if◌then◌else◌, leb, List, [], ◌∷◌, ◌++◌, length, get_or, All, refl, ap, sym, subst, ◌∙◌, arith, length-append}
use Rattle.std.specs.List.{list_any}
use Rattle.std.proofs.lemmas.Bool.{cases_lt, le-leb, lt-leb, cond-true, cond-false}
use Rattle.std.proofs.lemmas.List.{length-map}
use Rattle.blif_defs.specs.declared.mark.Mark.{Mark}
use Rattle.blif_defs.specs.declared.mark.Mark.TheVariants.{Zero as Off, One, Any}
use Rattle.net_defs.specs.Networks.{Node}
use Rattle.net_defs.specs.Evaluation.{hits, some_row_hits, node_bit}
use Rattle.fabric_defs.specs.Numbered.{list_of}
use Rattle.fabric_laws.proofs.NumberedLemmas.{length-list_of, map-list_of, list_of-get_or}
use Rattle.cell_defs.specs.declared.source.Source.TheVariants.{Pad}
use Rattle.cell_defs.specs.Cells.{CellValue}
use Rattle.cell_defs.specs.Evaluation.{source_bit, source_bits, chosen_bit}
use Rattle.map_defs.specs.declared.gate.Gate.TheVariants.{Conjunction, Disjunction}
use Rattle.map_defs.specs.declared.limits.TheConstants.{GROUP}
use Rattle.map_defs.specs.Tables.{bit_of}
use Rattle.map_defs.specs.Gates.{gate_cells}
use Rattle.map_defs.specs.NodeCells.{direct_cell, row_terms, row_cells, rows_cells, rows_terms, joined_cells, node_cells}
use Rattle.map_laws.proofs.TableLemmas.{table_bit-table_of}
use Rattle.map_laws.proofs.GateLemmas.{HaveBits, Obey, Obey-left, Obey-right, AreBits-sources, truth, bit_of-one, gate_cells_in-some, gate_cells_in-last}

-- where bits stand in a list from a place on, the first of them stands at that place
first_bit : (x : List ℕ) (pin b : ℕ) (bs : List ℕ) → ((j : ℕ) → j < length (b ∷ bs) → get_or x (pin + j) 0 ≡ get_or (b ∷ bs) j 0)
    → get_or x pin 0 ≡ b
first_bit x pin b bs h =
    ap (λ k. get_or x k 0) (let e : pin ≡ pin + 0 = omega arith in e) ∙ h 0 (omega arith)

-- and the others from the next place on
later_bits : (x : List ℕ) (pin b : ℕ) (bs : List ℕ) → ((j : ℕ) → j < length (b ∷ bs) → get_or x (pin + j) 0 ≡ get_or (b ∷ bs) j 0)
    → (j : ℕ) → j < length bs → get_or x (suc pin + j) 0 ≡ get_or bs j 0
later_bits x pin b bs h j lt =
    ap (λ k. get_or x k 0) (let e : suc pin + j ≡ pin + suc j = omega arith in e) ∙ h (suc j) (omega arith)

-- what a row asks of the fan-ins is that it hits their bits
row_terms-truth : (x a : List ℕ) (pin : ℕ) (row : List Mark) (bs : List ℕ) → length row ≡ length bs
    → ((j : ℕ) → j < length bs → get_or x (pin + j) 0 ≡ get_or bs j 0)
    → truth Conjunction x a (row_terms pin row) ≡ hits row bs
row_terms-truth x a pin [] bs e h = refl
row_terms-truth x a pin (m ∷ ms) [] e h = absurd (omega arith)
row_terms-truth x a pin (Off ∷ ms) (b ∷ bs) e h =
    ap (λ n. (n == 0) && truth Conjunction x a (row_terms (suc pin) ms)) (first_bit x pin b bs h)
    ∙ ap (λ r. (b == 0) && r) (row_terms-truth x a (suc pin) ms bs (omega arith) (later_bits x pin b bs h))
row_terms-truth x a pin (One ∷ ms) (b ∷ bs) e h =
    ap (λ n. (n == 1) && truth Conjunction x a (row_terms (suc pin) ms)) (first_bit x pin b bs h)
    ∙ ap (λ r. (b == 1) && r) (row_terms-truth x a (suc pin) ms bs (omega arith) (later_bits x pin b bs h))
row_terms-truth x a pin (Any ∷ ms) (b ∷ bs) e h = row_terms-truth x a (suc pin) ms bs (omega arith) (later_bits x pin b bs h)

-- the last cell of a row is 1 where the row hits
row-bit : (x a : List ℕ) (next : ℕ) (row : List Mark) → HaveBits x a → length row ≡ length x → Obey x a next (row_cells next row)
    → get_or a (next + (length (row_cells next row) - 1)) 0 ≡ bit_of (hits row x)
row-bit x a next row small e h =
    gate_cells_in-last (length (row_terms 0 row)) Conjunction false x a next (row_terms 0 row) small (omega arith) h
    ∙ ap bit_of (row_terms-truth x a 0 row x e (λ j lt. ap (λ k. get_or x k 0) (let z : 0 + j ≡ j = omega arith in z)))

-- some row is 1 where some row hits
rows-truth : (x a : List ℕ) (next : ℕ) (rows : List (List Mark)) → HaveBits x a → All (λ row. length row ≡ length x) rows
    → Obey x a next (rows_cells next rows)
    → truth Disjunction x a (rows_terms next rows) ≡ list_any (λ row. hits row x) rows
rows-truth x a next [] small e h = refl
rows-truth x a next (row ∷ rows) small e h =
    let first = row_cells next row in
    let rest = rows_cells (next + length first) rows in
    let some : 0 < length first = gate_cells_in-some (length (row_terms 0 row)) Conjunction false next (row_terms 0 row) in
    let place : next + length first - 1 ≡ next + (length first - 1) = omega arith in
    let bit = row-bit x a next row small (e 0 [] (omega arith)) (Obey-left x a next first rest h) in
    let here : (get_or a (next + length first - 1) 0 == 1) ≡ hits row x =
    ap (λ k. get_or a k 0 == 1) place ∙ ap (λ b. b == 1) bit ∙ bit_of-one (hits row x) in
    ap (λ b. b || truth Disjunction x a (rows_terms (next + length first) rows)) here
    ∙ ap (λ b. hits row x || b)
    (rows-truth x a (next + length first) rows small (λ k d lt. e (suc k) d (omega arith)) (Obey-right x a next first rest h))

-- whether some row hits, negated where the node is off then, is the node's bit
node_bit-joined : (some on : Bool) → bit_of (if not on then not some else some)
    ≡ (if some then (if on then 1 else 0) else (if on then 0 else 1))
node_bit-joined true true = refl
node_bit-joined true false = refl
node_bit-joined false true = refl
node_bit-joined false false = refl

-- the last of the joined cells is the node
joined-bit : (node : Node) (x a : List ℕ) → HaveBits x a → All (λ row. length row ≡ length x) node.rows
    → Obey x a 0 (joined_cells node) → get_or a (length (joined_cells node) - 1) 0 ≡ node_bit node x
joined-bit node x a small e h =
    let rows = rows_cells 0 node.rows in
    let terms = rows_terms 0 node.rows in
    let last = gate_cells Disjunction (not node.on) (length rows) terms in
    let some : 0 < length last = gate_cells_in-some (length terms) Disjunction (not node.on) (length rows) terms in
    let P : ℕ → Type 0 = λ k. Obey x a k last in
    let obeys = subst P (let z : 0 + length rows ≡ length rows = omega arith in z) (Obey-right x a 0 rows last h) in
    let place : length (rows ++ last) - 1 ≡ length rows + (length last - 1) = omega (arith, length-append rows last) in
    ap (λ k. get_or a k 0) place
    ∙ gate_cells_in-last (length terms) Disjunction (not node.on) x a (length rows) terms small (omega arith) obeys
    ∙ ap (λ b. bit_of (if not node.on then not b else b)) (rows-truth x a 0 node.rows small e (Obey-left x a 0 rows last h))
    ∙ node_bit-joined (some_row_hits node x) node.on

-- whether a row hits or not, the bit that a node has then is at most 1
at_most : (some on : Bool) → (if some then (if on then 1 else 0) else (if on then 0 else 1)) ≤ 1
at_most true true = omega arith
at_most true false = omega arith
at_most false true = omega arith
at_most false false = omega arith

-- the bit of a node is at most 1
pub node_bit-le : (node : Node) (values : List ℕ) → node_bit node values ≤ 1
node_bit-le node values = at_most (some_row_hits node values) node.on

-- the one cell of a node with few fan-ins has the node's bit
direct-bit : (node : Node) (x a : List ℕ) → HaveBits x a → length x ≡ length node.fan_ins → length node.fan_ins ≤ GROUP
    → chosen_bit x a (direct_cell node) ≡ node_bit node x
direct-bit node x a small e le =
    let count = length node.fan_ins in
    let pins = list_of count Pad in
    let same : source_bits x a pins ≡ x = map-list_of (source_bit x a) count Pad ∙ list_of-get_or count x 0 e in
    table_bit-table_of (node_bit node) count (source_bits x a pins) (node_bit-le node)
    (length-map pins (source_bit x a) ∙ length-list_of count Pad) (omega arith) (AreBits-sources x a pins small)
    ∙ ap (node_bit node) same

-- the last cell of a node is the node
pub node_cells-bit : (node : Node) (x a : List ℕ) → HaveBits x a → length x ≡ length node.fan_ins
    → All (λ row. length row ≡ length node.fan_ins) node.rows
    → Obey x a 0 (node_cells node) → get_or a (length (node_cells node) - 1) 0 ≡ node_bit node x
node_cells-bit node x a small e rows h =
    let P : List CellValue → Type 0 = λ l. Obey x a 0 l in
    let Q : List CellValue → Type 0 = λ l. get_or a (length l - 1) 0 ≡ node_bit node x in
    ⊎_elim
    (λ many. let is : node_cells node ≡ joined_cells node = cond-false (leb (length node.fan_ins) GROUP) _ _ (lt-leb (length node.fan_ins) GROUP many) in
    subst Q (sym is) (joined-bit node x a small (λ k d lt. rows k d lt ∙ sym e) (subst P is h)))
    (λ few. let is : node_cells node ≡ direct_cell node ∷ [] = cond-true (leb (length node.fan_ins) GROUP) _ _ (le-leb (length node.fan_ins) GROUP few) in
    subst Q (sym is) (subst P is h 0 (omega arith) ∙ direct-bit node x a small e few))
    (cases_lt GROUP (length node.fan_ins))

-- a node has a cell
pub node_cells-some : (node : Node) → 0 < length (node_cells node)
node_cells-some node =
    let Q : List CellValue → Type 0 = λ l. 0 < length l in
    ⊎_elim
    (λ many. let is : node_cells node ≡ joined_cells node = cond-false (leb (length node.fan_ins) GROUP) _ _ (lt-leb (length node.fan_ins) GROUP many) in
    let rows = rows_cells 0 node.rows in
    let terms = rows_terms 0 node.rows in
    let last = gate_cells Disjunction (not node.on) (length rows) terms in
    let some : 0 < length last = gate_cells_in-some (length terms) Disjunction (not node.on) (length rows) terms in
    subst Q (sym is) (omega (arith, length-append rows last)))
    (λ few. let is : node_cells node ≡ direct_cell node ∷ [] = cond-true (leb (length node.fan_ins) GROUP) _ _ (le-leb (length node.fan_ins) GROUP few) in
    subst Q (sym is) (omega arith))
    (cases_lt GROUP (length node.fan_ins))
