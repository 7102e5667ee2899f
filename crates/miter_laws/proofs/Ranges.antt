-- The variables of the miter's clauses are those of its numbering.
use Rattle.std.proofs.Common.{◌≡◌, ℕ, ◌+◌, ◌*◌, ◌<◌, ◌≤◌, ◌==◌, inl, inr, ⊎_elim, Bool, not, List, [], ◌∷◌, ◌++◌, length, map, get_or, sum_by, refl, arith}
use Rattle.std.specs.Int.{bit_at}
use Rattle.std.proofs.Math.Nat.{mul-le-mul}
use Rattle.std.proofs.lemmas.Bool.{cases_Bool, cases_lt, lt-ltb, le-ltb}
use Rattle.std.proofs.lemmas.List.Sums.{sum_by-cons, sum_by-take-le, sum_by_more_le, sum_by-le-sum_by, count_by-le-length}
use Rattle.blif_defs.specs.declared.mark.Mark.{Mark}
use Rattle.blif_defs.specs.declared.mark.Mark.TheVariants.{Zero, One, Any}
use Rattle.clause_defs.specs.declared.verdict.TheConstants.{MAX_VARIABLE}
use Rattle.clause_defs.specs.Literals.{Literal, negation}
use Rattle.clause_defs.specs.Clauses.{Lits, Has, IsOrdered, IsClause, clause_of}
use Rattle.clause_laws.proofs.ClauseOf.{IsOrdered-clause_of, SameSet-clause_of}
use Rattle.net_defs.specs.Networks.{Node, Network, no_node, node_at, signals}
use Rattle.net_defs.specs.Nets.{row_count, rows_size, IsNet}
use Rattle.fabric_defs.specs.Numbered.{list_of, joined}
use Rattle.fabric_defs.specs.Geometries.{IsGeometry, cell_count, table_bits}
use Rattle.cell_defs.specs.declared.source.Source.{Source}
use Rattle.cell_defs.specs.declared.source.Source.TheVariants.{Zero as NoSource, Pad, Cell}
use Rattle.cell_defs.specs.Cells.{CellsValue, cell_at}
use Rattle.cell_defs.specs.Cones.{in_cone}
use Rattle.cell_laws.proofs.SourceBits.{All-Has}
use Rattle.miter_defs.specs.Numberings.{zero_variable, signal_variable, node_variable, rows_before, row_variable, cone_before, cone_size, cell_variable, difference_variable, variable_count, source_variable}
use Rattle.miter_defs.specs.Miters.{literal, positive, negative, mark_literals, row_literals, hit_clauses, cover_clauses, row_at, node_clauses, table_clause, cell_clauses, difference_clauses, no_output, output_clauses, circuit_clauses, some_difference, Miter}
use Rattle.miter_laws.proofs.Membership.{Each, each_nil, each_cons, each_one, each_append, each_map, each_list_of, each_joined}
use Rattle.miter_laws.proofs.Truth.{each_difference}

-- one of so many variables
abbrev pub IsVariable : ℕ → ℕ → Type 0
IsVariable count v = (1 ≤ v) × (v ≤ count)

-- a literal of one of so many variables
abbrev pub HasVariable : ℕ → Literal → Type 0
HasVariable count l = IsVariable count l.variable

-- all literals are such
abbrev pub InRange : ℕ → Lits → Type 0
InRange count c = Each (HasVariable count) c

-- ---- the clauses, over any variables

-- clauses of two literals
two-range : (count : ℕ) (first second : Literal) → HasVariable count first → HasVariable count second → InRange count (first ∷ second ∷ [])
two-range count first second p q = each_cons (HasVariable count) first (second ∷ []) p (each_one (HasVariable count) second q)

-- and of three
three-range : (count : ℕ) (first second third : Literal) → HasVariable count first → HasVariable count second → HasVariable count third
    → InRange count (first ∷ second ∷ third ∷ [])
three-range count first second third p q r = each_cons (HasVariable count) first (second ∷ third ∷ []) p (two-range count second third q r)

-- what a mark asks
mark_literals-range : (count : ℕ) (m : Mark) (s : ℕ) → IsVariable count (signal_variable s) → InRange count (mark_literals m s)
mark_literals-range count Zero s h = each_one (HasVariable count) (negative (signal_variable s)) h
mark_literals-range count One s h = each_one (HasVariable count) (positive (signal_variable s)) h
mark_literals-range count Any s h = each_nil (HasVariable count)

-- what a row asks
row_literals-range : (count : ℕ) (row : List Mark) (ss : List ℕ) → ((s : ℕ) → Has ss s → IsVariable count (signal_variable s))
    → InRange count (row_literals row ss)
row_literals-range count [] ss h = each_nil (HasVariable count)
row_literals-range count (m ∷ ms) [] h = each_nil (HasVariable count)
row_literals-range count (m ∷ ms) (s ∷ ss) h =
    each_append (HasVariable count) (mark_literals m s) (row_literals ms ss) (mark_literals-range count m s (h s (inl refl)))
    (row_literals-range count ms ss (λ t has. h t (inr has)))

-- the clauses of a row
hit_clauses-range : (count t : ℕ) (asked : Lits) → IsVariable count t → InRange count asked → Each (InRange count) (hit_clauses t asked)
hit_clauses-range count t asked p q =
    each_append (InRange count) (map (λ l. negative t ∷ l ∷ []) asked) ((positive t ∷ map negation asked) ∷ [])
    (each_map (InRange count) (λ l. negative t ∷ l ∷ []) asked (λ l has. two-range count (negative t) l p (q l has)))
    (each_one (InRange count) (positive t ∷ map negation asked)
    (each_cons (HasVariable count) (positive t) (map negation asked) p (each_map (HasVariable count) negation asked q)))

-- the clauses of a node
cover_clauses-range : (count node : ℕ) (on : Bool) (vs : List ℕ) → IsVariable count node → Each (IsVariable count) vs
    → Each (InRange count) (cover_clauses node on vs)
cover_clauses-range count node on vs p q =
    each_cons (InRange count) (literal node (not on) ∷ map positive vs) (map (λ v. literal node on ∷ negative v ∷ []) vs)
    (each_cons (HasVariable count) (literal node (not on)) (map positive vs) p (each_map (HasVariable count) positive vs q))
    (each_map (InRange count) (λ v. literal node on ∷ negative v ∷ []) vs
    (λ v has. two-range count (literal node on) (negative v) p (q v has)))

-- the clauses of a difference
difference_clauses-range : (count d u v : ℕ) → IsVariable count d → IsVariable count u → IsVariable count v
    → Each (InRange count) (difference_clauses d u v)
difference_clauses-range count d u v p q r =
    each_difference (InRange count) d u v
    (three-range count (negative d) (positive u) (positive v) p q r)
    (three-range count (negative d) (negative u) (negative v) p q r)
    (three-range count (positive d) (negative u) (positive v) p q r)
    (three-range count (positive d) (positive u) (negative v) p q r)

-- ---- the variables of the numbering

-- a signal has a variable
signal-range : (net : Network) (cells : CellsValue) (s : ℕ) → s < signals net → IsVariable (variable_count net cells) (signal_variable s)
signal-range net cells s lt = (omega arith, omega arith)

-- so has each row of a node
row-range : (net : Network) (cells : CellsValue) (v r : ℕ) → v < length net.nodes → r < length (node_at net v).rows
    → IsVariable (variable_count net cells) (row_variable net v r)
row-range net cells v r lt below =
    let rows = λ (node : Node). length node.rows in
    let within : rows_before net v + length (node_at net v).rows ≤ row_count net = sum_by_more_le rows net.nodes v no_node lt in
    (omega arith, omega arith)

-- a cell outside the cone has a number too: that of the next cell, or of the first difference
cell-range : (net : Network) (cells : CellsValue) (k : ℕ) → 1 ≤ length net.outputs → IsVariable (variable_count net cells) (cell_variable net cells k)
cell-range net cells k some =
    let within : cone_before cells k ≤ cone_size cells = sum_by-take-le _ cells.cone k in
    (omega arith, omega arith)

-- so has a source
source-range : (net : Network) (cells : CellsValue) (source : Source) → 1 ≤ length net.outputs
    → IsVariable (variable_count net cells) (source_variable net cells source)
source-range net cells NoSource some = (omega arith, omega arith)
source-range net cells (Pad p) some =
    ⊎_elim
    (λ here. rw (lt-ltb p (length net.inputs) here) (signal-range net cells p (omega arith)))
    (λ past. rw (le-ltb p (length net.inputs) past) (omega arith, omega arith))
    (cases_lt p (length net.inputs))
source-range net cells (Cell k) some = cell-range net cells k some

-- ---- the clauses of the miter

-- the clauses of a node and its rows
node_clauses-range : (net : Network) (cells : CellsValue) → IsNet net → (v : ℕ) → v < length net.nodes
    → Each (InRange (variable_count net cells)) (node_clauses net v)
node_clauses-range net cells n v lt =
    let node = node_at net v in
    let count : ℕ = variable_count net cells in
    let rows = λ (r : ℕ). hit_clauses (row_variable net v r) (row_literals (row_at net v r) node.fan_ins) in
    each_append (InRange count) (joined (length node.rows) rows)
    (cover_clauses (node_variable net v) node.on (list_of (length node.rows) (row_variable net v)))
    (each_joined (InRange count) (length node.rows) rows
    (λ r below. hit_clauses-range count (row_variable net v r) (row_literals (row_at net v r) node.fan_ins)
    (row-range net cells v r lt below)
    (row_literals-range count (row_at net v r) node.fan_ins
    (λ s has. signal-range net cells s (All-Has (λ i. i < signals net) node.fan_ins s (n.nodes v no_node lt).fan_ins has)))))
    (cover_clauses-range count (node_variable net v) node.on (list_of (length node.rows) (row_variable net v))
    (signal-range net cells (length net.inputs + v) (omega arith))
    (each_list_of (IsVariable count) (length node.rows) (row_variable net v) (λ r below. row-range net cells v r lt below)))

-- a clause of a cell
table_clause-range : (net : Network) (cells : CellsValue) (k n : ℕ) → 1 ≤ length net.outputs → InRange (variable_count net cells) (table_clause net cells k n)
table_clause-range net cells k n some =
    let count : ℕ = variable_count net cells in
    let pin = λ (j : ℕ). literal (source_variable net cells (get_or (cell_at cells k).pins j NoSource)) (bit_at n j == 0) in
    let cell : Literal = literal (cell_variable net cells k) (bit_at (cell_at cells k).table n == 1) in
    each_append (HasVariable count) (list_of (length (cell_at cells k).pins) pin) (cell ∷ [])
    (each_list_of (HasVariable count) (length (cell_at cells k).pins) pin
    (λ j lt. source-range net cells (get_or (cell_at cells k).pins j NoSource) some))
    (each_one (HasVariable count) cell (cell-range net cells k some))

-- all clauses of a cell
cell_clauses-range : (net : Network) (cells : CellsValue) (k : ℕ) → 1 ≤ length net.outputs
    → Each (InRange (variable_count net cells)) (cell_clauses net cells k)
cell_clauses-range net cells k some c has =
    elim (cases_Bool (in_cone cells k)) [
      | inl member ↦ each_list_of (InRange (variable_count net cells)) (table_bits cells.geometry) (table_clause net cells k)
          (λ n _. table_clause-range net cells k n some) c (rw member at has)
      | inr outside ↦ absurd (rw outside at has)
    ]

-- a difference has a variable
difference-range : (net : Network) (cells : CellsValue) (o : ℕ) → o < length net.outputs
    → IsVariable (variable_count net cells) (difference_variable net cells o)
difference-range net cells o lt = (omega arith, omega arith)

-- the clauses of an output
output_clauses-range : (net : Network) (cells : CellsValue) → IsNet net → (o : ℕ) → o < length net.outputs
    → Each (InRange (variable_count net cells)) (output_clauses net cells o)
output_clauses-range net cells n o lt =
    difference_clauses-range (variable_count net cells) (difference_variable net cells o)
    (signal_variable (get_or net.outputs o no_output).signal)
    (source_variable net cells (get_or cells.outputs o NoSource))
    (difference-range net cells o lt)
    (signal-range net cells (get_or net.outputs o no_output).signal (n.output_signals o no_output lt))
    (source-range net cells (get_or cells.outputs o NoSource) n.outputs_some)

-- all clauses but the last
circuit_clauses-range : (net : Network) (cells : CellsValue) → IsNet net
    → Each (InRange (variable_count net cells)) (circuit_clauses net cells)
circuit_clauses-range net cells n =
    let count : ℕ = variable_count net cells in
    let zero : Lits = negative zero_variable ∷ [] in
    let nodes : List Lits = joined (length net.nodes) (node_clauses net) in
    let of_cells : List Lits = joined (length cells.cells) (cell_clauses net cells) in
    each_append (InRange count) ((zero ∷ nodes) ++ of_cells) (joined (length net.outputs) (output_clauses net cells))
    (each_append (InRange count) (zero ∷ nodes) of_cells
    (each_cons (InRange count) zero nodes
    (each_one (HasVariable count) (negative zero_variable) (omega arith, omega arith))
    (each_joined (InRange count) (length net.nodes) (node_clauses net) (node_clauses-range net cells n)))
    (each_joined (InRange count) (length cells.cells) (cell_clauses net cells) (λ k _. cell_clauses-range net cells k n.outputs_some)))
    (each_joined (InRange count) (length net.outputs) (output_clauses net cells) (output_clauses-range net cells n))

-- the last clause
some_difference-range : (net : Network) (cells : CellsValue) → InRange (variable_count net cells) (some_difference net cells)
some_difference-range net cells =
    each_list_of (HasVariable (variable_count net cells)) (length net.outputs) (λ o. positive (difference_variable net cells o))
    (λ o lt. difference-range net cells o lt)

-- the set of the literals of a clause
clause_of-range : (count : ℕ) (c : Lits) → InRange count c → InRange count (clause_of c)
clause_of-range count c h cells has = h cells ((SameSet-clause_of c cells).0 has)

-- each clause of the miter has variables of the numbering
pub clauses-range : (net : Network) (cells : CellsValue) → IsNet net → Each (InRange (variable_count net cells)) (Miter net cells).clauses
clauses-range net cells n =
    let count : ℕ = variable_count net cells in
    each_map (InRange count) clause_of (circuit_clauses net cells ++ some_difference net cells ∷ [])
    (λ c has. clause_of-range count c
    (each_append (InRange count) (circuit_clauses net cells) (some_difference net cells ∷ []) (circuit_clauses-range net cells n)
    (each_one (InRange count) (some_difference net cells) (some_difference-range net cells)) c has))

-- ---- how many variables there are

-- rows are no longer than their size
rows_size-ge : (rows : List (List Mark)) → length rows ≤ rows_size rows
rows_size-ge [] = omega arith
rows_size-ge (row ∷ rows) =
    let rest : length rows ≤ rows_size rows = rows_size-ge rows in
    omega (arith, sum_by-cons (λ (r : List Mark). length r + 2) row rows)

-- there are no more variables than a clause may have
pub variable_count-le : (net : Network) (cells : CellsValue) → IsNet net → IsGeometry cells.geometry
    → length cells.cone ≡ cell_count cells.geometry → variable_count net cells ≤ MAX_VARIABLE
variable_count-le net cells n g count =
    let rows : row_count net ≤ sum_by (λ (node : Node). rows_size node.rows) net.nodes =
    sum_by-le-sum_by (λ (node : Node). length node.rows) (λ node. rows_size node.rows) net.nodes (λ node. rows_size-ge node.rows) in
    let cone : cone_size cells ≤ length cells.cone = count_by-le-length (λ (inside : Bool). inside) cells.cone in
    let most : cells.geometry.columns * cells.geometry.rows ≤ 64 * 64 = mul-le-mul g.columns g.rows in
    omega (arith, n.rows_within, n.signals_within, n.outputs_within)

-- so each clause of the miter is a clause
pub clauses-IsClause : (net : Network) (cells : CellsValue) → IsNet net → IsGeometry cells.geometry
    → length cells.cone ≡ cell_count cells.geometry → Each IsClause (Miter net cells).clauses
clauses-IsClause net cells n g count c has = record {
  literals = λ m in_c. let within = clauses-range net cells n c has m in_c in
      let most = variable_count-le net cells n g count in
      (within.0, omega arith);
  ordered = each_map IsOrdered clause_of (circuit_clauses net cells ++ some_difference net cells ∷ []) (λ d _. IsOrdered-clause_of d) c has;
}
