-- Every clause of both circuits is satisfied by an assignment that gives all variables their bits.
use Rattle.std.proofs.Common.{◌≡◌, ℕ, ◌+◌, ◌^◌, ◌<◌, ◌≤◌, inl, inr, Bool, true, false, not, if◌then◌else◌, List, [], ◌∷◌, ◌++◌, length, map, get_or, Some, refl, ap, subst, sym, ◌∙◌, arith}
use Rattle.std.specs.List.{list_any}
use Rattle.std.proofs.lemmas.Bool.{cases_Bool, both_ways}
use Rattle.std.proofs.lemmas.List.{length-map, get_or-map, get_or_default}
use Rattle.std.proofs.lemmas.List.Folds.{Any-from_list_any, list_any_at}
use Rattle.clause_defs.specs.Clauses.{Lits, Has, Satisfies, clause_of}
use Rattle.clause_laws.proofs.ClauseOf.{SameSet-clause_of}
use Rattle.net_defs.specs.Networks.{Network, no_node, node_at, signals}
use Rattle.net_defs.specs.Evaluation.{some_row_hits, hits, bits_at, Settles}
use Rattle.net_defs.specs.Nets.{IsNet}
use Rattle.fabric_defs.specs.Bits.{IsBits}
use Rattle.fabric_defs.specs.Numbered.{list_of, joined}
use Rattle.fabric_defs.specs.Geometries.{table_bits}
use Rattle.cell_defs.specs.declared.source.Source.TheVariants.{Zero, Cell}
use Rattle.cell_defs.specs.Cells.{CellsValue, cell_at, AreCells}
use Rattle.cell_defs.specs.Cones.{in_cone, IsClosed}
use Rattle.cell_defs.specs.Evaluation.{source_bit, CellBits}
use Rattle.cell_laws.proofs.SourceBits.{All-Has}
use Rattle.miter_defs.specs.Numberings.{zero_variable, signal_variable, node_variable, row_variable, cell_variable, difference_variable, source_variable}
use Rattle.miter_defs.specs.Miters.{negative, row_literals, hit_clauses, cover_clauses, row_at, node_clauses, table_clause, cell_clauses, no_output, output_clauses, circuit_clauses}
use Rattle.miter_laws.proofs.Membership.{place_has, Each, each_cons, each_append, each_map, each_list_of, each_joined}
use Rattle.miter_laws.proofs.Truth.{bit, GivesSignal, decided_row, hit_clauses-hold, SomeBelow, cover_clauses-hold, difference_clauses-hold}
use Rattle.miter_laws.proofs.Tables.{table_clause-holds}
use Rattle.miter_laws.proofs.Assignment.{GivesAll, net_output, pad_output, signal-within, cells-bits, gives_source, source_bit-le}

-- what an assignment of all variables comes from
pub record Extended (net : Network) (cells : CellsValue) (x s b a : List ℕ) : Type 0 where
  pub is_net : IsNet net
  pub are_cells : AreCells cells
  pub closed : IsClosed cells (in_cone cells)
  pub outputs : length net.outputs ≤ cells.geometry.output_pads
  pub bits : IsBits (length net.inputs) x
  pub settles : Settles net x s
  pub cell_bits : CellBits cells x b
  pub gives : GivesAll net cells x s b a

-- ---- the network

-- what `some_row_hits` says of the rows by place
some_below : {X : Type 0} (p : X → Bool) (xs : List X) (d : X) (t : Bool) → list_any p xs ≡ t
    → SomeBelow (length xs) (λ r. p (get_or xs r d)) t
some_below p xs d true e =
    let found = Any-from_list_any p xs e in
    (found.0, found.2, ap p (get_or_default xs found.0 d found.1 found.2 ∙ found.3) ∙ found.4)
some_below p xs d false e = λ r lt.
    elim (cases_Bool (p (get_or xs r d))) [
      | inl t ↦ absurd (both_ways (list_any p xs) e (list_any_at p xs r d lt t))
      | inr f ↦ f
    ]

-- the bit of a node by its sign
node_bit-sign : (some on : Bool) → (if some then (if on then 1 else 0) else (if on then 0 else 1)) ≡ (if some then bit on else bit (not on))
node_bit-sign true on = refl
node_bit-sign false true = refl
node_bit-sign false false = refl

-- the assignment gives the fan-ins of a node their bits
fan_in-given : (net : Network) (cells : CellsValue) (x s b a : List ℕ) → Extended net cells x s b a → (v : ℕ) → v < length net.nodes
    → (t : ℕ) → Has (node_at net v).fan_ins t → GivesSignal a s t
fan_in-given net cells x s b a h v lt t has =
    let n = h.is_net in
    let below : t < signals net = All-Has (λ i. i < signals net) (node_at net v).fan_ins t (n.nodes v no_node lt).fan_ins has in
    record { given = h.gives.signals t below; within = signal-within net x s h.bits h.settles t below }

-- the clauses of a node and its rows
node_clauses-hold : (net : Network) (cells : CellsValue) (x s b a : List ℕ) → Extended net cells x s b a → (v : ℕ) → v < length net.nodes
    → Each (Satisfies a) (node_clauses net v)
node_clauses-hold net cells x s b a h v lt =
    let node = node_at net v in
    let n = h.is_net in
    let values : List ℕ = bits_at s node.fan_ins in
    let rows = λ (r : ℕ). hit_clauses (row_variable net v r) (row_literals (row_at net v r) node.fan_ins) in
    each_append (Satisfies a) (joined (length node.rows) rows)
    (cover_clauses (node_variable net v) node.on (list_of (length node.rows) (row_variable net v)))
    (each_joined (Satisfies a) (length node.rows) rows
    (λ r below. hit_clauses-hold a (row_variable net v r) (row_literals (row_at net v r) node.fan_ins)
    (hits (row_at net v r) values) (h.gives.rows v r lt below)
    (decided_row a s (row_at net v r) node.fan_ins ((n.nodes v no_node lt).rows r [] below) (fan_in-given net cells x s b a h v lt))))
    (cover_clauses-hold a (node_variable net v) (length node.rows) node.on (some_row_hits node values)
    (row_variable net v) (λ r. hits (row_at net v r) values)
    (h.gives.signals (length net.inputs + v) (omega arith)
    ∙ ap Some (h.settles.nodes v lt ∙ node_bit-sign (some_row_hits node values) node.on))
    (λ r below. h.gives.rows v r lt below)
    (some_below (λ row. hits row values) node.rows [] (some_row_hits node values) refl))

-- ---- the cells

-- a cell to which a pin of the cone listens is in the cone
pin-in_cone : (cells : CellsValue) → IsClosed cells (in_cone cells) → (k : ℕ) → k < length cells.cells
    → in_cone cells k ≡ true → (j : ℕ) → j < length (cell_at cells k).pins → (m : ℕ) → get_or (cell_at cells k).pins j Zero ≡ Cell m
    → in_cone cells m ≡ true
pin-in_cone cells closed k lt member j below m e =
    let has : Has (cell_at cells k).pins (Cell m) =
    subst (Has (cell_at cells k).pins) e (place_has (cell_at cells k).pins j Zero below) in
    closed.pins k m lt member has

-- where the bits of its pins are bits, each of the clauses is satisfied
table_clauses-hold : (net : Network) (cells : CellsValue) (x s b a : List ℕ) → Extended net cells x s b a → (k : ℕ) → k < length cells.cells
    → in_cone cells k ≡ true → (size : ℕ) → size ≡ 2 ^ length (cell_at cells k).pins
    → Each (Satisfies a) (list_of size (table_clause net cells k))
table_clauses-hold net cells x s b a h k lt member size e =
    let pins = (cell_at cells k).pins in
    each_list_of (Satisfies a) size (table_clause net cells k)
    (λ n below. table_clause-holds a (map (source_bit x b) pins) (length pins) (cell_variable net cells k) (cell_at cells k).table n
    (λ j. source_variable net cells (get_or pins j Zero))
    (length-map pins (source_bit x b))
    (each_map (λ y. y ≤ 1) (source_bit x b) pins
    (λ source _. source_bit-le x b h.bits.bits (cells-bits cells x b h.cell_bits) source))
    (λ j less. gives_source net cells x s b a h.gives h.settles h.bits (get_or pins j Zero)
    (pin-in_cone cells h.closed k lt member j less)
    ∙ ap Some (sym (get_or-map (source_bit x b) pins j Zero 0 less)))
    (h.gives.cone k member ∙ ap Some (h.cell_bits.each k lt))
    (omega arith))

-- the clauses of a cell, of which there are none outside the cone
cell_clauses-hold : (net : Network) (cells : CellsValue) (x s b a : List ℕ) → Extended net cells x s b a → (k : ℕ) → k < length cells.cells
    → Each (Satisfies a) (cell_clauses net cells k)
cell_clauses-hold net cells x s b a h k lt c has =
    let cs = h.are_cells in
    elim (cases_Bool (in_cone cells k)) [
      | inl member ↦ table_clauses-hold net cells x s b a h k lt member (table_bits cells.geometry)
          (ap (λ n. 2 ^ n) (sym (cs.each k (omega (arith, cs.count))).pins)) c (rw member at has)
      | inr outside ↦ absurd (rw outside at has)
    ]

-- ---- the outputs

-- a cell to which an output pad listens is in the cone
output-in_cone : (cells : CellsValue) → IsClosed cells (in_cone cells) → (o : ℕ) → o < length cells.outputs → (m : ℕ)
    → get_or cells.outputs o Zero ≡ Cell m → in_cone cells m ≡ true
output-in_cone cells closed o lt m e =
    let has : Has cells.outputs (Cell m) = subst (Has cells.outputs) e (place_has cells.outputs o Zero lt) in
    closed.outputs m has

-- the clauses of an output
output_clauses-hold : (net : Network) (cells : CellsValue) (x s b a : List ℕ) → Extended net cells x s b a → (o : ℕ) → o < length net.outputs
    → Each (Satisfies a) (output_clauses net cells o)
output_clauses-hold net cells x s b a h o lt =
    let n = h.is_net in
    let cs = h.are_cells in
    let signal : ℕ = (get_or net.outputs o no_output).signal in
    let below : signal < signals net = n.output_signals o no_output lt in
    difference_clauses-hold a (difference_variable net cells o) (signal_variable signal)
    (source_variable net cells (get_or cells.outputs o Zero))
    (net_output net s o) (pad_output cells x b o)
    (h.gives.differences o lt)
    (h.gives.signals signal below)
    (gives_source net cells x s b a h.gives h.settles h.bits (get_or cells.outputs o Zero)
    (output-in_cone cells h.closed o (let fits = h.outputs in omega (arith, cs.pads))))
    (signal-within net x s h.bits h.settles signal below)
    (source_bit-le x b h.bits.bits (cells-bits cells x b h.cell_bits) (get_or cells.outputs o Zero))

-- ---- all of them

-- all of them, before repeated literals are left out
circuit-holds : (net : Network) (cells : CellsValue) (x s b a : List ℕ) → Extended net cells x s b a
    → Each (Satisfies a) (circuit_clauses net cells)
circuit-holds net cells x s b a h =
    let zero : Lits = negative zero_variable ∷ [] in
    let nodes : List Lits = joined (length net.nodes) (node_clauses net) in
    let of_cells : List Lits = joined (length cells.cells) (cell_clauses net cells) in
    let outputs : List Lits = joined (length net.outputs) (output_clauses net cells) in
    each_append (Satisfies a) ((zero ∷ nodes) ++ of_cells) outputs
    (each_append (Satisfies a) (zero ∷ nodes) of_cells
    (each_cons (Satisfies a) zero nodes (negative zero_variable, inl refl, h.gives.zero)
    (each_joined (Satisfies a) (length net.nodes) (node_clauses net) (node_clauses-hold net cells x s b a h)))
    (each_joined (Satisfies a) (length cells.cells) (cell_clauses net cells) (cell_clauses-hold net cells x s b a h)))
    (each_joined (Satisfies a) (length net.outputs) (output_clauses net cells) (output_clauses-hold net cells x s b a h))

-- a clause and the set of its literals are satisfied alike
pub Satisfies-clause_of : (a : List ℕ) (c : Lits) → Satisfies a c → Satisfies a (clause_of c)
Satisfies-clause_of a c h = (h.0, (SameSet-clause_of c h.0).1 h.1, h.2)

-- all of them
pub circuits-hold : (net : Network) (cells : CellsValue) (x s b a : List ℕ) → Extended net cells x s b a
    → Each (Satisfies a) (map clause_of (circuit_clauses net cells))
circuits-hold net cells x s b a h =
    each_map (Satisfies a) clause_of (circuit_clauses net cells)
    (λ c has. Satisfies-clause_of a c (circuit-holds net cells x s b a h c has))
