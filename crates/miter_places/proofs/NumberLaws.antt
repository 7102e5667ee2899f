-- Each clause of the miter has the number that its part says.
use Rattle.std.proofs.Common.{◌≡◌, ℕ, suc, ◌*◌, ◌+◌, ◌-◌, ◌<◌, List, [], ◌∷◌, ◌++◌, length, get_or, refl, ◌∙◌, ap, arith, length-append}
use Rattle.std.proofs.lemmas.List.{get_or-map, get_or_append_left, get_or-append-add, length-map}
use Rattle.std.proofs.Math.Seq.{get_or-append_seam}
use Rattle.clause_defs.specs.Clauses.{Lits, clause_of}
use Rattle.net_defs.specs.Networks.{Network, node_at}
use Rattle.fabric_defs.specs.Numbered.{list_of, joined}
use Rattle.cell_defs.specs.Cells.{CellsValue}
use Rattle.miter_defs.specs.Numberings.{zero_variable, node_variable, row_variable}
use Rattle.miter_defs.specs.Miters.{negative, cover_clauses, node_clauses, cell_clauses, output_clauses, circuit_clauses, some_difference, Miter}
use Rattle.leaf_defs.specs.Evaluated.{clause_numbered}
use Rattle.miter_places.specs.Places.{row_clauses, number_of_zero, first_of_node, first_of_row, first_of_cover, first_of_cell, first_of_output, number_of_last, places_of}
use Rattle.miter_places.proofs.SizeLemmas.{outputs_size}
use Rattle.miter_places.proofs.JoinedLemmas.{joined_part, get_joined}

module _ (net : Network) (cells : CellsValue) where
  -- the clauses of all nodes
  nodes : List Lits
  nodes = joined (length net.nodes) (node_clauses net)

  -- those of all cells
  parts : List Lits
  parts = joined (length cells.cells) (cell_clauses net cells)

  -- those of all outputs
  outputs : List Lits
  outputs = joined (length net.outputs) (output_clauses net cells)

  -- all clauses of the miter: those of both circuits, and the one that asks for a difference
  all : List Lits
  all = circuit_clauses net cells ++ some_difference net cells ∷ []

  -- the first clause: the variable zero is false
  zero : Lits
  zero = negative zero_variable ∷ []

  -- how many clauses there are
  pub length-Miter : length (Miter net cells).clauses ≡ number_of_last net cells
  unfolding nodes parts outputs all zero
  length-Miter =
      omega (
        arith,
        length-map all clause_of,
        length-append (circuit_clauses net cells) (some_difference net cells ∷ []),
        length-append ((zero ∷ nodes) ++ parts) outputs,
        length-append (zero ∷ nodes) parts,
      )

  -- the clause with a number is the set of what stands at its place
  numbered : (number place : ℕ) → number ≡ place + 1 → place < number_of_last net cells
      → clause_numbered (Miter net cells).clauses number ≡ clause_of (get_or all place [])
  unfolding all
  numbered number place e lt =
      ap (λ n. get_or (Miter net cells).clauses n []) (let same : number - 1 ≡ place = omega arith in same)
      ∙ get_or-map clause_of all place [] [] (omega (arith, length-Miter, length-map all clause_of))

  -- ---- what stands at a place of all clauses

  -- the clause of the variable zero and those of the nodes come first
  at_front : (place : ℕ) → place < 1 + length nodes → get_or all place [] ≡ get_or (zero ∷ nodes) place []
  unfolding nodes parts outputs all zero
  at_front place lt =
      let long = length-append (zero ∷ nodes) parts in
      let longer = length-append ((zero ∷ nodes) ++ parts) outputs in
      get_or_append_left (circuit_clauses net cells) (some_difference net cells ∷ []) [] place (omega arith)
      ∙ get_or_append_left ((zero ∷ nodes) ++ parts) outputs [] place (omega arith)
      ∙ get_or_append_left (zero ∷ nodes) parts [] place (omega arith)

  -- those of the cells come behind them
  at_parts : (i : ℕ) → i < length parts → get_or all (1 + length nodes + i) [] ≡ get_or parts i []
  unfolding nodes parts outputs all zero
  at_parts i lt =
      let long = length-append (zero ∷ nodes) parts in
      let longer = length-append ((zero ∷ nodes) ++ parts) outputs in
      get_or_append_left (circuit_clauses net cells) (some_difference net cells ∷ []) [] (1 + length nodes + i) (omega arith)
      ∙ get_or_append_left ((zero ∷ nodes) ++ parts) outputs [] (1 + length nodes + i) (omega arith)
      ∙ ap (λ n. get_or ((zero ∷ nodes) ++ parts) n []) (let same : 1 + length nodes + i ≡ length (zero ∷ nodes) + i = omega arith in same)
      ∙ get_or-append-add (zero ∷ nodes) parts i []

  -- and those of the outputs behind all these
  at_outputs : (i place : ℕ) → place ≡ 1 + length nodes + length parts + i → i < length outputs → get_or all place [] ≡ get_or outputs i []
  unfolding nodes parts outputs all zero
  at_outputs i place e lt =
      let long = length-append (zero ∷ nodes) parts in
      let longer = length-append ((zero ∷ nodes) ++ parts) outputs in
      get_or_append_left (circuit_clauses net cells) (some_difference net cells ∷ []) [] place (omega arith)
      ∙ ap (λ n. get_or (circuit_clauses net cells) n []) (let same : place ≡ length ((zero ∷ nodes) ++ parts) + i = omega arith in same)
      ∙ get_or-append-add ((zero ∷ nodes) ++ parts) outputs i []

  -- ---- the clauses of each part

  -- the clause of the variable zero has the first number
  pub zero_clause : clause_numbered (Miter net cells).clauses number_of_zero ≡ clause_of (negative zero_variable ∷ [])
  unfolding nodes zero
  zero_clause = numbered 1 0 (omega arith) (omega arith) ∙ ap clause_of (at_front 0 (omega arith))

  -- clause i of node v, those of its rows among them
  node_clause : (v i : ℕ) → v < length net.nodes → i < length (node_clauses net v)
      → clause_numbered (Miter net cells).clauses (first_of_node net v + i) ≡ clause_of (get_or (node_clauses net v) i [])
  unfolding nodes parts outputs zero
  node_clause v i lt within =
      let part = joined_part (length net.nodes) v (node_clauses net) lt in
      let place : ℕ = suc (length (joined v (node_clauses net)) + i) in
      numbered (first_of_node net v + i) place (omega arith) (omega arith)
      ∙ ap clause_of (at_front place (omega arith) ∙ get_joined (length net.nodes) v i (node_clauses net) [] lt within)

  -- clause j of row r of node v
  pub row_clause : (v r j : ℕ) → v < length net.nodes → r < length (node_at net v).rows → j < length (row_clauses net v r)
      → clause_numbered (Miter net cells).clauses (first_of_row net v r + j) ≡ clause_of (get_or (row_clauses net v r) j [])
  row_clause v r j lt row within =
      let rows : List Lits = joined (length (node_at net v).rows) (row_clauses net v) in
      let cover : List Lits = cover_clauses (node_variable net v) (node_at net v).on (list_of (length (node_at net v).rows) (row_variable net v)) in
      let part = joined_part (length (node_at net v).rows) r (row_clauses net v) row in
      let both = length-append rows cover in
      let i : ℕ = length (joined r (row_clauses net v)) + j in
      ap (clause_numbered (Miter net cells).clauses) (let same : first_of_row net v r + j ≡ first_of_node net v + i = omega arith in same)
      ∙ node_clause v i lt (omega arith)
      ∙ ap clause_of (get_or_append_left rows cover [] i (omega arith) ∙ get_joined (length (node_at net v).rows) r j (row_clauses net v) [] row within)

  -- clause j of node v itself
  pub cover_clause : (v j : ℕ) → v < length net.nodes
      → j < length (cover_clauses (node_variable net v) (node_at net v).on (list_of (length (node_at net v).rows) (row_variable net v)))
      → clause_numbered (Miter net cells).clauses (first_of_cover net v + j)
      ≡ clause_of (get_or (cover_clauses (node_variable net v) (node_at net v).on (list_of (length (node_at net v).rows) (row_variable net v))) j [])
  cover_clause v j lt within =
      let rows : List Lits = joined (length (node_at net v).rows) (row_clauses net v) in
      let cover : List Lits = cover_clauses (node_variable net v) (node_at net v).on (list_of (length (node_at net v).rows) (row_variable net v)) in
      let both = length-append rows cover in
      let i : ℕ = length rows + j in
      ap (clause_numbered (Miter net cells).clauses) (let same : first_of_cover net v + j ≡ first_of_node net v + i = omega arith in same)
      ∙ node_clause v i lt (omega arith)
      ∙ ap clause_of (get_or-append-add rows cover j [])

  -- clause j of cell k
  pub cell_clause : (k j : ℕ) → k < length cells.cells → j < length (cell_clauses net cells k)
      → clause_numbered (Miter net cells).clauses (first_of_cell net cells k + j) ≡ clause_of (get_or (cell_clauses net cells k) j [])
  unfolding nodes parts outputs zero
  cell_clause k j lt within =
      let part = joined_part (length cells.cells) k (cell_clauses net cells) lt in
      let i : ℕ = length (joined k (cell_clauses net cells)) + j in
      numbered (first_of_cell net cells k + j) (1 + length nodes + i) (omega arith) (omega arith)
      ∙ ap clause_of (at_parts i (omega arith) ∙ get_joined (length cells.cells) k j (cell_clauses net cells) [] lt within)

  -- clause j of output o
  pub output_clause : (o j : ℕ) → o < length net.outputs → j < length (output_clauses net cells o)
      → clause_numbered (Miter net cells).clauses (first_of_output net cells o + j) ≡ clause_of (get_or (output_clauses net cells o) j [])
  unfolding nodes parts outputs zero
  output_clause o j lt within =
      let part = joined_part (length net.outputs) o (output_clauses net cells) lt in
      let i : ℕ = length (joined o (output_clauses net cells)) + j in
      let place : ℕ = 1 + length nodes + length parts + i in
      numbered (first_of_output net cells o + j) place (omega arith) (omega arith)
      ∙ ap clause_of (at_outputs i place refl (omega arith) ∙ get_joined (length net.outputs) o j (output_clauses net cells) [] lt within)

  -- the last clause
  pub last_clause : clause_numbered (Miter net cells).clauses (number_of_last net cells) ≡ clause_of (some_difference net cells)
  unfolding nodes parts outputs all zero
  last_clause =
      let long = length-append (zero ∷ nodes) parts in
      let longer = length-append ((zero ∷ nodes) ++ parts) outputs in
      let place : ℕ = length (circuit_clauses net cells) in
      numbered (number_of_last net cells) place (omega arith) (omega arith)
      ∙ ap clause_of (get_or-append_seam (circuit_clauses net cells) (some_difference net cells) [] [])

  -- the clauses of the outputs and the last one stand at the end
  pub length-from_outputs : length (Miter net cells).clauses ≡ first_of_output net cells 0 + 4 * length net.outputs
  length-from_outputs = length-Miter ∙ omega (arith, outputs_size net cells (length net.outputs))

  -- those of the cells before them
  pub outputs-from_cells : first_of_output net cells 0 ≡ first_of_cell net cells 0 + length (joined (length cells.cells) (cell_clauses net cells))
  outputs-from_cells = omega arith

  -- and those of the nodes before all these
  pub cells-from_nodes : first_of_cell net cells 0 ≡ first_of_node net (length net.nodes)
  cells-from_nodes = omega arith

-- places by their parts
pub places_are : (net : Network) (cells : CellsValue) (firsts : List ℕ) (first second : ℕ) → firsts ≡ list_of (length net.nodes) (first_of_node net)
    → first ≡ first_of_cell net cells 0 → second ≡ first_of_output net cells 0
    → record { nodes = firsts; cells = first; outputs = second } ≡ places_of net cells
places_are net cells firsts first second e f g = λ i. record { nodes = e i; cells = f i; outputs = g i }
