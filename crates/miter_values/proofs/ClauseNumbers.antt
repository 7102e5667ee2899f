-- The clauses of the two circuits by their numbers.
use Rattle.std.proofs.Common.{◌≡◌, ℕ, ◌+◌, ◌-◌, ◌*◌, ◌<◌, ◌≤◌, true, false, List, [], ◌∷◌, ◌++◌, length, map, get_or, refl, sym, ◌∙◌, ap, arith, length-append}
use Rattle.std.proofs.lemmas.List.{length-map, map-append, get_or_append_left}
use Rattle.clause_defs.specs.Clauses.{Lits, clause_of}
use Rattle.net_defs.specs.Networks.{Network, node_at}
use Rattle.fabric_defs.specs.Numbered.{list_of, joined}
use Rattle.cell_defs.specs.Cells.{CellsValue}
use Rattle.miter_defs.specs.Numberings.{node_variable, row_variable}
use Rattle.miter_defs.specs.Miters.{literal, negative, row_at, circuit_clauses, cover_clauses, table_clause, cell_clauses, output_clauses, some_difference, Miter}
use Rattle.leaf_defs.specs.Evaluated.{clause_numbered}
use Rattle.miter_places.specs.Places.{is_asked, row_clauses, first_of_node, first_of_row, first_of_cover, first_of_cell, first_of_output, number_of_last}
use Rattle.miter_places.proofs.JoinedLemmas.{joined_part}
use Rattle.miter_places.proofs.SizeLemmas.{outputs_size, node_size, node_within, row_counted}
use Rattle.fabric_laws.proofs.NumberedLemmas.{length-list_of, get_or-list_of, joined-more}
use Rattle.fabric_defs.specs.Geometries.{table_bits}
use Rattle.cell_defs.specs.Cones.{in_cone}
use Rattle.std.specs.List.{count_by}
use Rattle.blif_defs.specs.declared.mark.Mark.{Mark}
use Rattle.net_defs.specs.Nets.{IsNet}
use Rattle.miter_places.proofs.NumberLaws.{length-Miter, row_clause, cover_clause, cell_clause, output_clause}
use Rattle.miter_values.specs.Parts.{circuits_of}

module _ (net : Network) (cells : CellsValue) where
  -- the last clause of the miter, alone
  last : List Lits
  last = map clause_of (some_difference net cells ∷ [])

  -- the miter's clauses are these and one more
  all_are : (Miter net cells).clauses ≡ circuits_of net cells ++ last
  unfolding last
  all_are = map-append clause_of (circuit_clauses net cells) (some_difference net cells ∷ [])

  -- all numbers but the last are theirs
  pub circuits-count : length (circuits_of net cells) + 1 ≡ number_of_last net cells
  unfolding last
  circuits-count =
      let all = ap (λ (cs : List Lits). length cs) all_are in
      omega (arith, length-Miter net cells, length-append (circuits_of net cells) last)

  -- and each of these numbers names the same clause in both
  pub circuits_clause : (n : ℕ) → 1 ≤ n → n < number_of_last net cells → clause_numbered (circuits_of net cells) n ≡ clause_numbered (Miter net cells).clauses n
  circuits_clause n low high =
      let count = circuits-count in
      sym (ap (λ (cs : List Lits). get_or cs (n - 1) []) all_are ∙ get_or_append_left (circuits_of net cells) last [] (n - 1) (omega arith))

  -- the parts come one after another
  nodes_end : first_of_node net (length net.nodes) ≤ number_of_last net cells
  nodes_end = omega arith

  -- the cells end before the last clause too
  cells_end : first_of_cell net cells (length cells.cells) ≤ number_of_last net cells
  cells_end = omega arith

  -- clause j of row r of node v
  pub row_number : (v r j : ℕ) → v < length net.nodes → r < length (node_at net v).rows → j < length (row_clauses net v r)
      → (first_of_row net v r + j ≤ length (circuits_of net cells))
      × (clause_numbered (circuits_of net cells) (first_of_row net v r + j) ≡ clause_of (get_or (row_clauses net v r) j []))
  row_number v r j lt row within =
      let size = node_size net v in
      let all = node_within net v lt in
      let part = joined_part (length (node_at net v).rows) r (row_clauses net v) row in
      let end = nodes_end in
      let count = circuits-count in
      (omega arith, circuits_clause (first_of_row net v r + j) (omega arith) (omega arith) ∙ row_clause net cells v r j lt row within)

  -- clause j of node v itself
  pub cover_number : (v j : ℕ) → v < length net.nodes → j ≤ length (node_at net v).rows
      → (first_of_cover net v + j ≤ length (circuits_of net cells))
      × (clause_numbered (circuits_of net cells) (first_of_cover net v + j)
      ≡ clause_of (get_or (cover_clauses (node_variable net v) (node_at net v).on (list_of (length (node_at net v).rows) (row_variable net v))) j []))
  cover_number v j lt within =
      let hits : List ℕ = list_of (length (node_at net v).rows) (row_variable net v) in
      let many = length-map hits (λ hit. literal (node_variable net v) (node_at net v).on ∷ negative hit ∷ []) in
      let listed = length-list_of (length (node_at net v).rows) (row_variable net v) in
      let size = node_size net v in
      let all = node_within net v lt in
      let end = nodes_end in
      let count = circuits-count in
      (omega arith, circuits_clause (first_of_cover net v + j) (omega arith) (omega arith) ∙ cover_clause net cells v j lt (omega arith))

  -- a node has no more rows than there are clauses
  pub rows_few : (v : ℕ) → v < length net.nodes → length (node_at net v).rows < length (circuits_of net cells)
  rows_few v lt =
      let size = node_size net v in
      let all = node_within net v lt in
      let end = nodes_end in
      let count = circuits-count in omega arith

  -- the number behind a row is that of the next one
  pub row_next : (v r number asked : ℕ) (marks : List Mark) → IsNet net → v < length net.nodes → r < length (node_at net v).rows
      → number ≡ first_of_row net v r → asked ≡ count_by is_asked marks → marks ≡ row_at net v r
      → (number + asked + 1 ≡ first_of_row net v (r + 1)) × (number + asked + 1 ≤ length (circuits_of net cells))
  row_next v r number asked marks n lt row at is same =
      let own = row_counted net v r n lt row in
      let marks_are = ap (λ (m : List Mark). count_by is_asked m) same in
      let more = ap (λ (cs : List Lits). length cs) (joined-more r (row_clauses net v)) in
      let both = length-append (joined r (row_clauses net v)) (row_clauses net v r) in
      let part = joined_part (length (node_at net v).rows) r (row_clauses net v) row in
      let size = node_size net v in
      let all = node_within net v lt in
      let end = nodes_end in
      let count = circuits-count in
      (omega arith, omega arith)

  -- the clause of a bit of the table of cell k, which is in the cone
  pub cell_number : (k word : ℕ) → k < length cells.cells → in_cone cells k ≡ true → word < table_bits cells.geometry
      → (first_of_cell net cells k + word ≤ length (circuits_of net cells))
      × (clause_numbered (circuits_of net cells) (first_of_cell net cells k + word) ≡ clause_of (table_clause net cells k word))
  cell_number k word lt inside within =
      let listed : cell_clauses net cells k ≡ list_of (table_bits cells.geometry) (table_clause net cells k) = rw inside refl in
      let many = ap (λ (cs : List Lits). length cs) listed in
      let size = length-list_of (table_bits cells.geometry) (table_clause net cells k) in
      let part = joined_part (length cells.cells) k (cell_clauses net cells) lt in
      let end = cells_end in
      let count = circuits-count in
      let own : word < length (cell_clauses net cells k) = omega arith in (
        omega arith,
        circuits_clause (first_of_cell net cells k + word) (omega arith) (omega arith) ∙ cell_clause net cells k word lt own
            ∙ ap clause_of (ap (λ (cs : List Lits). get_or cs word []) listed ∙ get_or-list_of (table_bits cells.geometry) (table_clause net cells k) word [] within),
      )

  -- the clauses of the cells so far, and of one more
  pub cell_next : (k number : ℕ) → k < length cells.cells → number ≡ first_of_cell net cells k → in_cone cells k ≡ true
      → (number + table_bits cells.geometry ≡ first_of_cell net cells (k + 1)) × (number + table_bits cells.geometry ≤ length (circuits_of net cells) + 1)
  cell_next k number lt at inside =
      let listed : cell_clauses net cells k ≡ list_of (table_bits cells.geometry) (table_clause net cells k) = rw inside refl in
      let own : length (cell_clauses net cells k) ≡ table_bits cells.geometry =
      ap (λ (cs : List Lits). length cs) listed ∙ length-list_of (table_bits cells.geometry) (table_clause net cells k) in
      let part = joined_part (length cells.cells) k (cell_clauses net cells) lt in
      let more = ap (λ (cs : List Lits). length cs) (joined-more k (cell_clauses net cells)) in
      let both = length-append (joined k (cell_clauses net cells)) (cell_clauses net cells k) in
      let end = cells_end in
      let count = circuits-count in
      (omega arith, omega arith)

  -- a cell outside the cone has no clause, so the next one begins where it does
  pub cell_none : (k number : ℕ) → number ≡ first_of_cell net cells k → in_cone cells k ≡ false → number ≡ first_of_cell net cells (k + 1)
  cell_none k number at outside =
      let listed : cell_clauses net cells k ≡ [] = rw outside refl in
      let many = ap (λ (cs : List Lits). length cs) listed in
      let more = ap (λ (cs : List Lits). length cs) (joined-more k (cell_clauses net cells)) in
      let both = length-append (joined k (cell_clauses net cells)) (cell_clauses net cells k) in
      omega arith

  -- clause j of output o, by the number of the first clause of all outputs
  pub output_number : (o j : ℕ) → o < length net.outputs → j < 4
      → (first_of_output net cells 0 + 4 * o + j ≤ length (circuits_of net cells))
      × (clause_numbered (circuits_of net cells) (first_of_output net cells 0 + 4 * o + j) ≡ clause_of (get_or (output_clauses net cells o) j []))
  output_number o j lt within =
      let size = outputs_size net cells o in
      let all = outputs_size net cells (length net.outputs) in
      let count = circuits-count in
      let same : first_of_output net cells 0 + 4 * o + j ≡ first_of_output net cells o + j = omega arith in
      let high : first_of_output net cells o + j < number_of_last net cells = omega arith in (
        omega arith,
        ap (clause_numbered (circuits_of net cells)) same ∙ circuits_clause (first_of_output net cells o + j) (omega arith) high
            ∙ output_clause net cells o j lt within,
      )
