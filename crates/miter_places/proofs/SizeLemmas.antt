-- How many clauses the parts have.
use Rattle.std.proofs.Common.{◌≡◌, ℕ, zero, suc, ◌+◌, ◌*◌, ◌<◌, ◌≤◌, inl, inr, Bool, false, cond, List, [], ◌∷◌, length, map, take, refl, sym, ◌∙◌, ap, arith, length-append}
use Rattle.std.specs.List.{count_by}
use Rattle.std.proofs.Math.Nat.{add-mul}
use Rattle.std.proofs.lemmas.List.{length-map}
use Rattle.std.proofs.lemmas.Bool.{cases_Bool}
use Rattle.std.proofs.lemmas.List.Sums.{sum_by-cons, sum_by_more}
use Rattle.blif_defs.specs.declared.mark.TheConstants.{MAX_PORTS}
use Rattle.blif_defs.specs.declared.mark.Mark.{Mark}
use Rattle.blif_defs.specs.declared.mark.Mark.TheVariants.{Zero, One, Any}
use Rattle.clause_defs.specs.Literals.{negation}
use Rattle.clause_defs.specs.Clauses.{Lits}
use Rattle.net_defs.specs.Networks.{Network, no_node, node_at}
use Rattle.net_defs.specs.Nets.{IsNet}
use Rattle.fabric_defs.specs.Geometries.{table_bits}
use Rattle.cell_defs.specs.Cones.{in_cone}
use Rattle.fabric_defs.specs.Numbered.{list_of, joined}
use Rattle.fabric_laws.proofs.NumberedLemmas.{length-list_of, length-joined}
use Rattle.cell_defs.specs.Cells.{CellsValue}
use Rattle.miter_defs.specs.Numberings.{node_variable, row_variable}
use Rattle.miter_defs.specs.Miters.{literal, positive, negative, mark_literals, row_literals, row_at, cover_clauses, node_clauses, table_clause, cell_clauses, output_clauses}
use Rattle.miter_places.specs.Places.{is_asked, row_clauses, first_of_node}
use Rattle.miter_places.proofs.JoinedLemmas.{joined_part, joined_fewer}

-- what a mark asks is one literal or none
asked_one : (m : Mark) (s : ℕ) → length (mark_literals m s) ≡ cond (is_asked m) 1 0
asked_one Zero s = refl
asked_one One s = refl
asked_one Any s = refl

-- a row asks as much as it has marks that ask something
pub asked_length : (row : List Mark) (ss : List ℕ) → length row ≡ length ss → length (row_literals row ss) ≡ count_by is_asked row
asked_length [] ss e = refl
asked_length (m ∷ ms) [] e = absurd (omega arith)
asked_length (m ∷ ms) (s ∷ ss) e =
    omega (
      arith,
      length-append (mark_literals m s) (row_literals ms ss),
      asked_one m s,
      asked_length ms ss (omega arith),
      sum_by-cons (λ x. cond (is_asked x) 1 0) m ms,
    )

-- a row has a clause for each literal that it asks, and one more
pub row_size : (net : Network) (v r : ℕ) → length (row_clauses net v r) ≡ length (row_literals (row_at net v r) (node_at net v).fan_ins) + 1
row_size net v r =
    let asked : Lits = row_literals (row_at net v r) (node_at net v).fan_ins in
    let hit : ℕ = row_variable net v r in
    length-append (map (λ l. negative hit ∷ l ∷ []) asked) ((positive hit ∷ map negation asked) ∷ [])
    ∙ ap (λ n. n + 1) (length-map asked (λ l. negative hit ∷ l ∷ []))

-- a node has the clauses of its rows, one more, and one for each row
pub node_size : (net : Network) (v : ℕ)
    → length (node_clauses net v) ≡ length (joined (length (node_at net v).rows) (row_clauses net v)) + 1 + length (node_at net v).rows
node_size net v =
    let hits : List ℕ = list_of (length (node_at net v).rows) (row_variable net v) in
    let node : ℕ = node_variable net v in
    let on : Bool = (node_at net v).on in
    omega (
      arith,
      length-append (joined (length (node_at net v).rows) (row_clauses net v)) (cover_clauses node on hits),
      length-map hits (λ hit. literal node on ∷ negative hit ∷ []),
      length-list_of (length (node_at net v).rows) (row_variable net v),
    )

-- each output has four clauses
pub outputs_size : (net : Network) (cells : CellsValue) (n : ℕ) → length (joined n (output_clauses net cells)) ≡ n * 4
outputs_size net cells n = length-joined n 4 (output_clauses net cells) (λ o lt. refl)

-- ---- what the readers count

-- the marks of a row are as many as the fan-ins
pub row_width : (net : Network) (v r : ℕ) → IsNet net → v < length net.nodes → r < length (node_at net v).rows
    → (length (row_at net v r) ≡ length (node_at net v).fan_ins) × (length (node_at net v).fan_ins ≤ MAX_PORTS)
row_width net v r n lt row = let node = n.nodes v no_node lt in (node.rows r [] row, node.fan_ins_within)

-- a row has a clause for each mark that asks something, and one more
pub row_counted : (net : Network) (v r : ℕ) → IsNet net → v < length net.nodes → r < length (node_at net v).rows
    → length (row_clauses net v r) ≡ count_by is_asked (row_at net v r) + 1
row_counted net v r n lt row =
    row_size net v r ∙ ap (λ m. m + 1) (asked_length (row_at net v r) (node_at net v).fan_ins (row_width net v r n lt row).0)

-- the first rows of a node have no more clauses than the node
pub rows_within_node : (net : Network) (v i : ℕ) → i ≤ length (node_at net v).rows
    → 1 + i + length (joined i (row_clauses net v)) ≤ length (node_clauses net v)
rows_within_node net v i le =
    let all = node_size net v in
    let fewer = joined_fewer (length (node_at net v).rows) i (row_clauses net v) le in omega arith

-- the first nodes have no more clauses than all
pub node_within : (net : Network) (v : ℕ) → v < length net.nodes
    → first_of_node net v + length (node_clauses net v) ≤ first_of_node net (length net.nodes)
node_within net v lt = let part = joined_part (length net.nodes) v (node_clauses net) lt in omega arith

-- a cell of the cone has a clause for each bit of its table
cell_size : (net : Network) (cells : CellsValue) (k : ℕ) → length (cell_clauses net cells k) ≡ cond (in_cone cells k) 1 0 * table_bits cells.geometry
cell_size net cells k =
    let size : ℕ = table_bits cells.geometry in
    elim (cases_Bool (in_cone cells k)) [
      | inl inside ↦ rw inside (length-list_of size (table_clause net cells k) ∙ one_of size)
      | inr outside ↦ rw outside (none_of size)
    ]
  where
    one_of : (n : ℕ) → n ≡ 1 * n
    one_of n = omega arith

    none_of : (n : ℕ) → 0 ≡ 0 * n
    none_of n = omega arith

-- the first cells have so many clauses as they have cells of the cone, for each bit of a table
pub cells_size : (net : Network) (cells : CellsValue) (n : ℕ) → n ≤ length cells.cone
    → length (joined n (cell_clauses net cells)) ≡ count_by (λ b. b) (take n cells.cone) * table_bits cells.geometry
cells_size net cells zero le = none_of (table_bits cells.geometry)
  where
    none_of : (n : ℕ) → 0 ≡ 0 * n
    none_of n = omega arith
cells_size net cells (suc n) le =
    let size : ℕ = table_bits cells.geometry in
    let bit : ℕ = cond (in_cone cells n) 1 0 in
    let before : ℕ = count_by (λ b. b) (take n cells.cone) in
    let counted = sum_by_more (λ (b : Bool). cond b 1 0) cells.cone n false (omega arith) in
    let next : before + bit ≡ count_by (λ b. b) (take (suc n) cells.cone) =
    sym counted ∙ ap (λ m. count_by (λ (b : Bool). b) (take m cells.cone)) (let e : n + 1 ≡ suc n = omega arith in e) in
    length-append (joined n (cell_clauses net cells)) (cell_clauses net cells n)
    ∙ ap (λ m. m + length (cell_clauses net cells n)) (cells_size net cells n (omega arith))
    ∙ ap (λ m. before * size + m) (cell_size net cells n)
    ∙ sym (add-mul before bit size)
    ∙ ap (λ m. m * size) next
