-- A miter has few clauses.
use Rattle.std.proofs.Common.{◌≡◌, ℕ, zero, suc, ◌+◌, ◌*◌, ◌^◌, ◌<◌, ◌≤◌, Bool, List, [], length, take, sum_by, ap, arith, length-append}
use Rattle.std.specs.List.{count_by}
use Rattle.std.proofs.Math.Nat.{mul-le-mul}
use Rattle.std.proofs.lemmas.List.{take_all, length-take-le}
use Rattle.std.proofs.lemmas.List.Sums.{sum_by_more, get_or-le-sum_by, count_by-le-length}
use Rattle.blif_defs.specs.declared.mark.Mark.{Mark}
use Rattle.net_defs.specs.Networks.{Node, Network, no_node, node_at}
use Rattle.net_defs.specs.Nets.{IsNet, rows_size}
use Rattle.fabric_defs.specs.Numbered.{joined}
use Rattle.fabric_defs.specs.declared.kind.CellKind.{CellKind}
use Rattle.fabric_defs.specs.declared.kind.CellKind.TheVariants.{FourInputs, SixInputs}
use Rattle.fabric_defs.specs.Kinds.{pins_of}
use Rattle.fabric_defs.specs.Geometries.{IsGeometry, table_bits, cell_count}
use Rattle.fabric_defs.specs.Configurations.{ConfigValue}
use Rattle.cell_defs.specs.Cells.{CellsValue}
use Rattle.cell_defs.specs.Sources.{AreCellsOf}
use Rattle.miter_defs.specs.Miters.{Miter, row_at, node_clauses}
use Rattle.miter_places.specs.Places.{is_asked, row_clauses}
use Rattle.miter_places.proofs.NumberLaws.{length-Miter}
use Rattle.miter_places.proofs.SizeLemmas.{row_counted, node_size, outputs_size, cells_size}

-- the parts together are no longer than their number times the longest
joined_at_most : {X : Type 0} (n most : ℕ) (f : ℕ → List X) → ((k : ℕ) → k < n → length (f k) ≤ most) → length (joined n f) ≤ n * most
joined_at_most zero most f each = omega arith
joined_at_most (suc n) most f each =
    let rest = joined_at_most n most f (λ k lt. each k (omega arith)) in
    let last = each n (omega arith) in
    let all = length-append (joined n f) (f n) in
    let next : suc n * most ≡ n * most + most = omega arith in omega arith

-- a mark and two more are counted for each clause of a row and for its place in the cover
rows_at_most : (net : Network) (v r : ℕ) → IsNet net → v < length net.nodes → r ≤ length (node_at net v).rows
    → length (joined r (row_clauses net v)) + r ≤ rows_size (take r (node_at net v).rows)
rows_at_most net v zero n lt le = omega arith
rows_at_most net v (suc r) n lt le =
    let rest = rows_at_most net v r n lt (omega arith) in
    let all = length-append (joined r (row_clauses net v)) (row_clauses net v r) in
    let own = row_counted net v r n lt (omega arith) in
    let marks = count_by-le-length is_asked (row_at net v r) in
    let next : rows_size (take (r + 1) (node_at net v).rows) ≡ rows_size (take r (node_at net v).rows) + (length (row_at net v r) + 2) =
    sum_by_more (λ (row : List Mark). length row + 2) (node_at net v).rows r [] (omega arith) in
    let same : rows_size (take (r + 1) (node_at net v).rows) ≡ rows_size (take (suc r) (node_at net v).rows) =
    ap (λ m. rows_size (take m (node_at net v).rows)) (let e : r + 1 ≡ suc r = omega arith in e) in omega arith

-- a node has no more clauses than the text has bytes, and one more
node_at_most : (net : Network) (v : ℕ) → IsNet net → v < length net.nodes → length (node_clauses net v) ≤ 262145
node_at_most net v n lt =
    let size = node_size net v in
    let rows = rows_at_most net v (length (node_at net v).rows) n lt (omega arith) in
    let whole : rows_size (take (length (node_at net v).rows) (node_at net v).rows) ≡ rows_size (node_at net v).rows =
    ap rows_size (take_all (length (node_at net v).rows) (node_at net v).rows (let e : length (node_at net v).rows ≤ length (node_at net v).rows = omega arith in e)) in
    let own : rows_size (node_at net v).rows ≤ sum_by (λ (node : Node). rows_size node.rows) net.nodes =
    get_or-le-sum_by (λ (node : Node). rows_size node.rows) net.nodes v no_node lt in
    let within = n.rows_within in omega arith

-- a table has 64 bits at most
bits_at_most : (kind : CellKind) → 2 ^ pins_of kind ≤ 64
bits_at_most FourInputs = omega arith
bits_at_most SixInputs = omega arith

-- a miter has so few clauses that there are indices for a whole budget of words behind them
pub few_clauses : (net : Network) (config : ConfigValue) (cells : CellsValue) → IsNet net → IsGeometry config.geometry → AreCellsOf config cells
    → length (Miter net cells).clauses ≤ 1100000000
few_clauses net config cells n g of =
    let nodes = joined_at_most (length net.nodes) 262145 (node_clauses net) (λ v lt. node_at_most net v n lt) in
    let signals_few = n.signals_within in
    let outputs_few = n.outputs_within in
    let outputs = outputs_size net cells (length net.outputs) in
    let count : length cells.cells ≡ cell_count config.geometry = of.sources.count in
    let few_cells : cell_count config.geometry ≤ 64 * 64 = mul-le-mul g.columns g.rows in
    let wide = ap cell_count of.sources.geometry in
    let cone = of.cone.count in
    let long : length cells.cells ≤ length cells.cone = omega arith in
    let size = cells_size net cells (length cells.cells) long in
    let ones = count_by-le-length (λ (b : Bool). b) (take (length cells.cells) cells.cone) in
    let taken = length-take-le (length cells.cells) cells.cone long in
    let bits = bits_at_most cells.geometry.kind in
    let cells_few : count_by (λ (b : Bool). b) (take (length cells.cells) cells.cone) * table_bits cells.geometry ≤ 4096 * 64 =
    mul-le-mul (let e : count_by (λ (b : Bool). b) (take (length cells.cells) cells.cone) ≤ 4096 = omega arith in e) bits in
    let all = length-Miter net cells in
    let nodes_few : length net.nodes * 262145 ≤ 4096 * 262145 = mul-le-mul (let e : length net.nodes ≤ 4096 = omega arith in e) (let e : 262145 ≤ 262145 = omega arith in e) in
    omega arith
