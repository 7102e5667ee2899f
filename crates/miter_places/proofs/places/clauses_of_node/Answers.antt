use Rattle.std.proofs.Common.{◌≡◌, ◌+◌, ◌<◌, ◌≤◌, ℕ, [], length, get_or, ap, ◌∙◌, List, arith, length-append}
use Rattle.std.specs.List.{count_by}
use Rattle.std.proofs.lemmas.List.{get_or_default}
use Rattle.blif_defs.specs.declared.mark.Mark.{Mark}
use Rattle.fabric_defs.specs.Numbered.{joined}
use Rattle.clause_defs.specs.Clauses.{Lits}
use Rattle.net_defs.specs.Networks.{Network, node_at}
use Rattle.net_defs.specs.Nets.{IsNet}
use Rattle.miter_defs.specs.Miters.{row_at, node_clauses}
use Rattle.miter_places.specs.Places.{is_asked, row_clauses}
use Rattle.fabric_laws.proofs.NumberedLemmas.{joined-more}
use Rattle.miter_places.proofs.SizeLemmas.{row_width, row_counted, rows_within_node, node_size}
use Rattle.miter_places.proofs.places.clauses_of_node.Goals as goal

-- the marks that are read
row_is : (net : Network) (v i : ℕ) (rows : List (List Mark)) (row marks : List Mark) → rows ≡ (node_at net v).rows → i < length (node_at net v).rows
    → row ≡ get_or rows i row → marks ≡ row → marks ≡ row_at net v i
row_is net v i rows row marks e lt read same =
    same ∙ read ∙ ap (λ (rs : List (List Mark)). get_or rs i row) e ∙ get_or_default (node_at net v).rows i row [] lt

-- a row has few marks
pub asked-requires : goal.asked-requires
asked-requires c =
    let net = c.args.net.now in
    let test = c.loop-row-test.true in
    let rows = ap (λ (rs : List (List Mark)). length rs) c.node_rows-rows.ensures in
    let lt : c.loop-row.row-index < length (node_at net c.args.v).rows = omega arith in
    let width = row_width net c.args.v c.loop-row.row-index c.requires.net c.requires.node lt in
    let same = width.0 in
    let few = width.1 in
    let own = ap (λ (r : List Mark). length r) (row_is c.args.net.now c.args.v c.loop-row.row-index c.node_rows-rows.result.now c.row-item.result c.marks.result.now c.node_rows-rows.ensures lt c.row-item.is c.marks.ensures) in
    omega arith

-- one row more has so many clauses more
counted : (net : Network) (v i count asked : ℕ) (rows : List (List Mark)) (row marks : List Mark) → IsNet net → v < length net.nodes
    → rows ≡ (node_at net v).rows → i < length rows → row ≡ get_or rows i row → marks ≡ row → asked ≡ count_by is_asked marks
    → count ≡ 1 + i + length (joined i (row_clauses net v))
    → (count + (asked + 2) ≡ 1 + (i + 1) + length (joined (i + 1) (row_clauses net v))) × (count + (asked + 2) ≤ length (node_clauses net v))
counted net v i count asked rows row marks n lt e within read same is before =
    let below : i < length (node_at net v).rows = (let many = ap (λ (rs : List (List Mark)). length rs) e in omega arith) in
    let own = ap (λ (r : List Mark). count_by is_asked r) (row_is net v i rows row marks e below read same) in
    let size = row_counted net v i n lt below in
    let more = ap (λ (cs : List Lits). length cs) (joined-more i (row_clauses net v)) in
    let all = length-append (joined i (row_clauses net v)) (row_clauses net v i) in
    let most = rows_within_node net v (i + 1) (omega arith) in
    (omega arith, omega arith)

pub overflow_add-count : goal.overflow_add-count
overflow_add-count c =
    let next = counted c.args.net.now c.args.v c.loop-row.row-index c.loop-row.count c.asked.result c.node_rows-rows.result.now c.row-item.result c.marks.result.now
    c.requires.net c.requires.node c.node_rows-rows.ensures c.loop-row-test.true c.row-item.is c.marks.ensures c.asked.ensures c.loop-row.invariant in
    let most = next.1 in omega (arith, c.requires.few)

pub overflow_add-count-in-loop-row : goal.overflow_add-count-in-loop-row
overflow_add-count-in-loop-row c =
    let next = counted c.args.net.now c.args.v c.loop-row.row-index c.loop-row.count c.asked.result c.node_rows-rows.result.now c.row-item.result c.marks.result.now
    c.requires.net c.requires.node c.node_rows-rows.ensures c.loop-row-test.true c.row-item.is c.marks.ensures c.asked.ensures c.loop-row.invariant in
    let most = next.1 in omega (arith, c.requires.few)

pub loop-row-preserved : goal.loop-row-preserved
loop-row-preserved c =
    (counted c.args.net.now c.args.v c.loop-row.row-index c.loop-row.count c.asked.result c.node_rows-rows.result.now c.row-item.result c.marks.result.now
    c.requires.net c.requires.node c.node_rows-rows.ensures c.loop-row-test.true c.row-item.is c.marks.ensures c.asked.ensures c.loop-row.invariant).0

pub returns : goal.returns
returns c =
    let test = c.loop-row-test.false in
    let end = c.loop-row.auto.row-index-end in
    let rows = ap (λ (rs : List (List Mark)). length rs) c.node_rows-rows.ensures in
    let all = node_size c.args.net.now c.args.v in
    let at = ap (λ n. length (joined n (row_clauses c.args.net.now c.args.v))) (let e : c.loop-row.row-index ≡ length (node_at c.args.net.now c.args.v).rows = omega arith in e) in
    omega (arith, c.loop-row.invariant)
