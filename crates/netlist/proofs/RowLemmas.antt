-- How many rows a net may have.
use Rattle.std.proofs.Common.{◌≡◌, ℕ, ◌+◌, ◌<◌, ◌≤◌, List, [], ◌∷◌, length, take, get_or, sum_by, ap, sym, subst, arith}
use Rattle.std.proofs.lemmas.List.Sums.{sum_by-cons, sum_by_more, sum_by-take-le}
use Rattle.blif_defs.specs.declared.mark.Mark.{Mark}
use Rattle.blif_defs.specs.declared.mark.TheConstants.{MAX_BYTES}
use Rattle.net_defs.specs.Networks.{Node, Network}
use Rattle.blif_defs.specs.Values.{rows_size}
use Rattle.net_defs.specs.Nets.{IsNet}

-- each row counts at least one in the size of rows
length-le-rows_size : (rows : List (List Mark)) → length rows ≤ rows_size rows
length-le-rows_size [] = omega arith
length-le-rows_size (row ∷ rows) = omega (arith, sum_by-cons (λ (r : List Mark). length r + 2) row rows, length-le-rows_size rows)

-- so the rows of all nodes are no more than their size
row_count-le : (nodes : List Node) → sum_by (λ (node : Node). length node.rows) nodes ≤ sum_by (λ (node : Node). rows_size node.rows) nodes
row_count-le [] = omega arith
row_count-le (n ∷ ns) =
    let e = sum_by-cons (λ (node : Node). length node.rows) n ns in
    let f = sum_by-cons (λ (node : Node). rows_size node.rows) n ns in
    omega (arith, e, f, length-le-rows_size n.rows, row_count-le ns)

-- the rows of the first nodes and of the next one
pub rows_fit : (net : Network) (nodes : List Node) (i : ℕ) (node : Node) → IsNet net → nodes ≡ net.nodes → i < length nodes → node ≡ get_or nodes i node
    → sum_by (λ (n : Node). length n.rows) (take i nodes) + length node.rows ≤ MAX_BYTES
rows_fit net nodes i node is same lt at =
    let more = sum_by_more (λ (n : Node). length n.rows) nodes i node lt in
    let part = sum_by-take-le (λ (n : Node). length n.rows) nodes (i + 1) in
    let all = row_count-le nodes in
    let here : length node.rows ≡ length (get_or nodes i node).rows = ap (λ (n : Node). length n.rows) at in
    let limit : sum_by (λ (n : Node). rows_size n.rows) nodes ≤ MAX_BYTES =
    let P : List Node → Type 0 = λ l. sum_by (λ (n : Node). rows_size n.rows) l ≤ MAX_BYTES in subst P (sym same) is.rows_within in
    omega (arith, more, part, all, here, limit)
