-- The values of a node's rows and of the node.
use Rattle.std.proofs.Common.{◌≡◌, ℕ, zero, suc, ◌+◌, ◌-◌, ◌<◌, ◌≤◌, ◌↔◌, ◌⊎◌, inl, inr, Bool, true, false, not, Option, Some, None, List, [], ◌∷◌, length, map, get_or, take, refl, sym, ◌∙◌, ap, subst, arith, add-one}
use Rattle.std.proofs.lemmas.Bool.{cases_lt}
use Rattle.std.proofs.lemmas.List.{get_or-map, length-map, get_or_default, take_all}
use Rattle.pch_base.proofs.SetLemmas.{Contains-Has}
use Rattle.chain_check.proofs.ClauseLists.{Has-take_more}
use Rattle.cell_laws.proofs.SourceBits.{All-Has}
use Rattle.net_defs.specs.Orders.{IsKnown, IsOrder}
use Rattle.leaf_chain.proofs.RunningLemmas.{place_in_take}
use Rattle.std.proofs.lemmas.List.Sums.{sum_by_more_le, sum_by_more}
use Rattle.blif_defs.specs.declared.mark.Mark.{Mark}
use Rattle.clause_defs.specs.Literals.{Literal}
use Rattle.clause_defs.specs.Clauses.{Lits, Has}
use Rattle.net_defs.specs.Networks.{Node, Network, no_node, node_at}
use Rattle.net_defs.specs.Nets.{row_count}
use Rattle.fabric_defs.specs.Numbered.{list_of}
use Rattle.fabric_laws.proofs.NumberedLemmas.{length-list_of, get_or-list_of}
use Rattle.cell_defs.specs.Cells.{CellsValue}
use Rattle.miter_defs.specs.Numberings.{signal_variable, node_variable, rows_before, row_variable}
use Rattle.miter_defs.specs.Miters.{literal, positive, negative, row_at, row_literals, cover_clauses}
use Rattle.leaf_defs.specs.Evaluated.{Evaluated, value_of, clause_numbered}
use Rattle.miter_places.specs.Places.{row_clauses, first_of_row, first_of_cover}
use Rattle.miter_values.specs.Growing.{IsFalseIn, IsForced, Grows}
use Rattle.miter_values.specs.Parts.{circuits_of, AreKnown, IsRowValue, IsRowOf, IsHit, IsOfNode, IsOfNodes, IsOfSomeNode, later, cover_place, node_value}
use Rattle.miter_values.proofs.GrowLemmas.{forced_set}
use Rattle.miter_values.proofs.RowLemmas.{forced_row}
use Rattle.miter_values.proofs.ClauseNumbers.{row_number, cover_number}

-- the rows of a node are within those of all nodes
pub rows_within : (net : Network) (v : ℕ) → v < length net.nodes → rows_before net v + length (node_at net v).rows ≤ row_count net
rows_within net v lt = sum_by_more_le (λ (node : Node). length node.rows) net.nodes v no_node lt

-- the clause with this number gives a row its value
pub row_step : (net : Network) (cells : CellsValue) (v r number asked : ℕ) (e : Evaluated) (hits : Bool) (marks : List Mark) (ss : List ℕ) → v < length net.nodes
    → r < length (node_at net v).rows → number ≡ first_of_row net v r → IsRowValue e (row_literals marks ss) hits asked
    → marks ≡ row_at net v r → ss ≡ (node_at net v).fan_ins
    → (number + asked ≤ length (circuits_of net cells))
    × IsForced e (literal (row_variable net v r) hits) (clause_numbered (circuits_of net cells) (number + asked))
row_step net cells v r number asked e hits marks ss lt row at value marks_are ss_are =
    let asks = row_literals (row_at net v r) (node_at net v).fan_ins in
    let own : IsRowValue e asks hits asked =
    subst (λ (m : List Mark). IsRowValue e (row_literals m (node_at net v).fan_ins) hits asked) marks_are
    (subst (λ (s : List ℕ). IsRowValue e (row_literals marks s) hits asked) ss_are value) in
    let forced = forced_row e (row_variable net v r) asks hits asked own in
    let numbered = row_number net cells v r asked lt row forced.0 in
    let same : number + asked ≡ first_of_row net v r + asked = omega arith in
    let most = numbered.0 in (
      omega arith,
      subst (IsForced e (literal (row_variable net v r) hits)) (sym (ap (clause_numbered (circuits_of net cells)) same ∙ numbered.1))
          (forced_set e (literal (row_variable net v r) hits) (get_or (row_clauses net v r) asked []) forced.1),
    )

-- one row more hits or doesn't
pub hit_more : (net : Network) (v r : ℕ) (before after : Evaluated) (hit : Option ℕ) (hits : Bool) → IsHit net v before r hit
    → ((u : ℕ) → IsRowOf net v r u → value_of after.values u ≡ value_of before.values u)
    → value_of after.values (row_variable net v r) ≡ hits → IsHit net v after (r + 1) (later hit r hits)
hit_more net v r before after hit true h kept own = (omega arith, own)
hit_more net v r before after (Some s) false h kept own = let less = h.0 in (omega arith, kept (row_variable net v s) (omega arith, omega arith) ∙ h.1)
hit_more net v r before after None false h kept own = λ s less. elim (cases_lt s r) [
  | inl below ↦ kept (row_variable net v s) (omega arith, omega arith) ∙ h s below
  | inr past ↦ ap (λ n. value_of after.values (row_variable net v n)) (let same : s ≡ r = omega arith in same) ∙ own
]

-- a variable of the first r + 1 rows is one of the first r, or the next
pub row_more : (net : Network) (v r u : ℕ) → IsRowOf net v (r + 1) u ↔ (IsRowOf net v r u ⊎ (u ≡ row_variable net v r))
row_more net v r u = (
  λ h. let low = h.0 in let high = h.1 in elim (cases_lt u (row_variable net v r)) [ inl below ↦ inl (low, below) | inr past ↦ inr (omega arith) ],
  λ h. elim h [ inl old ↦ (let low = old.0 in low, let high = old.1 in omega arith) | inr same ↦ (omega arith, omega arith) ],
)

-- ---- the node itself

-- a member of a list stands at a place
place_in : (xs : Lits) (x : Literal) → Has xs x → (i : ℕ) × (i < length xs) × (get_or xs i x ≡ x)
place_in [] x h = absurd h
place_in (y ∷ ys) x (inl e) = (0, omega arith, e)
place_in (y ∷ ys) x (inr h) = let rest = place_in ys x h in (suc rest.0, (let lt = rest.1 in omega arith), rest.2)

-- a member of the literals of rows
positive_in : (rows : ℕ) (f : ℕ → ℕ) (m : Literal) → Has (map positive (list_of rows f)) m → (r : ℕ) × (r < rows) × (m ≡ positive (f r))
positive_in rows f m h =
    let at = place_in (map positive (list_of rows f)) m h in
    let lt : at.0 < rows = let within = at.1 in omega (arith, length-map (list_of rows f) positive, length-list_of rows f) in
    (at.0, lt, sym at.2 ∙ get_or-map positive (list_of rows f) at.0 0 m (omega (arith, length-list_of rows f)) ∙ ap positive (get_or-list_of rows f at.0 0 lt))

-- The node's clause for the row that hits, or for none, leaves one value: that of the node.
forced_cover : (net : Network) (v : ℕ) (e : Evaluated) (hit : Option ℕ) → IsHit net v e (length (node_at net v).rows) hit
    → ((r : ℕ) → r < length (node_at net v).rows → Has e.order (row_variable net v r))
    → (cover_place hit ≤ length (node_at net v).rows)
    × IsForced e (literal (node_variable net v) (node_value (node_at net v).on hit))
    (get_or (cover_clauses (node_variable net v) (node_at net v).on (list_of (length (node_at net v).rows) (row_variable net v))) (cover_place hit) [])
forced_cover net v e (Some r) h known =
    let rows : ℕ = length (node_at net v).rows in
    let on = (node_at net v).on in
    let less = h.0 in
    let pair = λ (x : ℕ). literal (node_variable net v) on ∷ negative x ∷ [] in
    let hits : List ℕ = list_of rows (row_variable net v) in
    let first : Lits = literal (node_variable net v) (not on) ∷ map positive hits in
    let there : get_or (first ∷ map pair hits) (r + 1) [] ≡ pair (row_variable net v r) =
    rw add-one (get_or-map pair hits r 0 [] (omega (arith, length-list_of rows (row_variable net v))) ∙ ap pair (get_or-list_of rows (row_variable net v) r 0 less)) in
    let forced : IsForced e (literal (node_variable net v) on) (pair (row_variable net v r)) = record {
      implied = inl refl;
      others = λ m here. elim here [
        | inl same ↦ inl (sym same)
        | inr other ↦ elim other [
          | inl same ↦ inr (subst (IsFalseIn e) same (record { known = known r less; value = h.1 }))
          | inr none ↦ absurd none
        ]
      ];
    } in
    (omega arith, subst (IsForced e (literal (node_variable net v) on)) (sym there) forced)
forced_cover net v e None h known =
    let rows : ℕ = length (node_at net v).rows in
    let on = (node_at net v).on in (
      omega arith,
      record {
        implied = inl refl;
        others = λ m here. elim here [
          | inl same ↦ inl (sym same)
          | inr other ↦
              let at = positive_in rows (row_variable net v) m other in
              inr (subst (IsFalseIn e) (sym at.2) (record { known = known at.0 at.1; value = h at.0 at.1 }))
        ];
      },
    )

-- the clause with this number gives the node its value
pub cover_step : (net : Network) (cells : CellsValue) (v next : ℕ) (e : Evaluated) (hit : Option ℕ) → v < length net.nodes → next ≡ first_of_cover net v
    → IsHit net v e (length (node_at net v).rows) hit → ((r : ℕ) → r < length (node_at net v).rows → Has e.order (row_variable net v r))
    → (next + cover_place hit ≤ length (circuits_of net cells))
    × IsForced e (literal (node_variable net v) (node_value (node_at net v).on hit)) (clause_numbered (circuits_of net cells) (next + cover_place hit))
cover_step net cells v next e hit lt at h known =
    let forced = forced_cover net v e hit h known in
    let numbered = cover_number net cells v (cover_place hit) lt forced.0 in
    let l = literal (node_variable net v) (node_value (node_at net v).on hit) in
    let same : next + cover_place hit ≡ first_of_cover net v + cover_place hit = omega arith in
    let most = numbered.0 in (
      omega arith,
      subst (IsForced e l) (sym (ap (clause_numbered (circuits_of net cells)) same ∙ numbered.1))
          (forced_set e l
          (get_or (cover_clauses (node_variable net v) (node_at net v).on (list_of (length (node_at net v).rows) (row_variable net v))) (cover_place hit) []) forced.1),
    )

-- ---- all nodes

-- later nodes have later rows
rows_up : (net : Network) (w d : ℕ) → w + d ≤ length net.nodes → rows_before net w ≤ rows_before net (w + d)
rows_up net w zero le = let same = ap (rows_before net) (let e : w ≡ w + 0 = omega arith in e) in omega arith
rows_up net w (suc d) le =
    let rest = rows_up net w d (omega arith) in
    let more = sum_by_more (λ (node : Node). length node.rows) net.nodes (w + d) no_node (omega arith) in
    let same = ap (rows_before net) (let e : w + d + 1 ≡ w + suc d = omega arith in e) in
    omega arith

-- the rows of a node come before those of a later one
rows_apart : (net : Network) (w v : ℕ) → w < v → v ≤ length net.nodes → rows_before net w + length (node_at net w).rows ≤ rows_before net v
rows_apart net w v lt le =
    let up = rows_up net (w + 1) (v - (w + 1)) (omega arith) in
    let more = sum_by_more (λ (node : Node). length node.rows) net.nodes w no_node (omega arith) in
    let same = ap (rows_before net) (let e : w + 1 + (v - (w + 1)) ≡ v = omega arith in e) in
    omega arith

-- no variable is of two nodes
pub nodes_apart : (net : Network) (w v u : ℕ) → w < length net.nodes → v < length net.nodes → IsOfNode net w u → IsOfNode net v u → w ≡ v
nodes_apart net w v u w_lt v_lt (inl p) (inl q) =
    let low = p.0 in let high = p.1 in let from = q.0 in let to = q.1 in
    elim (cases_lt w v) [
      | inl less ↦ let apart = rows_apart net w v less (omega arith) in absurd (omega arith)
      | inr past ↦ elim (cases_lt v w) [
        | inl less ↦ let apart = rows_apart net v w less (omega arith) in absurd (omega arith)
        | inr other ↦ omega arith
      ]
    ]
nodes_apart net w v u w_lt v_lt (inl p) (inr q) = let low = p.0 in absurd (omega arith)
nodes_apart net w v u w_lt v_lt (inr p) (inl q) = let low = q.0 in absurd (omega arith)
nodes_apart net w v u w_lt v_lt (inr p) (inr q) = omega arith

-- the variables of a node stand behind those of the inputs
node_low : (net : Network) (v u : ℕ) → IsOfNode net v u → 2 + length net.inputs ≤ u
node_low net v u (inl p) = let low = p.0 in omega arith
node_low net v u (inr p) = omega arith

module _ (net : Network) (order : List ℕ) (f : List Lits) (before e : Evaluated) (j v : ℕ) (is_order : IsOrder net order) (lt : j < length order)
    (v_is : v ≡ get_or order j 0) (grows : Grows f before e (IsOfNodes net (take j order)))
    (inputs : (i : ℕ) → i < length net.inputs → Has before.order (signal_variable i))
    (fresh : (u : ℕ) → Has before.order u → u < 2 + length net.inputs) where
  -- it is a node
  pub order_within : v < length net.nodes
  order_within = let within = is_order.nodes.within j 0 lt in omega arith

  -- its fan-ins have values
  pub order_known : AreKnown e (node_at net v).fan_ins
  order_known s here =
      let all = is_order.after j lt in
      let own = All-Has (IsKnown net (take j order)) (node_at net (get_or order j 0)).fan_ins s all
      (subst (λ n. Has (node_at net n).fan_ins s) v_is here) in
      elim (cases_lt s (length net.inputs)) [
        | inl input ↦ (grows.known (signal_variable s)).1 (inl (inputs s input))
        | inr past ↦ elim own [
          | inl input ↦ absurd (omega arith)
          | inr node ↦ (grows.known (signal_variable s)).1
              (inr (s - length net.inputs, Contains-Has (take j order) (s - length net.inputs) node, inr (omega arith)))
        ]
      ]

  -- and it and its rows have none
  pub order_fresh : (u : ℕ) → Has e.order u → IsOfNode net v u → ⊥
  order_fresh u here own = elim ((grows.known u).0 here) [
    | inl old ↦ let less = fresh u old in let low = node_low net v u own in absurd (omega arith)
    | inr other ↦
        let at = place_in_take order j other.0 other.1 in
        let within = is_order.nodes.within at.0 0 at.2 in
        let w_is = at.3 in
        let less = at.1 in
        let same = nodes_apart net other.0 v u (omega arith) order_within other.2 own in
        let many = is_order.nodes.as_many in
        is_order.nodes.distinct at.0 j less (omega arith) (w_is ∙ same ∙ v_is)
  ]

-- one node more
pub nodes_more : (net : Network) (order : List ℕ) (j v u : ℕ) → j < length order → v ≡ get_or order j 0
    → IsOfNodes net (take (j + 1) order) u ↔ (IsOfNodes net (take j order) u ⊎ IsOfNode net v u)
nodes_more net order j v u lt v_is = (
  λ h. elim ((Has-take_more order j v h.0 lt (v_is ∙ get_or_default order j 0 v lt)).0 h.1) [
    | inl old ↦ inl (h.0, old, h.2)
    | inr same ↦ inr (subst (λ w. IsOfNode net w u) (sym same) h.2)
  ],
  λ h. elim h [
    | inl old ↦ (old.0, (Has-take_more order j v old.0 lt (v_is ∙ get_or_default order j 0 v lt)).1 (inl old.1), old.2)
    | inr own ↦ (v, (Has-take_more order j v v lt (v_is ∙ get_or_default order j 0 v lt)).1 (inr refl), own)
  ],
)

-- all nodes of an order are all nodes
pub nodes_all : (net : Network) (order : List ℕ) (j u : ℕ) → IsOrder net order → length order ≤ j → IsOfSomeNode net u ↔ IsOfNodes net (take j order) u
nodes_all net order j u is_order le = (
  λ h. (h.0, subst (λ (xs : List ℕ). Has xs h.0) (sym (take_all j order le)) (Contains-Has order h.0 (is_order.nodes.complete h.0 h.1)), h.2),
  λ h.
      let at = place_in_take order j h.0 h.1 in
      let within = is_order.nodes.within at.0 0 at.2 in
      let same = at.3 in (h.0, omega arith, h.2),
)
