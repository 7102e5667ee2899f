-- How many words the clauses of a miter have, part by part.
use Rattle.std.proofs.Common.{◌≡◌, ℕ, zero, suc, ◌+◌, ◌*◌, ◌^◌, ◌<◌, ◌≤◌, inl, inr, Bool, not, List, [], ◌∷◌, ◌++◌, length, map, take, sum_by, refl, ◌∙◌, ap, arith, length-append, lit≤}
use Rattle.std.proofs.lemmas.Bool.{cases_Bool}
use Rattle.std.proofs.lemmas.List.{length-map, length_push}
use Rattle.std.proofs.lemmas.List.Sums.{sum_by-cons, sum_by-append, sum_by_more, sum_by-take-le}
use Rattle.blif_defs.specs.declared.mark.Mark.{Mark}
use Rattle.blif_defs.specs.declared.mark.Mark.TheVariants.{Zero, One, Any}
use Rattle.clause_defs.specs.Literals.{Literal, negation}
use Rattle.clause_defs.specs.Clauses.{Lits, clause_of}
use Rattle.clause_laws.proofs.ClauseOf.{clause_of-length}
use Rattle.net_defs.specs.Networks.{Node, Network, no_node, node_at}
use Rattle.net_defs.specs.Nets.{rows_size, IsNet}
use Rattle.fabric_defs.specs.declared.kind.CellKind.{CellKind}
use Rattle.fabric_defs.specs.declared.kind.CellKind.TheVariants.{FourInputs, SixInputs}
use Rattle.fabric_defs.specs.Kinds.{pins_of}
use Rattle.fabric_defs.specs.Numbered.{list_of, joined}
use Rattle.fabric_defs.specs.Geometries.{pin_count, table_bits}
use Rattle.fabric_laws.proofs.LayoutLemmas.{cell_count-le}
use Rattle.fabric_laws.proofs.NumberedLemmas.{length-list_of}
use Rattle.cell_defs.specs.Cells.{CellsValue, AreCells, cell_at}
use Rattle.cell_defs.specs.Cones.{in_cone}
use Rattle.miter_defs.specs.Numberings.{zero_variable, node_variable, row_variable, difference_variable}
use Rattle.miter_defs.specs.Miters.{literal, positive, negative, mark_literals, row_literals, hit_clauses, cover_clauses, row_at, node_clauses, table_clause, cell_clauses, output_clauses, circuit_clauses, some_difference, Miter}
use Rattle.miter_size.specs.declared.limits.TheConstants.{MAX_MITER_WORDS}
use Rattle.miter_size.specs.Sizes.{original_words, OriginalWords}

-- ---- the words of lists of clauses

-- the words of one clause more
words-cons : (c : Lits) (f : List Lits) → OriginalWords (c ∷ f) ≡ length c + 3 + OriginalWords f
words-cons c f = sum_by-cons original_words c f

-- the words of two lists
words-append : (f g : List Lits) → OriginalWords (f ++ g) ≡ OriginalWords f + OriginalWords g
words-append f g = sum_by-append original_words f g

-- clauses as sets have no more words
words-sets : (f : List Lits) → OriginalWords (map clause_of f) ≤ OriginalWords f
words-sets [] = omega arith
words-sets (c ∷ f) =
    omega (arith, words-cons c f, words-cons (clause_of c) (map clause_of f), clause_of-length c, words-sets f)

-- as many clauses of at most one size
words-list_of : (n size : ℕ) (f : ℕ → Lits) → ((i : ℕ) → i < n → length (f i) + 3 ≤ size) → OriginalWords (list_of n f) ≤ n * size
words-list_of zero size f h = omega arith
words-list_of (suc n) size f h =
    omega (
      arith,
      words-append (list_of n f) (f n ∷ []),
      words-cons (f n) [],
      h n (omega arith),
      words-list_of n size f (λ i lt. h i (omega arith)),
    )

-- as many parts of at most one size
words-joined : (n size : ℕ) (f : ℕ → List Lits) → ((i : ℕ) → i < n → OriginalWords (f i) ≤ size) → OriginalWords (joined n f) ≤ n * size
words-joined zero size f h = omega arith
words-joined (suc n) size f h =
    omega (
      arith,
      words-append (joined n f) (f n),
      h n (omega arith),
      words-joined n size f (λ i lt. h i (omega arith)),
    )

-- ---- nodes

-- a mark asks for one literal at most
asked_one : (m : Mark) (s : ℕ) → length (mark_literals m s) ≤ 1
asked_one Zero s = omega arith
asked_one One s = omega arith
asked_one Any s = omega arith

-- a row asks for no more literals than it has marks
asked-le : (row : List Mark) (ss : List ℕ) → length (row_literals row ss) ≤ length row
asked-le [] ss = omega arith
asked-le (m ∷ ms) [] = omega arith
asked-le (m ∷ ms) (s ∷ ss) =
    omega (arith, length-append (mark_literals m s) (row_literals ms ss), asked_one m s, asked-le ms ss)

-- clauses of two literals
words-pairs : (first : Literal) (ls : Lits) → OriginalWords (map (λ l. first ∷ l ∷ []) ls) ≡ 5 * length ls
words-pairs first [] = refl
words-pairs first (l ∷ ls) = omega (arith, words-cons (first ∷ l ∷ []) (map (λ m. first ∷ m ∷ []) ls), words-pairs first ls)

-- the clauses of a row
words-hit : (hit : ℕ) (asked : Lits) → OriginalWords (hit_clauses hit asked) ≡ 6 * length asked + 4
words-hit hit asked =
    let both : Lits = positive hit ∷ map negation asked in
    omega (
      arith,
      words-append (map (λ l. negative hit ∷ l ∷ []) asked) (both ∷ []),
      words-pairs (negative hit) asked,
      words-cons both [],
      length-map asked negation,
    )

-- for each row a clause of two literals
words-implied : (node : ℕ) (on : Bool) (hits : List ℕ) → OriginalWords (map (λ hit. literal node on ∷ negative hit ∷ []) hits) ≡ 5 * length hits
words-implied node on [] = refl
words-implied node on (h ∷ hs) =
    omega (arith, words-cons (literal node on ∷ negative h ∷ []) (map (λ hit. literal node on ∷ negative hit ∷ []) hs), words-implied node on hs)

-- the clauses of a node behind those of its rows
words-cover : (node : ℕ) (on : Bool) (hits : List ℕ) → OriginalWords (cover_clauses node on hits) ≡ 6 * length hits + 4
words-cover node on hits =
    let all : Lits = literal node (not on) ∷ map positive hits in
    omega (
      arith,
      words-cons all (map (λ hit. literal node on ∷ negative hit ∷ []) hits),
      length-map hits positive,
      words-implied node on hits,
    )

module _ (net : Network) (v : ℕ) where
  -- the clauses of row r
  of_row : ℕ → List Lits
  of_row r = hit_clauses (row_variable net v r) (row_literals (row_at net v r) (node_at net v).fan_ins)

  -- the clauses of the first rows have six words for each mark, and four for each row
  words-rows : (n : ℕ) → n ≤ length (node_at net v).rows
      → OriginalWords (joined n of_row) + 8 * n ≤ 6 * sum_by (λ row. length row + 2) (take n (node_at net v).rows)
  unfolding of_row
  words-rows zero le = omega arith
  words-rows (suc n) le =
      let rows : List (List Mark) = (node_at net v).rows in
      let asked : Lits = row_literals (row_at net v n) (node_at net v).fan_ins in
      let counted : sum_by (λ row. length row + 2) (take (suc n) rows) ≡ sum_by (λ row. length row + 2) (take n rows) + (length (row_at net v n) + 2) =
      ap (λ m. sum_by (λ (row : List Mark). length row + 2) (take m rows)) (let next : suc n ≡ n + 1 = omega arith in next)
      ∙ sum_by_more (λ (row : List Mark). length row + 2) rows n [] (omega arith) in
      omega (
        arith,
        words-append (joined n of_row) (of_row n),
        words-hit (row_variable net v n) asked,
        asked-le (row_at net v n) (node_at net v).fan_ins,
        words-rows n (omega arith),
        counted,
      )

  -- a node has six words for each mark and for half of each row, and four more
  pub words-node : OriginalWords (node_clauses net v) ≤ 6 * rows_size (node_at net v).rows + 4
  unfolding of_row
  words-node =
      let rows : List (List Mark) = (node_at net v).rows in
      let hits : List ℕ = list_of (length rows) (row_variable net v) in
      omega (
        arith,
        words-append (joined (length rows) of_row) (cover_clauses (node_variable net v) (node_at net v).on hits),
        words-rows (length rows) (omega arith),
        sum_by-take-le (λ (row : List Mark). length row + 2) rows (length rows),
        words-cover (node_variable net v) (node_at net v).on hits,
        length-list_of (length rows) (row_variable net v),
      )

-- the first nodes
pub words-nodes : (net : Network) (n : ℕ) → n ≤ length net.nodes
    → OriginalWords (joined n (node_clauses net)) ≤ 6 * sum_by (λ (node : Node). rows_size node.rows) (take n net.nodes) + 4 * n
words-nodes net zero le = omega arith
words-nodes net (suc n) le =
    let size = λ (node : Node). rows_size node.rows in
    let counted : sum_by size (take (suc n) net.nodes) ≡ sum_by size (take n net.nodes) + rows_size (node_at net n).rows =
    ap (λ m. sum_by size (take m net.nodes)) (let next : suc n ≡ n + 1 = omega arith in next)
    ∙ sum_by_more size net.nodes n no_node (omega arith) in
    omega (
      arith,
      words-append (joined n (node_clauses net)) (node_clauses net n),
      words-node net n,
      words-nodes net n (omega arith),
      counted,
    )

-- ---- cells

-- a table has 64 bits at most, and each of its clauses ten words
table_words-le : (kind : CellKind) → 2 ^ pins_of kind * (pins_of kind + 4) ≤ 640
table_words-le FourInputs = lit≤ tt
table_words-le SixInputs = lit≤ tt

-- a clause of a cell's table has a literal for each pin and one more
length-table_clause : (net : Network) (cells : CellsValue) (k n : ℕ) → length (table_clause net cells k n) ≡ length (cell_at cells k).pins + 1
length-table_clause net cells k n = one_more _ _ _
  where
    one_more : {X : Type 0} (m : ℕ) (f : ℕ → X) (x : X) → length (list_of m f ++ x ∷ []) ≡ m + 1
    one_more m f x = length_push (list_of m f) x ∙ ap (λ i. i + 1) (length-list_of m f)

-- a cell has at most 640 words
words-cell : (net : Network) (cells : CellsValue) (k : ℕ) → length (cell_at cells k).pins ≡ pin_count cells.geometry → OriginalWords (cell_clauses net cells k) ≤ 640
words-cell net cells k pins = elim (cases_Bool (in_cone cells k)) [
  | inl inside ↦
      rw inside (omega (
        arith,
        words-list_of (table_bits cells.geometry) (pin_count cells.geometry + 4) (table_clause net cells k)
            (λ n lt. omega (arith, length-table_clause net cells k n)),
        table_words-le cells.geometry.kind,
      ))
  | inr outside ↦ rw outside (omega arith)
]

-- all cells
pub words-cells : (net : Network) (cells : CellsValue) → AreCells cells → OriginalWords (joined (length cells.cells) (cell_clauses net cells)) ≤ 4096 * 640
words-cells net cells h =
    let few : length cells.cells ≤ 4096 = omega (arith, cell_count-le cells.geometry h.geometry, h.count) in
    omega (
      arith,
      words-joined (length cells.cells) 640 (cell_clauses net cells)
          (λ k lt. words-cell net cells k (h.each k (omega (arith, h.count))).pins),
      few,
    )

-- ---- the whole miter

-- the miter of a net and cells within the limits
pub words-miter : (net : Network) (cells : CellsValue) → IsNet net → AreCells cells → OriginalWords (Miter net cells).clauses ≤ MAX_MITER_WORDS
words-miter net cells n h =
    let nodes : List Lits = joined (length net.nodes) (node_clauses net) in
    let parts : List Lits = joined (length cells.cells) (cell_clauses net cells) in
    let outputs : List Lits = joined (length net.outputs) (output_clauses net cells) in
    let last : Lits = some_difference net cells in
    let size = λ (node : Node). rows_size node.rows in
    omega (
      arith,
      words-sets (circuit_clauses net cells ++ last ∷ []),
      words-append (circuit_clauses net cells) (last ∷ []),
      words-append (((negative zero_variable ∷ []) ∷ nodes) ++ parts) outputs,
      words-append ((negative zero_variable ∷ []) ∷ nodes) parts,
      words-cons (negative zero_variable ∷ []) nodes,
      words-cons last [],
      words-nodes net (length net.nodes) (omega arith),
      sum_by-take-le size net.nodes (length net.nodes),
      n.rows_within,
      n.signals_within,
      words-cells net cells h,
      words-joined (length net.outputs) 24 (output_clauses net cells) (λ o lt. omega arith),
      n.outputs_within,
      length-list_of (length net.outputs) (λ o. positive (difference_variable net cells o)),
    )
