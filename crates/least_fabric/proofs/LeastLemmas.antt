-- How many columns are taken, and the greatest of counts that are known one by one.
use Rattle.std.proofs.Common.{◌≡◌, ℕ, suc, ◌+◌, ◌<◌, ◌≤◌, max, List, [], ◌∷◌, length, get_or, refl, ap, ◌∙◌, arith}
use Rattle.fabric_defs.specs.Numbered.{list_of}
use Rattle.fabric_defs.specs.declared.kind.CellKind.TheVariants.{FourInputs}
use Rattle.fabric_defs.specs.declared.limits.TheConstants.{MAX_SIDE, MAX_TRACKS}
use Rattle.fabric_defs.specs.Geometries.{GeometryValue}
use Rattle.fabric_laws.proofs.NumberedLemmas.{list_of_elements}
use Rattle.map_defs.specs.declared.limits.TheConstants.{MAX_COUNT}
use Rattle.map_defs.specs.Mapped.{MappedValue}
use Rattle.route_defs.specs.declared.span.Span.{Span}
use Rattle.route_defs.specs.Demands.{columns_used, cells_in}
use Rattle.route_defs.specs.Spans.{need}
use Rattle.place_laws.proofs.RoomLemmas.{columns_used-lt}
use Rattle.least_fabric.specs.LeastFabrics.{greatest, within, limited_fabric, column_count, most_cells, most_live}

-- one more than the greatest column is how many columns are taken
greatest-columns : (columns : List ℕ) → greatest columns + 1 ≡ column_count columns
greatest-columns [] = refl
greatest-columns (c ∷ cs) = let rest = greatest-columns cs in omega (arith, rest)

-- the same of the number that was found
pub taken : (top : ℕ) (columns : List ℕ) → top ≡ greatest columns → top + 1 ≡ column_count columns
taken top columns e = ap (λ n. n + 1) e ∙ greatest-columns columns

-- each column is one of those that are taken
pub column-lt : (top : ℕ) (columns : List ℕ) → top ≡ greatest columns → (k : ℕ) → k < length columns → get_or columns k 0 < top + 1
column-lt top columns e k lt = omega (arith, columns_used-lt columns k lt, taken top columns e)

-- the greatest of numbers that are all below a count is below it, or there is none
greatest-lt : (count : ℕ) (ns : List ℕ) → ((k : ℕ) → k < length ns → get_or ns k 0 < count) → greatest ns + 1 ≤ max count 1
greatest-lt count [] h = omega arith
greatest-lt count (n ∷ ns) h =
    let first : n < count = h 0 (omega arith) in
    let rest : greatest ns + 1 ≤ max count 1 = greatest-lt count ns (λ k lt. h (suc k) (omega (arith, lt))) in
    omega (arith, first, rest)

-- so no more columns are taken than there may be cells
pub few-columns : (top count : ℕ) (columns : List ℕ) → top ≡ greatest columns → ((k : ℕ) → k < length columns → get_or columns k 0 < count)
    → count < MAX_COUNT → top + 1 < MAX_COUNT
few-columns top count columns e small few = omega (arith, e, greatest-lt count columns small, few)

-- numbers that a function gives have the greatest of its values
greatest-list : (n m : ℕ) (f : ℕ → ℕ) (ns : List ℕ) → length ns ≡ n → n ≡ m → ((i : ℕ) → i < n → get_or ns i 0 ≡ f i)
    → greatest ns ≡ greatest (list_of m f)
greatest-list n m f ns long same each =
    ap greatest (list_of_elements m f ns 0 (long ∙ same) (λ i lt. each i (omega (arith, lt, same))))

-- as many columns as are taken are the used ones, but at least one
within-count : (limit : ℕ) (columns : List ℕ) → within limit (column_count columns) ≡ within limit (columns_used columns)
within-count limit columns = omega arith

-- so what was counted gives the least fabric
pub least_is : (l : MappedValue) (columns counts needs : List ℕ) (spans : List Span) (g : GeometryValue) (top most live inputs outputs : ℕ)
    → g ≡ limited_fabric (top + 1) most live inputs outputs → top ≡ greatest columns
    → most ≡ greatest counts → length counts ≡ top + 1 → ((c : ℕ) → c < top + 1 → get_or counts c 0 ≡ cells_in columns c)
    → live ≡ greatest needs → length needs ≡ top + 1 + 1 → ((c : ℕ) → c < top + 1 + 1 → get_or needs c 0 ≡ need spans c)
    → inputs ≡ l.inputs → outputs ≡ length l.outputs
    → g ≡ limited_fabric (columns_used columns) (most_cells columns) (most_live columns spans) l.inputs (length l.outputs)
least_is l columns counts needs spans g top most live inputs outputs is e m all_counts each_count n all_needs each_need i o =
    let count : top + 1 ≡ column_count columns = taken top columns e in
    let cells : most ≡ most_cells columns =
    m ∙ greatest-list (top + 1) (column_count columns) (cells_in columns) counts all_counts count each_count in
    let tracks : live ≡ most_live columns spans =
    n ∙ greatest-list (top + 1 + 1) (column_count columns + 1) (need spans) needs all_needs (ap (λ k. k + 1) count) each_need in
    let with_columns : ℕ → GeometryValue = λ k. record {
      kind = FourInputs;
      columns = k;
      rows = within MAX_SIDE (most_cells columns);
      tracks = within MAX_TRACKS (most_live columns spans);
      input_pads = within MAX_SIDE l.inputs;
      output_pads = within MAX_SIDE (length l.outputs);
    } in
    is
    ∙ ap (λ k. limited_fabric k most live inputs outputs) count
    ∙ ap (λ k. limited_fabric (column_count columns) k live inputs outputs) cells
    ∙ ap (λ k. limited_fabric (column_count columns) (most_cells columns) k inputs outputs) tracks
    ∙ ap (λ k. limited_fabric (column_count columns) (most_cells columns) (most_live columns spans) k outputs) i
    ∙ ap (λ k. limited_fabric (column_count columns) (most_cells columns) (most_live columns spans) l.inputs k) o
    ∙ ap with_columns (within-count MAX_SIDE columns)
