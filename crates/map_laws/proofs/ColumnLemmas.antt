-- Settled cells have exactly one list of columns.
use Rattle.std.proofs.Common.{◌≡◌, ℕ, zero, suc, ◌+◌, ◌<◌, max, List, [], ◌∷◌, length, map, get_or, All, refl, ap, sym, ◌∙◌, arith}
use Rattle.std.proofs.lemmas.List.{get_or-map, length-map, ext_get_or}
use Rattle.cell_defs.specs.declared.source.Source.{Source}
use Rattle.cell_defs.specs.declared.source.Source.TheVariants.{Zero, Pad, Cell}
use Rattle.cell_defs.specs.Cells.{CellValue, no_cell}
use Rattle.map_defs.specs.Mapped.{MappedValue, mapped_cell, IsSourceAmong, IsSettledCell, AreSettled}
use Rattle.map_defs.specs.Columns.{column_after, AreColumns}

-- p and q agree at the cells that are settled after so many rounds
abbrev Agree : MappedValue → ℕ → List ℕ → List ℕ → Type 0
Agree l rounds p q = (k : ℕ) → IsSettledCell l rounds k → get_or p k 0 ≡ get_or q k 0

-- where two lists agree at the cells of a set, the column after pins among them is the same by both
column-agree : (inputs : ℕ) (P : ℕ → Type 0) (p q : List ℕ) (ss : List Source) → ((k : ℕ) → P k → get_or p k 0 ≡ get_or q k 0)
    → All (IsSourceAmong inputs P) ss → column_after p ss ≡ column_after q ss
column-agree inputs P p q [] f h = refl
column-agree inputs P p q (Zero ∷ ss) f h = column-agree inputs P p q ss f (λ k d lt. h (suc k) d (omega arith))
column-agree inputs P p q (Pad n ∷ ss) f h = column-agree inputs P p q ss f (λ k d lt. h (suc k) d (omega arith))
column-agree inputs P p q (Cell k ∷ ss) f h =
    ap (λ n. max (n + 1) (column_after p ss)) (f k (h 0 (Cell k) (omega arith)))
    ∙ ap (max (get_or q k 0 + 1)) (column-agree inputs P p q ss f (λ j d lt. h (suc j) d (omega arith)))

-- where they agree after so many rounds, a cell that is settled one round later has one column
after-agree : (l : MappedValue) (rounds : ℕ) (p q : List ℕ) (k : ℕ) → Agree l rounds p q → IsSettledCell l (suc rounds) k
    → column_after p (mapped_cell l k).pins ≡ column_after q (mapped_cell l k).pins
after-agree l rounds p q k h settled = column-agree l.inputs (IsSettledCell l rounds) p q (mapped_cell l k).pins h settled.1

-- the columns of all cells, from those of their pins
next_columns : MappedValue → List ℕ → List ℕ
next_columns l p = map (λ (cell : CellValue). column_after p cell.pins) l.cells

-- each cell has the column that comes after its pins
next_columns-at : (l : MappedValue) (p : List ℕ) (k : ℕ) → k < length l.cells
    → get_or (next_columns l p) k 0 ≡ column_after p (mapped_cell l k).pins
unfolding next_columns
next_columns-at l p k lt = get_or-map (λ (cell : CellValue). column_after p cell.pins) l.cells k no_cell 0 lt

-- there is a column for each cell
length-next_columns : (l : MappedValue) (p : List ℕ) → length (next_columns l p) ≡ length l.cells
unfolding next_columns
length-next_columns l p = length-map l.cells (λ (cell : CellValue). column_after p cell.pins)

-- the columns after so many rounds
columns_after : MappedValue → ℕ → List ℕ
columns_after l zero = next_columns l []
columns_after l (suc n) = next_columns l (columns_after l n)

-- after every round there is a column for each cell
length-columns_after : (l : MappedValue) (n : ℕ) → length (columns_after l n) ≡ length l.cells
unfolding columns_after
length-columns_after l zero = length-next_columns l []
length-columns_after l (suc n) = length-next_columns l (columns_after l n)

-- one more round gives each cell its column from those of the round before
columns_after-suc : (l : MappedValue) (n : ℕ) → columns_after l (suc n) ≡ next_columns l (columns_after l n)
unfolding columns_after
columns_after-suc l n = refl

-- one more round changes no settled cell
columns_after-agree : (l : MappedValue) (n : ℕ) → Agree l n (columns_after l (suc n)) (columns_after l n)
columns_after-agree l zero k settled = absurd settled
columns_after-agree l (suc n) k settled =
    ap (λ p. get_or p k 0) (columns_after-suc l (suc n))
    ∙ next_columns-at l (columns_after l (suc n)) k settled.0
    ∙ after-agree l n (columns_after l (suc n)) (columns_after l n) k (columns_after-agree l n) settled
    ∙ sym (next_columns-at l (columns_after l n) k settled.0)
    ∙ ap (λ p. get_or p k 0) (sym (columns_after-suc l n))

-- settled cells have columns
pub columns-exist : (l : MappedValue) → AreSettled l → (columns : List ℕ) × AreColumns l columns
columns-exist l settled =
    let n = settled.0 in (
      columns_after l n,
      record {
        count = length-columns_after l n;
        each = λ k lt.
            sym (columns_after-agree l n k (settled.1 k lt))
            ∙ ap (λ p. get_or p k 0) (columns_after-suc l n)
            ∙ next_columns-at l (columns_after l n) k lt;
      },
    )

-- two lists of columns agree at the cells that are settled after so many rounds
solutions-agree : (l : MappedValue) (a b : List ℕ) → AreColumns l a → AreColumns l b → (n : ℕ) → Agree l n a b
solutions-agree l a b p q zero k settled = absurd settled
solutions-agree l a b p q (suc n) k settled =
    p.each k settled.0
    ∙ after-agree l n a b k (solutions-agree l a b p q n) settled
    ∙ sym (q.each k settled.0)

-- and no others
pub columns-unique : (l : MappedValue) (a b : List ℕ) → AreSettled l → AreColumns l a → AreColumns l b → a ≡ b
columns-unique l a b settled p q =
    ext_get_or 0 a b (p.count ∙ sym q.count)
    (λ k lt. solutions-agree l a b p q settled.0 k (settled.1 k (omega (arith, p.count))))
