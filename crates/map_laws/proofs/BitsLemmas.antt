-- The equations of settled cells have exactly one solution.
use Rattle.std.proofs.Common.{◌≡◌, ℕ, zero, suc, ◌<◌, ◌≤◌, List, [], ◌∷◌, length, map, get_or, All, refl, ap, sym, ◌∙◌, arith}
use Rattle.std.proofs.lemmas.List.{get_or-map, length-map, ext_get_or}
use Rattle.fabric_defs.specs.Wirings.{table_bit}
use Rattle.cell_defs.specs.declared.source.Source.{Source}
use Rattle.cell_defs.specs.declared.source.Source.TheVariants.{Zero, Pad, Cell}
use Rattle.cell_defs.specs.Cells.{no_cell}
use Rattle.cell_defs.specs.Evaluation.{source_bit, source_bits, chosen_bit}
use Rattle.map_defs.specs.Mapped.{MappedValue, mapped_cell, IsSourceAmong, IsSettledCell, AreSettled}
use Rattle.map_defs.specs.Outputs.{MappedBits}

-- a source among the cells of a set is among those of a greater one
pub IsSourceAmong-more : (inputs : ℕ) (P Q : ℕ → Type 0) (s : Source) → ((k : ℕ) → P k → Q k) → IsSourceAmong inputs P s → IsSourceAmong inputs Q s
IsSourceAmong-more inputs P Q Zero f h = tt
IsSourceAmong-more inputs P Q (Pad p) f h = h
IsSourceAmong-more inputs P Q (Cell k) f h = f k h

-- a cell that is settled stays so in later rounds
pub IsSettledCell-later : (l : MappedValue) (m n k : ℕ) → m ≤ n → IsSettledCell l m k → IsSettledCell l n k
IsSettledCell-later l zero n k le h = absurd h
IsSettledCell-later l (suc m) zero k le h = absurd (omega arith)
IsSettledCell-later l (suc m) (suc n) k le h = (
  h.0,
  λ i d lt. IsSourceAmong-more l.inputs (IsSettledCell l m) (IsSettledCell l n) (get_or (mapped_cell l k).pins i d)
      (λ j settled. IsSettledCell-later l m n j (omega arith) settled) (h.1 i d lt),
)

-- p and q agree at the cells that are settled after so many rounds
abbrev Agree : MappedValue → ℕ → List ℕ → List ℕ → Type 0
Agree l rounds p q = (k : ℕ) → IsSettledCell l rounds k → get_or p k 0 ≡ get_or q k 0

-- where two lists agree at the cells of a set, a source among them has the same bit in both
source-agree : (inputs : ℕ) (P : ℕ → Type 0) (x p q : List ℕ) (s : Source) → ((k : ℕ) → P k → get_or p k 0 ≡ get_or q k 0)
    → IsSourceAmong inputs P s → source_bit x p s ≡ source_bit x q s
source-agree inputs P x p q Zero f h = refl
source-agree inputs P x p q (Pad n) f h = refl
source-agree inputs P x p q (Cell k) f h = f k h

-- and so has each of several sources
sources-agree : (inputs : ℕ) (P : ℕ → Type 0) (x p q : List ℕ) (ss : List Source) → ((k : ℕ) → P k → get_or p k 0 ≡ get_or q k 0)
    → All (IsSourceAmong inputs P) ss → source_bits x p ss ≡ source_bits x q ss
sources-agree inputs P x p q [] f h = refl
sources-agree inputs P x p q (s ∷ ss) f h =
    ap (λ n. n ∷ source_bits x p ss) (source-agree inputs P x p q s f (h 0 s (omega arith)))
    ∙ ap (λ l. source_bit x q s ∷ l) (sources-agree inputs P x p q ss f (λ k d lt. h (suc k) d (omega arith)))

-- where they agree after so many rounds, a cell that is settled one round later has one bit
chosen-agree : (l : MappedValue) (rounds : ℕ) (x p q : List ℕ) (k : ℕ) → Agree l rounds p q → IsSettledCell l (suc rounds) k
    → chosen_bit x p (mapped_cell l k) ≡ chosen_bit x q (mapped_cell l k)
chosen-agree l rounds x p q k h settled =
    ap (table_bit (mapped_cell l k).table)
    (sources-agree l.inputs (IsSettledCell l rounds) x p q (mapped_cell l k).pins h settled.1)

-- the bits of all cells, from those of their pins
next_bits : MappedValue → List ℕ → List ℕ → List ℕ
next_bits l x p = map (chosen_bit x p) l.cells

-- each cell has the bit that its pins choose
next_bits-at : (l : MappedValue) (x p : List ℕ) (k : ℕ) → k < length l.cells → get_or (next_bits l x p) k 0 ≡ chosen_bit x p (mapped_cell l k)
unfolding next_bits
next_bits-at l x p k lt = get_or-map (chosen_bit x p) l.cells k no_cell 0 lt

-- there is a bit for each cell
length-next_bits : (l : MappedValue) (x p : List ℕ) → length (next_bits l x p) ≡ length l.cells
unfolding next_bits
length-next_bits l x p = length-map l.cells (chosen_bit x p)

-- the bits after so many rounds
bits_after : MappedValue → List ℕ → ℕ → List ℕ
bits_after l x zero = next_bits l x []
bits_after l x (suc n) = next_bits l x (bits_after l x n)

-- after every round there is a bit for each cell
length-bits_after : (l : MappedValue) (x : List ℕ) (n : ℕ) → length (bits_after l x n) ≡ length l.cells
unfolding bits_after
length-bits_after l x zero = length-next_bits l x []
length-bits_after l x (suc n) = length-next_bits l x (bits_after l x n)

-- one more round gives each cell its bit from those of the round before
bits_after-suc : (l : MappedValue) (x : List ℕ) (n : ℕ) → bits_after l x (suc n) ≡ next_bits l x (bits_after l x n)
unfolding bits_after
bits_after-suc l x n = refl

-- one more round changes no settled cell
bits_after-agree : (l : MappedValue) (x : List ℕ) (n : ℕ) → Agree l n (bits_after l x (suc n)) (bits_after l x n)
bits_after-agree l x zero k settled = absurd settled
bits_after-agree l x (suc n) k settled =
    ap (λ p. get_or p k 0) (bits_after-suc l x (suc n))
    ∙ next_bits-at l x (bits_after l x (suc n)) k settled.0
    ∙ chosen-agree l n x (bits_after l x (suc n)) (bits_after l x n) k (bits_after-agree l x n) settled
    ∙ sym (next_bits-at l x (bits_after l x n) k settled.0)
    ∙ ap (λ p. get_or p k 0) (sym (bits_after-suc l x n))

-- settled cells have bits
pub bits-exist : (l : MappedValue) (x : List ℕ) → AreSettled l → (a : List ℕ) × MappedBits l x a
bits-exist l x settled =
    let n = settled.0 in (
      bits_after l x n,
      record {
        count = length-bits_after l x n;
        each = λ k lt.
            sym (bits_after-agree l x n k (settled.1 k lt))
            ∙ ap (λ p. get_or p k 0) (bits_after-suc l x n)
            ∙ next_bits-at l x (bits_after l x n) k lt;
      },
    )

-- two solutions agree at the cells that are settled after so many rounds
solutions-agree : (l : MappedValue) (x a b : List ℕ) → MappedBits l x a → MappedBits l x b → (n : ℕ) → Agree l n a b
solutions-agree l x a b p q zero k settled = absurd settled
solutions-agree l x a b p q (suc n) k settled =
    p.each k settled.0
    ∙ chosen-agree l n x a b k (solutions-agree l x a b p q n) settled
    ∙ sym (q.each k settled.0)

-- and no others
pub bits-unique : (l : MappedValue) (x a b : List ℕ) → AreSettled l → MappedBits l x a → MappedBits l x b → a ≡ b
bits-unique l x a b settled p q =
    ext_get_or 0 a b (p.count ∙ sym q.count)
    (λ k lt. solutions-agree l x a b p q settled.0 k (settled.1 k (omega (arith, p.count))))
