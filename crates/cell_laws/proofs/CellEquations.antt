-- The equations of cells have one solution, since cells listen to lower numbers only.
use Rattle.std.proofs.Common.{◌≡◌, ℕ, zero, suc, ◌<◌, List, [], ◌∷◌, ◌++◌, length, get_or, refl, ap, subst, sym, ◌∙◌, ⊎_elim, arith}
use Rattle.std.proofs.lemmas.List.{get_or_append_left, get_or_push, length_push, ext_get_or}
use Rattle.std.proofs.lemmas.Bool.{cases_lt}
use Rattle.clause_defs.specs.Clauses.{Has}
use Rattle.fabric_defs.specs.Wirings.{table_bit}
use Rattle.cell_defs.specs.declared.source.Source.TheVariants.{Cell}
use Rattle.cell_defs.specs.Cells.{CellsValue, cell_at, IsSourceBelow, AreCells}
use Rattle.cell_defs.specs.Evaluation.{source_bits, chosen_bit, IsCellBit, CellBits}
use Rattle.cell_laws.proofs.SourceBits.{All-Has, source_bits-same}

-- a set of cells that has those to which its members listen
abbrev pub IsClosedUnder : CellsValue → (ℕ → Type 0) → Type 0
IsClosedUnder cells P = (m k : ℕ) → m < length cells.cells → P m → Has (cell_at cells m).pins (Cell k) → P k

-- cells listen to lower numbers
pub listens_below : (cells : CellsValue) (m k : ℕ) → AreCells cells → m < length cells.cells → Has (cell_at cells m).pins (Cell k) → k < m
listens_below cells m k h lt has =
    All-Has (IsSourceBelow cells.geometry.input_pads m) (cell_at cells m).pins (Cell k) (h.each m (omega (arith, h.count))).sources has

-- lists of bits that obey the equations of such a set agree in it
pub equations-agree : (cells : CellsValue) (x a b : List ℕ) (P : ℕ → Type 0) → AreCells cells → IsClosedUnder cells P
    → ((k : ℕ) → k < length cells.cells → P k → IsCellBit cells x a k)
    → ((k : ℕ) → k < length cells.cells → P k → IsCellBit cells x b k)
    → (n k : ℕ) → k < n → k < length cells.cells → P k → get_or a k 0 ≡ get_or b k 0
equations-agree cells x a b P h closed p q zero k below lt member = absurd (omega arith)
equations-agree cells x a b P h closed p q (suc n) k below lt member =
    p k lt member
    ∙ ap (table_bit (cell_at cells k).table)
    (source_bits-same x a b (cell_at cells k).pins
    (λ j has. let lower : j < k = listens_below cells k j h lt has in
    equations-agree cells x a b P h closed p q n j (omega arith) (omega arith) (closed k j lt member has)))
    ∙ sym (q k lt member)

-- so there is at most one solution
pub bits-unique : (cells : CellsValue) (x a b : List ℕ) → AreCells cells → CellBits cells x a → CellBits cells x b → a ≡ b
bits-unique cells x a b h p q =
    ext_get_or 0 a b (p.count ∙ sym q.count)
    (λ k lt. let within : k < length cells.cells = omega (arith, p.count) in
    equations-agree cells x a b (λ _. Unit {0}) h (λ _ _ _ _ _. tt) (λ j less _. p.each j less) (λ j less _. q.each j less)
    (length cells.cells) k within within tt)

-- the bits of the first n cells, each from those before it
bits_below : CellsValue → List ℕ → ℕ → List ℕ
bits_below cells x zero = []
bits_below cells x (suc n) =
    bits_below cells x n ++ chosen_bit x (bits_below cells x n) (cell_at cells n) ∷ []

-- there are n of them
length-bits_below : (cells : CellsValue) (x : List ℕ) (n : ℕ) → length (bits_below cells x n) ≡ n
unfolding bits_below
length-bits_below cells x zero = refl
length-bits_below cells x (suc n) = length_push (bits_below cells x n) _ ∙ omega (arith, length-bits_below cells x n)

-- a further cell changes no bit before it
bits_below-more : (cells : CellsValue) (x : List ℕ) (n k : ℕ) → k < n → get_or (bits_below cells x (suc n)) k 0 ≡ get_or (bits_below cells x n) k 0
unfolding bits_below
bits_below-more cells x n k lt = get_or_append_left (bits_below cells x n) _ 0 k (omega (arith, length-bits_below cells x n))

-- and so none of the sources before it
pins-more : (cells : CellsValue) (x : List ℕ) (n k : ℕ) → AreCells cells → k < length cells.cells → k < suc n
    → source_bits x (bits_below cells x n) (cell_at cells k).pins ≡ source_bits x (bits_below cells x (suc n)) (cell_at cells k).pins
pins-more cells x n k h lt le =
    source_bits-same x (bits_below cells x n) (bits_below cells x (suc n)) (cell_at cells k).pins
    (λ j has. let lower : j < k = listens_below cells k j h lt has in sym (bits_below-more cells x n j (omega arith)))

-- the bit of the last of them
last_bit : (cells : CellsValue) (x : List ℕ) (n : ℕ)
    → get_or (bits_below cells x (suc n)) n 0 ≡ chosen_bit x (bits_below cells x n) (cell_at cells n)
unfolding bits_below
last_bit cells x n = get_or_push (bits_below cells x n) _ 0 n (length-bits_below cells x n)

-- they obey the equations of the first n cells
bits_below-obey : (cells : CellsValue) (x : List ℕ) → AreCells cells → (n k : ℕ) → k < n → k < length cells.cells
    → IsCellBit cells x (bits_below cells x n) k
bits_below-obey cells x h zero k below lt = absurd (omega arith)
bits_below-obey cells x h (suc n) k below lt =
    ⊎_elim
    (λ here. bits_below-more cells x n k here
    ∙ bits_below-obey cells x h n k here lt
    ∙ ap (table_bit (cell_at cells k).table) (pins-more cells x n k h lt below))
    (λ past. let e : n ≡ k = omega arith in
    let P : ℕ → Type 0 = λ m. IsCellBit cells x (bits_below cells x (suc n)) m in
    subst P e (last_bit cells x n
    ∙ ap (table_bit (cell_at cells n).table) (pins-more cells x n n h (omega arith) (omega arith))))
    (cases_lt k n)

-- there is a solution
pub bits-exist : (cells : CellsValue) (x : List ℕ) → AreCells cells → (a : List ℕ) × CellBits cells x a
bits-exist cells x h =
    let n = length cells.cells in
    (bits_below cells x n, record { count = length-bits_below cells x n; each = λ k lt. bits_below-obey cells x h n k lt lt })
