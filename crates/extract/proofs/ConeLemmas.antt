-- Marks on cells, and the pass that finds the cone.
use Rattle.std.proofs.Common.{◌≡◌, ℕ, zero, suc, ◌+◌, ◌<◌, ◌≤◌, ◌↔◌, ◌⊎◌, inl, inr, Bool, true, false, List, [], ◌∷◌, ◌++◌, length, take, get_or, set, ap, subst, sym, ◌∙◌, ⊎_elim, arith}
use Rattle.std.proofs.lemmas.List.{length-set, get_or-set_same, get_or-set_other, take_more}
use Rattle.std.proofs.lemmas.Bool.{cases_lt, cases_eq}
use Rattle.clause_defs.specs.Clauses.{Has}
use Rattle.fabric_defs.specs.Geometries.{cell_count}
use Rattle.cell_defs.specs.declared.source.Source.{Source}
use Rattle.cell_defs.specs.declared.source.Source.TheVariants.{Zero, Cell}
use Rattle.cell_defs.specs.Cells.{CellsValue, cell_at, IsSourceBelow, AreCells}
use Rattle.cell_defs.specs.Cones.{IsClosed, HasCone, with_cone, in_cone}
use Rattle.cell_laws.proofs.ConeLemmas.{IsCone-with_cone}
use Rattle.cell_laws.proofs.SourceBits.{All-Has}
use Rattle.cell_laws.proofs.CellEquations.{listens_below}
use Rattle.extract.specs.Walks.{IsMarked, AreCellsBelow}

-- beside those that were marked before, the cells among these sources are marked
pub record IsMarkedUpTo (before : List Bool) (sources : List Source) (flags : List Bool) : Type 0 where
  pub cells : length flags ≡ length before
  pub marks : (n : ℕ) → IsMarked flags n ↔ (IsMarked before n ⊎ Has sources (Cell n))

-- the cells from this one on whose flags are set have the cells of their pins flagged, and nothing is flagged
-- that isn't in every closed set
pub record IsSwept (l : CellsValue) (cell : ℕ) (flags : List Bool) : Type 0 where
  pub cells : length flags ≡ cell_count l.geometry
  pub outputs : (n : ℕ) → Has l.outputs (Cell n) → IsMarked flags n
  pub pins : (m n : ℕ) → cell ≤ m → m < cell_count l.geometry → IsMarked flags m → Has (cell_at l m).pins (Cell n) → IsMarked flags n
  pub least : (other : ℕ → Bool) → IsClosed l other → (n : ℕ) → IsMarked flags n → other n ≡ true

-- the members of a list with one more element
Has-push : {X : Type 0} (xs : List X) (x y : X) → Has (xs ++ x ∷ []) y ↔ (Has xs y ⊎ (x ≡ y))
Has-push [] x y = (λ h. ⊎_elim (λ e. inr e) (λ n. absurd n) h, λ h. ⊎_elim (λ n. absurd n) (λ e. inl e) h)
Has-push (z ∷ xs) x y =
    let rest = Has-push xs x y in (
      λ h. ⊎_elim (λ e. inl (inl e)) (λ more. ⊎_elim (λ m. inl (inr m)) (λ e. inr e) (rest.0 more)) h,
      λ h. ⊎_elim (λ m. ⊎_elim (λ e. inl e) (λ more. inr (rest.1 (inl more))) m) (λ e. inr (rest.1 (inr e))) h,
    )

-- an element is a member
pub Has-get_or : {X : Type 0} (xs : List X) (i : ℕ) (d x : X) → i < length xs → get_or xs i d ≡ x → Has xs x
Has-get_or [] i d x lt e = absurd (omega arith)
Has-get_or (y ∷ xs) zero d x lt e = inl e
Has-get_or (y ∷ xs) (suc i) d x lt e = inr (Has-get_or xs i d x (omega arith) e)

-- a flag that is set
IsMarked-set : (flags : List Bool) (k n : ℕ) → k < length flags → IsMarked (set flags k true) n ↔ (IsMarked flags n ⊎ (k ≡ n))
IsMarked-set flags k n lt =
    ⊎_elim
    (λ (same : n ≡ k). (
      λ _. inr (sym same),
      λ _. ap (λ m. get_or (set flags k true) m false) same ∙ get_or-set_same flags k true false lt,
    ))
    (λ (other : n ≡ k → ⊥). (
      λ h. inl (sym (get_or-set_other flags k n true false other) ∙ h),
      λ h. ⊎_elim (λ m. get_or-set_other flags k n true false other ∙ m) (λ e. absurd (other (sym e))) h,
    ))
    (cases_eq n k)

-- sources that are one cell have one number
cell-injective : (k n : ℕ) → Cell k ≡ Cell n → k ≡ n
cell-injective k n e = cc

-- one more source, which is a cell
pub mark_more : (before flags : List Bool) (sources : List Source) (i k : ℕ) → i < length sources
    → get_or sources i Zero ≡ Cell k → k < length flags → IsMarkedUpTo before (take i sources) flags
    → IsMarkedUpTo before (take (i + 1) sources) (set flags k true)
mark_more before flags sources i k within is lt h =
    let e : take (i + 1) sources ≡ take i sources ++ Cell k ∷ [] =
    take_more sources i Zero within ∙ ap (λ s. take i sources ++ s ∷ []) is in
    let P : List Source → Type 0 = λ ss. IsMarkedUpTo before ss (set flags k true) in
    subst P (sym e)
    (record {
      cells = length-set flags k true ∙ h.cells;
      marks = λ n. let set_one = IsMarked-set flags k n lt in
          let more = Has-push (take i sources) (Cell k) (Cell n) in (
            λ m. ⊎_elim (λ old. ⊎_elim (λ b. inl b) (λ has. inr (more.1 (inl has))) ((h.marks n).0 old))
                (λ here. inr (more.1 (inr (ap Cell here)))) (set_one.0 m),
            λ m. ⊎_elim (λ b. set_one.1 (inl ((h.marks n).1 (inl b))))
                (λ has. ⊎_elim (λ old. set_one.1 (inl ((h.marks n).1 (inr old)))) (λ here. set_one.1 (inr (cell-injective k n here))) (more.0 has)) m,
          );
    })

-- one more source, which is no cell
pub mark_none : (before flags : List Bool) (sources : List Source) (i : ℕ) → i < length sources
    → ((k : ℕ) → get_or sources i Zero ≡ Cell k → ⊥) → IsMarkedUpTo before (take i sources) flags
    → IsMarkedUpTo before (take (i + 1) sources) flags
mark_none before flags sources i within none h =
    let source = get_or sources i Zero in
    let e : take (i + 1) sources ≡ take i sources ++ source ∷ [] = take_more sources i Zero within in
    let P : List Source → Type 0 = λ ss. IsMarkedUpTo before ss flags in
    subst P (sym e)
    (record {
      cells = h.cells;
      marks = λ n. let more = Has-push (take i sources) source (Cell n) in (
        λ m. ⊎_elim (λ b. inl b) (λ has. inr (more.1 (inl has))) ((h.marks n).0 m),
        λ m. ⊎_elim (λ b. (h.marks n).1 (inl b))
            (λ has. ⊎_elim (λ old. (h.marks n).1 (inr old)) (λ here. absurd (none n here)) (more.0 has)) m,
      );
    })

-- the pass goes on to a flagged cell, whose pins' cells are flagged in turn
pub sweep_more : (l : CellsValue) (cell : ℕ) (flags next : List Bool) → AreCells l → cell < cell_count l.geometry → IsMarked flags cell
    → length next ≡ length flags → ((n : ℕ) → IsMarked next n ↔ (IsMarked flags n ⊎ Has (cell_at l cell).pins (Cell n)))
    → IsSwept l (cell + 1) flags → IsSwept l cell next
sweep_more l cell flags next cells lt marked size marks h = record {
  cells = size ∙ h.cells;
  outputs = λ n has. (marks n).1 (inl (h.outputs n has));
  pins = λ m n le within member has. ⊎_elim
      (λ same. let P : ℕ → Type 0 = λ v. Has (cell_at l v).pins (Cell n) in (marks n).1 (inr (subst P same has)))
      (λ other. let after : cell + 1 ≤ m = ⊎_elim (λ less. omega arith) (λ more. more) (cases_lt m (cell + 1)) in
      ⊎_elim (λ old. (marks n).1 (inl (h.pins m n after within old has)))
      (λ below. let lower : m < cell = listens_below l cell m cells (omega (arith, cells.count)) below in absurd (omega arith))
      ((marks m).0 member))
      (cases_eq m cell);
  least = λ other closed n member. ⊎_elim (λ old. h.least other closed n old)
      (λ has. closed.pins cell n (omega (arith, cells.count)) (h.least other closed cell marked) has)
      ((marks n).0 member);
}

-- cells among the output pads have flags
pub outputs_below : (l : CellsValue) → AreCells l → AreCellsBelow (cell_count l.geometry) l.outputs
outputs_below l h n has = All-Has (IsSourceBelow l.geometry.input_pads (cell_count l.geometry)) l.outputs (Cell n) h.outputs has

-- and so have those among the pins of a cell
pub pins_below : (l : CellsValue) (cell : ℕ) → AreCells l → cell < cell_count l.geometry → AreCellsBelow (cell_count l.geometry) (cell_at l cell).pins
pins_below l cell h lt n has =
    let lower : n < cell = listens_below l cell n h (omega (arith, h.count)) has in
    let within : n < cell_count l.geometry = omega arith in within

-- after the first cell was passed, the flags are the cone
pub swept : (l : CellsValue) (flags : List Bool) → AreCells l → IsSwept l 0 flags → HasCone (with_cone l flags)
swept l flags cells h = record {
  count = h.cells;
  cone = IsCone-with_cone l flags (in_cone (with_cone l flags))
      (record {
        closed = record {
          outputs = h.outputs;
          pins = λ m k lt member has. h.pins m k (omega arith) (omega (arith, cells.count)) member has;
        };
        least = h.least;
      });
}
