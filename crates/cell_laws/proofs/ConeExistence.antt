-- Each list of cells that listen to lower numbers only has a cone: the cells that the output pads
-- reach in a number of steps.
use Rattle.std.proofs.Common.{◌≡◌, ℕ, zero, suc, ◌+◌, ◌<◌, ◌≤◌, ◌⊎◌, inl, inr, Bool, true, false, List, [], ◌∷◌, length, refl, subst, arith}
use Rattle.std.proofs.lemmas.Bool.{cases_eq, cases_order}
use Rattle.clause_defs.specs.Clauses.{Has}
use Rattle.cell_defs.specs.declared.source.Source.{Source}
use Rattle.cell_defs.specs.declared.source.Source.TheVariants.{Zero, Pad, Cell}
use Rattle.cell_defs.specs.Cells.{CellsValue, cell_at, AreCells}
use Rattle.cell_defs.specs.Cones.{IsClosed, IsCone}
use Rattle.cell_laws.proofs.CellEquations.{listens_below}
use Rattle.cell_laws.proofs.CellsLemmas.{output_cell-lt}

-- the source is this cell or not
is_cell_cases : (s : Source) (k : ℕ) → (s ≡ Cell k) ⊎ (s ≡ Cell k → ⊥)
is_cell_cases Zero k = inr (λ e. cc)
is_cell_cases (Pad p) k = inr (λ e. cc)
is_cell_cases (Cell m) k =
    elim (cases_eq m k) [ inl e ↦ inl (let same = e in cc) | inr other ↦ inr (λ e. other (let same = e in cc)) ]

-- the sources have this cell or not
has_cell_cases : (ss : List Source) (k : ℕ) → Has ss (Cell k) ⊎ (Has ss (Cell k) → ⊥)
has_cell_cases [] k = inr (λ h. h)
has_cell_cases (s ∷ ss) k =
    elim (is_cell_cases s k) [
      | inl e ↦ inl (inl e)
      | inr other ↦ elim (has_cell_cases ss k) [ inl h ↦ inl (inr h) | inr none ↦ inr (λ h. elim h [ inl e ↦ other e | inr i ↦ none i ]) ]
    ]

-- something holds of a number below n, or of none
below_cases : (P : ℕ → Type 0) → ((m : ℕ) → P m ⊎ (P m → ⊥)) → (n : ℕ)
    → ((m : ℕ) × (m < n) × P m) ⊎ ((m : ℕ) → m < n → P m → ⊥)
below_cases P cases zero = inr (λ m lt h. absurd (omega arith))
below_cases P cases (suc n) =
    elim (cases n) [
      | inl here ↦ inl (n, omega arith, here)
      | inr not ↦ elim (below_cases P cases n) [
        | inl found ↦ inl (found.0, let lt = found.1 in omega arith, found.2)
        | inr none ↦ inr (λ m lt h. elim (cases_order m n) [
          | inl e ↦ not (subst P e h)
          | inr other ↦ elim other [ inl below ↦ none m below h | inr above ↦ absurd (omega arith) ]
        ])
      ]
    ]

-- the output pads reach cell k in at most so many steps
abbrev Reached : CellsValue → ℕ → ℕ → Type 0
Reached cells zero k = ⊥
Reached cells (suc steps) k =
    Has cells.outputs (Cell k)
    ⊎ ((m : ℕ) × (m < length cells.cells) × (Reached cells steps m × Has (cell_at cells m).pins (Cell k)))

-- what cell m, which is reached, has among its pins
abbrev Passes : CellsValue → ℕ → ℕ → ℕ → Type 0
Passes cells steps k m = Reached cells steps m × Has (cell_at cells m).pins (Cell k)

-- a cell passes it on or not
passes_cases : (cells : CellsValue) (steps k m : ℕ) → Reached cells steps m ⊎ (Reached cells steps m → ⊥)
    → Passes cells steps k m ⊎ (Passes cells steps k m → ⊥)
passes_cases cells steps k m (inr not) = inr (λ h. not h.0)
passes_cases cells steps k m (inl there) =
    elim (has_cell_cases (cell_at cells m).pins k) [ inl has ↦ inl (there, has) | inr lacks ↦ inr (λ h. lacks h.1) ]

-- a cell is reached in so many steps or not
reached_cases : (cells : CellsValue) (steps k : ℕ) → Reached cells steps k ⊎ (Reached cells steps k → ⊥)
reached_cases cells zero k = inr (λ h. h)
reached_cases cells (suc steps) k =
    elim (has_cell_cases cells.outputs k) [
      | inl has ↦ inl (inl has)
      | inr lacks ↦ elim (below_cases (Passes cells steps k) (λ m. passes_cases cells steps k m (reached_cases cells steps m)) (length cells.cells)) [
        | inl found ↦ inl (inr found)
        | inr none ↦ inr (λ h. elim h [ inl has ↦ lacks has | inr found ↦ none found.0 found.1 found.2 ])
      ]
    ]

-- an answer as a test
abbrev is_yes : {P : Type 0} → P ⊎ (P → ⊥) → Bool
is_yes (inl h) = true
is_yes (inr h) = false

-- the test is true where the answer is yes
yes_where : {P : Type 0} (answer : P ⊎ (P → ⊥)) → P → is_yes answer ≡ true
yes_where (inl h) p = refl
yes_where (inr h) p = absurd (h p)

-- and only there
yes_only : {P : Type 0} (answer : P ⊎ (P → ⊥)) → is_yes answer ≡ true → P
yes_only (inl h) e = h
yes_only (inr h) e = absurd cc

-- a cell with few cells above it is reached in few steps, if at all
few_steps : (cells : CellsValue) (steps k : ℕ) → AreCells cells → length cells.cells ≤ k + steps → Reached cells (suc steps) k → Reached cells steps k
few_steps cells zero k are_cells le (inl has) = absurd (let lt = output_cell-lt cells k are_cells has in omega arith)
few_steps cells zero k are_cells le (inr found) = found.2.0
few_steps cells (suc steps) k are_cells le (inl has) = inl has
few_steps cells (suc steps) k are_cells le (inr found) =
    let lt : k < found.0 = listens_below cells found.0 k are_cells found.1 found.2.1 in
    inr (found.0, found.1, (few_steps cells steps found.0 are_cells (omega arith) found.2.0, found.2.1))

-- what is reached is in each closed set
reached_closed : (cells : CellsValue) (set : ℕ → Bool) (steps k : ℕ) → IsClosed cells set → Reached cells steps k → set k ≡ true
reached_closed cells set zero k closed h = absurd h
reached_closed cells set (suc steps) k closed (inl has) = closed.outputs k has
reached_closed cells set (suc steps) k closed (inr found) =
    closed.pins found.0 k found.1 (reached_closed cells set steps found.0 closed found.2.0) found.2.1

-- what is reached in as many steps as there are cells is the least closed set
pub cone_exists : (cells : CellsValue) → AreCells cells → (set : ℕ → Bool) × IsCone cells set
cone_exists cells are_cells =
    let steps = length cells.cells in (
      λ k. is_yes (reached_cases cells steps k),
      record {
        closed = record {
          outputs = λ k has. yes_where (reached_cases cells steps k) (few_steps cells steps k are_cells (omega arith) (inl has));
          pins = λ m k lt member has. yes_where (reached_cases cells steps k) (few_steps cells steps k are_cells (omega arith)
              (inr (m, lt, (yes_only (reached_cases cells steps m) member, has))));
        };
        least = λ other closed k member. reached_closed cells other steps k closed (yes_only (reached_cases cells steps k) member);
      },
    )
