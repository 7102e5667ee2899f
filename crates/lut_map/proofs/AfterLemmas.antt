-- What the pins of a cell say of its column.
use Rattle.std.proofs.Common.{◌≡◌, ℕ, ◌+◌, ◌<◌, ◌≤◌, max, inl, inr, ⊎_elim, List, [], ◌∷◌, get_or, refl, ap, sym, ◌∙◌, arith}
use Rattle.clause_defs.specs.Clauses.{Has}
use Rattle.cell_defs.specs.declared.source.Source.{Source}
use Rattle.cell_defs.specs.declared.source.Source.TheVariants.{Zero, Pad, Cell}
use Rattle.map_defs.specs.Columns.{column_after}
use Rattle.lut_map.specs.declared.columns.State.{State}
use Rattle.lut_map.specs.declared.columns.State.TheVariants.{New, Open, Done}
use Rattle.lut_map.specs.declared.columns.Next.{Next}
use Rattle.lut_map.specs.declared.columns.Next.TheVariants.{Wait, Column}
use Rattle.lut_map.specs.Search.{state_at, after_state, and_then, after_pins}

-- the number of a cell
number : Source → ℕ
number Zero = 0
number (Pad p) = 0
number (Cell k) = k

-- the cell that is waited for
waited : Next → ℕ
waited (Wait k) = k
waited (Column column) = 0

-- the column that is told
told : Next → ℕ
told (Wait k) = 0
told (Column column) = column

-- a cell to which a cell listens has a lower column
pub column-below : (columns : List ℕ) (pins : List Source) (k : ℕ) → Has pins (Cell k) → get_or columns k 0 < column_after columns pins
unfolding number
column-below columns [] k h = absurd h
column-below columns (Zero ∷ pins) k h = ⊎_elim (λ e. absurd cc) (λ there. column-below columns pins k there) h
column-below columns (Pad p ∷ pins) k h = ⊎_elim (λ e. absurd cc) (λ there. column-below columns pins k there) h
column-below columns (Cell j ∷ pins) k h =
    ⊎_elim
    (λ e. let same : get_or columns j 0 ≡ get_or columns k 0 = ap (λ s. get_or columns (number s) 0) e in
    omega (arith, same))
    (λ there. let rest : get_or columns k 0 < column_after columns pins = column-below columns pins k there in
    omega (arith, rest))
    h

-- the cell that is waited for is a pin, and its column isn't known
pub record Waits (states : List State) (pins : List Source) (k : ℕ) : Type 0 where
  pub listens : Has pins (Cell k)
  pub unknown : (column : ℕ) → state_at states k ≡ Done column → ⊥

-- what is waited for later
waits-later : (states : List State) (source : Source) (rest : List Source) (k : ℕ) → Waits states rest k → Waits states (source ∷ rest) k
waits-later states source rest k h = record { listens = inr h.listens; unknown = h.unknown }

-- what a cell in this state has waited for
waits-state : (states : List State) (n j : ℕ) (rest : List Source) (k : ℕ) (state : State) → state_at states j ≡ state
    → ((m : ℕ) → after_pins states m rest ≡ Wait k → Waits states rest k)
    → and_then (after_state j state) (λ after. after_pins states (max n after) rest) ≡ Wait k
    → Waits states (Cell j ∷ rest) k
unfolding waited
waits-state states n j rest k New at later e =
    let same : j ≡ k = ap waited e in record {
      listens = inl (ap Cell same);
      unknown = λ column known. let new : state_at states k ≡ New = ap (λ m. state_at states m) (sym same) ∙ at in absurd cc;
    }
waits-state states n j rest k Open at later e =
    let same : j ≡ k = ap waited e in record {
      listens = inl (ap Cell same);
      unknown = λ column known. let here : state_at states k ≡ Open = ap (λ m. state_at states m) (sym same) ∙ at in absurd cc;
    }
waits-state states n j rest k (Done column) at later e = waits-later states (Cell j) rest k (later (max n (column + 1)) e)

-- pins that say to wait for a cell
pub pins-wait : (states : List State) (pins : List Source) (k n : ℕ) → after_pins states n pins ≡ Wait k → Waits states pins k
pins-wait states [] k n e = absurd cc
pins-wait states (Zero ∷ rest) k n e = waits-later states Zero rest k (pins-wait states rest k (max n 0) e)
pins-wait states (Pad p ∷ rest) k n e = waits-later states (Pad p) rest k (pins-wait states rest k (max n 0) e)
pins-wait states (Cell j ∷ rest) k n e = waits-state states n j rest k (state_at states j) refl (pins-wait states rest k) e

-- the columns that are known are these
abbrev pub AreOf : List State → List ℕ → Type 0
AreOf states columns = (k column : ℕ) → state_at states k ≡ Done column → column ≡ get_or columns k 0

-- what a cell in this state tells of a column
found-state : (columns : List ℕ) (states : List State) (n j : ℕ) (rest : List Source) (column : ℕ) (state : State)
    → AreOf states columns → state_at states j ≡ state
    → ((m : ℕ) → after_pins states m rest ≡ Column column → column ≡ max m (column_after columns rest))
    → and_then (after_state j state) (λ after. after_pins states (max n after) rest) ≡ Column column
    → column ≡ max n (max (get_or columns j 0 + 1) (column_after columns rest))
found-state columns states n j rest column New right at later e = absurd cc
found-state columns states n j rest column Open right at later e = absurd cc
found-state columns states n j rest column (Done before) right at later e =
    let same : before ≡ get_or columns j 0 = right j before at in
    let more : column ≡ max (max n (before + 1)) (column_after columns rest) = later (max n (before + 1)) e in
    omega (arith, more, same)

-- pins that tell a column tell that after their cells
pub pins-found : (columns : List ℕ) (states : List State) (pins : List Source) (column n : ℕ) → AreOf states columns
    → after_pins states n pins ≡ Column column → column ≡ max n (column_after columns pins)
unfolding told
pins-found columns states [] column n right e = let same : n ≡ column = ap told e in omega arith
pins-found columns states (Zero ∷ rest) column n right e =
    let more : column ≡ max (max n 0) (column_after columns rest) = pins-found columns states rest column (max n 0) right e in omega (arith, more)
pins-found columns states (Pad p ∷ rest) column n right e =
    let more : column ≡ max (max n 0) (column_after columns rest) = pins-found columns states rest column (max n 0) right e in omega (arith, more)
pins-found columns states (Cell j ∷ rest) column n right e =
    found-state columns states n j rest column (state_at states j) right refl (λ m. pins-found columns states rest column m right) e

-- and no greater one than the columns that are known allow
few-state : (states : List State) (n j limit : ℕ) (rest : List Source) (column : ℕ) (state : State)
    → ((k before : ℕ) → state_at states k ≡ Done before → before < limit) → state_at states j ≡ state → n ≤ limit
    → ((m : ℕ) → m ≤ limit → after_pins states m rest ≡ Column column → column ≤ limit)
    → and_then (after_state j state) (λ after. after_pins states (max n after) rest) ≡ Column column
    → column ≤ limit
few-state states n j limit rest column New small at le later e = absurd cc
few-state states n j limit rest column Open small at le later e = absurd cc
few-state states n j limit rest column (Done before) small at le later e =
    let lt : before < limit = small j before at in
    later (max n (before + 1)) (omega arith) e

-- a column that pins tell is no greater than the number above all that are known
pub pins-few : (states : List State) (limit : ℕ) (pins : List Source) (column n : ℕ)
    → ((k before : ℕ) → state_at states k ≡ Done before → before < limit) → n ≤ limit
    → after_pins states n pins ≡ Column column → column ≤ limit
unfolding told
pins-few states limit [] column n small le e = let same : n ≡ column = ap told e in omega arith
pins-few states limit (Zero ∷ rest) column n small le e = pins-few states limit rest column (max n 0) small (omega arith) e
pins-few states limit (Pad p ∷ rest) column n small le e = pins-few states limit rest column (max n 0) small (omega arith) e
pins-few states limit (Cell j ∷ rest) column n small le e =
    few-state states n j limit rest column (state_at states j) small refl le (λ m m_le. pins-few states limit rest column m small m_le) e
