-- The search for columns: its two steps keep what it stands on and take work away, and once no cell is
-- left, the columns are found.
use Rattle.std.proofs.Common.{◌≡◌, ℕ, ◌+◌, ◌<◌, ◌≤◌, inl, inr, ⊎_elim, true, false, List, [], ◌∷◌, ◌++◌, length, map, set, take, get_or, count_by, cond, All, Contains, OnOk, Result, Ok, Err, refl, ap, sym, subst, ◌∙◌, arith}
use Rattle.std.proofs.lemmas.List.{get_or-set_same, get_or-set_other, get_or_past, get_or_append_left, get_or_push, get_or-take, length_push, length-set, length-take-le, length-map, get_or-map, get_or_default, ext_get_or}
use Rattle.std.proofs.lemmas.List.Elements.{All-nil, All-cons, Contains-append_left, Contains-push}
use Rattle.std.proofs.lemmas.List.Sums.{sum_by-set, count_by-le-length}
use Rattle.std.proofs.lemmas.Bool.{cases_eq, cases_lt}
use Rattle.clause_defs.specs.Clauses.{Has}
use Rattle.cell_defs.specs.declared.source.Source.{Source}
use Rattle.cell_defs.specs.declared.source.Source.TheVariants.{Zero, Pad, Cell}
use Rattle.cell_defs.specs.Cells.{CellValue}
use Rattle.extract.specs.CellLists.{listed_cell}
use Rattle.map_defs.specs.Columns.{AreColumns, column_after}
use Rattle.lut_map.specs.declared.columns.State.{State}
use Rattle.lut_map.specs.declared.columns.State.TheVariants.{New, Open, Done}
use Rattle.lut_map.specs.declared.columns.Next.TheVariants.{Wait, Column}
use Rattle.lut_map.specs.Search.{only_cells, IsCellBelow, HaveColumns, state_at, is_new, is_done, column_of, after_pins, AreRight, IsSearch, work, StayMet}
use Rattle.lut_map.proofs.AfterLemmas.{column-below, pins-wait, pins-found, pins-few}

-- the state that was written
state_at-same : (states : List State) (k : ℕ) (s : State) → k < length states → state_at (set states k s) k ≡ s
state_at-same states k s lt = get_or-set_same states k s New lt

-- the states of other cells stay
state_at-other : (states : List State) (k j : ℕ) (s : State) → (j ≡ k → ⊥) → state_at (set states k s) j ≡ state_at states j
state_at-other states k j s ne = get_or-set_other states k j s New ne

-- a cell that was met is one of the cells
pub open-within : (states : List State) (k : ℕ) → state_at states k ≡ Open → k < length states
open-within states k h =
    ⊎_elim (λ lt. lt) (λ le. let e : state_at states k ≡ New = get_or_past states k New le in absurd cc) (cases_lt k (length states))

-- and so is one whose column is known
pub done-within : (states : List State) (k column : ℕ) → state_at states k ≡ Done column → k < length states
done-within states k column h =
    ⊎_elim (λ lt. lt) (λ le. let e : state_at states k ≡ New = get_or_past states k New le in absurd cc) (cases_lt k (length states))

-- how the count of new cells changes where a state is written
count-new : (states : List State) (k : ℕ) (s : State) → k < length states
    → count_by is_new (set states k s) + cond (is_new (state_at states k)) 1 0 ≡ count_by is_new states + cond (is_new s) 1 0
count-new states k s lt = sum_by-set (λ t. cond (is_new t) 1 0) states k s New lt

-- and of columns that are known
count-done : (states : List State) (k : ℕ) (s : State) → k < length states
    → count_by is_done (set states k s) + cond (is_done (state_at states k)) 1 0 ≡ count_by is_done states + cond (is_done s) 1 0
count-done states k s lt = sum_by-set (λ t. cond (is_done t) 1 0) states k s New lt

-- a new cell that is opened leaves as many columns known
done-opened : (states : List State) (k : ℕ) → k < length states → state_at states k ≡ New
    → count_by is_done (set states k Open) ≡ count_by is_done states
done-opened states k lt fresh =
    let f : cond (is_done (state_at states k)) 1 0 ≡ 0 = ap {B = ℕ} (λ t. cond (is_done t) 1 0) fresh in
    omega (arith, count-done states k Open lt, f)

-- and an open one that is closed makes them one more
done-closed : (states : List State) (k column : ℕ) → k < length states → state_at states k ≡ Open
    → count_by is_done (set states k (Done column)) ≡ count_by is_done states + 1
done-closed states k column lt is_open =
    let f : cond (is_done (state_at states k)) 1 0 ≡ 0 = ap {B = ℕ} (λ t. cond (is_done t) 1 0) is_open in
    omega (arith, count-done states k (Done column) lt, f)

-- no column that is known is too great
pub columns-small : (cells : List CellValue) (states : List State) (stack : List ℕ) (limit : ℕ) → IsSearch cells states stack → length cells < limit
    → (k column : ℕ) → state_at states k ≡ Done column → column < limit
columns-small cells states stack limit h lt k column known =
    let small : column < count_by is_done states = h.known.small k column known in
    omega (arith, h.count, count_by-le-length is_done states)

-- a cell that is opened keeps what is known
right-opened : (cells : List CellValue) (states : List State) (k : ℕ) → AreRight cells states → k < length states → state_at states k ≡ New
    → AreRight cells (set states k Open)
right-opened cells states k h lt fresh =
    let was : (j column : ℕ) → state_at (set states k Open) j ≡ Done column → state_at states j ≡ Done column =
    (λ j column known. ⊎_elim
    (λ e. let here : state_at (set states k Open) j ≡ Open = ap (λ m. state_at (set states k Open) m) e ∙ state_at-same states k Open lt in absurd cc)
    (λ ne. sym (state_at-other states k j Open ne) ∙ known)
    (cases_eq j k)) in
    let same : count_by is_done (set states k Open) ≡ count_by is_done states = done-opened states k lt fresh in
    record {
      right = λ columns are j column known. h.right columns are j column (was j column known);
      small = λ j column known. let old : column < count_by is_done states = h.small j column (was j column known) in omega (arith, same);
    }

-- a new cell, whose column is less than those of all open cells, is opened
pub search-opened : (cells : List CellValue) (states : List State) (stack : List ℕ) (k : ℕ) → IsSearch cells states stack
    → k < length cells → state_at states k ≡ New
    → ((columns : List ℕ) → AreColumns (only_cells cells) columns → (i : ℕ) → i < length stack → get_or columns k 0 < get_or columns (get_or stack i 0) 0)
    → IsSearch cells (set states k Open) (stack ++ k ∷ [])
search-opened cells states stack k h lt fresh below =
    let in_states : k < length states = omega (arith, h.count) in
    let size : length (stack ++ k ∷ []) ≡ length stack + 1 = length_push stack k in
    let front : (i : ℕ) → i < length stack → get_or (stack ++ k ∷ []) i 0 ≡ get_or stack i 0 = (λ i i_lt. get_or_append_left stack (k ∷ []) 0 i i_lt) in
    let apart : (i : ℕ) → i < length stack → get_or stack i 0 ≡ k → ⊥ =
    (λ i i_lt e. let is_open : state_at states k ≡ Open = ap (λ m. state_at states m) (sym e) ∙ h.open_cells i i_lt in cc) in
    record {
      count = length-set states k Open ∙ h.count;
      known = right-opened cells states k h.known in_states fresh;
      open_cells = λ i i_lt. ⊎_elim
          (λ inside. ap (λ m. state_at (set states k Open) m) (front i inside)
          ∙ state_at-other states k (get_or stack i 0) Open (apart i inside) ∙ h.open_cells i inside)
          (λ past. let at : length stack ≡ i = omega (arith, size) in
          ap (λ m. state_at (set states k Open) m) (get_or_push stack k 0 i at) ∙ state_at-same states k Open in_states)
          (cases_lt i (length stack));
      stacked = λ j is_open. ⊎_elim
          (λ e. let P : ℕ → Type 0 = λ m. Contains (stack ++ k ∷ []) m in subst P (sym e) (Contains-push stack k))
          (λ ne. Contains-append_left stack (k ∷ []) j (h.stacked j (sym (state_at-other states k j Open ne) ∙ is_open)))
          (cases_eq j k);
      falling = λ columns are i j less j_lt. ⊎_elim
          (λ inside. let old : get_or columns (get_or stack j 0) 0 < get_or columns (get_or stack i 0) 0 = h.falling columns are i j less inside in
          let e : get_or columns (get_or (stack ++ k ∷ []) i 0) 0 ≡ get_or columns (get_or stack i 0) 0 = ap (λ m. get_or columns m 0) (front i (omega arith)) in
          let f : get_or columns (get_or (stack ++ k ∷ []) j 0) 0 ≡ get_or columns (get_or stack j 0) 0 = ap (λ m. get_or columns m 0) (front j inside) in
          omega arith)
          (λ past. let at : length stack ≡ j = omega (arith, size) in
          let i_lt : i < length stack = omega arith in
          let new : get_or columns k 0 < get_or columns (get_or stack i 0) 0 = below columns are i i_lt in
          let e : get_or columns (get_or (stack ++ k ∷ []) i 0) 0 ≡ get_or columns (get_or stack i 0) 0 = ap (λ m. get_or columns m 0) (front i i_lt) in
          let f : get_or columns (get_or (stack ++ k ∷ []) j 0) 0 ≡ get_or columns k 0 = ap (λ m. get_or columns m 0) (get_or_push stack k 0 j at) in
          omega arith)
          (cases_lt j (length stack));
    }

-- the last open cell, whose column is found, keeps what is known
right-closed : (cells : List CellValue) (states : List State) (k column : ℕ) → AreRight cells states → k < length states → state_at states k ≡ Open
    → ((columns : List ℕ) → AreColumns (only_cells cells) columns → column ≡ get_or columns k 0) → column ≤ count_by is_done states
    → AreRight cells (set states k (Done column))
right-closed cells states k column h lt is_open found le =
    let new = set states k (Done column) in
    let at : state_at new k ≡ Done column = state_at-same states k (Done column) lt in
    let more : count_by is_done new ≡ count_by is_done states + 1 = done-closed states k column lt is_open in
    let told : (j other : ℕ) → j ≡ k → state_at new j ≡ Done other → column ≡ other =
    (λ j other e known. let both : Done column ≡ Done other = sym at ∙ ap (λ m. state_at new m) (sym e) ∙ known in ap column_of both) in
    record {
      right = λ columns are j other known. ⊎_elim
          (λ e. sym (told j other e known) ∙ found columns are ∙ ap (λ m. get_or columns m 0) (sym e))
          (λ ne. h.right columns are j other (sym (state_at-other states k j (Done column) ne) ∙ known))
          (cases_eq j k);
      small = λ j other known. ⊎_elim
          (λ e. let same : column ≡ other = told j other e known in omega (arith, more))
          (λ ne. let old : other < count_by is_done states = h.small j other (sym (state_at-other states k j (Done column) ne) ∙ known) in omega (arith, more))
          (cases_eq j k);
    }

-- what is in a list but isn't its last element is in the rest
Contains-front : (xs : List ℕ) (n x : ℕ) → length xs ≡ n + 1 → Contains xs x → (x ≡ get_or xs n 0 → ⊥) → Contains (take n xs) x
Contains-front xs n x e h ne =
    let k : ℕ = h.0 in
    ⊎_elim
    (λ lt. (
      k,
      let l : k < length (take n xs) = omega (arith, length-take-le n xs (omega arith)) in l,
      get_or-take n xs k x lt ∙ h.2,
    ))
    (λ le. let at : k ≡ n = omega (arith, h.1) in
    absurd (ne (sym h.2 ∙ ap (λ m. get_or xs m x) at ∙ get_or_default xs n x 0 (omega arith))))
    (cases_lt k n)

-- the last open cell is closed with its column
pub search-closed : (cells : List CellValue) (states : List State) (stack : List ℕ) (k column n : ℕ) → HaveColumns cells → IsSearch cells states stack
    → length stack ≡ n + 1 → get_or stack n 0 ≡ k
    → ((columns : List ℕ) → AreColumns (only_cells cells) columns → column ≡ get_or columns k 0) → column ≤ count_by is_done states
    → IsSearch cells (set states k (Done column)) (take n stack)
search-closed cells states stack k column n have h size top found le =
    let new = set states k (Done column) in
    let k_open : state_at states k ≡ Open = ap (λ m. state_at states m) (sym top) ∙ h.open_cells n (omega arith) in
    let in_states : k < length states = open-within states k k_open in
    let size2 : length (take n stack) ≡ n = length-take-le n stack (omega arith) in
    let front : (i : ℕ) → i < n → get_or (take n stack) i 0 ≡ get_or stack i 0 = (λ i i_lt. get_or-take n stack i 0 i_lt) in
    let apart : (i : ℕ) → i < n → get_or stack i 0 ≡ k → ⊥ =
    (λ i i_lt e. let columns = have.found.0 in
    let less : get_or columns (get_or stack n 0) 0 < get_or columns (get_or stack i 0) 0 = h.falling columns have.found.1 i n i_lt (omega arith) in
    let same : get_or columns (get_or stack n 0) 0 ≡ get_or columns (get_or stack i 0) 0 = ap (λ m. get_or columns m 0) (top ∙ sym e) in
    let none : 0 < 0 = omega arith in omega arith) in
    record {
      count = length-set states k (Done column) ∙ h.count;
      known = right-closed cells states k column h.known in_states k_open found le;
      open_cells = λ i i_lt. let inside : i < n = omega arith in
          ap (λ m. state_at new m) (front i inside)
          ∙ state_at-other states k (get_or stack i 0) (Done column) (apart i inside)
          ∙ h.open_cells i (omega arith);
      stacked = λ j is_open. ⊎_elim
          (λ e. let was : state_at new j ≡ Done column = ap (λ m. state_at new m) e ∙ state_at-same states k (Done column) in_states in absurd cc)
          (λ ne. Contains-front stack n j size (h.stacked j (sym (state_at-other states k j (Done column) ne) ∙ is_open)) (λ e. ne (e ∙ top)))
          (cases_eq j k);
      falling = λ columns are i j less j_lt.
          let old : get_or columns (get_or stack j 0) 0 < get_or columns (get_or stack i 0) 0 = h.falling columns are i j less (omega arith) in
          let e : get_or columns (get_or (take n stack) i 0) 0 ≡ get_or columns (get_or stack i 0) 0 = ap (λ m. get_or columns m 0) (front i (omega arith)) in
          let f : get_or columns (get_or (take n stack) j 0) 0 ≡ get_or columns (get_or stack j 0) 0 = ap (λ m. get_or columns m 0) (front j (omega arith)) in
          omega arith;
    }

-- the column of a cell is that after its pins
column-of_cell : (cells : List CellValue) (columns : List ℕ) (k : ℕ) → AreColumns (only_cells cells) columns → k < length cells
    → get_or columns k 0 ≡ column_after columns (listed_cell cells k).pins
column-of_cell cells columns k are lt = are.each k lt

-- a cell to which the last open one listens, and whose column isn't known, is new and has a column less than those of all open cells
pub record IsNext (cells : List CellValue) (states : List State) (stack : List ℕ) (k : ℕ) : Type 0 where
  pub within : k < length cells
  pub fresh : state_at states k ≡ New
  pub below : (columns : List ℕ) → AreColumns (only_cells cells) columns → (i : ℕ) → i < length stack → get_or columns k 0 < get_or columns (get_or stack i 0) 0

-- a state is one of three
state-cases : (P : State → Type 0) (s : State) → (s ≡ New → P s) → (s ≡ Open → P s) → ((column : ℕ) → s ≡ Done column → P s) → P s
state-cases P New f g h = f refl
state-cases P Open f g h = g refl
state-cases P (Done column) f g h = h column refl

-- the cell that the pins of the last open one say to wait for
pub next-waits : (cells : List CellValue) (states : List State) (stack : List ℕ) (last k n : ℕ) → HaveColumns cells → IsSearch cells states stack
    → length stack ≡ n + 1 → get_or stack n 0 ≡ last → after_pins states 0 (listed_cell cells last).pins ≡ Wait k
    → IsNext cells states stack k
next-waits cells states stack last k n have h size top e =
    let waits = pins-wait states (listed_cell cells last).pins k 0 e in
    let last_open : state_at states last ≡ Open = ap (λ m. state_at states m) (sym top) ∙ h.open_cells n (omega arith) in
    let last_in : last < length cells = omega (arith, h.count, open-within states last last_open) in
    let within : k < length cells = have.within last k last_in waits.listens in
    let less : (columns : List ℕ) → AreColumns (only_cells cells) columns → get_or columns k 0 < get_or columns last 0 =
    (λ columns are. let P : ℕ → Type 0 = λ m. get_or columns k 0 < m in
    subst P (sym (column-of_cell cells columns last are last_in)) (column-below columns (listed_cell cells last).pins k waits.listens)) in
    let below : (columns : List ℕ) → AreColumns (only_cells cells) columns → (i : ℕ) → i < length stack → get_or columns k 0 < get_or columns (get_or stack i 0) 0 =
    (λ columns are i i_lt. let here : get_or columns k 0 < get_or columns last 0 = less columns are in
    let at : get_or columns (get_or stack n 0) 0 ≡ get_or columns last 0 = ap (λ m. get_or columns m 0) top in
    ⊎_elim
    (λ under. let more : get_or columns (get_or stack n 0) 0 < get_or columns (get_or stack i 0) 0 = h.falling columns are i n under (omega arith) in omega arith)
    (λ past. let same : i ≡ n = omega arith in
    let f : get_or columns (get_or stack i 0) 0 ≡ get_or columns (get_or stack n 0) 0 = ap (λ m. get_or columns (get_or stack m 0) 0) same in omega arith)
    (cases_lt i n)) in
    record {
      within = within;
      fresh = state-cases (λ s. s ≡ New) (state_at states k) (λ new. new)
          (λ is_open. let at = h.stacked k is_open in
          let columns = have.found.0 in
          let lower : get_or columns k 0 < get_or columns (get_or stack at.0 0) 0 = below columns have.found.1 at.0 at.1 in
          let place : get_or stack at.0 0 ≡ k = get_or_default stack at.0 0 k at.1 ∙ at.2 in
          let same : get_or columns (get_or stack at.0 0) 0 ≡ get_or columns k 0 = ap (λ m. get_or columns m 0) place in
          absurd (let none : 0 < 0 = omega arith in omega arith))
          (λ column known. absurd (waits.unknown column known));
      below = below;
    }

-- the column that the pins of the last open cell tell is its own
pub next-found : (cells : List CellValue) (states : List State) (stack : List ℕ) (last column n : ℕ) → IsSearch cells states stack
    → length stack ≡ n + 1 → get_or stack n 0 ≡ last → after_pins states 0 (listed_cell cells last).pins ≡ Column column
    → ((columns : List ℕ) → AreColumns (only_cells cells) columns → column ≡ get_or columns last 0) × (column ≤ count_by is_done states)
next-found cells states stack last column n h size top e =
    let last_open : state_at states last ≡ Open = ap (λ m. state_at states m) (sym top) ∙ h.open_cells n (omega arith) in
    let last_in : last < length cells = omega (arith, h.count, open-within states last last_open) in (
      λ columns are.
          let told : column ≡ column_after columns (listed_cell cells last).pins =
          (let m = pins-found columns states (listed_cell cells last).pins column 0 (h.known.right columns are) e in omega (arith, m)) in
          told ∙ sym (column-of_cell cells columns last are last_in),
      pins-few states (count_by is_done states) (listed_cell cells last).pins column 0 h.known.small (omega arith) e,
    )

-- sources are no cells past the end, where the cells among them are not
pins-below : (end : ℕ) (pins : List Source) → ((j : ℕ) → Has pins (Cell j) → j < end) → All (IsCellBelow end) pins
pins-below end [] h = All-nil (IsCellBelow end)
pins-below end (Zero ∷ pins) h = All-cons (IsCellBelow end) Zero pins tt (pins-below end pins (λ j has. h j (inr has)))
pins-below end (Pad p ∷ pins) h = All-cons (IsCellBelow end) (Pad p) pins tt (pins-below end pins (λ j has. h j (inr has)))
pins-below end (Cell k ∷ pins) h = All-cons (IsCellBelow end) (Cell k) pins (h k (inl refl)) (pins-below end pins (λ j has. h j (inr has)))

-- the pins of a cell are no cells past the last state
pub cell-pins : (cells : List CellValue) (states : List State) (stack : List ℕ) (k : ℕ) → HaveColumns cells → IsSearch cells states stack → k < length cells
    → All (IsCellBelow (length states)) (listed_cell cells k).pins
cell-pins cells states stack k have h lt =
    pins-below (length states) (listed_cell cells k).pins
    (λ j has. let below : j < length cells = have.within k j lt has in omega (arith, h.count))

-- a cell is new where the test says so
pub new-test : (s : State) → is_new s ≡ true → s ≡ New
new-test New e = refl
new-test Open e = absurd cc
new-test (Done column) e = absurd cc

-- and not where it doesn't
pub met-test : (s : State) → is_new s ≡ false → s ≡ New → ⊥
met-test New e same = cc
met-test Open e same = cc
met-test (Done column) e same = cc

-- the last open cell is one of the cells
pub last-within : (cells : List CellValue) (states : List State) (stack : List ℕ) (last n : ℕ) → IsSearch cells states stack
    → length stack ≡ n + 1 → get_or stack n 0 ≡ last → last < length cells
last-within cells states stack last n h size top =
    let last_open : state_at states last ≡ Open = ap (λ m. state_at states m) (sym top) ∙ h.open_cells n (omega arith) in
    omega (arith, h.count, open-within states last last_open)

-- a cell that is opened takes work away
pub work-opened : (states : List State) (stack : List ℕ) (k : ℕ) → k < length states → state_at states k ≡ New
    → work (set states k Open) (stack ++ k ∷ []) < work states stack
work-opened states stack k lt fresh =
    let f : cond (is_new (state_at states k)) 1 0 ≡ 1 = ap {B = ℕ} (λ t. cond (is_new t) 1 0) fresh in
    omega (arith, count-new states k Open lt, f, length_push stack k)

-- and so does one that is closed
pub work-closed : (states : List State) (stack : List ℕ) (k column n : ℕ) → k < length states → state_at states k ≡ Open → length stack ≡ n + 1
    → work (set states k (Done column)) (take n stack) < work states stack
work-closed states stack k column n lt is_open size =
    let f : cond (is_new (state_at states k)) 1 0 ≡ 0 = ap {B = ℕ} (λ t. cond (is_new t) 1 0) is_open in
    omega (arith, count-new states k (Done column) lt, f, length-take-le n stack (omega arith))

-- cells that were met stay so where another state than New is written
pub StayMet-set : (states : List State) (k : ℕ) (s : State) → k < length states → (s ≡ New → ⊥) → StayMet states (set states k s)
StayMet-set states k s lt ne j h =
    ⊎_elim
    (λ e. let here : s ≡ New = sym (state_at-same states k s lt) ∙ ap (λ m. state_at (set states k s) m) (sym e) ∙ h in absurd (ne here))
    (λ other. sym (state_at-other states k j s other) ∙ h)
    (cases_eq j k)

-- the next cell was opened
pub step-opened : (cells : List CellValue) (states new : List State) (stack after : List ℕ) (k : ℕ) → IsSearch cells states stack → IsNext cells states stack k
    → new ≡ set states k Open → after ≡ stack ++ k ∷ [] → IsSearch cells new after
step-opened cells states new stack after k h next e f = rw (e, f) (search-opened cells states stack k h next.within next.fresh next.below)

-- no cell that was met is new then
pub step-met : (cells : List CellValue) (states new : List State) (stack : List ℕ) (k : ℕ) → IsSearch cells states stack → IsNext cells states stack k
    → new ≡ set states k Open → StayMet states new
step-met cells states new stack k h next e =
    let in_states : k < length states = omega (arith, h.count, next.within) in
    let P : List State → Type 0 = λ l. StayMet states l in
    subst P (sym e) (StayMet-set states k Open in_states (λ same. cc))

-- and less is left to do
pub step-less : (cells : List CellValue) (states new : List State) (stack after : List ℕ) (k : ℕ) → IsSearch cells states stack → IsNext cells states stack k
    → new ≡ set states k Open → after ≡ stack ++ k ∷ [] → work new after < work states stack
step-less cells states new stack after k h next e f =
    let in_states : k < length states = omega (arith, h.count, next.within) in
    rw (e, f) (work-opened states stack k in_states next.fresh)

-- what follows from two facts of a value, if there is one
pub both_ok : {T E : Type 0} (r : Result T E) (P Q R : Type 0) → (P → Q → R) → OnOk r P → OnOk r Q → OnOk r R
both_ok (Ok x) P Q R f p q = f p q
both_ok (Err e) P Q R f p q = tt

-- the first cell was opened
pub record Begins (cells : List CellValue) (old new : List State) (stack : List ℕ) (root : ℕ) : Type 0 where
  pub sound : IsSearch cells new stack
  pub stay : StayMet old new
  pub met : state_at new root ≡ New → ⊥

-- where the stack was empty, that keeps what the search stands on
pub search-begins : (cells : List CellValue) (states new : List State) (stack after : List ℕ) (root : ℕ) → IsSearch cells states stack → stack ≡ []
    → root < length cells → state_at states root ≡ New → new ≡ set states root Open → after ≡ stack ++ root ∷ [] → Begins cells states new after root
search-begins cells states new stack after root h none lt fresh e f =
    let size : length stack ≡ 0 = ap length none in
    let in_states : root < length states = omega (arith, h.count) in
    let next : IsNext cells states stack root = record { within = lt; fresh = fresh; below = λ columns are i i_lt. absurd (omega arith) } in
    record {
      sound = step-opened cells states new stack after root h next e f;
      stay = step-met cells states new stack root h next e;
      met = λ is. let here : state_at new root ≡ Open = ap (λ l. state_at l root) e ∙ state_at-same states root Open in_states in cc;
    }

-- where no cell is new and none is open, all columns are found
pub search-ends : (cells : List CellValue) (states : List State) (stack : List ℕ) → HaveColumns cells → IsSearch cells states stack → stack ≡ []
    → ((k : ℕ) → k < length cells → state_at states k ≡ New → ⊥)
    → AreColumns (only_cells cells) (map column_of states) × All (λ column. column < length cells) (map column_of states)
search-ends cells states stack have h none met =
    let columns = have.found.0 in
    let are = have.found.1 in
    let size : length stack ≡ 0 = ap length none in
    let known : (k : ℕ) → k < length cells → (column : ℕ) × (state_at states k ≡ Done column) =
    (λ k lt. state-cases (λ s. (column : ℕ) × (s ≡ Done column)) (state_at states k)
    (λ new. absurd (met k lt new))
    (λ is_open. let at = h.stacked k is_open in absurd (let less : at.0 < length stack = at.1 in omega arith))
    (λ column e. (column, e))) in
    let read : (k : ℕ) → k < length cells → get_or (map column_of states) k 0 ≡ column_of (state_at states k) =
    (λ k lt. get_or-map column_of states k New 0 (omega (arith, h.count))) in
    let same : map column_of states ≡ columns =
    ext_get_or 0 (map column_of states) columns (length-map states column_of ∙ h.count ∙ sym are.count)
    (λ k k_lt. let lt : k < length cells = omega (arith, length-map states column_of, h.count) in
    read k lt ∙ ap column_of (known k lt).1 ∙ h.known.right columns are k (known k lt).0 (known k lt).1) in (
      subst (AreColumns (only_cells cells)) (sym same) are,
      λ k d k_lt.
          let lt : k < length cells = omega (arith, length-map states column_of, h.count) in
          let small : (known k lt).0 < count_by is_done states = h.known.small k (known k lt).0 (known k lt).1 in
          let value : get_or (map column_of states) k d ≡ (known k lt).0 =
          get_or_default (map column_of states) k d 0 k_lt ∙ read k lt ∙ ap column_of (known k lt).1 in
          omega (arith, h.count, count_by-le-length is_done states),
    )
