-- Seats of signals: each signal has one of its own, in the order of first channels.
use Rattle.std.proofs.Common.{◌≡◌, ℕ, zero, suc, ◌+◌, ◌-◌, ◌*◌, ◌/◌, ◌%◌, ◌<◌, ◌≤◌, ⊎_elim, cond, ◌==◌, List, length, take, get_or, Option, Some, None, refl, ap, sym, ◌∙◌, arith, ltb, eq-eqb}
use Rattle.std.proofs.lemmas.Bool.{cases_lt, lt-ltb, le-ltb, cond-true, cond-false}
use Rattle.std.proofs.lemmas.List.{take_all}
use Rattle.std.proofs.lemmas.List.Sums.{sum_by_more, count_by_more_yes}
use Rattle.std.proofs.lemmas.Nat.{mod-mul-add, div-mul-add, div_below, le-div, mul-add-lt}
use Rattle.std.proofs.Math.Nat.{mul_comm, div-mul-le_self}
use Rattle.fabric_defs.specs.Geometries.{GeometryValue, cell_count, cell_number}
use Rattle.fabric_laws.proofs.LayoutLemmas.{cell_number-lt}
use Rattle.fabric_laws.proofs.NumberedLemmas.{get_or-list_of}
use Rattle.cell_defs.specs.declared.source.Source.{Source}
use Rattle.cell_defs.specs.declared.source.Source.TheVariants.{Zero, Pad, Cell}
use Rattle.map_defs.specs.Mapped.{MappedValue}
use Rattle.route_defs.specs.declared.span.Span.{Span}
use Rattle.route_defs.specs.Spans.{span_at, need}
use Rattle.route_defs.specs.Signals.{IsSignal, signal_number, first_channel, span_of, AreSpans}
use Rattle.route_defs.specs.Demands.{cells_in}
use Rattle.route_defs.specs.Tracks.{BeginInOrder}
use Rattle.route_defs.specs.Placed.{row_of, HaveRoom}
use Rattle.route_laws.specs.Words.{entry_word}
use Rattle.route_laws.specs.Seats.{AreRows, seat_of, seat_count, seats_until, first_of, entry_of, HaveSeats}
use Rattle.route_laws.proofs.SignalLemmas.{signal_number-lt, signal_at}
use Rattle.place_laws.specs.Routings.{AreSeats}

-- the seat of an input
pub seat_of-input : (inputs : ℕ) (g : GeometryValue) (columns rows : List ℕ) (i : ℕ) → i < inputs → seat_of inputs g columns rows i ≡ i
seat_of-input inputs g columns rows i lt =
    cond-true (ltb i inputs) i (inputs + cell_number g (get_or columns (i - inputs) 0) (get_or rows (i - inputs) 0)) (lt-ltb i inputs lt)

-- the seat of a cell
pub seat_of-cell : (inputs : ℕ) (g : GeometryValue) (columns rows : List ℕ) (k : ℕ)
    → seat_of inputs g columns rows (inputs + k) ≡ inputs + cell_number g (get_or columns k 0) (get_or rows k 0)
seat_of-cell inputs g columns rows k =
    let n : ℕ = inputs + k in
    let back : n - inputs ≡ k = omega arith in
    cond-false (ltb n inputs) n (inputs + cell_number g (get_or columns (n - inputs) 0) (get_or rows (n - inputs) 0)) (le-ltb n inputs (omega arith))
    ∙ ap (λ m. inputs + cell_number g (get_or columns m 0) (get_or rows m 0)) back

-- the rows of cells are those that there is room for
pub row_is : (l : MappedValue) (g : GeometryValue) (columns rows : List ℕ) (k : ℕ) → length columns ≡ length l.cells
    → AreRows columns rows → k < length l.cells → get_or rows k 0 ≡ row_of columns k
row_is l g columns rows k count are lt = are.each k (omega arith)

-- so each of them is a row of the fabric
pub row-lt : (l : MappedValue) (g : GeometryValue) (columns rows : List ℕ) (k : ℕ) → length columns ≡ length l.cells
    → AreRows columns rows → HaveRoom l g columns → k < length l.cells → get_or rows k 0 < g.rows
row-lt l g columns rows k count are room lt = omega (arith, row_is l g columns rows k count are lt, room.row k lt)

-- seats are there
pub seat_of-lt : (l : MappedValue) (g : GeometryValue) (columns rows : List ℕ) (n : ℕ) → length columns ≡ length l.cells
    → AreRows columns rows → HaveRoom l g columns → n < l.inputs + length l.cells
    → seat_of l.inputs g columns rows n < seat_count l.inputs g
seat_of-lt l g columns rows n count are room lt =
    ⊎_elim
    (λ here. omega (arith, seat_of-input l.inputs g columns rows n here))
    (λ past. let k : ℕ = n - l.inputs in
    let e : n ≡ l.inputs + k = omega arith in
    let less : k < length l.cells = omega arith in
    let below : cell_number g (get_or columns k 0) (get_or rows k 0) < cell_count g =
    cell_number-lt g (get_or columns k 0) (get_or rows k 0) (room.column k less) (row-lt l g columns rows k count are room less) in
    omega (arith, ap (seat_of l.inputs g columns rows) e, seat_of-cell l.inputs g columns rows k))
    (cases_lt n l.inputs)

-- cells with one number have one column and one row
pub cell_number-apart : (rows c r d s : ℕ) → r < rows → s < rows → c * rows + r ≡ d * rows + s → (c ≡ d) × (r ≡ s)
cell_number-apart rows c r d s p q e = (
  sym (div-mul-add c rows r p) ∙ ap (λ n. n / rows) e ∙ div-mul-add d rows s q,
  sym (mod-mul-add c rows r p) ∙ ap (λ n. n % rows) e ∙ mod-mul-add d rows s q,
)

-- a column has no fewer of the first cells where there are more
cells_in-grows : (columns : List ℕ) (c i d : ℕ) → i + d ≤ length columns → cells_in (take i columns) c ≤ cells_in (take (i + d) columns) c
cells_in-grows columns c i zero le = let e : i + zero ≡ i = omega arith in omega (arith, ap (λ m. cells_in (take m columns) c) e)
cells_in-grows columns c i (suc d) le =
    let e : i + suc d ≡ i + d + 1 = omega arith in
    let before : cells_in (take i columns) c ≤ cells_in (take (i + d) columns) c = cells_in-grows columns c i d (omega arith) in
    let more : cells_in (take (i + d + 1) columns) c
    ≡ cells_in (take (i + d) columns) c + cond (get_or columns (i + d) 0 == c) 1 0 =
    sum_by_more (λ column. cond (column == c) 1 0) columns (i + d) 0 (omega arith) in
    omega (arith, ap (λ m. cells_in (take m columns) c) e)

-- cells of one column have different rows
pub row_of-rises : (columns : List ℕ) (j k : ℕ) → j < k → k < length columns → get_or columns j 0 ≡ get_or columns k 0
    → row_of columns j < row_of columns k
row_of-rises columns j k lt less same =
    let c : ℕ = get_or columns j 0 in
    let d : ℕ = k - (j + 1) in
    let e : j + 1 + d ≡ k = omega arith in
    let more : cells_in (take (j + 1) columns) c ≡ cells_in (take j columns) c + 1 =
    count_by_more_yes (λ column. column == c) columns j 0 (omega arith) (eq-eqb c c refl) in
    let grown : cells_in (take (j + 1) columns) c ≤ cells_in (take (j + 1 + d) columns) c = cells_in-grows columns c (j + 1) d (omega arith) in
    let to : cells_in (take (j + 1 + d) columns) c ≡ row_of columns k =
    ap (λ m. cells_in (take m columns) c) e ∙ ap (cells_in (take k columns)) same in
    omega arith

-- no two signals have one seat
pub seat_of-apart : (l : MappedValue) (g : GeometryValue) (columns rows : List ℕ) (m n : ℕ) → length columns ≡ length l.cells
    → AreRows columns rows → HaveRoom l g columns → m < n → n < l.inputs + length l.cells
    → seat_of l.inputs g columns rows m ≡ seat_of l.inputs g columns rows n → ⊥
seat_of-apart l g columns rows m n count are room lt less same =
    let at : ℕ → ℕ = seat_of l.inputs g columns rows in
    ⊎_elim
    (λ here. ⊎_elim
    (λ both. omega (arith, seat_of-input l.inputs g columns rows m here, seat_of-input l.inputs g columns rows n both))
    (λ past. let k : ℕ = n - l.inputs in
    let e : n ≡ l.inputs + k = omega arith in
    omega (arith, seat_of-input l.inputs g columns rows m here, ap at e, seat_of-cell l.inputs g columns rows k))
    (cases_lt n l.inputs))
    (λ past. let j : ℕ = m - l.inputs in
    let k : ℕ = n - l.inputs in
    let d : m ≡ l.inputs + j = omega arith in
    let e : n ≡ l.inputs + k = omega arith in
    let jless : j < length l.cells = omega arith in
    let kless : k < length l.cells = omega arith in
    let numbers : cell_number g (get_or columns j 0) (get_or rows j 0) ≡ cell_number g (get_or columns k 0) (get_or rows k 0) =
    omega (arith, ap at d, ap at e, seat_of-cell l.inputs g columns rows j, seat_of-cell l.inputs g columns rows k, same) in
    let parts = cell_number-apart g.rows (get_or columns j 0) (get_or rows j 0) (get_or columns k 0) (get_or rows k 0)
    (row-lt l g columns rows j count are room jless) (row-lt l g columns rows k count are room kless) numbers in
    omega (
      arith,
      parts.1,
      row_is l g columns rows j count are jless,
      row_is l g columns rows k count are kless,
      row_of-rises columns j k (omega arith) (omega arith) parts.0,
    ))
    (cases_lt m l.inputs)

-- the seat of an input tells its first channel and its entry
pub first_of-input : (inputs : ℕ) (g : GeometryValue) (seat : ℕ) → seat < inputs → first_of inputs g seat ≡ 0
first_of-input inputs g seat lt = cond-true (ltb seat inputs) 0 ((seat - inputs) / g.rows + 1) (lt-ltb seat inputs lt)

-- the word that takes the signal of an input is one more than its seat
entry_of-input : (inputs : ℕ) (g : GeometryValue) (seat : ℕ) → seat < inputs → entry_of inputs g seat ≡ seat + 1
entry_of-input inputs g seat lt = cond-true (ltb seat inputs) (seat + 1) ((seat - inputs) % g.rows + 2) (lt-ltb seat inputs lt)

-- and so does that of a cell
first_of-cell : (inputs : ℕ) (g : GeometryValue) (seat : ℕ) → inputs ≤ seat → first_of inputs g seat ≡ (seat - inputs) / g.rows + 1
first_of-cell inputs g seat le = cond-false (ltb seat inputs) 0 ((seat - inputs) / g.rows + 1) (le-ltb seat inputs le)

-- the word that takes the signal of a cell is two more than the row of its seat
entry_of-cell : (inputs : ℕ) (g : GeometryValue) (seat : ℕ) → inputs ≤ seat → entry_of inputs g seat ≡ (seat - inputs) % g.rows + 2
entry_of-cell inputs g seat le = cond-false (ltb seat inputs) (seat + 1) ((seat - inputs) % g.rows + 2) (le-ltb seat inputs le)

-- first channels rise with seats
div-grows : (a b n : ℕ) → 0 < n → a ≤ b → a / n ≤ b / n
div-grows a b n some le = le-div (a / n) b n some (omega (arith, div-mul-le_self a n))

-- a later seat has no earlier first channel
first_of-rises : (inputs : ℕ) (g : GeometryValue) (i j : ℕ) → 0 < g.rows → i ≤ j → first_of inputs g i ≤ first_of inputs g j
first_of-rises inputs g i j some le =
    ⊎_elim
    (λ here. omega (arith, first_of-input inputs g i here))
    (λ past. let grown : (i - inputs) / g.rows ≤ (j - inputs) / g.rows = div-grows (i - inputs) (j - inputs) g.rows some (omega arith) in
    omega (arith, first_of-cell inputs g i past, first_of-cell inputs g j (omega arith)))
    (cases_lt i inputs)

-- the seats up to a channel have no later first channel
pub first_of-le : (inputs : ℕ) (g : GeometryValue) (seat c : ℕ) → 0 < g.rows → seat < seats_until inputs g c → first_of inputs g seat ≤ c
first_of-le inputs g seat c some lt =
    ⊎_elim
    (λ here. omega (arith, first_of-input inputs g seat here))
    (λ past. let below : (seat - inputs) / g.rows < c = div_below (seat - inputs) g.rows c some (omega arith) in
    omega (arith, first_of-cell inputs g seat past))
    (cases_lt seat inputs)

-- the word that takes a seat's signal is in the range of its channel
pub entry_of-le : (inputs : ℕ) (g : GeometryValue) (seat : ℕ) → 0 < g.rows → inputs ≤ seat → entry_of inputs g seat ≤ g.rows + 1
entry_of-le inputs g seat some le = omega (arith, entry_of-cell inputs g seat le)

-- and so is the word that takes the signal of an input
pub entry_of-input-le : (inputs : ℕ) (g : GeometryValue) (seat : ℕ) → seat < inputs → entry_of inputs g seat ≤ inputs
entry_of-input-le inputs g seat lt = omega (arith, entry_of-input inputs g seat lt)

-- the seat of a signal in a list of all seats
pub seat-number : (l : MappedValue) (g : GeometryValue) (columns rows seats : List ℕ) (n : ℕ) → AreSeats l g columns rows seats
    → n < l.inputs + length l.cells → get_or seats n 0 ≡ seat_of l.inputs g columns rows n
seat-number l g columns rows seats n h lt =
    ap (λ ss. get_or ss n 0) h.seats_are ∙ get_or-list_of (l.inputs + length l.cells) (seat_of l.inputs g columns rows) n 0 lt

-- the first channel of a signal is that of its seat
pub first_of-signal : (l : MappedValue) (g : GeometryValue) (columns rows seats : List ℕ) (s : Source) → AreSeats l g columns rows seats
    → IsSignal l s → first_of l.inputs g (get_or seats (signal_number l s) 0) ≡ first_channel columns s
first_of-signal l g columns rows seats Zero h signal = absurd signal
first_of-signal l g columns rows seats (Pad i) h signal =
    ap (first_of l.inputs g) (seat-number l g columns rows seats i h (omega arith) ∙ seat_of-input l.inputs g columns rows i signal)
    ∙ first_of-input l.inputs g i signal
first_of-signal l g columns rows seats (Cell k) h signal =
    let n : ℕ = cell_number g (get_or columns k 0) (get_or rows k 0) in
    let back : l.inputs + n - l.inputs ≡ n = omega arith in
    ap (first_of l.inputs g) (seat-number l g columns rows seats (l.inputs + k) h (omega arith) ∙ seat_of-cell l.inputs g columns rows k)
    ∙ first_of-cell l.inputs g (l.inputs + n) (omega arith)
    ∙ ap (λ m. m / g.rows + 1) back
    ∙ ap (λ m. m + 1) (div-mul-add (get_or columns k 0) g.rows (get_or rows k 0) (row-lt l g columns rows k h.columns_count h.are_rows h.room signal))

-- and the word that takes it too
pub entry_of-signal : (l : MappedValue) (g : GeometryValue) (columns rows seats : List ℕ) (s : Source) → AreSeats l g columns rows seats
    → IsSignal l s → entry_of l.inputs g (get_or seats (signal_number l s) 0) ≡ entry_word columns s
entry_of-signal l g columns rows seats Zero h signal = absurd signal
entry_of-signal l g columns rows seats (Pad i) h signal =
    ap (entry_of l.inputs g) (seat-number l g columns rows seats i h (omega arith) ∙ seat_of-input l.inputs g columns rows i signal)
    ∙ entry_of-input l.inputs g i signal ∙ omega arith
entry_of-signal l g columns rows seats (Cell k) h signal =
    let n : ℕ = cell_number g (get_or columns k 0) (get_or rows k 0) in
    let back : l.inputs + n - l.inputs ≡ n = omega arith in
    let entry : entry_of l.inputs g (l.inputs + n) ≡ row_of columns k + 2 =
    entry_of-cell l.inputs g (l.inputs + n) (omega arith)
    ∙ ap (λ m. m % g.rows + 2) back
    ∙ ap (λ m. m + 2) (mod-mul-add (get_or columns k 0) g.rows (get_or rows k 0) (row-lt l g columns rows k h.columns_count h.are_rows h.room signal)
    ∙ row_is l g columns rows k h.columns_count h.are_rows signal) in
    ap (entry_of l.inputs g) (seat-number l g columns rows seats (l.inputs + k) h (omega arith) ∙ seat_of-cell l.inputs g columns rows k)
    ∙ entry ∙ omega arith

-- a signal has its seat before those of later first channels
pub seat_before : (l : MappedValue) (g : GeometryValue) (columns rows seats : List ℕ) (s : Source) (c : ℕ) → AreSeats l g columns rows seats
    → IsSignal l s → first_channel columns s ≤ c → get_or seats (signal_number l s) 0 < seats_until l.inputs g c
seat_before l g columns rows seats Zero c h signal le = absurd signal
seat_before l g columns rows seats (Pad i) c h signal le =
    let at = seat-number l g columns rows seats i h (omega arith) ∙ seat_of-input l.inputs g columns rows i signal in
    omega arith
seat_before l g columns rows seats (Cell k) c h signal le =
    let at : get_or seats (l.inputs + k) 0 ≡ l.inputs + cell_number g (get_or columns k 0) (get_or rows k 0) =
    seat-number l g columns rows seats (l.inputs + k) h (omega arith) ∙ seat_of-cell l.inputs g columns rows k in
    let below : get_or columns k 0 * g.rows + get_or rows k 0 < g.rows * c =
    mul-add-lt (get_or columns k 0) g.rows (get_or rows k 0) c (omega arith) (row-lt l g columns rows k h.columns_count h.are_rows h.room signal) in
    omega (arith, mul_comm g.rows c)

-- the first channel of each seat is the one of its place
pub first_of-seat : (l : MappedValue) (g : GeometryValue) (columns rows seats : List ℕ) (spans seated : List Span) (signals : List (Option ℕ)) (seat : ℕ) (o : Option ℕ)
    → AreSeats l g columns rows seats → AreSpans l columns g.columns spans → HaveSeats l.inputs g spans seats (length spans) seated signals
    → seat < seat_count l.inputs g → get_or signals seat None ≡ o → (span_at seated seat).first ≡ first_of l.inputs g seat
first_of-seat l g columns rows seats spans seated signals seat None h are have lt e =
    ap (λ (s : Span). s.first) (have.empty seat lt e)
first_of-seat l g columns rows seats spans seated signals seat (Some n) h are have lt e =
    let was = have.named seat n e in
    let at = signal_at l n (omega (arith, was.0, are.count)) in
    let s = at.0 in
    ap (λ (v : Span). v.first) (was.2 ∙ ap (span_at spans) (sym at.2))
    ∙ are.firsts s at.1
    ∙ sym (first_of-signal l g columns rows seats s h at.1)
    ∙ ap (first_of l.inputs g) (ap (λ m. get_or seats m 0) at.2 ∙ was.1)

-- so the seats stand in the order of first channels
pub seats-ordered : (l : MappedValue) (g : GeometryValue) (columns rows seats : List ℕ) (spans seated : List Span) (signals : List (Option ℕ))
    → AreSeats l g columns rows seats → AreSpans l columns g.columns spans → HaveSeats l.inputs g spans seats (length spans) seated signals
    → BeginInOrder seated
seats-ordered l g columns rows seats spans seated signals h are have = λ i j le lt.
    let first = λ (seat : ℕ) (less : seat < seat_count l.inputs g).
    first_of-seat l g columns rows seats spans seated signals seat (get_or signals seat None) h are have less refl in
    omega (arith, first i (omega (arith, have.spans_count)), first j (omega (arith, have.spans_count)), first_of-rises l.inputs g i j h.some_rows le)

-- and no channel has more live signals in them
pub seats-need : (l : MappedValue) (g : GeometryValue) (spans : List Span) (seats : List ℕ) (seated : List Span) (signals : List (Option ℕ)) (c : ℕ)
    → HaveSeats l.inputs g spans seats (length spans) seated signals → need seated c ≡ need spans c
seats-need l g spans seats seated signals c have =
    have.needs c ∙ ap (λ ss. need ss c) (take_all (length spans) spans (omega arith))

-- the seat of a signal has its span
pub seat-span : (l : MappedValue) (g : GeometryValue) (columns rows seats : List ℕ) (spans seated : List Span) (signals : List (Option ℕ)) (s : Source)
    → AreSpans l columns g.columns spans → HaveSeats l.inputs g spans seats (length spans) seated signals → IsSignal l s
    → span_at seated (get_or seats (signal_number l s) 0) ≡ span_of l spans s
seat-span l g columns rows seats spans seated signals s are have signal =
    let n : ℕ = signal_number l s in
    let lt : n < length spans = omega (arith, signal_number-lt l s signal, are.count) in
    (have.named (get_or seats n 0) n (have.taken n lt)).2

-- a seat that is live has a signal
pub live-signal : (l : MappedValue) (g : GeometryValue) (columns seats : List ℕ) (spans seated : List Span) (signals : List (Option ℕ)) (seat : ℕ) (o : Option ℕ)
    → AreSpans l columns g.columns spans → HaveSeats l.inputs g spans seats (length spans) seated signals
    → seat < seat_count l.inputs g → (span_at seated seat).first < (span_at seated seat).end → get_or signals seat None ≡ o
    → (s : Source) × IsSignal l s × (get_or seats (signal_number l s) 0 ≡ seat) × (span_at seated seat ≡ span_of l spans s)
live-signal l g columns seats spans seated signals seat None are have lt live e =
    absurd (let none : (span_at seated seat).end ≡ 0 = ap (λ (s : Span). s.end) (have.empty seat lt e) in omega arith)
live-signal l g columns seats spans seated signals seat (Some n) are have lt live e =
    let was = have.named seat n e in
    let at = signal_at l n (omega (arith, was.0, are.count)) in
    (at.0, at.1, ap (λ m. get_or seats m 0) at.2 ∙ was.1, was.2 ∙ ap (span_at spans) (sym at.2))
