-- Counting rows, and signals that take seats one after another.
use Rattle.std.proofs.Common.{◌≡◌, ℕ, zero, suc, ◌+◌, ◌<◌, ◌≤◌, ⊎_elim, Bool, cond, ◌==◌, List, [], ◌∷◌, ◌++◌, length, take, replicate, get_or, set, Option, Some, None, refl, ap, subst, sym, ◌∙◌, arith, eq-eqb}
use Rattle.std.proofs.lemmas.Bool.{cases_lt, cases_eq, ne_eqb}
use Rattle.std.proofs.lemmas.Bool.Decides.{nat_tests}
use Rattle.std.proofs.lemmas.List.{get_or-set_same, get_or-set_other, length-set, get_or_push, get_or_append_left, get_or_past, get_or-replicate, length-replicate}
use Rattle.std.proofs.lemmas.List.Sums.{sum_by_more, sum_by_push, sum_by-set, count_by_more_yes, count_by_more_no, count_by-le-length}
use Rattle.fabric_defs.specs.Numbered.{list_of}
use Rattle.fabric_defs.specs.Geometries.{GeometryValue}
use Rattle.fabric_laws.proofs.NumberedLemmas.{length-list_of, get_or-list_of}
use Rattle.route_defs.specs.declared.span.Span.{Span}
use Rattle.route_defs.specs.Spans.{span_at, no_span, is_live, need}
use Rattle.route_defs.specs.Demands.{cells_in}
use Rattle.route_defs.specs.Placed.{row_of}
use Rattle.route_laws.specs.Seats.{seat_count, empty_span, HaveSeats}

-- a cell more in this column
cells_in-here : (columns : List ℕ) (i c : ℕ) → i < length columns → get_or columns i 0 ≡ c
    → cells_in (take (i + 1) columns) c ≡ cells_in (take i columns) c + 1
cells_in-here columns i c lt e = count_by_more_yes (λ column. column == c) columns i 0 lt (eq-eqb (get_or columns i 0) c e)

-- none in another one
cells_in-there : (columns : List ℕ) (i c : ℕ) → i < length columns → (get_or columns i 0 ≡ c → ⊥)
    → cells_in (take (i + 1) columns) c ≡ cells_in (take i columns) c
cells_in-there columns i c lt ne = count_by_more_no (λ column. column == c) columns i 0 lt (ne_eqb (get_or columns i 0) c ne)

-- the counts after one more cell
pub counts_more : (columns counts : List ℕ) (i column row count : ℕ) → i < length columns → get_or columns i 0 ≡ column
    → length counts ≡ count → column < count → ((c : ℕ) → c < count → get_or counts c 0 ≡ cells_in (take i columns) c)
    → row ≡ cells_in (take i columns) column
    → (c : ℕ) → c < count → get_or (set counts column (row + 1)) c 0 ≡ cells_in (take (i + 1) columns) c
counts_more columns counts i column row count lt e size there before row_is c within =
    ⊎_elim
    (λ here. let P : ℕ → Type 0 = λ d. get_or (set counts column (row + 1)) d 0 ≡ cells_in (take (i + 1) columns) d in
    subst P (sym here)
    (get_or-set_same counts column (row + 1) 0 (omega arith) ∙ ap (λ n. n + 1) row_is ∙ sym (cells_in-here columns i column lt e)))
    (λ ne. get_or-set_other counts column c (row + 1) 0 ne ∙ before c within
    ∙ sym (cells_in-there columns i c lt (λ same. ne (sym same ∙ e))))
    (cases_eq c column)

-- no more cells of a column than cells
pub cells_in-le : (columns : List ℕ) (c : ℕ) → cells_in columns c ≤ length columns
cells_in-le columns c = count_by-le-length (λ column. column == c) columns

-- a test as a number
abbrev bit : Bool → ℕ
bit b = cond b 1 0

-- an empty seat is live nowhere
empty_never : (f c : ℕ) → bit (is_live c (record { first = f; end = 0 })) ≡ 0
empty_never f c = grind (arith, nat_tests)

-- what two equal options hold is equal
same_some : (m n : ℕ) → Some m ≡ Some n → m ≡ n
same_some m n e = cc

-- a seat whose signal comes later is empty
seat_free_from : (inputs : ℕ) (g : GeometryValue) (spans : List Span) (seats : List ℕ) (i seat : ℕ) (seated : List Span) (signals : List (Option ℕ)) (o : Option ℕ)
    → HaveSeats inputs g spans seats i seated signals → get_or seats i 0 ≡ seat → ((m : ℕ) → m < i → get_or seats m 0 ≡ get_or seats i 0 → ⊥)
    → get_or signals seat None ≡ o → o ≡ None
seat_free_from inputs g spans seats i seat seated signals None h seat_is apart e = refl
seat_free_from inputs g spans seats i seat seated signals (Some n) h seat_is apart e =
    let was = h.named seat n e in absurd (apart n was.0 (was.1 ∙ sym seat_is))

-- so the seat of the next signal is empty
seat_free : (inputs : ℕ) (g : GeometryValue) (spans : List Span) (seats : List ℕ) (i seat : ℕ) (seated : List Span) (signals : List (Option ℕ))
    → HaveSeats inputs g spans seats i seated signals → get_or seats i 0 ≡ seat → ((m : ℕ) → m < i → get_or seats m 0 ≡ get_or seats i 0 → ⊥)
    → get_or signals seat None ≡ None
seat_free inputs g spans seats i seat seated signals h seat_is apart =
    seat_free_from inputs g spans seats i seat seated signals (get_or signals seat None) h seat_is apart refl

-- one more signal takes its seat
pub seat_taken : (inputs : ℕ) (g : GeometryValue) (spans : List Span) (seats : List ℕ) (i seat : ℕ) (span : Span) (seated : List Span) (signals : List (Option ℕ))
    → HaveSeats inputs g spans seats i seated signals → i < length spans → get_or seats i 0 ≡ seat → span_at spans i ≡ span
    → seat < seat_count inputs g → ((m : ℕ) → m < i → get_or seats m 0 ≡ get_or seats i 0 → ⊥)
    → HaveSeats inputs g spans seats (i + 1) (set seated seat span) (set signals seat (Some i))
seat_taken inputs g spans seats i seat span seated signals h lt seat_is span_is there apart =
    let vacant : get_or signals seat None ≡ None = seat_free inputs g spans seats i seat seated signals h seat_is apart in
    let old : span_at seated seat ≡ empty_span inputs g seat = h.empty seat there vacant in
    let in_seated : seat < length seated = omega (arith, h.spans_count) in
    let in_signals : seat < length signals = omega (arith, h.signals_count) in
    record {
      spans_count = length-set seated seat span ∙ h.spans_count;
      signals_count = length-set signals seat (Some i) ∙ h.signals_count;
      taken = λ n less.
          ⊎_elim
          (λ before. get_or-set_other signals seat (get_or seats n 0) (Some i) None (λ e. apart n before (e ∙ sym seat_is)) ∙ h.taken n before)
          (λ past. let same : n ≡ i = omega arith in
          ap (λ m. get_or (set signals seat (Some i)) m None) (ap (λ m. get_or seats m 0) same ∙ seat_is)
          ∙ get_or-set_same signals seat (Some i) None in_signals ∙ ap Some (sym same))
          (cases_lt n i);
      named = λ q n e.
          ⊎_elim
          (λ here. let P : ℕ → Type 0 = λ p. get_or (set signals seat (Some i)) p None ≡ Some n in
          let number : i ≡ n = same_some i n (sym (get_or-set_same signals seat (Some i) None in_signals) ∙ subst P here e) in (
            omega arith,
            ap (λ m. get_or seats m 0) (sym number) ∙ seat_is ∙ sym here,
            ap (λ p. span_at (set seated seat span) p) here ∙ get_or-set_same seated seat span no_span in_seated ∙ sym span_is ∙ ap (span_at spans) number,
          ))
          (λ ne. let was = h.named q n (sym (get_or-set_other signals seat q (Some i) None ne) ∙ e) in (
            omega (arith, was.0),
            was.1,
            get_or-set_other seated seat q span no_span ne ∙ was.2,
          ))
          (cases_eq q seat);
      empty = λ q within none.
          ⊎_elim
          (λ here. let P : ℕ → Type 0 = λ p. get_or (set signals seat (Some i)) p None ≡ None in
          let now : Some i ≡ None = sym (get_or-set_same signals seat (Some i) None in_signals) ∙ subst P here none in
          absurd (cc))
          (λ ne. get_or-set_other seated seat q span no_span ne ∙ h.empty q within (sym (get_or-set_other signals seat q (Some i) None ne) ∙ none))
          (cases_eq q seat);
      needs = λ c.
          let never : bit (is_live c (span_at seated seat)) ≡ 0 = ap (λ (s : Span). bit (is_live c s)) old ∙ empty_never (empty_span inputs g seat).first c in
          let more : need (take (i + 1) spans) c ≡ need (take i spans) c + bit (is_live c (span_at spans i)) =
          sum_by_more (λ (s : Span). bit (is_live c s)) spans i no_span lt in
          let now : need (set seated seat span) c + bit (is_live c (span_at seated seat)) ≡ need seated c + bit (is_live c span) =
          sum_by-set (λ (s : Span). bit (is_live c s)) seated seat span no_span in_seated in
          let this : bit (is_live c (span_at spans i)) ≡ bit (is_live c span) = ap (λ (s : Span). bit (is_live c s)) span_is in
          omega (arith, never, more, now, this, h.needs c);
    }

-- one more row behind those before it
pub rows_more : (columns rows : List ℕ) (i row : ℕ) → length rows ≡ i → row ≡ row_of columns i
    → ((k : ℕ) → k < i → get_or rows k 0 ≡ row_of columns k)
    → (k : ℕ) → k < i + 1 → get_or (rows ++ row ∷ []) k 0 ≡ row_of columns k
rows_more columns rows i row long e before k lt =
    ⊎_elim
    (λ here. get_or_append_left rows (row ∷ []) 0 k (omega arith) ∙ before k here)
    (λ past. let last : k ≡ i = omega arith in
    get_or_push rows row 0 k (long ∙ sym last) ∙ e ∙ ap (row_of columns) (sym last))
    (cases_lt k i)

-- no signal of empty seats is live
need-empty : (inputs : ℕ) (g : GeometryValue) (n c : ℕ) → need (list_of n (empty_span inputs g)) c ≡ 0
need-empty inputs g zero c = refl
need-empty inputs g (suc n) c =
    let rest : need (list_of n (empty_span inputs g)) c ≡ 0 = need-empty inputs g n c in
    let never : bit (is_live c (empty_span inputs g n)) ≡ 0 = empty_never (empty_span inputs g n).first c in
    let step : need (list_of (suc n) (empty_span inputs g)) c ≡ need (list_of n (empty_span inputs g)) c + bit (is_live c (empty_span inputs g n)) =
    sum_by_push (λ (s : Span). bit (is_live c s)) (list_of n (empty_span inputs g)) (empty_span inputs g n) in
    omega arith

-- no seat has a signal's number
all_vacant : (n seat : ℕ) → get_or {A = Option ℕ} (replicate n None) seat None ≡ None
all_vacant n seat =
    ⊎_elim
    (λ lt. get_or-replicate n seat None None lt)
    (λ past. get_or_past (replicate n None) seat None (omega (arith, length-replicate {A = Option ℕ} n None)))
    (cases_lt seat n)

-- before the first signal all seats are empty
pub seats_none : (inputs : ℕ) (g : GeometryValue) (spans : List Span) (seats : List ℕ) (n : ℕ) (seated : List Span) (signals : List (Option ℕ))
    → seated ≡ list_of (seat_count inputs g) (empty_span inputs g) → n ≡ length seated → signals ≡ replicate n None
    → HaveSeats inputs g spans seats 0 seated signals
seats_none inputs g spans seats n seated signals e n_is f =
    let long : length seated ≡ seat_count inputs g = ap length e ∙ length-list_of (seat_count inputs g) (empty_span inputs g) in
    let vacant : (seat : ℕ) → get_or signals seat None ≡ None = λ seat. ap (λ (l : List (Option ℕ)). get_or l seat None) f ∙ all_vacant n seat in
    record {
      spans_count = long;
      signals_count = ap length f ∙ length-replicate n None ∙ n_is ∙ long;
      taken = λ m lt. absurd (omega arith);
      named = λ seat m some. absurd (let none : Some m ≡ None = sym some ∙ vacant seat in cc);
      empty = λ seat there none. ap (λ l. span_at l seat) e ∙ get_or-list_of (seat_count inputs g) (empty_span inputs g) seat no_span there;
      needs = λ c. ap (λ l. need l c) e ∙ need-empty inputs g (seat_count inputs g) c;
    }
