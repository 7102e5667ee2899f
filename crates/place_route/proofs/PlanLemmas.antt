-- From mapped cells of which nothing is wanting, step by step to signals that have tracks.
use Rattle.std.proofs.Common.{◌≡◌, ℕ, ◌+◌, ◌<◌, ◌≤◌, List, length, get_or, Option, None, Result, Ok, Err, IfOk, Vec, Global, ap, subst, sym, ◌∙◌, arith}
use Rattle.fabric_defs.specs.Numbered.{list_of}
use Rattle.fabric_defs.specs.declared.limits.TheConstants.{MAX_SIDE}
use Rattle.fabric_defs.specs.Geometries.{GeometryValue, IsGeometry, pin_count}
use Rattle.fabric_laws.proofs.NumberedLemmas.{length-list_of}
use Rattle.map_defs.specs.Mapped.{MappedValue, mapped_cell, AreMapped}
use Rattle.map_defs.specs.Columns.{AreColumns}
use Rattle.route_defs.specs.declared.span.Span.{Span}
use Rattle.route_defs.specs.Spans.{need}
use Rattle.route_defs.specs.Signals.{AreSpans}
use Rattle.route_defs.specs.Demands.{demands, first_over}
use Rattle.route_defs.specs.Tracks.{AreTracks, BeginInOrder}
use Rattle.route_laws.specs.Seats.{AreRows, seat_of, seat_count, HaveSeats}
use Rattle.route_laws.specs.Listing.{listed_words}
use Rattle.place_laws.specs.Routings.{AreSeats, HaveTracks}
use Rattle.place_laws.proofs.RoomLemmas.{have_room, needs_met}
use Rattle.place_laws.proofs.SeatingLemmas.{row-lt, seat-number, seat_of-lt, seat_of-apart, seats-ordered, seats-need}
use Rattle.place_laws.proofs.PlacingLemmas.{listed_place}
use Rattle.place_route.specs.Routings.{PlaceCells}

-- cells of which nothing is wanting, with their columns, rows and spans
pub record CanBePlaced (l : MappedValue) (g : GeometryValue) (columns rows : List ℕ) (spans : List Span) : Type 0 where
  pub geometry : IsGeometry g
  pub cols : AreColumns l columns
  pub are_rows : AreRows columns rows
  pub are : AreSpans l columns g.columns spans
  pub met : first_over (demands l g columns spans) ≡ None

-- their columns and rows are there, and inputs are few
pub columns-there : (l : MappedValue) (g : GeometryValue) (columns rows : List ℕ) (spans : List Span) → CanBePlaced l g columns rows spans
    → (k : ℕ) → k < length columns → get_or columns k 0 < g.columns
columns-there l g columns rows spans h k lt =
    (have_room l g columns spans h.cols.count h.met).column k (omega (arith, h.cols.count))

-- the row of each cell is one of the fabric's
pub rows-there : (l : MappedValue) (g : GeometryValue) (columns rows : List ℕ) (spans : List Span) → CanBePlaced l g columns rows spans
    → (k : ℕ) → k < length columns → get_or rows k 0 < g.rows
rows-there l g columns rows spans h k lt =
    row-lt l g columns rows k h.cols.count h.are_rows (have_room l g columns spans h.cols.count h.met) (omega (arith, h.cols.count))

-- there are no more inputs than a fabric may have input pads
pub inputs-few : (l : MappedValue) (g : GeometryValue) (columns rows : List ℕ) (spans : List Span) (inputs : ℕ) → CanBePlaced l g columns rows spans
    → inputs ≡ l.inputs → inputs ≤ MAX_SIDE
inputs-few l g columns rows spans inputs h e =
    omega (arith, (have_room l g columns spans h.cols.count h.met).input_pads, h.geometry.input_pads)

-- their signals have seats
pub are_seats : (l : MappedValue) (g : GeometryValue) (columns rows : List ℕ) (spans : List Span) (inputs : ℕ) (seats : List ℕ)
    → CanBePlaced l g columns rows spans → inputs ≡ l.inputs
    → seats ≡ list_of (inputs + length columns) (seat_of inputs g columns rows) → AreSeats l g columns rows seats
are_seats l g columns rows spans inputs seats h e is = record {
  columns_count = h.cols.count;
  are_rows = h.are_rows;
  room = have_room l g columns spans h.cols.count h.met;
  some_rows = omega (arith, h.geometry.some_rows);
  seats_are =
      is
      ∙ ap (λ n. list_of (n + length columns) (seat_of n g columns rows)) e
      ∙ ap (λ n. list_of (l.inputs + n) (seat_of l.inputs g columns rows)) h.cols.count;
}

-- there is a seat for each input and each cell
pub seats-count : (l : MappedValue) (g : GeometryValue) (columns rows seats : List ℕ) → AreSeats l g columns rows seats
    → length seats ≡ l.inputs + length l.cells
seats-count l g columns rows seats h =
    ap length h.seats_are ∙ length-list_of (l.inputs + length l.cells) (seat_of l.inputs g columns rows)

-- these are there, and each is one signal's
pub seats-there : (l : MappedValue) (g : GeometryValue) (columns rows seats : List ℕ) (inputs n : ℕ) → AreSeats l g columns rows seats
    → inputs ≡ l.inputs → n < length seats → get_or seats n 0 < seat_count inputs g
seats-there l g columns rows seats inputs n h e lt =
    let less : n < l.inputs + length l.cells = omega (arith, seats-count l g columns rows seats h) in
    let below : get_or seats n 0 < seat_count l.inputs g =
    omega (arith, seat-number l g columns rows seats n h less, seat_of-lt l g columns rows n h.columns_count h.are_rows h.room less) in
    let P : ℕ → Type 0 = λ m. get_or seats n 0 < seat_count m g in
    subst P (sym e) below

-- no two signals have one seat
pub seats-apart : (l : MappedValue) (g : GeometryValue) (columns rows seats : List ℕ) (m n : ℕ) → AreSeats l g columns rows seats
    → m < n → n < length seats → get_or seats m 0 ≡ get_or seats n 0 → ⊥
seats-apart l g columns rows seats m n h less lt same =
    let below : n < l.inputs + length l.cells = omega (arith, seats-count l g columns rows seats h) in
    seat_of-apart l g columns rows m n h.columns_count h.are_rows h.room less below
    (sym (seat-number l g columns rows seats m h (omega arith)) ∙ same ∙ seat-number l g columns rows seats n h below)

-- the seats that they have taken are in the order of first channels
pub have_seats : (l : MappedValue) (g : GeometryValue) (spans : List Span) (seats : List ℕ) (inputs : ℕ) (seated : List Span) (signals : List (Option ℕ))
    → inputs ≡ l.inputs → HaveSeats inputs g spans seats (length spans) seated signals
    → HaveSeats l.inputs g spans seats (length spans) seated signals
have_seats l g spans seats inputs seated signals e h =
    let P : ℕ → Type 0 = λ n. HaveSeats n g spans seats (length spans) seated signals in subst P e h

-- so the spans of the seats begin in the order of the seats
pub seated-ordered : (l : MappedValue) (g : GeometryValue) (columns rows seats : List ℕ) (spans : List Span) (inputs : ℕ) (seated : List Span) (signals : List (Option ℕ))
    → CanBePlaced l g columns rows spans → AreSeats l g columns rows seats → inputs ≡ l.inputs
    → HaveSeats inputs g spans seats (length spans) seated signals → BeginInOrder seated
seated-ordered l g columns rows seats spans inputs seated signals h are e have =
    seats-ordered l g columns rows seats spans seated signals are h.are (have_seats l g spans seats inputs seated signals e have)

-- and no channel has too many of them
pub seated-need : (l : MappedValue) (g : GeometryValue) (columns rows seats : List ℕ) (spans : List Span) (inputs have : ℕ) (seated : List Span) (signals : List (Option ℕ)) (c : ℕ)
    → CanBePlaced l g columns rows spans → inputs ≡ l.inputs → have ≡ g.tracks
    → HaveSeats inputs g spans seats (length spans) seated signals → need seated c ≤ have
seated-need l g columns rows seats spans inputs have seated signals c h e t seated_are =
    omega (
      arith,
      seats-need l g spans seats seated signals c (have_seats l g spans seats inputs seated signals e seated_are),
      needs_met l g columns spans h.cols h.are h.met c,
    )

-- so they have tracks
pub have_tracks : (l : MappedValue) (g : GeometryValue) (columns rows seats : List ℕ) (spans : List Span) (inputs have : ℕ) (seated : List Span) (signals : List (Option ℕ)) (chosen tracks : List ℕ)
    → CanBePlaced l g columns rows spans → AreSeats l g columns rows seats → inputs ≡ l.inputs → have ≡ g.tracks
    → HaveSeats inputs g spans seats (length spans) seated signals → AreTracks seated have chosen
    → tracks ≡ list_of (length seats) (λ n. get_or chosen (get_or seats n 0) 0)
    → HaveTracks l g columns rows spans seats seated signals chosen tracks
have_tracks l g columns rows seats spans inputs have seated signals chosen tracks h are e t seated_are choice tracks_are =
    let P : ℕ → Type 0 = λ n. AreTracks seated n chosen in
    record {
      geometry = h.geometry;
      are_seats = are;
      are = h.are;
      have = have_seats l g spans seats inputs seated signals e seated_are;
      choice = subst P t choice;
      tracks_are = tracks_are ∙ ap (λ n. list_of n (λ m. get_or chosen (get_or seats m 0) 0)) (seats-count l g columns rows seats are);
    }

-- the same where seats, spans and tracks were lent, from what each step has answered
pub have_tracks_lent : (l : MappedValue) (g : GeometryValue) (columns rows seats lent shown : List ℕ) (spans seated passed : List Span) (inputs have : ℕ) (signals : List (Option ℕ)) (chosen marks tracks : List ℕ)
    → CanBePlaced l g columns rows spans → inputs ≡ l.inputs → have ≡ g.tracks
    → seats ≡ list_of (inputs + length columns) (seat_of inputs g columns rows)
    → lent ≡ seats → passed ≡ seated → shown ≡ seats → marks ≡ chosen
    → HaveSeats inputs g spans lent (length spans) seated signals → AreTracks passed have chosen
    → tracks ≡ list_of (length shown) (λ n. get_or marks (get_or shown n 0) 0)
    → HaveTracks l g columns rows spans seats seated signals chosen tracks
have_tracks_lent l g columns rows seats lent shown spans seated passed inputs have signals chosen marks tracks h e t is p q r s seated_are choice tracks_are =
    let S : List ℕ → Type 0 = λ ss. HaveSeats inputs g spans ss (length spans) seated signals in
    let C : List Span → Type 0 = λ ss. AreTracks ss have chosen in
    have_tracks l g columns rows seats spans inputs have seated signals chosen tracks h (are_seats l g columns rows spans inputs seats h e is) e t (subst S p seated_are) (subst C q choice)
    (tracks_are
    ∙ ap (λ ss. list_of (length ss) (λ n. get_or marks (get_or ss n 0) 0)) r
    ∙ ap (λ ms. list_of (length seats) (λ n. get_or ms (get_or seats n 0) 0)) s)

-- and their words place the cells
pub words_place_cells : (l : MappedValue) (g : GeometryValue) (columns rows seats : List ℕ) (spans : List Span) (seated : List Span) (signals : List (Option ℕ)) (chosen tracks words : List ℕ)
    → HaveTracks l g columns rows spans seats seated signals chosen tracks → AreMapped l → AreColumns l columns
    → ((k : ℕ) → k < length l.cells → length (mapped_cell l k).pins ≤ pin_count g)
    → words ≡ listed_words l g seated chosen tracks signals → PlaceCells l g columns spans words
words_place_cells l g columns rows seats spans seated signals chosen tracks words h mapped cols few e =
    let P : List ℕ → Type 0 = λ ws. PlaceCells l g columns spans ws in
    subst P (sym e) (tracks, listed_place l g columns rows spans seats seated signals chosen tracks h mapped cols few)

-- the words that are written, if memory was there
pub written_place : {E : Type 0} (r : Result (Vec ℕ Global) E) (l : MappedValue) (g : GeometryValue) (columns rows : List ℕ) (spans : List Span) (seats : List ℕ) (seated : List Span) (signals : List (Option ℕ)) (chosen tracks : List ℕ)
    → HaveTracks l g columns rows spans seats seated signals chosen tracks → AreMapped l → AreColumns l columns
    → ((k : ℕ) → k < length l.cells → length (mapped_cell l k).pins ≤ pin_count g)
    → IfOk r (λ words. words.items ≡ listed_words l g seated chosen tracks signals)
    → IfOk r (λ words. PlaceCells l g columns spans words.items)
written_place (Ok words) l g columns rows spans seats seated signals chosen tracks h mapped cols few e =
    words_place_cells l g columns rows seats spans seated signals chosen tracks words.items h mapped cols few e
written_place (Err e) l g columns rows spans seats seated signals chosen tracks h mapped cols few _ = tt
