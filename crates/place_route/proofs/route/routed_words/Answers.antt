use Rattle.std.proofs.Common.{◌≡◌, ◌<◌, ◌≤◌, ℕ, List, length, get_or, ap, subst, sym, ◌∙◌, arith}
use Rattle.route_defs.specs.declared.span.Span.{Span}
use Rattle.route_defs.specs.Spans.{need}
use Rattle.route_defs.specs.Tracks.{BeginInOrder}
use Rattle.route_laws.specs.Seats.{seat_count, HaveSeats}
use Rattle.place_laws.specs.Routings.{AreSeats}
use Rattle.place_route.proofs.PlanLemmas.{CanBePlaced, columns-there, rows-there, are_seats, seats-count, seats-there, seats-apart, seated-ordered, seated-need, have_tracks_lent, written_place}
use Rattle.place_route.proofs.RoutingLemmas.{is_routing}
use Rattle.place_route.proofs.route.routed_words.Goals as goal

pub seats_of-requires-clause-columns : goal.seats_of-requires-clause-columns
seats_of-requires-clause-columns c =
    columns-there c.args.l.now c.args.g c.args.columns.now c.args.rows.now c.args.spans.now
    (record { geometry = c.t-have.ensures.known; cols = c.requires.columns; are_rows = c.requires.rows; are = c.requires.spans; met = c.requires.met })

pub seats_of-requires-clause-rows : goal.seats_of-requires-clause-rows
seats_of-requires-clause-rows c =
    rows-there c.args.l.now c.args.g c.args.columns.now c.args.rows.now c.args.spans.now
    (record { geometry = c.t-have.ensures.known; cols = c.requires.columns; are_rows = c.requires.rows; are = c.requires.spans; met = c.requires.met })

pub take_seats-requires-clause-count : goal.take_seats-requires-clause-count
take_seats-requires-clause-count c =
    let l = c.args.l.now in
    let g = c.args.g in
    let columns = c.args.columns.now in
    let rows = c.args.rows.now in
    let spans = c.args.spans.now in
    let ready : CanBePlaced l g columns rows spans =
    record { geometry = c.t-have.ensures.known; cols = c.requires.columns; are_rows = c.requires.rows; are = c.requires.spans; met = c.requires.met } in
    let are : AreSeats l g columns rows c.in_ok-seats.seats.items =
    are_seats l g columns rows spans c.inputs-inputs.result c.in_ok-seats.seats.items ready c.inputs-inputs.ensures.count c.in_ok-seats.ensures in
    ap length c.deref.ensures.value ∙ seats-count l g columns rows c.in_ok-seats.seats.items are ∙ sym c.requires.spans.count

pub take_seats-requires-clause-within : goal.take_seats-requires-clause-within
take_seats-requires-clause-within c =
    let l = c.args.l.now in
    let g = c.args.g in
    let columns = c.args.columns.now in
    let rows = c.args.rows.now in
    let spans = c.args.spans.now in
    let seats = c.in_ok-seats.seats.items in
    let ready : CanBePlaced l g columns rows spans =
    record { geometry = c.t-have.ensures.known; cols = c.requires.columns; are_rows = c.requires.rows; are = c.requires.spans; met = c.requires.met } in
    let are : AreSeats l g columns rows seats =
    are_seats l g columns rows spans c.inputs-inputs.result seats ready c.inputs-inputs.ensures.count c.in_ok-seats.ensures in
    λ n lt. let P : List ℕ → Type 0 = λ ss. get_or ss n 0 < seat_count c.inputs-inputs.result g in
    subst P (sym c.deref.ensures.value)
    (seats-there l g columns rows seats c.inputs-inputs.result n are c.inputs-inputs.ensures.count
    (omega (arith, seats-count l g columns rows seats are, c.requires.spans.count, lt)))

pub take_seats-requires-clause-apart : goal.take_seats-requires-clause-apart
take_seats-requires-clause-apart c =
    let l = c.args.l.now in
    let g = c.args.g in
    let columns = c.args.columns.now in
    let rows = c.args.rows.now in
    let spans = c.args.spans.now in
    let seats = c.in_ok-seats.seats.items in
    let ready : CanBePlaced l g columns rows spans =
    record { geometry = c.t-have.ensures.known; cols = c.requires.columns; are_rows = c.requires.rows; are = c.requires.spans; met = c.requires.met } in
    let are : AreSeats l g columns rows seats =
    are_seats l g columns rows spans c.inputs-inputs.result seats ready c.inputs-inputs.ensures.count c.in_ok-seats.ensures in
    λ m n less lt. let P : List ℕ → Type 0 = λ ss. get_or ss m 0 ≡ get_or ss n 0 → ⊥ in
    subst P (sym c.deref.ensures.value)
    (seats-apart l g columns rows seats m n are less (omega (arith, seats-count l g columns rows seats are, c.requires.spans.count, lt)))

pub choose_tracks-requires-clause-ordered : goal.choose_tracks-requires-clause-ordered
choose_tracks-requires-clause-ordered c =
    let l = c.args.l.now in
    let g = c.args.g in
    let columns = c.args.columns.now in
    let rows = c.args.rows.now in
    let spans = c.args.spans.now in
    let seats = c.in_ok-seats.seats.items in
    let seated = c.in_ok-seating.seating.spans.items in
    let signals = c.in_ok-seating.seating.signals.items in
    let ready : CanBePlaced l g columns rows spans =
    record { geometry = c.t-have.ensures.known; cols = c.requires.columns; are_rows = c.requires.rows; are = c.requires.spans; met = c.requires.met } in
    let are : AreSeats l g columns rows seats =
    are_seats l g columns rows spans c.inputs-inputs.result seats ready c.inputs-inputs.ensures.count c.in_ok-seats.ensures in
    let S : List ℕ → Type 0 = λ ss. HaveSeats c.inputs-inputs.result g spans ss (length spans) seated signals in
    let O : List Span → Type 0 = λ ss. BeginInOrder ss in
    subst O (sym c.deref-2.ensures.value)
    (seated-ordered l g columns rows seats spans c.inputs-inputs.result seated signals ready are c.inputs-inputs.ensures.count
    (subst S c.deref.ensures.value c.in_ok-seating.ensures))

pub choose_tracks-requires-clause-room : goal.choose_tracks-requires-clause-room
choose_tracks-requires-clause-room c =
    let l = c.args.l.now in
    let g = c.args.g in
    let columns = c.args.columns.now in
    let rows = c.args.rows.now in
    let spans = c.args.spans.now in
    let seats = c.in_ok-seats.seats.items in
    let seated = c.in_ok-seating.seating.spans.items in
    let signals = c.in_ok-seating.seating.signals.items in
    let ready : CanBePlaced l g columns rows spans =
    record { geometry = c.t-have.ensures.known; cols = c.requires.columns; are_rows = c.requires.rows; are = c.requires.spans; met = c.requires.met } in
    let S : List ℕ → Type 0 = λ ss. HaveSeats c.inputs-inputs.result g spans ss (length spans) seated signals in
    λ n. let N : List Span → Type 0 = λ ss. need ss n ≤ c.t-have.result in
    subst N (sym c.deref-2.ensures.value)
    (seated-need l g columns rows seats spans c.inputs-inputs.result c.t-have.result seated signals n ready c.inputs-inputs.ensures.count
    c.t-have.ensures.value (subst S c.deref.ensures.value c.in_ok-seating.ensures))

pub tracks_of-requires : goal.tracks_of-requires
tracks_of-requires c =
    let l = c.args.l.now in
    let g = c.args.g in
    let columns = c.args.columns.now in
    let rows = c.args.rows.now in
    let spans = c.args.spans.now in
    let seats = c.in_ok-seats.seats.items in
    let ready : CanBePlaced l g columns rows spans =
    record { geometry = c.t-have.ensures.known; cols = c.requires.columns; are_rows = c.requires.rows; are = c.requires.spans; met = c.requires.met } in
    let are : AreSeats l g columns rows seats =
    are_seats l g columns rows spans c.inputs-inputs.result seats ready c.inputs-inputs.ensures.count c.in_ok-seats.ensures in
    let marks : length c.deref-4.result.now ≡ seat_count c.inputs-inputs.result g =
    ap length c.deref-4.ensures.value ∙ c.in_ok-chosen.ensures.count ∙ ap length c.deref-2.ensures.value ∙ c.in_ok-seating.ensures.spans_count in
    λ n lt. let P : List ℕ → Type 0 = λ ss. get_or ss n 0 < length c.deref-4.result.now in
    subst P (sym c.deref-3.ensures.value)
    (omega (
      arith,
      marks,
      seats-there l g columns rows seats c.inputs-inputs.result n are c.inputs-inputs.ensures.count
          (omega (arith, lt, ap length c.deref-3.ensures.value)),
    ))

pub words-requires : goal.words-requires
words-requires c =
    is_routing c.args.l.now c.args.g c.args.columns.now c.args.rows.now c.args.spans.now c.in_ok-seats.seats.items
    c.in_ok-seating.seating.spans.items c.in_ok-seating.seating.signals.items c.in_ok-chosen.chosen.items c.in_ok-tracks.tracks.items
    (have_tracks_lent _ _ _ _ _ _ _ _ _ _ _ _ _ _ _ _
    (record { geometry = c.t-have.ensures.known; cols = c.requires.columns; are_rows = c.requires.rows; are = c.requires.spans; met = c.requires.met })
    c.inputs-inputs.ensures.count c.t-have.ensures.value c.in_ok-seats.ensures
    c.deref.ensures.value c.deref-2.ensures.value c.deref-3.ensures.value c.deref-4.ensures.value
    c.in_ok-seating.ensures c.in_ok-chosen.ensures c.in_ok-tracks.ensures)
    c.inputs-inputs.ensures.known.mapped c.requires.columns

pub returns : goal.returns
returns c =
    written_place c.words.result c.args.l.now c.args.g c.args.columns.now c.args.rows.now c.args.spans.now c.in_ok-seats.seats.items
    c.in_ok-seating.seating.spans.items c.in_ok-seating.seating.signals.items c.in_ok-chosen.chosen.items c.in_ok-tracks.tracks.items
    (have_tracks_lent _ _ _ _ _ _ _ _ _ _ _ _ _ _ _ _
    (record { geometry = c.t-have.ensures.known; cols = c.requires.columns; are_rows = c.requires.rows; are = c.requires.spans; met = c.requires.met })
    c.inputs-inputs.ensures.count c.t-have.ensures.value c.in_ok-seats.ensures
    c.deref.ensures.value c.deref-2.ensures.value c.deref-3.ensures.value c.deref-4.ensures.value
    c.in_ok-seating.ensures c.in_ok-chosen.ensures c.in_ok-tracks.ensures)
    c.inputs-inputs.ensures.known.mapped c.requires.columns c.requires.pins c.words.ensures
