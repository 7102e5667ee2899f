use Rattle.std.proofs.Common.{rules, ◌≡◌, ◌<◌, ℕ, length, subst, refl, arith, get_or}
use Rattle.route_laws.specs.Seats.{HaveSeats}
use Rattle.seats.proofs.SeatLemmas.{seats_none, seat_taken}
use Rattle.seats.proofs.seating.take_seats.Goals as goal

pub loop-n-init : goal.loop-n-init
loop-n-init c =
    seats_none c.args.inputs c.args.g c.args.spans.now c.args.seats.now c.len.result c.in_ok-seated.seated.items c.in_ok-signals.signals.items
    c.in_ok-seated.ensures (search rules) (c.in_ok-signals.ensures.items_if_clones_equal (λ y h. search rules))

pub index_mut-requires : goal.index_mut-requires
index_mut-requires c =
    omega (arith, c.loop-n.invariant.spans_count, c.requires.within c.loop-n.n (omega (arith, c.loop-n-test.true, c.requires.count)))

pub index_mut-requires-in-loop-n : goal.index_mut-requires-in-loop-n
index_mut-requires-in-loop-n c =
    omega (arith, c.loop-n.invariant.signals_count, c.requires.within c.loop-n.n (omega (arith, c.loop-n-test.true, c.requires.count)))

pub loop-n-preserved : goal.loop-n-preserved
loop-n-preserved c =
    let n = c.loop-n.n in
    let lt : n < length c.args.spans.now = omega (arith, c.loop-n-test.true, c.requires.count) in
    seat_taken c.args.inputs c.args.g c.args.spans.now c.args.seats.now n (get_or c.args.seats.now n 0)
    (get_or c.args.spans.now n (record { first = 0; end = 0 })) c.loop-n.seated.items c.loop-n.signals.items c.loop-n.invariant lt refl refl
    (c.requires.within n lt) (λ m less. c.requires.apart m n less lt)

pub returns : goal.returns
returns c =
    let P : ℕ → Type 0 = λ n. HaveSeats c.args.inputs c.args.g c.args.spans.now c.args.seats.now n c.loop-n.seated.items c.loop-n.signals.items in
    let all : c.loop-n.n ≡ length c.args.spans.now = omega (arith, c.loop-n.auto.n-end, c.loop-n-test.false, c.requires.count) in
    subst P all c.loop-n.invariant
