use Rattle.std.proofs.Common.{◌≡◌, ℕ, get_or, Some, inr, subst, arith}
use Rattle.trace_places.specs.Others.{place_in}
use Rattle.trace_places.proofs.MoveLemmas.{within_after, maps_right_after, has_all_after, has_after}
use Rattle.trace_places.proofs.places.move_slot.Goals as goal

-- the place in a new slot is one of these indices
pub returns-then-add-clause-within : goal.returns-then-add-clause-within
returns-then-add-clause-within c =
    within_after c.args.indices.now c.args.more.now.numbers.items c.add.new.self.numbers.items c.in-Some.place
    (c.requires.from_within c.args.slot c.in-Some.place c.in-Some.ensures.some)
    c.requires.within c.add.ensures.only

-- the places in the new slots are within where the map has no memory
pub returns-in_err-insert-clause-within : goal.returns-in_err-insert-clause-within
returns-in_err-insert-clause-within c =
    within_after c.args.indices.now c.args.more.now.numbers.items c.add.new.self.numbers.items c.in-Some.place
    (c.requires.from_within c.args.slot c.in-Some.place c.in-Some.ensures.some)
    c.requires.within c.add.ensures.only

-- the places in the new slots are within where the index goes into the map
pub returns-clause-within : goal.returns-clause-within
returns-clause-within c =
    within_after c.args.indices.now c.args.more.now.numbers.items c.add.new.self.numbers.items c.in-Some.place
    (c.requires.from_within c.args.slot c.in-Some.place c.in-Some.ensures.some)
    c.requires.within c.add.ensures.only

-- a place in a slot is one of these indices
pub bounds-indices-place : goal.bounds-indices-place
bounds-indices-place c = c.requires.from_within c.args.slot c.in-Some.place c.in-Some.ensures.some

-- the index has its place in the map
pub returns-clause-mapped : goal.returns-clause-mapped
returns-clause-mapped c =
    maps_right_after c.args.indices.now (place_in c.args.others.now) (place_in c.insert.new.self) (get_or c.args.indices.now c.in-Some.place 0) c.in-Some.place
    (c.requires.distinct c.in-Some.place (c.requires.from_within c.args.slot c.in-Some.place c.in-Some.ensures.some))
    c.requires.mapped (c.in_ok-insert.ensures {u = tt}).updates

-- the map keeps what it had
pub returns-clause-all : goal.returns-clause-all
returns-clause-all c =
    has_all_after c.args.indices.now (place_in c.args.others.now) (place_in c.insert.new.self) (get_or c.args.indices.now c.in-Some.place 0) c.in-Some.place
    (c.requires.distinct c.in-Some.place (c.requires.from_within c.args.slot c.in-Some.place c.in-Some.ensures.some))
    c.requires.mapped (c.in_ok-insert.ensures {u = tt}).updates

-- the map has the index with its place
pub returns-clause-moved : goal.returns-clause-moved
returns-clause-moved c p e =
    let some = c.in-Some.ensures.some in
    let same : c.in-Some.place ≡ p = omega arith in
    inr (subst (λ (q : ℕ). place_in c.insert.new.self (get_or c.args.indices.now q 0) ≡ Some q) same
    (has_after (place_in c.args.others.now) (place_in c.insert.new.self) (get_or c.args.indices.now c.in-Some.place 0) c.in-Some.place
    (c.in_ok-insert.ensures {u = tt}).updates))
