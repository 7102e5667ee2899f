use Rattle.std.proofs.Common.{◌≡◌, ℕ, ◌+◌, ◌==◌, ◌∷◌, ◌++◌, [], List, length, None, Some, if◌then◌else◌, get_or, sym, ap, ◌∙◌, subst}
use Rattle.trace_places.specs.Others.{place_in}
use Rattle.clause_defs.specs.Traces.{place_of}
use Rattle.trace_places.specs.Groups.{AreWithin}
use Rattle.trace_places.specs.Places.{AreDistinct}
use Rattle.trace_places.proofs.PushLemmas.{ArePlaces-put, ArePlaces-insert, ArePlaces-add, ArePlaces-same_table, ArePlaces-made_room}
use Rattle.trace_places.proofs.places.Places.push.Goals as goal

-- a table that couldn't be made longer says the same
pub invariant_of-self-in_err-put : goal.invariant_of-self-in_err-put
invariant_of-self-in_err-put c =
    let items : c.reserve.new.self.items ≡ c.self.inside.indices.items = cc in
    rw items
    (ArePlaces-same_table c.self.inside.indices.items c.self.inside.table.items c.put.new.table.items c.self.inside.groups.count c.self.inside.groups.tags.items
    c.self.inside.groups.numbers.items (place_in c.self.inside.others) c.in_err-put.ensures.same c.self.invariant)

-- the table says the new place too
pub invariant_of-self-then-index-limit : goal.invariant_of-self-then-index-limit
invariant_of-self-then-index-limit c =
    let none : place_of c.self.inside.indices.items c.args.index ≡ None = cc in
    let items : c.push_reserved.new.self.items ≡ c.self.inside.indices.items ++ c.args.index ∷ [] = cc in
    let place : c.len-place.result + 1 ≡ length c.self.inside.indices.items + 1 = ap (λ (n : ℕ). n + 1) (c.len-place.ensures ∙ c.self.inside.indices.ok.0) in
    rw items
    (ArePlaces-put c.self.inside.indices.items c.self.inside.table.items c.put.new.table.items c.self.inside.groups.count c.self.inside.groups.tags.items
    c.self.inside.groups.numbers.items (place_in c.self.inside.others) c.args.index none
    (λ y. c.in_ok-put.ensures.set y ∙ ap (λ (n : ℕ). if c.args.index == y then n else get_or c.self.inside.table.items y 0) place)
    c.self.invariant)

-- what the slots have is right
pub make_room-requires-clause-within : goal.make_room-requires-clause-within
make_room-requires-clause-within c =
    let lent : c.deref.result.now ≡ c.self.inside.indices.items = cc in
    subst (λ (is : List ℕ). AreWithin is c.self.inside.groups.numbers.items) (sym lent) c.self.invariant.within

-- the indices are distinct
pub make_room-requires-clause-distinct : goal.make_room-requires-clause-distinct
make_room-requires-clause-distinct c =
    let lent : c.deref.result.now ≡ c.self.inside.indices.items = cc in
    subst (λ (is : List ℕ). AreDistinct is) (sym lent) c.self.invariant.distinct

-- after what was moved before memory was wanting, all places are still said
pub invariant_of-self-in_err-make_room : goal.invariant_of-self-in_err-make_room
invariant_of-self-in_err-make_room c =
    let items : c.reserve.new.self.items ≡ c.self.inside.indices.items = cc in
    let lent : c.deref.result.now ≡ c.self.inside.indices.items = cc in
    let room = ArePlaces-made_room c.self.inside.indices.items c.deref.result.now c.self.inside.table.items c.self.inside.groups.count c.self.inside.groups.tags.items
    c.self.inside.groups.numbers.items (place_in c.self.inside.others) c.make_room.new.groups.count c.make_room.new.groups.tags.items c.make_room.new.groups.numbers.items
    (place_in c.make_room.new.others) lent c.make_room.ensures.slots c.make_room.ensures.within c.make_room.ensures.mapped c.make_room.ensures.all c.make_room.ensures.kept
    c.self.invariant in
    rw items room

-- a slot says the new place too
pub invariant_of-self-then-add : goal.invariant_of-self-then-add
invariant_of-self-then-add c =
    let none : place_of c.self.inside.indices.items c.args.index ≡ None = cc in
    let items : c.push_reserved-then-add.new.self.items ≡ c.self.inside.indices.items ++ c.args.index ∷ [] = cc in
    let place : c.len-place.result ≡ length c.self.inside.indices.items = c.len-place.ensures ∙ c.self.inside.indices.ok.0 in
    let lent : c.deref.result.now ≡ c.self.inside.indices.items = cc in
    let room = ArePlaces-made_room c.self.inside.indices.items c.deref.result.now c.self.inside.table.items c.self.inside.groups.count c.self.inside.groups.tags.items
    c.self.inside.groups.numbers.items (place_in c.self.inside.others) c.make_room.new.groups.count c.make_room.new.groups.tags.items c.make_room.new.groups.numbers.items
    (place_in c.make_room.new.others) lent c.make_room.ensures.slots c.make_room.ensures.within c.make_room.ensures.mapped c.make_room.ensures.all c.make_room.ensures.kept
    c.self.invariant in
    rw items
    (ArePlaces-add c.self.inside.indices.items c.self.inside.table.items c.make_room.new.groups.count c.make_room.new.groups.tags.items c.make_room.new.groups.numbers.items
    c.add.new.self.count c.add.new.self.tags.items c.add.new.self.numbers.items (place_in c.make_room.new.others) c.args.index c.len-place.result none
    place c.add.ensures.count c.add.ensures.slots c.add.ensures.kept c.add.ensures.only (c.add.ensures.added c.if-add.true) room)

-- where the map has no memory for it, all places are still said
pub invariant_of-self-in_err-insert : goal.invariant_of-self-in_err-insert
invariant_of-self-in_err-insert c =
    let items : c.reserve.new.self.items ≡ c.self.inside.indices.items = cc in
    let same = c.add.ensures.same c.if-add.false in
    let lent : c.deref.result.now ≡ c.self.inside.indices.items = cc in
    let room = ArePlaces-made_room c.self.inside.indices.items c.deref.result.now c.self.inside.table.items c.self.inside.groups.count c.self.inside.groups.tags.items
    c.self.inside.groups.numbers.items (place_in c.self.inside.others) c.make_room.new.groups.count c.make_room.new.groups.tags.items c.make_room.new.groups.numbers.items
    (place_in c.make_room.new.others) lent c.make_room.ensures.slots c.make_room.ensures.within c.make_room.ensures.mapped c.make_room.ensures.all c.make_room.ensures.kept
    c.self.invariant in
    rw (items, c.add.ensures.count, same.0, same.1, (c.in_err-insert.ensures {u = tt}).unchanged) room

-- the map says the new place too
pub invariant_of-self-2 : goal.invariant_of-self-2
invariant_of-self-2 c =
    let none : place_of c.self.inside.indices.items c.args.index ≡ None = cc in
    let items : c.push_reserved-2.new.self.items ≡ c.self.inside.indices.items ++ c.args.index ∷ [] = cc in
    let place : c.len-place.result ≡ length c.self.inside.indices.items = c.len-place.ensures ∙ c.self.inside.indices.ok.0 in
    let same = c.add.ensures.same c.if-add.false in
    let lent : c.deref.result.now ≡ c.self.inside.indices.items = cc in
    let room = ArePlaces-made_room c.self.inside.indices.items c.deref.result.now c.self.inside.table.items c.self.inside.groups.count c.self.inside.groups.tags.items
    c.self.inside.groups.numbers.items (place_in c.self.inside.others) c.make_room.new.groups.count c.make_room.new.groups.tags.items c.make_room.new.groups.numbers.items
    (place_in c.make_room.new.others) lent c.make_room.ensures.slots c.make_room.ensures.within c.make_room.ensures.mapped c.make_room.ensures.all c.make_room.ensures.kept
    c.self.invariant in
    rw (items, c.add.ensures.count, same.0, same.1)
    (ArePlaces-insert c.self.inside.indices.items c.self.inside.table.items c.make_room.new.groups.count c.make_room.new.groups.tags.items c.make_room.new.groups.numbers.items
    (place_in c.make_room.new.others) (place_in c.insert.new.self) c.args.index none
    (λ y. (c.in_ok-insert.ensures {u = tt}).updates y ∙ ap (λ (n : ℕ). if c.args.index == y then Some n else place_in c.make_room.new.others y) place)
    room)
