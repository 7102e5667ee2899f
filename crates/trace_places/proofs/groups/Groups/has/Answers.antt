use Rattle.trace_places.proofs.groups.Groups.has.Goals as goal

-- a place in a slot is one of these indices
pub bounds-indices-place : goal.bounds-indices-place
bounds-indices-place c = c.requires.within c.args.slot c.in-Some.place c.in-Some.ensures.some
