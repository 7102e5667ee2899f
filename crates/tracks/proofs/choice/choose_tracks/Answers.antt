use Rattle.std.proofs.Common.{◌+◌, ℕ, sym, subst, arith, List}
use Rattle.tracks.proofs.Choosing.{AreChosen, has_room, chosen_given, chosen_all}
use Rattle.tracks.proofs.choice.choose_tracks.Goals as goal

pub give-track-requires-clause-room : goal.give-track-requires-clause-room
give-track-requires-clause-room c =
    λ live. has_room c.args.spans.now c.args.have c.loop-span.span-index c.loop-span.tracks.items c.loop-span.ends.ends.items
    c.loop-span.ends.channel c.loop-span.ends.from c.loop-span.invariant c.requires.room c.loop-span-test.true live

pub loop-span-preserved : goal.loop-span-preserved
loop-span-preserved c =
    let i = c.loop-span.span-index in
    let now = c.give-track.new.self in
    let P : List ℕ → Type 0 = λ l. AreChosen c.args.spans.now c.args.have (i + 1) l now.ends.items now.channel now.from in
    subst P (sym c.in_ok-push.ensures.items)
    (chosen_given c.args.spans.now c.args.have i c.give-track.result c.loop-span.tracks.items c.loop-span.ends.ends.items
    now.ends.items c.loop-span.ends.channel c.loop-span.ends.from now.channel now.from c.loop-span.invariant c.requires.ordered
    c.loop-span-test.true
    (record {
      there = c.give-track.ensures.there;
      free = c.give-track.ensures.free;
      taken = c.give-track.ensures.ends;
      none = c.give-track.ensures.none;
      enters = c.give-track.ensures.channel;
      order = c.give-track.ensures.order;
      onward = c.give-track.ensures.later;
      filled = c.give-track.ensures.filled;
      within = c.give-track.ensures.within;
    }))

pub returns : goal.returns
returns c =
    chosen_all c.args.spans.now c.args.have c.loop-span.span-index c.loop-span.tracks.items c.loop-span.ends.ends.items
    c.loop-span.ends.channel c.loop-span.ends.from c.loop-span.invariant (omega (arith, c.loop-span.auto.span-index-end, c.loop-span-test.false))
