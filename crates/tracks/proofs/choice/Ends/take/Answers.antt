use Rattle.std.proofs.Common.{◌≡◌, ◌<◌, length, ap, arith}
use Rattle.std.proofs.lemmas.List.{length-set}
use Rattle.tracks.proofs.Choosing.{free_there, taken_further}
use Rattle.tracks.proofs.choice.Ends.take.Goals as goal

pub returns-clause-there : goal.returns-clause-there
returns-clause-there c =
    free_there c.args.self.now.ends.items c.pass_to.new.self.ends.items c.deref.result.now c.args.span.first c.pass_to.new.self.from
    c.free_from-track.result c.pass_to.ensures.ends c.deref.ensures.value c.pass_to.ensures.filled c.free_from-track.ensures.before
    c.free_from-track.ensures.within c.requires.room

pub index_mut-requires : goal.index_mut-requires
index_mut-requires c =
    let there : c.free_from-track.result < length c.args.self.now.ends.items =
    free_there c.args.self.now.ends.items c.pass_to.new.self.ends.items c.deref.result.now c.args.span.first c.pass_to.new.self.from
    c.free_from-track.result c.pass_to.ensures.ends c.deref.ensures.value c.pass_to.ensures.filled c.free_from-track.ensures.before
    c.free_from-track.ensures.within c.requires.room in
    let long : length c.pass_to.new.self.ends.items ≡ length c.args.self.now.ends.items = ap length c.pass_to.ensures.ends in
    omega (arith, there, long)

pub returns-clause-filled : goal.returns-clause-filled
returns-clause-filled c =
    let there : c.free_from-track.result < length c.args.self.now.ends.items =
    free_there c.args.self.now.ends.items c.pass_to.new.self.ends.items c.deref.result.now c.args.span.first c.pass_to.new.self.from
    c.free_from-track.result c.pass_to.ensures.ends c.deref.ensures.value c.pass_to.ensures.filled c.free_from-track.ensures.before
    c.free_from-track.ensures.within c.requires.room in
    let long : length c.pass_to.new.self.ends.items ≡ length c.args.self.now.ends.items = ap length c.pass_to.ensures.ends in
    taken_further c.pass_to.new.self.ends.items c.deref.result.now c.args.span.first c.pass_to.new.self.from
    c.free_from-track.result c.args.span.end c.deref.ensures.value c.pass_to.ensures.filled c.free_from-track.ensures.before
    (omega (arith, there, long)) c.requires.live

pub returns-clause-within : goal.returns-clause-within
returns-clause-within c =
    let there : c.free_from-track.result < length c.args.self.now.ends.items =
    free_there c.args.self.now.ends.items c.pass_to.new.self.ends.items c.deref.result.now c.args.span.first c.pass_to.new.self.from
    c.free_from-track.result c.pass_to.ensures.ends c.deref.ensures.value c.pass_to.ensures.filled c.free_from-track.ensures.before
    c.free_from-track.ensures.within c.requires.room in
    let long : length c.pass_to.new.self.ends.items ≡ length c.args.self.now.ends.items = ap length c.pass_to.ensures.ends in
    omega (arith, there, long, length-set c.pass_to.new.self.ends.items c.free_from-track.result c.args.span.end)
