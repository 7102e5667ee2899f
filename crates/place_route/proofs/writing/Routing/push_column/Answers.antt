use Rattle.std.proofs.Common.{◌≡◌, ◌+◌, ◌*◌, ◌++◌, ℕ, List, length, map, ap, ◌∙◌, arith}
use Rattle.std.proofs.lemmas.Result.{on_ok_weaker}
use Rattle.fabric_defs.specs.Numbered.{joined}
use Rattle.route_laws.specs.Seats.{seats_until}
use Rattle.route_laws.specs.Listing.{listed_row, listed_channel, carried_word}
use Rattle.place_route.proofs.WritingLemmas.{until_is, seats_there, seats_more, there_lent, channel_lent, column_written}
use Rattle.place_route.proofs.writing.Routing.push_column.Goals as goal

pub push_channel-requires-clause-there : goal.push_channel-requires-clause-there
push_channel-requires-clause-there c =
    let g = c.args.g in
    let l = c.args.l.now in
    let until : ℕ = c.inputs-inputs.result + c.args.column * c.r.result + c.r-2.result in
    let is : until ≡ seats_until l.inputs g (c.args.column + 1) =
    until_is l.inputs g c.args.column c.inputs-inputs.result c.r.result c.r-2.result c.inputs-inputs.ensures.count c.r.ensures.value c.r-2.ensures.value in
    there_lent c.deref.result.now c.deref-2.result.now c.deref-4.result.now c.hold.new.holders.items until (length c.deref-3.result.now)
    c.deref-4.ensures.value c.hold.ensures.holders
    (omega (
      arith,
      is,
      seats_there l.inputs g c.args.column c.requires.column,
      seats_more l.inputs g c.args.column,
      ap length c.deref-3.ensures.value,
      c.requires.routing.spans_count,
    ))

pub returns-clause-words : goal.returns-clause-words
returns-clause-words c =
    let g = c.args.g in
    let l = c.args.l.now in
    let self = c.args.self.now in
    let until : ℕ = c.inputs-inputs.result + c.args.column * c.r.result + c.r-2.result in
    let is : until ≡ seats_until l.inputs g (c.args.column + 1) =
    until_is l.inputs g c.args.column c.inputs-inputs.result c.r.result c.r-2.result c.inputs-inputs.ensures.count c.r.ensures.value c.r-2.ensures.value in
    let part : List ℕ = map (carried_word c.inputs-inputs.result g c.deref-3.result.now (c.args.column + 1)) c.deref-4.result.now in
    let channel : part ≡ listed_channel l.inputs g self.spans.items self.chosen.items (c.args.column + 1) =
    channel_lent c.inputs-inputs.result l.inputs g c.deref.result.now c.deref-3.result.now self.spans.items c.deref-2.result.now self.chosen.items
    c.deref-4.result.now c.hold.new.holders.items (c.args.column + 1) until c.inputs-inputs.ensures.count c.deref.ensures.value c.deref-3.ensures.value
    c.deref-2.ensures.value c.deref-4.ensures.value (c.hold.ensures.count ∙ c.requires.tracks) is c.hold.ensures.holders in
    on_ok_weaker c.push_channel.result
    (λ (e : c.push_channel.new.words.items ≡ c.push_cells.new.words.items ++ part).
    column_written c.args.words.now.items c.push_cells.new.words.items c.push_channel.new.words.items
    (joined g.rows (listed_row l g self.tracks.items self.signals.items c.args.column)) part
    (listed_channel l.inputs g self.spans.items self.chosen.items (c.args.column + 1)) c.in_ok-push_cells.ensures channel e)
    c.push_channel.ensures
