use Rattle.std.proofs.Common.{rules, ◌≡◌, ◌++◌, [], ℕ, List, length, map, replicate, None, refl, ap, subst, sym, ◌∙◌, arith, append-nil}
use Rattle.std.proofs.lemmas.List.{length-replicate}
use Rattle.route_defs.specs.declared.span.Span.{Span}
use Rattle.route_laws.specs.Seats.{seats_until}
use Rattle.route_laws.specs.Listing.{AreHolders, listed_channel, listed_column, carried_word}
use Rattle.place_route.proofs.WritingLemmas.{there_lent, channel_lent, part_more}
use Rattle.place_route.proofs.writing.Routing.words.Goals as goal

pub push_channel-requires-clause-there : goal.push_channel-requires-clause-there
push_channel-requires-clause-there c =
    there_lent c.deref.result.now c.deref-2.result.now c.deref-4.result.now c.hold.new.holders.items c.inputs-inputs.result
    (length c.deref-3.result.now) c.deref-4.ensures.value c.hold.ensures.holders
    (omega (arith, ap length c.deref-3.ensures.value, c.requires.spans_count, c.inputs-inputs.ensures.count))

pub loop-column-init : goal.loop-column-init
loop-column-init c =
    let g = c.args.g in
    let l = c.args.l.now in
    let self = c.args.self.now in
    let none : c.in_ok-holders.holders.items ≡ replicate c.t.result None = c.in_ok-holders.ensures.items_if_clones_equal (λ y h. search rules) in
    let tracks : length c.hold.new.holders.items ≡ g.tracks =
    c.hold.ensures.count ∙ ap length none ∙ length-replicate c.t.result None ∙ c.t.ensures.value in
    let until : c.inputs-inputs.result ≡ seats_until l.inputs g 0 = omega (arith, c.inputs-inputs.ensures.count) in
    let part : List ℕ = map (carried_word c.inputs-inputs.result g c.deref-3.result.now 0) c.deref-4.result.now in
    let channel : part ≡ listed_channel l.inputs g self.spans.items self.chosen.items 0 =
    channel_lent c.inputs-inputs.result l.inputs g c.deref.result.now c.deref-3.result.now self.spans.items c.deref-2.result.now self.chosen.items
    c.deref-4.result.now c.hold.new.holders.items 0 c.inputs-inputs.result c.inputs-inputs.ensures.count c.deref.ensures.value c.deref-3.ensures.value
    c.deref-2.ensures.value c.deref-4.ensures.value tracks until c.hold.ensures.holders in
    let new : c.push_channel.new.words.items ≡ c.in_ok-words.words.items ++ part = c.in_ok-push_channel.ensures in
    let empty : c.in_ok-words.words.items ≡ [] = c.in_ok-words.ensures.items in
    record {
      tracks = tracks;
      holders =
          let P : ℕ → Type 0 = λ n. AreHolders self.spans.items self.chosen.items n c.hold.new.holders.items in
          let S : List Span → Type 0 = λ ss. AreHolders ss c.deref-2.result.now c.inputs-inputs.result c.hold.new.holders.items in
          let M : List ℕ → Type 0 = λ ms. AreHolders self.spans.items ms c.inputs-inputs.result c.hold.new.holders.items in
          subst P until (subst M c.deref-2.ensures.value (subst S c.deref.ensures.value c.hold.ensures.holders));
      words = new ∙ ap (λ ws. ws ++ part) empty ∙ channel ∙ sym (append-nil (listed_channel l.inputs g self.spans.items self.chosen.items 0));
    }

pub loop-column-preserved : goal.loop-column-preserved
loop-column-preserved c =
    let g = c.args.g in
    let l = c.args.l.now in
    let self = c.args.self.now in
    let column : ℕ → List ℕ = listed_column l g self.spans.items self.chosen.items self.tracks.items self.signals.items in
    record {
      tracks = c.in_ok-push_column.ensures.tracks;
      holders = c.in_ok-push_column.ensures.holders;
      words =
          let new : c.push_column.new.words.items ≡ c.loop-column.words.items ++ column c.loop-column.column = c.in_ok-push_column.ensures.words in
          new
          ∙ part_more (listed_channel l.inputs g self.spans.items self.chosen.items 0) c.loop-column.words.items (column c.loop-column.column)
          c.loop-column.column column c.loop-column.invariant.words refl;
    }
