use Rattle.std.proofs.Common.{◌≡◌, sym, ◌∙◌, ap, length}
use Rattle.live_table.specs.Histories.{head_of}
use Rattle.live_table.proofs.Adding.{adds_moves}
use Rattle.live_table.proofs.front.Front.with.Goals as goal

-- the exchange adds the entry to all that was seen, or finds that the history is longer
pub compare_exchange-found-requires : goal.compare_exchange-found-requires
compare_exchange-found-requires c =
    let again = c.again-seen.ensures in
    let book = ap (λ f. f.book) c.self.view_is in
    let head : c.args.head.now ≡ head_of c.self.inside.seen.book = c.requires.head ∙ ap head_of (sym book) in
    let offer = c.plain-offer.ensures in
    let pen = c.no_pen-pen.ensures in (
      ap (λ w. w.tracked) head,
      ap (λ s. s.book) again ∙ sym (ap (λ w. w.book) head),
      pen.0 ∙ (ap (λ s. s.book) again ∙ sym (ap (λ w. w.book) head)),
      offer.0,
      rw (ap (λ w. w.key) head, pen.1, offer.1, offer.3)
          (adds_moves c.again-seen.result.log c.args.entry.now c.from-old.result
          (ap (λ s. length s.log) again ∙ (sym c.self.invariant ∙ sym c.from-old.ensures))),
    )
