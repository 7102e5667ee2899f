use Rattle.std.proofs.Common.{ℕ, ◌+◌, [], ◌∷◌, length, sym, subst}
use Rattle.cell_defs.specs.declared.source.Source.{Source}
use Rattle.cell_defs.specs.declared.source.Source.TheVariants.{Pad, Cell}
use Rattle.cell_defs.specs.Cells.{IsSourceBelow}
use Rattle.live_spans.specs.Uses.{IsExtended, AreExtended}
use Rattle.live_spans.proofs.UseLemmas.{one_extended}
use Rattle.live_spans.proofs.uses.listen.Goals as goal

pub returns-in-Pad : goal.returns-in-Pad
returns-in-Pad c =
    let l = c.args.l.now in
    let old = c.args.spans.now.items in
    let new = c.extend.new.spans.items in
    let B : Source → Type 0 = λ s. IsSourceBelow l.inputs (length l.cells) s in
    let P : Source → Type 0 = λ s. AreExtended l old new (s ∷ []) c.args.end in
    subst P (sym c.in-Pad.is)
    (one_extended l old new (Pad c.in-Pad.i) c.args.end (subst B c.in-Pad.is c.requires.below) c.extend.ensures)

pub returns-in-Cell : goal.returns-in-Cell
returns-in-Cell c =
    let l = c.args.l.now in
    let old = c.args.spans.now.items in
    let new = c.extend-in-Cell.new.spans.items in
    let B : Source → Type 0 = λ s. IsSourceBelow l.inputs (length l.cells) s in
    let P : Source → Type 0 = λ s. AreExtended l old new (s ∷ []) c.args.end in
    let N : ℕ → Type 0 = λ n. IsExtended old new (n + c.in-Cell.k) c.args.end in
    subst P (sym c.in-Cell.is)
    (one_extended l old new (Cell c.in-Cell.k) c.args.end (subst B c.in-Cell.is c.requires.below)
    (subst N c.inputs.ensures.count c.extend-in-Cell.ensures))
