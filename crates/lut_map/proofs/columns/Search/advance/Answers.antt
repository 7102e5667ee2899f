use Rattle.std.proofs.Common.{◌≡◌, ℕ, ◌+◌, ◌-◌, List, length, All, sym, ap, subst, ◌∙◌, arith}
use Rattle.cell_defs.specs.declared.source.Source.{Source}
use Rattle.extract.specs.CellLists.{listed_cell}
use Rattle.map_defs.specs.declared.limits.TheConstants.{MAX_COUNT}
use Rattle.lut_map.specs.declared.columns.Next.TheVariants.{Wait, Column}
use Rattle.lut_map.specs.Search.{IsCellBelow, after_pins}
use Rattle.lut_map.proofs.SearchLemmas.{columns-small, cell-pins, last-within, next-waits, next-found, search-closed, step-opened, step-met, step-less, both_ok}
use Rattle.lut_map.proofs.columns.Search.advance.Goals as goal

pub after_pins-requires-clause-within : goal.after_pins-requires-clause-within
after_pins-requires-clause-within c =
    let s = c.args.self.now in
    let size : length s.stack.items ≡ length s.stack.items - 1 + 1 = omega (arith, c.requires.stacked) in
    let lt = last-within c.args.cells.now s.states.items s.stack.items c.args.last (length s.stack.items - 1) c.requires.sound size c.requires.last in
    let P : List Source → Type 0 = λ pins. All (IsCellBelow (length s.states.items)) pins in
    subst P (sym c.get.ensures.pins) (cell-pins c.args.cells.now s.states.items s.stack.items c.args.last c.requires.cells c.requires.sound lt)

pub after_pins-requires-clause-small : goal.after_pins-requires-clause-small
after_pins-requires-clause-small c =
    let s = c.args.self.now in
    columns-small c.args.cells.now s.states.items s.stack.items MAX_COUNT c.requires.sound c.requires.cells.few

pub open-requires : goal.open-requires
open-requires c =
    let s = c.args.self.now in
    let size : length s.stack.items ≡ length s.stack.items - 1 + 1 = omega (arith, c.requires.stacked) in
    let told : after_pins s.states.items 0 (listed_cell c.args.cells.now c.args.last).pins ≡ Wait c.in-Wait.cell =
    ap (after_pins s.states.items 0) (sym c.get.ensures.pins) ∙ sym c.after_pins.ensures ∙ c.in-Wait.is in
    let next = next-waits c.args.cells.now s.states.items s.stack.items c.args.last c.in-Wait.cell (length s.stack.items - 1) c.requires.cells c.requires.sound
    size c.requires.last told in
    omega (arith, next.within, c.requires.sound.count)

pub returns-in-Wait-clause-sound : goal.returns-in-Wait-clause-sound
returns-in-Wait-clause-sound c =
    let s = c.args.self.now in
    let size : length s.stack.items ≡ length s.stack.items - 1 + 1 = omega (arith, c.requires.stacked) in
    let told : after_pins s.states.items 0 (listed_cell c.args.cells.now c.args.last).pins ≡ Wait c.in-Wait.cell =
    ap (after_pins s.states.items 0) (sym c.get.ensures.pins) ∙ sym c.after_pins.ensures ∙ c.in-Wait.is in
    let next = next-waits c.args.cells.now s.states.items s.stack.items c.args.last c.in-Wait.cell (length s.stack.items - 1) c.requires.cells c.requires.sound
    size c.requires.last told in
    both_ok c.open.result _ _ _
    (step-opened c.args.cells.now s.states.items c.open.new.self.states.items s.stack.items c.open.new.self.stack.items c.in-Wait.cell c.requires.sound next)
    c.open.ensures.states c.open.ensures.stack

pub returns-in-Wait-clause-stay : goal.returns-in-Wait-clause-stay
returns-in-Wait-clause-stay c =
    let s = c.args.self.now in
    let size : length s.stack.items ≡ length s.stack.items - 1 + 1 = omega (arith, c.requires.stacked) in
    let told : after_pins s.states.items 0 (listed_cell c.args.cells.now c.args.last).pins ≡ Wait c.in-Wait.cell =
    ap (after_pins s.states.items 0) (sym c.get.ensures.pins) ∙ sym c.after_pins.ensures ∙ c.in-Wait.is in
    let next = next-waits c.args.cells.now s.states.items s.stack.items c.args.last c.in-Wait.cell (length s.stack.items - 1) c.requires.cells c.requires.sound
    size c.requires.last told in
    both_ok c.open.result _ _ _
    (λ e _. step-met c.args.cells.now s.states.items c.open.new.self.states.items s.stack.items c.in-Wait.cell c.requires.sound next e)
    c.open.ensures.states c.open.ensures.stack

pub returns-in-Wait-clause-less : goal.returns-in-Wait-clause-less
returns-in-Wait-clause-less c =
    let s = c.args.self.now in
    let size : length s.stack.items ≡ length s.stack.items - 1 + 1 = omega (arith, c.requires.stacked) in
    let told : after_pins s.states.items 0 (listed_cell c.args.cells.now c.args.last).pins ≡ Wait c.in-Wait.cell =
    ap (after_pins s.states.items 0) (sym c.get.ensures.pins) ∙ sym c.after_pins.ensures ∙ c.in-Wait.is in
    let next = next-waits c.args.cells.now s.states.items s.stack.items c.args.last c.in-Wait.cell (length s.stack.items - 1) c.requires.cells c.requires.sound
    size c.requires.last told in
    both_ok c.open.result _ _ _
    (step-less c.args.cells.now s.states.items c.open.new.self.states.items s.stack.items c.open.new.self.stack.items c.in-Wait.cell c.requires.sound next)
    c.open.ensures.states c.open.ensures.stack

pub returns-in-Column-clause-sound : goal.returns-in-Column-clause-sound
returns-in-Column-clause-sound c =
    let s = c.args.self.now in
    let n : ℕ = length s.stack.items - 1 in
    let size : length s.stack.items ≡ n + 1 = omega (arith, c.requires.stacked) in
    let told : after_pins s.states.items 0 (listed_cell c.args.cells.now c.args.last).pins ≡ Column c.in-Column.column =
    ap (after_pins s.states.items 0) (sym c.get.ensures.pins) ∙ sym c.after_pins.ensures ∙ c.in-Column.is in
    let found = next-found c.args.cells.now s.states.items s.stack.items c.args.last c.in-Column.column n c.requires.sound size c.requires.last told in
    rw (c.close.ensures.states, c.close.ensures.stack)
    (search-closed c.args.cells.now s.states.items s.stack.items c.args.last c.in-Column.column n c.requires.cells c.requires.sound size c.requires.last
    found.0 found.1)
