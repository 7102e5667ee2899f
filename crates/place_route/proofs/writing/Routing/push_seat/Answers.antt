use Rattle.std.proofs.Common.{◌≡◌, get_or, Some, None, sym, ◌∙◌, arith}
use Rattle.std.proofs.lemmas.List.{get_or_default}
use Rattle.place_route.proofs.writing.Routing.push_seat.Goals as goal

pub overflow_sub-cell : goal.overflow_sub-cell
overflow_sub-cell c =
    let signals = c.args.self.now.signals.items in
    let here : get_or signals c.args.seat None ≡ Some c.in-Some.number =
    sym (c.index.ensures ∙ get_or_default signals c.args.seat c.index.result.now None c.requires.there) ∙ c.in-Some.is in
    omega (arith, (c.requires.routing.cells c.args.seat c.in-Some.number c.requires.cell here).0, c.inputs-inputs.ensures.count)

pub overflow_cast-cell : goal.overflow_cast-cell
overflow_cast-cell c =
    let signals = c.args.self.now.signals.items in
    let here : get_or signals c.args.seat None ≡ Some c.in-Some.number =
    sym (c.index.ensures ∙ get_or_default signals c.args.seat c.index.result.now None c.requires.there) ∙ c.in-Some.is in
    omega (
      arith,
      (c.requires.routing.cells c.args.seat c.in-Some.number c.requires.cell here).1,
      c.inputs-inputs.ensures.count,
      c.inputs-inputs.ensures.known.few.cells,
    )

pub pins-requires-2 : goal.pins-requires-2
pins-requires-2 c =
    let signals = c.args.self.now.signals.items in
    let here : get_or signals c.args.seat None ≡ Some c.in-Some.number =
    sym (c.index.ensures ∙ get_or_default signals c.args.seat c.index.result.now None c.requires.there) ∙ c.in-Some.is in
    let cell = c.requires.routing.cells c.args.seat c.in-Some.number c.requires.cell here in
    omega (arith, cell.0, cell.1, c.inputs-inputs.ensures.count)

pub table-requires : goal.table-requires
table-requires c =
    let signals = c.args.self.now.signals.items in
    let here : get_or signals c.args.seat None ≡ Some c.in-Some.number =
    sym (c.index.ensures ∙ get_or_default signals c.args.seat c.index.result.now None c.requires.there) ∙ c.in-Some.is in
    let cell = c.requires.routing.cells c.args.seat c.in-Some.number c.requires.cell here in
    omega (arith, cell.0, cell.1, c.inputs-inputs.ensures.count)
