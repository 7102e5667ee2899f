use Rattle.std.proofs.Common.{◌≡◌, ◌<◌, length, sym, subst, ◌∙◌, arith}
use Rattle.std.proofs.lemmas.List.{get_or_read}
use Rattle.cell_defs.specs.declared.source.Source.{Source}
use Rattle.map_defs.specs.declared.limits.TheConstants.{MAX_COUNT}
use Rattle.lut_map.specs.declared.columns.State.TheVariants.{New, Done}
use Rattle.lut_map.specs.Search.{IsCellBelow, state_at}
use Rattle.lut_map.proofs.columns.Search.after.Goals as goal

pub overflow_add-result : goal.overflow_add-result
overflow_add-result c =
    let states = c.args.self.now.states.items in
    let P : Source → Type 0 = λ s. IsCellBelow (length states) s in
    let within : c.in-Cell.cell < length states = subst P c.in-Cell.is c.requires.within in
    let known : state_at states c.in-Cell.cell ≡ Done c.in-Done.column =
    sym (get_or_read states c.in-Cell.cell c.index.result.now within c.index.ensures New) ∙ c.in-Done.is in
    let small : c.in-Done.column < MAX_COUNT = c.requires.small c.in-Cell.cell c.in-Done.column known in
    omega arith
