use Rattle.std.proofs.Common.{subst, ◌∙◌, arith}
use Rattle.miter_cnf.specs.Numbered.{NumberingValue, IsNumbering}
use Rattle.miter_cnf.proofs.NumberLemmas.{length-cells, cell_start, cell-is_variable, cell_variable-is}
use Rattle.miter_cnf.proofs.numbering.Numbering.cell_or_next.Goals as goal

-- there is a number for each cell
pub index-requires : goal.index-requires
index-requires c =
    let a = c.self.inside in
    let P : NumberingValue → Type 0 = λ m. IsNumbering m a.first_rows.items a.cells.items a.first_difference in
    omega (arith, length-cells c.args.self.now a.first_rows.items a.cells.items a.first_difference (subst P c.self.view_is c.self.invariant), c.requires)

-- it is that of the miter
pub returns-clause-variable : goal.returns-clause-variable
returns-clause-variable c net l e =
    let a = c.self.inside in
    let P : NumberingValue → Type 0 = λ m. IsNumbering m a.first_rows.items a.cells.items a.first_difference in
    cell_start c.args.self.now a.first_rows.items a.cells.items a.first_difference c.args.k c.index.result.now
    (subst P c.self.view_is c.self.invariant) c.requires c.index.ensures
    ∙ cell_variable-is c.args.self.now net l c.args.k e

-- and one that a literal may have
pub returns-clause-within : goal.returns-clause-within
returns-clause-within c =
    let a = c.self.inside in
    let P : NumberingValue → Type 0 = λ m. IsNumbering m a.first_rows.items a.cells.items a.first_difference in
    cell-is_variable c.args.self.now a.first_rows.items a.cells.items a.first_difference c.args.k c.index.result.now
    (subst P c.self.view_is c.self.invariant) c.requires c.index.ensures
