use Rattle.std.proofs.Common.{ℕ, ◌+◌, ap, subst, ◌∙◌, arith}
use Rattle.miter_cnf.specs.Numbered.{NumberingValue, IsNumbering}
use Rattle.miter_cnf.proofs.NumberLemmas.{length-rows, row_start, row-is_variable, row_variable-is}
use Rattle.miter_cnf.proofs.numbering.Numbering.row.Goals as goal

-- there is a number for each node
pub index-requires : goal.index-requires
index-requires c =
    let a = c.self.inside in
    let P : NumberingValue → Type 0 = λ m. IsNumbering m a.first_rows.items a.cells.items a.first_difference in
    omega (arith, length-rows c.args.self.now a.first_rows.items a.cells.items a.first_difference (subst P c.self.view_is c.self.invariant), c.requires.node)

-- a row behind the first has a variable that a literal may have
pub overflow_add-result : goal.overflow_add-result
overflow_add-result c =
    let a = c.self.inside in
    let P : NumberingValue → Type 0 = λ m. IsNumbering m a.first_rows.items a.cells.items a.first_difference in
    omega (
      arith,
      row-is_variable c.args.self.now a.first_rows.items a.cells.items a.first_difference c.args.v c.args.r c.index.result.now
          (subst P c.self.view_is c.self.invariant) c.requires.node c.requires.row c.index.ensures,
    )

-- it is that of the miter
pub returns-clause-variable : goal.returns-clause-variable
returns-clause-variable c net l e =
    let a = c.self.inside in
    let P : NumberingValue → Type 0 = λ m. IsNumbering m a.first_rows.items a.cells.items a.first_difference in
    ap (λ (n : ℕ). n + c.args.r)
    (row_start c.args.self.now a.first_rows.items a.cells.items a.first_difference c.args.v c.index.result.now
    (subst P c.self.view_is c.self.invariant) c.requires.node c.index.ensures)
    ∙ row_variable-is c.args.self.now net l c.args.v c.args.r e

-- and is in range
pub returns-clause-within : goal.returns-clause-within
returns-clause-within c =
    let a = c.self.inside in
    let P : NumberingValue → Type 0 = λ m. IsNumbering m a.first_rows.items a.cells.items a.first_difference in
    row-is_variable c.args.self.now a.first_rows.items a.cells.items a.first_difference c.args.v c.args.r c.index.result.now
    (subst P c.self.view_is c.self.invariant) c.requires.node c.requires.row c.index.ensures
