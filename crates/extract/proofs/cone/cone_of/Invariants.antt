use Rattle.std.proofs.Common.{[]}
use Rattle.extract.specs.Kept.{cells_with}
use Rattle.extract.proofs.ConeLemmas.{IsSwept}
use Rattle.extract.proofs.cone.cone_of.Given as goal

-- the cells from here on have marked all to which they listen, and nothing else is marked
abbrev pub invariant-loop-cell : goal.invariant-loop-cell
invariant-loop-cell l = IsSwept (cells_with l.fn.g l.cells l.outputs []) l.cell l.cone.items
