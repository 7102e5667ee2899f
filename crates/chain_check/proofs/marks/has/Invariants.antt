use Rattle.std.proofs.Common.{take}
use Rattle.clause_defs.specs.Clauses.{Has}
use Rattle.chain_check.proofs.marks.has.Given as goal

-- none of the literals so far is the one
abbrev pub invariant-loop-m : goal.invariant-loop-m
invariant-loop-m l = Has (take l.m-index l.c) l.l → ⊥
