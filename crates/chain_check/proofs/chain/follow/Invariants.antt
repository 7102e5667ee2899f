use Rattle.std.proofs.Common.{◌≡◌, ◌+◌, ◌≤◌, [], length, map, drop, None, Result}
use Rattle.clause_defs.specs.Clauses.{Lits}
use Rattle.clause_defs.specs.Resolution.{Chain, Resolves}
use Rattle.clause_defs.specs.Traces.{index_at}
use Rattle.clause_defs.specs.Verdicts.{ChainEnds, ChainFault}
use Rattle.clause_defs.specs.declared.verdict.ChainError.{ChainError}
use Rattle.chain_check.specs.ByPlace.{parts_of}
use Rattle.chain_check.specs.Known.{literals_at}
use Rattle.chain_check.proofs.chain.follow.Given as goal

-- the chain from here on comes to what the whole chain comes to
abbrev pub invariant-loop-step : goal.invariant-loop-step
invariant-loop-step l = record {
  variables : l.m.variables ≡ l.fn.m.variables;
  between_steps : l.m.fresh ≡ [];
  room : length l.antecedents ≤ l.m.left + l.step;
  -- what the rest of the chain comes to from here, the whole comes to
  rest : (end : Result (Unit {0}) ChainError)
      → ChainEnds (index_at l.t l.k) None l.step l.m.running (map (literals_at l.t (parts_of l.lits l.spans)) (drop l.step l.antecedents)) end
      → ChainFault (index_at l.t l.k) None (map (literals_at l.t (parts_of l.lits l.spans)) l.antecedents) end;
  clause : (s : Lits)
      → Chain l.m.running (map (literals_at l.t (parts_of l.lits l.spans)) (drop l.step l.antecedents)) s
      → Resolves (map (literals_at l.t (parts_of l.lits l.spans)) l.antecedents) s;
}
