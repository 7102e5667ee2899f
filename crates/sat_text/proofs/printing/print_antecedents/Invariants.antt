use Rattle.std.proofs.Common.{◌≡◌, ◌++◌, drop}
use Rattle.std.specs.List.{flat_map}
use Rattle.clause_defs.specs.Traces.{index_at}
use Rattle.sat_text_defs.specs.Printed.{number_text}
use Rattle.sat_text.proofs.printing.print_antecedents.Given as goal

-- what was printed, with the indices that are left, is the antecedents' text
abbrev pub invariant-loop-place : goal.invariant-loop-place
invariant-loop-place l =
    l.out.items ++ flat_map (λ p. number_text (index_at l.t p)) (drop l.place-index l.antecedents)
    ≡ l.fn.out.items ++ flat_map (λ p. number_text (index_at l.t p)) l.antecedents
