use Rattle.std.proofs.Common.{ℕ, ◌≤◌, Option, IfSome, sym, subst, rules}
use Rattle.text_defs.specs.Numbers.{Spells}
use Rattle.pch_base.proofs.NumberLemmas.{spelled_at_most, none_spelled}
use Rattle.pch_base.proofs.numbers.read_number.Goals as goal

-- a number that was read is spelled
pub returns-clause-some : goal.returns-clause-some
returns-clause-some c =
    subst (λ (r : Option ℕ). IfSome r (λ n. Spells c.args.text.now n × (n ≤ c.args.max)))
    (sym c.read_spelling.ensures)
    (spelled_at_most c.args.max c.args.text.now (search rules))

-- where none was read, none is spelled
pub returns-clause-none : goal.returns-clause-none
returns-clause-none c = none_spelled c.args.max c.args.text.now c.read_spelling.result (search rules) c.read_spelling.ensures
