use Rattle.std.proofs.Common.{rules}
use Rattle.chain_check.proofs.PartLemmas.{parts_none}
use Rattle.chain_check.proofs.computed.Computed.new.Goals as goal

-- the part of no literals at each place is no literals
pub returns-clause-clauses : goal.returns-clause-clauses
returns-clause-clauses c = parts_none _ _ c.args.places (c.in_ok-vec.ensures.items_if_clones_equal (λ y h. search rules))
