use Rattle.net_laws.proofs.ReorderLemmas.{design_order_exists, spec_order_exists, design_order_is_unique, spec_order_is_unique}
use Rattle.net_laws.proofs.aligning.reordered_list_exists_and_is_unique.Goals as goal

-- each element is put at the place of its partner
pub returns-clause-in_design_order : goal.returns-clause-in_design_order
returns-clause-in_design_order c = design_order_exists

-- each element is read at the place of its partner
pub returns-clause-in_spec_order : goal.returns-clause-in_spec_order
returns-clause-in_spec_order c = spec_order_exists

-- two such lists agree at each place
pub returns-clause-one_in_design_order : goal.returns-clause-one_in_design_order
returns-clause-one_in_design_order c = design_order_is_unique

-- two such lists agree at each place of the specification
pub returns-clause-one_in_spec_order : goal.returns-clause-one_in_spec_order
returns-clause-one_in_spec_order c = spec_order_is_unique
