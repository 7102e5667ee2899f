use Rattle.miter_laws.proofs.Extension.{input_extends}
use Rattle.miter_laws.proofs.laws.inputs_extend.Goals as goal

-- both circuits have bits for the input, which satisfy their clauses
pub returns : goal.returns
returns c = input_extends
