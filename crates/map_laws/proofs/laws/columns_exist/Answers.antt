use Rattle.map_laws.proofs.ColumnLemmas.{columns-exist, columns-unique}
use Rattle.map_laws.proofs.laws.columns_exist.Goals as goal

pub returns-clause-exist : goal.returns-clause-exist
returns-clause-exist c = columns-exist

pub returns-clause-unique : goal.returns-clause-unique
returns-clause-unique c = columns-unique
