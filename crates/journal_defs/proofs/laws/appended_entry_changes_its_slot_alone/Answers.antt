use Rattle.journal_defs.proofs.JournalLemmas.{spec-own, config-own, agreement-own, spec-other, config-other, agreement-other}
use Rattle.journal_defs.proofs.laws.appended_entry_changes_its_slot_alone.Goals as goal

pub returns-clause-spec : goal.returns-clause-spec
returns-clause-spec c = spec-own

pub returns-clause-config : goal.returns-clause-config
returns-clause-config c = config-own

pub returns-clause-agreement : goal.returns-clause-agreement
returns-clause-agreement c = agreement-own

pub returns-clause-other_specs : goal.returns-clause-other_specs
returns-clause-other_specs c = spec-other

pub returns-clause-other_configs : goal.returns-clause-other_configs
returns-clause-other_configs c = config-other

pub returns-clause-other_agreements : goal.returns-clause-other_agreements
returns-clause-other_agreements c = agreement-other
