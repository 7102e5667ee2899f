use Rattle.trace_text_laws.proofs.Versions.{later_alike}
use Rattle.trace_text_laws.proofs.laws.later_versions_agree.Goals as goal

pub returns : goal.returns
returns c = later_alike
