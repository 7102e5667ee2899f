use Rattle.std.proofs.Common.{sym, subst}
use Rattle.map_defs.specs.Mapped.{AreMapped}
use Rattle.map_laws.proofs.SettledLemmas.{mapping-mapped}
use Rattle.map_laws.proofs.laws.reference_is_mapped.Goals as goal

pub returns : goal.returns
returns c net l is_net h = subst AreMapped (sym h.2) (mapping-mapped net h.0 is_net h.1.closed)
