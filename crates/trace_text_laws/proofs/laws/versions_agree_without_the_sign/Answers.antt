use Rattle.trace_text_laws.proofs.Versions.{first_version-stated, first_version-text, stated-first_version, unsigned_alike}
use Rattle.trace_text_laws.proofs.laws.versions_agree_without_the_sign.Goals as goal

pub returns : goal.returns
returns c = record {
  first = λ text v t h. (first_version-text text v t h, first_version-stated text t h);
  stated = stated-first_version;
  unsigned = unsigned_alike;
}
