-- The bundle of a refutation is accepted.
use Rattle.std.proofs.Common.{◌≡◌, ℕ, List, subst, arith}
use Rattle.clause_defs.specs.Formulas.{Formula}
use Rattle.clause_defs.specs.Verdicts.{VerdictOf}
use Rattle.clause_defs.specs.declared.verdict.TheConstants.{MAX_COMPUTED}
use Rattle.clause_defs.specs.declared.verdict.Verdict.TheVariants.{Refutes}
use Rattle.net_defs.specs.Networks.{Network}
use Rattle.fabric_defs.specs.Geometries.{GeometryValue}
use Rattle.fabric_defs.specs.Configurations.{ConfigValue, IsConfig}
use Rattle.cell_laws.proofs.CellsExistence.{cells_exist}
use Rattle.log_defs.specs.Logs.{LogValue}
use Rattle.log_laws.proofs.TraceOfLemmas.{trace_refutes}
use Rattle.miter_defs.specs.Equality.{FitsPads}
use Rattle.verify_defs.specs.Acceptance.{HasParts, ShowsOfMiter}
use Rattle.miter_size.specs.Sizes.{log_trace}
use Rattle.produce.specs.Endings.{Refuted, IsRefutation}
use Rattle.produce.specs.Bundling.{Produced, bundle_of_log}
use Rattle.produce.proofs.EndLemmas.{spec_fits}

-- the trace of the log refutes the miter
shows : (spec : Network) (config : ConfigValue) (budget : ℕ) (log : LogValue) → IsConfig config → Refuted spec config budget log
    → ShowsOfMiter spec config (log_trace log) Refutes
shows spec config budget log is_config refuted =
    let cells = cells_exist config is_config in
    let P : Formula → Type 0 = λ f. VerdictOf f.clauses (log_trace log) MAX_COMPUTED Refutes in (
      cells.0,
      cells.1,
      subst P (refuted.over_miter cells.0 cells.1)
          (trace_refutes log.originals.clauses log.derived MAX_COMPUTED refuted.is_log.ok refuted.empty),
    )

-- so its bundle is accepted for the specification
pub produced_of : (spec design : Network) (g : GeometryValue) (budget : ℕ) (config : ConfigValue) (log : LogValue) (bytes : List ℕ)
    → IsRefutation spec design g budget config log → IsConfig config → bytes ≡ bundle_of_log config log
    → HasParts config.geometry bytes config (log_trace log) → Produced spec design g budget bytes
produced_of spec design g budget config log bytes refutation is_config exact parts =
    let placed = refutation.placed in
    let refuted = refutation.refuted in
    let budget_is = refuted.budget_is in
    let words = refuted.is_log.within_budget in
    let of = placed.2 in
    let P : GeometryValue → Type 0 = λ h. HasParts h bytes config (log_trace log) in
    record {
      net = refutation.net;
      aligned = refutation.aligned;
      config = config;
      placed = placed;
      equal = refutation.equal;
      log = log;
      refuted = refuted;
      within = omega arith;
      exact = exact;
      accepted = record {
        fits = subst (FitsPads spec) of.0 (spec_fits spec design refutation.net config refutation.aligned refutation.equal);
        steps = log_trace log;
        parts = subst P of.0 parts;
        refutes = shows spec config budget log is_config refutation.refuted;
      };
    }
