use Rattle.std.proofs.lemmas.Result.{err_from_is_err_and}
use Rattle.trace_text_laws.proofs.TracesRead.{trace_in-text}
use Rattle.bundle.specs.Values.{value_of}
use Rattle.verify.proofs.PartLemmas.{trace_refuses}
use Rattle.verify.proofs.verification.parts_of.Goals as goal

-- a fault of the trace is the first where bundle and configuration have none
pub returns-in_err-trace-clause-refused : goal.returns-in_err-trace-clause-refused
returns-in_err-trace-clause-refused c =
    let p = err_from_is_err_and c.from_residual-in_err-trace.result c.from_residual-in_err-trace.ensures.1 in
    rw p.1
    (trace_refuses c.args.g c.args.bytes.now (value_of c.in-Ok.bundle) c.in_ok-config.config c.in_err-trace.field-0.0 p.0
    c.in-Ok.ensures.bundle c.in_ok-config.ensures.exact c.in_err-trace.ensures p.2)

-- bundle, configuration and trace are the parts of the bytes
pub returns-clause-parts : goal.returns-clause-parts
returns-clause-parts c = record {
  bundle = value_of c.in-Ok.bundle;
  is_bundle = c.in-Ok.ensures.bundle;
  has_config = c.in_ok-config.ensures.exact;
  trace = trace_in-text c.in-Ok.bundle.trace.now c.in-Ok.bundle.version c.in_ok-trace.trace c.in_ok-trace.ensures;
}
