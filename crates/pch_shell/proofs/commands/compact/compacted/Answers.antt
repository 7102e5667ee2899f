use Rattle.bundle.specs.Values.{value_of}
use Rattle.pch_shell.proofs.CompactLemmas.{trace_fits, compacted_is}
use Rattle.pch_shell.proofs.commands.compact.compacted.Goals as goal

-- a trace within the limit has a length of four bytes
pub print_bundle-requires-clause-trace : goal.print_bundle-requires-clause-trace
print_bundle-requires-clause-trace c =
    trace_fits _ _ _ c.args.steps c.args.bundle.trace.now c.deref.ensures.value c.in_ok-trace.ensures c.in_ok-compact.ensures
    c.requires.trace

-- the saved bytes are those of the compacted bundle
pub returns : goal.returns
returns c =
    compacted_is c.written.result c.in_ok-bytes.bytes.items _ _ _ c.args.steps (value_of c.args.bundle) c.in_ok-bytes.ensures
    c.deref.ensures.value c.in_ok-trace.ensures c.in_ok-compact.ensures c.written.ensures
