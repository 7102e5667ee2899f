use Rattle.produce.proofs.StepsLemmas.{reads_if}
use Rattle.produce.proofs.bundling.printed_log.Goals as goal

-- each clause is stated, so the text is one of each version
pub returns-clause-reads : goal.returns-clause-reads
returns-clause-reads c =
    reads_if (λ text. text.items) c.print_trace-2.result c.args.log c.in_ok-into_trace.field-0 c.requires.short
    c.in_ok-into_trace.ensures.trace c.print_trace-2.ensures
