use Rattle.std.proofs.Common.{◌∙◌}
use Rattle.std.proofs.lemmas.Result.{err_from_is_err_and}
use Rattle.sat_text_defs.specs.TraceReading.{behind_index, among_antecedents}
use Rattle.sat_values.specs.TraceArrays.{stated_unless}
use Rattle.sat_text.specs.ReadingSteps.{spelled_of}
use Rattle.sat_text.proofs.TokenSteps.{at_index, clause_fault}
use Rattle.sat_text.proofs.trace_clause.read_clause.Goals as goal

pub returns-in_err-behind_stated-clause-reads : goal.returns-in_err-behind_stated-clause-reads
returns-in_err-behind_stated-clause-reads c =
    let p = err_from_is_err_and c.from_residual-in_err-behind_stated.result c.from_residual-in_err-behind_stated.ensures.1 in
    rw (p.1, p.2)
    (clause_fault c.args.version c.args.text.now c.args.at c.in_ok-index.index.end (spelled_of c.read_stated.new.clause)
    (behind_index c.in_ok-index.index.value)
    (among_antecedents c.in_ok-index.index.value (stated_unless c.read_stated.new.clause.sign c.read_stated.new.clause.lits.items) c.read_stated.new.clause.antecedents.items)
    c.in_err-behind_stated.field-0.0 (λ t. at_index c.args.version c.in_ok-index.index.value c.args.text.now c.args.at c.in_ok-index.index.end t c.requires.within c.requires.stands
    (c.in_ok-index.ensures {u = tt}).exact (c.in_ok-index.ensures {u = tt}).end)
    ((c.in_err-behind_stated.ensures {u = tt}).leads c.in_ok-index.index.value))

pub returns-in_err-zero-clause-reads : goal.returns-in_err-zero-clause-reads
returns-in_err-zero-clause-reads c =
    let p = err_from_is_err_and c.from_residual-in_err-zero.result c.from_residual-in_err-zero.ensures.1 in
    rw (p.1, p.2)
    (clause_fault c.args.version c.args.text.now c.args.at c.in_ok-behind_stated.behind_stated
    (spelled_of (record { index = c.read_stated.new.clause.index; sign = c.read_stated.new.clause.sign; lits = c.read_stated.new.clause.lits; antecedents = c.read_indices.new.indices }))
    (among_antecedents c.in_ok-index.index.value (stated_unless c.read_stated.new.clause.sign c.read_stated.new.clause.lits.items) c.read_stated.new.clause.antecedents.items)
    (among_antecedents c.in_ok-index.index.value (stated_unless c.read_stated.new.clause.sign c.read_stated.new.clause.lits.items) c.read_indices.new.indices.items)
    c.in_err-zero.field-0.0 (λ t. at_index c.args.version c.in_ok-index.index.value c.args.text.now c.args.at c.in_ok-index.index.end t c.requires.within c.requires.stands
    (c.in_ok-index.ensures {u = tt}).exact (c.in_ok-index.ensures {u = tt}).end
    ∙ (c.in_ok-behind_stated.ensures {u = tt}).leads c.in_ok-index.index.value t)
    ((c.in_err-zero.ensures {u = tt}).leads c.args.version c.in_ok-index.index.value (stated_unless c.read_stated.new.clause.sign c.read_stated.new.clause.lits.items)))
