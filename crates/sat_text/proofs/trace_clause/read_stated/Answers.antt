use Rattle.sat_text.proofs.TokenSteps.{literals_led}
use Rattle.sat_text.proofs.trace_clause.read_stated.Goals as goal

pub returns-then-not-clause-clause-leads : goal.returns-then-not-clause-clause-leads
returns-then-not-clause-clause-leads c i =
    literals_led c.args.version i c.args.text.now c.args.from c.next_word-at.result c.has_sign_at-clause.result c.args.clause.now.lits.items
    c.read_literals.new.lits.items c.args.clause.now.antecedents.items c.read_literals.result c.next_word-at.ensures.skipped
    c.next_word-at.ensures.stands c.has_sign_at-clause.ensures.sign c.if-not-clause.true c.requires.no_lits c.requires.no_antecedents
    (c.read_literals.ensures.leads c.args.version i)
