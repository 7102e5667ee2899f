use Rattle.pch_shell.proofs.ProduceLemmas.{spent_told}
use Rattle.pch_shell.proofs.commands.producing.not_produced.Goals as goal

-- the text of the log is told, which is read again
pub returns-in_ok-printed_log-in-Spent : goal.returns-in_ok-printed_log-in-Spent
returns-in_ok-printed_log-in-Spent c =
    let text = c.in_ok-printed_log-in-Spent in
    spent_told c.args.spec.now c.args.design.now c.args.end c.in-Spent.used c.in-Spent.need c.in-Spent.log text.field-0.items
    c.in_ok-line-in-Spent.line.items c.spent_with.result c.in-Spent.is text.ensures.text (text.ensures.reads 1) c.in_ok-line-in-Spent.ensures c.spent_with.ensures
