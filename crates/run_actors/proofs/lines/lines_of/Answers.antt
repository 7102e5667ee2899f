use Rattle.slot_core.specs.Entries.{entry_value}
use Rattle.run_actors.proofs.Listing.{lines-next}
use Rattle.run_actors.proofs.lines.lines_of.Goals as goal

-- one line more, of the next entry
pub loop-i-preserved : goal.loop-i-preserved
loop-i-preserved c =
    lines-next c.args.table.now.journal c.loop-i.i (entry_value c.entry.result.now) c.line_of.result c.loop-i.lines
    c.push.new.self c.loop-i.invariant c.entry.ensures c.line_of.ensures c.in_ok-push.ensures
