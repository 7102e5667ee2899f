use Rattle.std.proofs.Common.{◌≡◌, ◌++◌, map, drop}
use Rattle.script_defs.specs.Printing.{replies_text}
use Rattle.run_script.specs.Replies.{reply_of}
use Rattle.run_script.proofs.print.push_replies.Given as goal

-- the lines so far, with those that are left, are the lines of all replies
abbrev pub invariant-loop-turn : goal.invariant-loop-turn
invariant-loop-turn l = l.out.items ++ replies_text l.turn (map reply_of (drop l.turn l.replies)) ≡ l.fn.out.items ++ replies_text 0 (map reply_of l.replies)
