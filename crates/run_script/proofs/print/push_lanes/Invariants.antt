use Rattle.std.proofs.Common.{◌≡◌, ◌++◌, map, drop}
use Rattle.script_defs.specs.Printing.{lanes_text}
use Rattle.run_script.specs.Replies.{reply_of}
use Rattle.run_script.proofs.print.push_lanes.Given as goal

-- the lines so far, with those that are left, are the lines of all lanes
abbrev pub invariant-loop-lane : goal.invariant-loop-lane
invariant-loop-lane l =
    l.out.items ++ lanes_text l.lane (map (λ replies. map reply_of replies) (drop l.lane l.lanes))
    ≡ l.fn.out.items ++ lanes_text 0 (map (λ replies. map reply_of replies) l.lanes)
