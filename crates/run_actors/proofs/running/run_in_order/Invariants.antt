use Rattle.std.proofs.Common.{◌≡◌, map, take}
use Rattle.script_defs.specs.Transcripts.{ArePrintable}
use Rattle.run_script.specs.Views.{script_of}
use Rattle.run_script.specs.Replies.{reply_of}
use Rattle.run_actors.specs.Loading.{contents_of}
use Rattle.run_actors.specs.Progress.{HasRun}
use Rattle.run_actors.proofs.running.run_in_order.Given as goal

-- the lanes so far were run on a device of the script
abbrev pub invariant-loop-lane : goal.invariant-loop-lane
invariant-loop-lane g l = record {
  slots : l.device.slots ≡ l.s.slots;
  printable : ArePrintable (map (λ replies. map reply_of replies) l.lanes);
  runs : HasRun (script_of l.s) (map contents_of l.files) (take l.lane l.s.lanes) l.device (map (λ replies. map reply_of replies) l.lanes);
}
