use Rattle.std.proofs.Common.{map, take, All}
use Rattle.script_defs.specs.Transcripts.{IsPrintable}
use Rattle.run_script.specs.Replies.{reply_of}
use Rattle.run_actors.specs.Loading.{contents_of}
use Rattle.run_actors.specs.Progress.{IsSameDevice, RunsLane}
use Rattle.run_actors.proofs.lanes.run_lane.Given as goal

-- the commands so far were run
abbrev pub invariant-loop-number : goal.invariant-loop-number
invariant-loop-number g l = record {
  same : IsSameDevice l.fn.device l.device;
  printable : All IsPrintable (map reply_of l.replies);
  runs : RunsLane (map contents_of l.files) l.lane (take l.number l.commands) (map reply_of l.replies) l.fn.device l.device;
}
