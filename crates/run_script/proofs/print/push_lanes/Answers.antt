use Rattle.std.proofs.Common.{◌<◌, List, length, map, sym, subst, arith}
use Rattle.std.specs.Prelude.{All}
use Rattle.script_defs.specs.Transcripts.{IsPrintable}
use Rattle.run_script.specs.declared.reply.Reply.{Reply}
use Rattle.run_script.specs.Replies.{reply_of}
use Rattle.run_script.proofs.Printing.{at_image}
use Rattle.run_script.proofs.print.push_lanes.Goals as goal

-- each reply of this lane has a text
pub push_replies-requires : goal.push_replies-requires
push_replies-requires c =
    let lt : c.loop-lane.lane < length c.args.lanes.now = omega arith in
    subst (λ (rs : List Reply). All IsPrintable (map reply_of rs)) (sym c.as_slice.ensures)
    (at_image (λ rs. All IsPrintable rs) (λ (rs : List Reply). map reply_of rs) c.args.lanes.now c.loop-lane.lane c.index-lanes-lane.result c.requires lt c.index-lanes-lane.is)
