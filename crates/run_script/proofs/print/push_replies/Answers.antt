use Rattle.std.proofs.Common.{◌<◌, length, arith}
use Rattle.script_defs.specs.Transcripts.{IsPrintable}
use Rattle.run_script.specs.Replies.{reply_of}
use Rattle.run_script.proofs.Printing.{at_image}
use Rattle.run_script.proofs.print.push_replies.Goals as goal

-- the reply of this turn has a text
pub push_reply-requires : goal.push_reply-requires
push_reply-requires c =
    let lt : c.loop-turn.turn < length c.args.replies.now = omega arith in
    at_image IsPrintable reply_of c.args.replies.now c.loop-turn.turn c.index-replies-turn.result c.requires lt c.index-replies-turn.is
