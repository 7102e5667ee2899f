use Rattle.std.proofs.Common.{◌≡◌, List, [], ◌∷◌, ◌++◌, length, map, All, Some, refl, sym, ap, subst, ◌∙◌}
use Rattle.std.specs.List.{slice_get}
use Rattle.std.proofs.lemmas.List.{map-append}
use Rattle.std.proofs.lemmas.List.Elements.{All-nil, All-push}
use Rattle.std.proofs.lemmas.Option.{slice_get_read}
use Rattle.script_defs.specs.Transcripts.{IsPrintable}
use Rattle.run_script.specs.declared.reply.Reply.{Reply}
use Rattle.run_script.specs.Replies.{reply_of}
use Rattle.run_actors.specs.Loading.{contents_of}
use Rattle.run_actors.specs.Progress.{RunsLane}
use Rattle.run_actors.proofs.Answering.{answered-printable}
use Rattle.run_actors.proofs.Listing.{same-device, lane-begins, lane-next}
use Rattle.run_actors.proofs.lanes.run_lane.Goals as goal

-- no command was run yet
pub loop-number-init : goal.loop-number-init
loop-number-init g c =
    let device = c.args.device.now in
    let files = map contents_of c.args.files.now in
    record {
      same = record { geometry = refl; slots = refl; limit = refl };
      printable = subst (λ (rs : List Reply). All IsPrintable (map reply_of rs)) (sym c.new-replies.ensures)
          (All-nil IsPrintable);
      runs = subst (λ (rs : List Reply). RunsLane files c.args.lane [] (map reply_of rs) device device)
          (sym c.new-replies.ensures) (lane-begins files c.args.lane device);
    }

-- one command more was run, at the next turn
pub loop-number-preserved : goal.loop-number-preserved
loop-number-preserved g c =
    let files = map contents_of c.args.files.now in
    let reply = c.in_ok-run_command.field-0 in
    let found : slice_get c.args.commands.now c.loop-number.number ≡ Some c.index-commands-number.result =
    slice_get_read c.args.commands.now (length c.args.commands.now) c.loop-number.number c.index-commands-number.result
    refl c.loop-number-test.true c.index-commands-number.is in
    let longer : map reply_of c.push.new.self ≡ map reply_of c.loop-number.replies ++ reply_of reply ∷ [] =
    ap (map reply_of) c.in_ok-push.ensures ∙ map-append reply_of c.loop-number.replies (reply ∷ []) in
    record {
      same = same-device c.args.device.now c.loop-number.device c.run_command.new.device c.loop-number.invariant.same
          c.in_ok-run_command.ensures.device;
      printable = subst (All IsPrintable) (sym longer)
          (All-push IsPrintable (map reply_of c.loop-number.replies) (reply_of reply) c.loop-number.invariant.printable
          (answered-printable files (length c.loop-number.device.journal)
          (record { lane = c.args.lane; number = c.loop-number.number }) c.index-commands-number.result (reply_of reply)
          c.loop-number.device c.run_command.new.device c.in_ok-run_command.ensures.reply));
      runs = lane-next files c.args.lane c.loop-number.number c.args.commands.now c.index-commands-number.result
          (record { lane = c.args.lane; number = c.loop-number.number })
          (map reply_of c.loop-number.replies) (map reply_of c.push.new.self) (reply_of reply) c.args.device.now
          c.loop-number.device c.run_command.new.device c.loop-number.invariant.runs found refl refl
          c.in_ok-run_command.ensures.reply
          longer;
    }
