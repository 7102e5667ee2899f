use Rattle.std.proofs.Common.{◌≡◌, List, [], ◌∷◌, ◌++◌, length, map, All, Some, refl, sym, ap, subst, ◌∙◌}
use Rattle.std.specs.List.{slice_get}
use Rattle.std.proofs.lemmas.List.{map-append}
use Rattle.std.proofs.lemmas.List.Elements.{All-get_or, All-push}
use Rattle.std.proofs.lemmas.Option.{slice_get_read}
use Rattle.fabric_defs.specs.Geometries.{GeometryValue}
use Rattle.script_defs.specs.Scripts.{IsCommand}
use Rattle.script_defs.specs.Transcripts.{ReplyValue, IsPrintable}
use Rattle.run_script.specs.declared.reply.Reply.{Reply}
use Rattle.run_script.specs.Views.{script_of}
use Rattle.run_script.specs.Replies.{reply_of}
use Rattle.run_actors.specs.Loading.{contents_of, CanRun}
use Rattle.run_actors.specs.Progress.{RunsLane}
use Rattle.run_actors.proofs.Files.{all-can_run}
use Rattle.run_actors.proofs.Listing.{session-next}
use Rattle.run_actors.proofs.running.run_in_order.Goals as goal

-- the script's commands can run, since each file is loaded as what it is used as
pub run_lane-requires-clause-commands : goal.run_lane-requires-clause-commands
run_lane-requires-clause-commands g c =
    let s = c.args.s.now in
    let files = map contents_of c.args.files.now in
    let here : All (IsCommand s.geometry s.slots s.files) c.commands-item.result =
    subst (λ cs. All (IsCommand s.geometry s.slots s.files) cs) (sym c.commands-item.is)
    (All-get_or (λ cs. All (IsCommand s.geometry s.slots s.files) cs) c.as_slice-commands-items.result.now
    c.loop-lane.lane c.commands-item.result c.loop-lane-test.true
    (subst (λ ls. All (λ cs. All (IsCommand s.geometry s.slots s.files) cs) ls) (sym c.as_slice-commands-items.ensures)
    c.requires.script.commands)) in
    let all : All (CanRun s.geometry s.slots files) c.commands-item.result =
    all-can_run s.geometry s.slots s.files files c.requires.files c.commands-item.result here in
    let can : All (CanRun c.loop-lane.device.geometry c.loop-lane.device.slots files) c.as_slice-commands.result.now =
    subst (λ cs. All (CanRun c.loop-lane.device.geometry c.loop-lane.device.slots files) cs) (sym c.as_slice-commands.ensures)
    (subst (λ n. All (CanRun c.loop-lane.device.geometry n files) c.commands-item.result) (sym c.loop-lane.invariant.slots)
    (subst (λ (f : GeometryValue). All (CanRun f s.slots files) c.commands-item.result)
    (sym c.loop-lane.invariant.runs.geometry) all)) in
    λ _ _. can

-- one lane more was run, on the device that the lanes before it left
pub loop-lane-preserved : goal.loop-lane-preserved
loop-lane-preserved g c =
    let s = c.args.s.now in
    let files = map contents_of c.args.files.now in
    let replies = c.in_ok-replies.replies in
    let shown = c.as_slice-commands-items.result.now in
    let found : slice_get s.lanes c.loop-lane.lane ≡ Some c.commands-item.result =
    subst (λ ls. slice_get ls c.loop-lane.lane ≡ Some c.commands-item.result) c.as_slice-commands-items.ensures
    (slice_get_read shown (length shown) c.loop-lane.lane c.commands-item.result refl c.loop-lane-test.true
    c.commands-item.is) in
    let runs : RunsLane files c.loop-lane.lane c.commands-item.result (map reply_of replies) c.loop-lane.device c.run_lane.new.device =
    subst (λ cs. RunsLane files c.loop-lane.lane cs (map reply_of replies) c.loop-lane.device c.run_lane.new.device)
    c.as_slice-commands.ensures c.in_ok-replies.ensures.replies in
    let view : List Reply → List ReplyValue = λ rs. map reply_of rs in
    let longer : map view c.push.new.self ≡ map view c.loop-lane.lanes ++ map reply_of replies ∷ [] =
    ap (map view) c.in_ok-push.ensures ∙ map-append view c.loop-lane.lanes (replies ∷ []) in
    record {
      slots = c.in_ok-replies.ensures.device.slots ∙ c.loop-lane.invariant.slots;
      printable = subst (All (All IsPrintable)) (sym longer)
          (All-push (All IsPrintable) (map view c.loop-lane.lanes) (map reply_of replies)
          c.loop-lane.invariant.printable c.in_ok-replies.ensures.printable);
      runs = session-next (script_of s) files s.lanes c.loop-lane.lane c.commands-item.result (map reply_of replies)
          (map view c.loop-lane.lanes) (map view c.push.new.self) c.loop-lane.device c.run_lane.new.device
          c.loop-lane.invariant.runs found runs longer;
    }
