use Rattle.std.proofs.Common.{◌≡◌, ◌≤◌, length, map, Some, refl, sym, ap, subst, ◌∙◌, arith}
use Rattle.std.specs.Arc.{arc_value}
use Rattle.std.proofs.lemmas.Result.{IfOk-weaker}
use Rattle.fabric_defs.specs.Geometries.{GeometryValue}
use Rattle.verify_defs.specs.Acceptance.{AcceptsWith}
use Rattle.verify_defs.specs.Refusals.{Refuses}
use Rattle.journal_defs.specs.Journals.{spec_at}
use Rattle.script_defs.specs.declared.command.Command.TheVariants.{Deliver}
use Rattle.slot_core.proofs.Places.{shared-value}
use Rattle.session_defs.specs.Replies.{IsAgreedAfter}
use Rattle.run_script.specs.Replies.{reply_of}
use Rattle.run_actors.specs.Loading.{contents_of}
use Rattle.run_actors.specs.Steps.{Answered}
use Rattle.run_actors.proofs.Answering.{all-entries, deliver-refusal}
use Rattle.run_actors.proofs.deliveries.deliver.Goals as goal

-- the check was made against the network that is still agreed, since a check changes nothing of the device
pub returns-in-Err : goal.returns-in-Err
returns-in-Err g c =
    let device = c.args.device.now in
    let files = map contents_of c.args.files.now in
    let agrees : spec_at device.journal c.args.slot ≡ Some (arc_value c.in-Some.net) =
    sym c.in_ok-net.ensures ∙ shared-value c.in_ok-net.field-0 c.in-Some.net c.in-Some.is in
    let refuses : Refuses device.geometry (arc_value c.in-Some.net) c.bytes_in-bytes.result.now c.in-Err.refusal =
    subst (λ (f : GeometryValue). Refuses f (arc_value c.in-Some.net) c.bytes_in-bytes.result.now c.in-Err.refusal)
    c.geometry-g.ensures c.in-Err.ensures.refused in
    IfOk-weaker c.refused.result _ _
    (λ r given. subst (λ q. Answered files (length device.journal) c.args.at (Deliver c.args.slot c.args.file) q device device)
    (sym given.0)
    (deliver-refusal files c.args.at c.args.slot c.args.file c.entries-checked.result c.in-Err.refusal
    (arc_value c.in-Some.net) c.bytes_in-bytes.result.now device device agrees c.bytes_in-bytes.ensures refuses given.1
    c.entries-checked.ensures refl)) c.refused.ensures

-- what was accepted for the agreed network is installed, as `install` promises
pub returns : goal.returns
returns g c =
    let device = c.args.device.now in
    let files = map contents_of c.args.files.now in
    let net = c.in-Ok.accepted.net in
    let is_net : net ≡ arc_value c.in-Some.net = c.in-Ok.ensures.same_net in
    let now_agreed : spec_at device.journal c.args.slot ≡ Some net =
    sym c.in_ok-net.ensures ∙ shared-value c.in_ok-net.field-0 c.in-Some.net c.in-Some.is ∙ ap Some (sym is_net) in
    let agrees : IsAgreedAfter device.journal c.entries-checked.result c.args.slot net =
    subst (λ h. spec_at h c.args.slot ≡ Some net)
    (all-entries device.journal c.entries-checked.result c.entries-checked.ensures) now_agreed in
    let accepted : AcceptsWith device.geometry net c.bytes_in-bytes.result.now c.in-Ok.accepted.config =
    subst (λ (f : GeometryValue). AcceptsWith f net c.bytes_in-bytes.result.now c.in-Ok.accepted.config)
    c.geometry-g.ensures
    (subst (λ n. AcceptsWith c.geometry-g.result n c.bytes_in-bytes.result.now c.in-Ok.accepted.config) (sym is_net)
    c.in-Ok.ensures.accepted) in
    let earlier : c.entries-checked.result ≤ length device.journal = omega (arith, c.entries-checked.ensures) in
    IfOk-weaker c.install.result _ _
    (λ r given. subst (λ n. Answered files n c.args.at (Deliver c.args.slot c.args.file) (reply_of r) device c.install.new.self)
    c.entries-checked.ensures
    (given files c.args.file c.bytes_in-bytes.result.now c.bytes_in-bytes.ensures accepted agrees earlier))
    c.install.ensures
