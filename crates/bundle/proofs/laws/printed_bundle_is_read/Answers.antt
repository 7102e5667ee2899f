use Rattle.std.proofs.Common.{refl, sym, ◌∙◌, Ok}
use Rattle.bundle_defs.specs.Bundles.{bundle_bytes}
use Rattle.bundle.proofs.AnswerLemmas.{answer_in-only}
use Rattle.bundle.proofs.laws.printed_bundle_is_read.Goals as goal

-- printed bytes are the text of their bundle, and so have that one answer
pub returns : goal.returns
returns c v answer bundle h =
    sym (answer_in-only (bundle_bytes v) answer h)
    ∙ answer_in-only (bundle_bytes v) (Ok v) (record { bundle = bundle; text = refl })
