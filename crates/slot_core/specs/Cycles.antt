-- The answers to a cycle as replies of a journal.
use Rattle.std.specs.Prelude.{◌≡◌, ◌≢◌, ℕ, List, length, if◌then◌else◌}
use Rattle.net_defs.specs.Networks.{Network}
use Rattle.fabric_defs.specs.Configurations.{ConfigValue}
use Rattle.journal_defs.specs.Journals.{EntryValue}
use Rattle.journal_defs.specs.Replies.{Query, out, vacant, width, AreOutputs, ReplyAt}
use Rattle.slot_core.specs.declared.cycle.Cycle.{Cycle}
use Rattle.slot_core.specs.declared.cycle.Cycle.TheVariants.{Out, Vacant, Width}

-- the answer is the reply of the journal to the query
abbrev pub IsReplyTo : List EntryValue → Query → Cycle → Type 0
IsReplyTo h q (Out outputs probe at) = ReplyAt h q (out outputs (if probe then 1 else 0)) at
IsReplyTo h q (Vacant at) = ReplyAt h q vacant at
IsReplyTo h q (Width want at) = ReplyAt h q (width want) at

-- the answer of a configuration that runs for this network, where the journal has so many entries
abbrev pub IsGivenBy : Network → ConfigValue → List ℕ → ℕ → ℕ → Cycle → Type 0
IsGivenBy net config x cell entries (Out outputs probe at) =
    AreOutputs net config x cell outputs (if probe then 1 else 0) × (at ≡ entries)
IsGivenBy net config x cell entries (Vacant at) = ⊥
IsGivenBy net config x cell entries (Width want at) =
    (want ≡ length net.inputs) × (length x ≢ want) × (at ≡ entries)
