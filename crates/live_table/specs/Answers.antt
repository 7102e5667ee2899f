-- The answers of an evaluator as replies of a journal.
use Rattle.std.specs.Prelude.{◌≡◌, ℕ, List}
use Rattle.std.specs.Option.{option_map}
use Rattle.std.specs.Arc.{arc_value}
use Rattle.journal_defs.specs.Journals.{EntryValue, spec_at, agreement_at}
use Rattle.journal_defs.specs.Replies.{cycle, sweep, ticket, vacant, ones, agreed, unagreed, ReplyAt}
use Rattle.slot_core.specs.declared.cycle.Cycle.{Cycle}
use Rattle.slot_core.specs.Cycles.{IsReplyTo}
use Rattle.live_table.specs.declared.answers.Sweep.{Sweep}
use Rattle.live_table.specs.declared.answers.Sweep.TheVariants.{Ones, Vacant}
use Rattle.live_table.specs.declared.answers.Look.{Look}
use Rattle.live_table.specs.declared.answers.Look.TheVariants.{Agreed, Unagreed}
use Rattle.live_table.specs.declared.answers.Since.{Since}

-- the answer is the journal's reply to a cycle of the slot, with these input bits and this probed cell
abbrev pub IsCycle : List EntryValue → ℕ → List ℕ → ℕ → Cycle → Type 0
IsCycle h slot x probe answer = IsReplyTo h (cycle slot x probe) answer

-- the answer is the journal's reply to a sweep of the slot over so many values from the first on
abbrev pub IsSweep : List EntryValue → ℕ → ℕ → ℕ → Sweep → Type 0
IsSweep h slot first count (Ones counts outputs at) = ReplyAt h (sweep slot first count) (ones counts outputs) at
IsSweep h slot first count (Vacant at) = ReplyAt h (sweep slot first count) vacant at

-- the answer is the journal's reply to who asks for the slot's agreed network
abbrev pub IsLook : List EntryValue → ℕ → Look → Type 0
IsLook h slot (Agreed net at) = ReplyAt h (ticket slot) (agreed (arc_value net)) at
IsLook h slot (Unagreed at) = ReplyAt h (ticket slot) unagreed at

-- the answer to a cycle, and with it the slot's agreed network and the number of its last agreement
pub record IsSince (h : List EntryValue) (slot : ℕ) (x : List ℕ) (probe : ℕ) (answer : Since) : Type 0 where
  pub cycle : IsCycle h slot x probe answer.cycle
  pub net : option_map arc_value answer.net ≡ spec_at h slot
  pub agreed : answer.agreed ≡ agreement_at h slot
