-- What is answered of a slot after a journal.
use Rattle.std.specs.Prelude.{◌≡◌, ◌≢◌, ℕ, List, length, take, None, Some}
use Rattle.net_defs.specs.Networks.{Network}
use Rattle.fabric_defs.specs.Configurations.{ConfigValue}
use Rattle.fabric_defs.specs.Wirings.{FabOut, CellBit}
use Rattle.lanes_defs.specs.Ones.{AreOnes}
use Rattle.journal_defs.specs.Journals.{EntryValue, spec_at, config_at}

-- what is asked of a slot, which comes first
pub data Query : Type 0 where
  -- the outputs for these input bits, and the bit of the cell with this number
  cycle : ℕ → List ℕ → ℕ → Query
  -- how many of so many values, from the first on, make each output one: the first value, and the count
  sweep : ℕ → ℕ → ℕ → Query
  -- the agreed network
  ticket : ℕ → Query

-- what is answered
pub data Answer : Type 0 where
  -- the bits of the outputs, and the bit of the cell
  out : List ℕ → ℕ → Answer
  -- nothing runs in the slot
  vacant : Answer
  -- the agreed network has so many inputs, and not as many as were given
  width : ℕ → Answer
  -- the counts for all output pads, and how many of them are outputs of the agreed network
  ones : List ℕ → ℕ → Answer
  -- the agreed network
  agreed : Network → Answer
  -- no network is agreed
  unagreed : Answer

-- after these entries the slot has this agreed network, and this configuration runs in it
pub record Runs (h : List EntryValue) (slot : ℕ) (net : Network) (config : ConfigValue) : Type 0 where
  pub spec : spec_at h slot ≡ Some net
  pub running : config_at h slot ≡ Some config

-- as many inputs as the network has were given; the outputs are the first of the configured fabric, and the
-- bit is that of the cell
pub record AreOutputs (net : Network) (config : ConfigValue) (x : List ℕ) (cell : ℕ) (y : List ℕ) (bit : ℕ)
    : Type 0 where
  pub inputs : length x ≡ length net.inputs
  pub pads : List ℕ
  pub outputs : FabOut config x pads
  pub first : y ≡ take (length net.outputs) pads
  pub probe : CellBit config x cell bit

-- what runs in the slot gives these outputs, and its cell this bit
abbrev pub GivesOut : List EntryValue → ℕ → List ℕ → ℕ → List ℕ → ℕ → Type 0
GivesOut h slot x cell y bit =
    (net : Network) × (config : ConfigValue) × Runs h slot net config × AreOutputs net config x cell y bit

-- something runs in the slot, and its network has another number of inputs, which is wanted
abbrev pub WantsWidth : List EntryValue → ℕ → List ℕ → ℕ → Type 0
WantsWidth h slot x want =
    (net : Network) × (config : ConfigValue) × Runs h slot net config
    × (want ≡ length net.inputs) × (length x ≢ want)

-- of the values, what runs in the slot has so many ones for each output, and its network so many outputs
abbrev pub GivesOnes : List EntryValue → ℕ → ℕ → ℕ → List ℕ → ℕ → Type 0
GivesOnes h slot first count counts outputs =
    (net : Network) × (config : ConfigValue) × Runs h slot net config
    × AreOnes config (length net.inputs) first count counts × (outputs ≡ length net.outputs)

-- the answer to a query after these entries
abbrev pub AnswerAt : List EntryValue → Query → Answer → Type 0
AnswerAt h (cycle slot x cell) (out y bit) = GivesOut h slot x cell y bit
AnswerAt h (cycle slot x cell) vacant = config_at h slot ≡ None
AnswerAt h (cycle slot x cell) (width want) = WantsWidth h slot x want
AnswerAt h (cycle slot x cell) (ones counts outputs) = ⊥
AnswerAt h (cycle slot x cell) (agreed net) = ⊥
AnswerAt h (cycle slot x cell) unagreed = ⊥
AnswerAt h (sweep slot first count) (out y bit) = ⊥
AnswerAt h (sweep slot first count) vacant = config_at h slot ≡ None
AnswerAt h (sweep slot first count) (width want) = ⊥
AnswerAt h (sweep slot first count) (ones counts outputs) = GivesOnes h slot first count counts outputs
AnswerAt h (sweep slot first count) (agreed net) = ⊥
AnswerAt h (sweep slot first count) unagreed = ⊥
AnswerAt h (ticket slot) (out y bit) = ⊥
AnswerAt h (ticket slot) vacant = ⊥
AnswerAt h (ticket slot) (width want) = ⊥
AnswerAt h (ticket slot) (ones counts outputs) = ⊥
AnswerAt h (ticket slot) (agreed net) = spec_at h slot ≡ Some net
AnswerAt h (ticket slot) unagreed = spec_at h slot ≡ None

-- the answer, and the number of entries after which it is one
pub record ReplyAt (h : List EntryValue) (q : Query) (answer : Answer) (at : ℕ) : Type 0 where
  pub answers : AnswerAt h q answer
  pub all_entries : at ≡ length h
