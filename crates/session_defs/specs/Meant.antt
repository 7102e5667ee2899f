-- The journal that a transcript's lines mean: each line names a command of the script, and with the files the
-- command says what the entry is.
use Rattle.std.specs.Prelude.{◌≡◌, ℕ, List, length, take, slice_get, Option, Some, None}
use Rattle.net_defs.specs.Networks.{Network}
use Rattle.fabric_defs.specs.Configurations.{ConfigValue}
use Rattle.verify_defs.specs.Deliveries.{HasConfig}
use Rattle.journal_defs.specs.Journals.{Change, agreed, installed, evicted, EntryValue, spec_at}
use Rattle.script_defs.specs.declared.command.Command.{Command}
use Rattle.script_defs.specs.declared.command.Command.TheVariants.{Agree, Deliver, Evict}
use Rattle.script_defs.specs.declared.line.EntryKind.{EntryKind}
use Rattle.script_defs.specs.declared.line.EntryKind.TheVariants.{Agreed, Installed, Evicted}
use Rattle.script_defs.specs.declared.line.Line.{Line}
use Rattle.script_defs.specs.Scripts.{ScriptValue}
use Rattle.session_defs.specs.Files.{Contents, DescribesNet, IsDelivery}

-- the element of this number, counted from 0, of the list of this number; none where either isn't there
abbrev pub at_turn : {X : Type 0} → List (List X) → ℕ → ℕ → Option X
at_turn lanes lane turn = in_lane (slice_get lanes lane) turn

-- the element of this number, counted from 0, where there is a list
abbrev pub in_lane : {X : Type 0} → Option (List X) → ℕ → Option X
in_lane None turn = None
in_lane (Some lane) turn = slice_get lane turn

-- the command of this turn of this lane
abbrev pub IsCommandAt : ScriptValue → ℕ → ℕ → Command → Type 0
IsCommandAt s lane turn command = at_turn s.lanes lane turn ≡ Some command

-- what the command of a line does to its slot, after these entries
abbrev pub MeansChange : List Contents → List EntryValue → EntryKind → ℕ → Command → Change → Type 0
MeansChange files h Agreed slot command change =
    (file : ℕ) × (net : Network)
    × (command ≡ Agree slot file) × DescribesNet files file net × (change ≡ agreed net)
MeansChange files h Installed slot command change =
    (file : ℕ) × (bytes : List ℕ) × (net : Network) × (config : ConfigValue)
    × (command ≡ Deliver slot file) × IsDelivery files file bytes × HasConfig bytes config
    × (spec_at h slot ≡ Some net) × (change ≡ installed net config)
MeansChange files h Evicted slot command change = (command ≡ Evict slot) × (change ≡ evicted)

-- the entry that the line means after these entries
pub record MeansEntry (s : ScriptValue) (files : List Contents) (h : List EntryValue) (line : Line) (e : EntryValue)
    : Type 0 where
  pub lane : e.lane ≡ line.lane
  pub turn : e.turn ≡ line.turn
  pub slot : e.slot ≡ line.slot
  pub command : Command
  pub commanded : IsCommandAt s line.lane line.turn command
  pub change : MeansChange files h line.kind line.slot command e.change

-- the journal that these lines mean: it has an entry for each line, which is what the line means after the
-- entries before it
pub record Meant (s : ScriptValue) (files : List Contents) (lines : List Line) (h : List EntryValue) : Type 0 where
  pub as_many : length h ≡ length lines
  pub entries : (p : ℕ) (line : Line) (e : EntryValue) → slice_get lines p ≡ Some line → slice_get h p ≡ Some e
      → MeansEntry s files (take p h) line e
