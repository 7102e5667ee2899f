-- What the calls of a control do that would make an entry.
use Rattle.std.specs.Prelude.{◌≡◌, ◌≢◌, ℕ, ◌<◌, true, false, List, length, None, Some}
use Rattle.net_defs.specs.Networks.{Network}
use Rattle.fabric_defs.specs.Configurations.{ConfigValue}
use Rattle.journal_defs.specs.Journals.{Change, agreed, installed, evicted, EntryValue, spec_at}
use Rattle.live_table.specs.Values.{ControlValue}
use Rattle.live_table.specs.Publishing.{IsPublished}
use Rattle.live_table.specs.declared.receipt.Receipt.{Receipt}
use Rattle.slot_live.specs.declared.errors.ControlError.{ControlError}
use Rattle.slot_live.specs.declared.errors.ControlError.TheVariants.{Unagreed, Stale, Full, Broken, NoMemory}

-- an agreement, an installation and an eviction as entries
abbrev pub agreement : ℕ → ℕ → ℕ → Network → EntryValue
agreement lane turn slot net = record { change = agreed net; lane = lane; turn = turn; slot = slot }

abbrev pub installation : ℕ → ℕ → ℕ → Network → ConfigValue → EntryValue
installation lane turn slot net config =
    record { change = installed net config; lane = lane; turn = turn; slot = slot }

abbrev pub eviction : ℕ → ℕ → ℕ → EntryValue
eviction lane turn slot = record { change = evicted; lane = lane; turn = turn; slot = slot }

-- where something is installed, its network is the one that is agreed for the slot
abbrev pub IsCurrent : List EntryValue → ℕ → Change → Type 0
IsCurrent h slot (agreed net) = Unit {0}
IsCurrent h slot (installed net config) = spec_at h slot ≡ Some net
IsCurrent h slot evicted = Unit {0}

-- something is installed, and no network is agreed for the slot
abbrev pub LacksNet : List EntryValue → ℕ → Change → Type 0
LacksNet h slot (agreed net) = ⊥
LacksNet h slot (installed net config) = spec_at h slot ≡ None
LacksNet h slot evicted = ⊥

-- something is installed, and another network is agreed for the slot
abbrev pub HasOtherNet : List EntryValue → ℕ → Change → Type 0
HasOtherNet h slot (agreed net) = ⊥
HasOtherNet h slot (installed net config) = (other : Network) × (spec_at h slot ≡ Some other) × (other ≢ net)
HasOtherNet h slot evicted = ⊥

-- nothing refuses the entry
pub record IsFree (c : ControlValue) (e : EntryValue) : Type 0 where
  pub current : IsCurrent c.table.journal e.slot e.change
  pub room : length c.table.journal < c.table.limit
  pub sound : c.broken ≡ false

-- nothing refused the entry, and it was published
pub record IsMade (old new : ControlValue) (e : EntryValue) (r : Receipt) : Type 0 where
  pub free : IsFree old e
  pub published : IsPublished old new e r

-- the cause of each refusal, of which the first that is there is answered. Want of memory has none, and comes
-- only where no other refusal does.
abbrev pub IsDue : ControlValue → EntryValue → ControlError → Type 0
IsDue c e (Unagreed at) = LacksNet c.table.journal e.slot e.change × (at ≡ length c.table.journal)
IsDue c e (Stale at) = HasOtherNet c.table.journal e.slot e.change × (at ≡ length c.table.journal)
IsDue c e (Full limit) =
    IsCurrent c.table.journal e.slot e.change × (limit ≡ c.table.limit) × (length c.table.journal ≡ limit)
IsDue c e Broken =
    IsCurrent c.table.journal e.slot e.change × (length c.table.journal < c.table.limit) × (c.broken ≡ true)
IsDue c e NoMemory = IsFree c e

-- the control after a refusal: want of memory breaks it, and no other changes it
abbrev pub after_refusal : ControlValue → ControlError → ControlValue
after_refusal c (Unagreed at) = c
after_refusal c (Stale at) = c
after_refusal c (Full limit) = c
after_refusal c Broken = c
after_refusal c NoMemory = record c { broken = true }

-- the entry was refused by its cause, and the table stayed as it was
abbrev pub Refuses : ControlValue → ControlValue → EntryValue → ControlError → Type 0
Refuses old new e error = IsDue old e error × (new ≡ after_refusal old error)
