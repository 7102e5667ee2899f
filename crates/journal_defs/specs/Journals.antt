-- A journal is a list of entries, numbered from 1. Each entry changes one slot.
use Rattle.std.specs.Prelude.{ℕ, zero, suc, ◌==◌, Bool, true, false, ◌&&◌, if◌then◌else◌, List, [], ◌∷◌, filter, Option, None, Some}
use Rattle.std.specs.List.{last_or}
use Rattle.net_defs.specs.Networks.{Network}
use Rattle.fabric_defs.specs.Configurations.{ConfigValue}

-- what an entry does to its slot
pub data Change : Type 0 where
  -- this network is agreed; nothing runs until a configuration is installed
  agreed : Network → Change
  -- this configuration runs from here on; it was checked against this network
  installed : Network → ConfigValue → Change
  -- nothing runs
  evicted : Change

-- an entry: what it does to which slot, and the lane and the turn that it comes from
pub record EntryValue : Type 0 where
  pub change : Change
  pub lane : ℕ
  pub turn : ℕ
  pub slot : ℕ

-- the network that a change agrees on
abbrev pub network_in : Change → Option Network
network_in (agreed net) = Some net
network_in (installed net config) = None
network_in evicted = None

-- the configuration that a change installs
abbrev pub config_in : Change → Option ConfigValue
config_in (agreed net) = None
config_in (installed net config) = Some config
config_in evicted = None

-- the change is an agreement
abbrev pub is_agreement : Change → Bool
is_agreement (agreed net) = true
is_agreement (installed net config) = false
is_agreement evicted = false

-- the entry is one of this slot
abbrev pub is_of : ℕ → EntryValue → Bool
is_of slot e = e.slot == slot

-- the entry is an agreement of this slot
abbrev pub is_agreement_of : ℕ → EntryValue → Bool
is_agreement_of slot e = is_of slot e && is_agreement e.change

-- the last element that passes the test
abbrev pub last_passing : {X : Type 0} → (X → Bool) → List X → Option X
last_passing p xs = last_or None (filter p xs)

-- the number of an element that comes first, where `later` is that of the last one behind it, or 0
abbrev pub number_with : Bool → ℕ → ℕ
number_with passes (suc later) = suc (suc later)
number_with passes zero = if passes then 1 else 0

-- the number of the last element that passes the test, counted from 1; 0 where none does
abbrev pub last_number : {X : Type 0} → (X → Bool) → List X → ℕ
last_number p [] = 0
last_number p (x ∷ xs) = number_with (p x) (last_number p xs)

-- the network of an entry, where there is one and it is an agreement
abbrev pub network_of : Option EntryValue → Option Network
network_of None = None
network_of (Some e) = network_in e.change

-- the configuration of an entry, where there is one and it is an installation
abbrev pub config_of : Option EntryValue → Option ConfigValue
config_of None = None
config_of (Some e) = config_in e.change

-- the agreed network of a slot after these entries: that of the slot's last agreement
abbrev pub spec_at : List EntryValue → ℕ → Option Network
spec_at h slot = network_of (last_passing (is_agreement_of slot) h)

-- the configuration that runs in a slot after these entries: that of the slot's last entry, where this is
-- an installation
abbrev pub config_at : List EntryValue → ℕ → Option ConfigValue
config_at h slot = config_of (last_passing (is_of slot) h)

-- the number of the slot's last agreement, 0 where there is none
abbrev pub agreement_at : List EntryValue → ℕ → ℕ
agreement_at h slot = last_number (is_agreement_of slot) h

-- ---- one more entry

-- the agreed network after a change, where this was it before
abbrev pub spec_after : Option Network → Change → Option Network
spec_after before (agreed net) = Some net
spec_after before (installed net config) = before
spec_after before evicted = before

-- the number of the last agreement after a change by the entry of this number
abbrev pub agreement_after : ℕ → ℕ → Change → ℕ
agreement_after before number (agreed net) = number
agreement_after before number (installed net config) = before
agreement_after before number evicted = before
