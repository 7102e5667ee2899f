-- Which journals are legal: whatever runs in a slot computes the network that is agreed for it.
use Rattle.std.specs.Prelude.{◌≡◌, ℕ, ◌<◌, ◌≤◌, List, length, take, slice_get, All, Some}
use Rattle.net_defs.specs.Networks.{Network}
use Rattle.fabric_defs.specs.Geometries.{GeometryValue}
use Rattle.fabric_defs.specs.Configurations.{ConfigValue}
use Rattle.miter_defs.specs.Equality.{Equal}
use Rattle.journal_defs.specs.Journals.{Change, agreed, installed, evicted, EntryValue, spec_at}

-- after these entries the network is the agreed one of the slot, and the configuration is one of this fabric
-- that is equal to it
pub record IsInstallable (g : GeometryValue) (h : List EntryValue) (slot : ℕ) (net : Network) (config : ConfigValue)
    : Type 0 where
  pub same : spec_at h slot ≡ Some net
  pub geometry : config.geometry ≡ g
  pub equal : Equal net config

-- the change may come after these entries: an agreement or an eviction always may
abbrev pub CanChange : GeometryValue → List EntryValue → ℕ → Change → Type 0
CanChange g h slot (agreed net) = Unit {0}
CanChange g h slot (installed net config) = IsInstallable g h slot net config
CanChange g h slot evicted = Unit {0}

-- the entry may come after these entries
abbrev pub CanFollow : GeometryValue → List EntryValue → EntryValue → Type 0
CanFollow g h e = CanChange g h e.slot e.change

-- a journal of a device with this fabric and so many slots has no more entries than its limit, each is of a
-- slot of the device, and each may come after those before it
pub record Legal (g : GeometryValue) (slots limit : ℕ) (h : List EntryValue) : Type 0 where
  pub short : length h ≤ limit
  pub within : All (λ e. e.slot < slots) h
  pub follows : (p : ℕ) (e : EntryValue) → slice_get h p ≡ Some e → CanFollow g (take p h) e
