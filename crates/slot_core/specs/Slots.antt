-- What a slot has after a journal, and how an entry changes it.
use Rattle.std.specs.Prelude.{◌≡◌, ℕ, List, Option, None}
use Rattle.std.specs.Option.{option_map}
use Rattle.std.specs.Arc.{arc_value}
use Rattle.net_defs.specs.Networks.{Network}
use Rattle.fabric_defs.specs.Configurations.{ConfigValue}
use Rattle.journal_defs.specs.Journals.{Change, EntryValue, config_in, spec_at, config_at, agreement_at, spec_after, agreement_after}
use Rattle.slot_core.specs.declared.slot.Slot.{Slot}
use Rattle.slot_core.specs.declared.place.Place.{Place}

-- the agreed network of a slot
abbrev pub spec_in : Slot → Option Network
spec_in s = option_map arc_value s.net

-- the configuration that runs in a slot
abbrev pub running_in : Slot → Option ConfigValue
running_in s = option_map arc_value s.config

-- this is what the slot with this number has after the journal
pub record IsSlotAfter (h : List EntryValue) (number : ℕ) (s : Slot) : Type 0 where
  pub spec : spec_in s ≡ spec_at h number
  pub running : running_in s ≡ config_at h number

-- and the number of its last agreement is kept
pub record IsPlaceAfter (h : List EntryValue) (number : ℕ) (p : Place) : Type 0 where
  pub contents : IsSlotAfter h number p.slot
  pub agreement : p.agreed ≡ agreement_at h number

-- a slot before the first entry
abbrev pub no_place : Place
no_place = record { slot = record { net = None; config = None }; agreed = 0 }

-- the entry with this number made this change to the slot
pub record IsChanged (c : Change) (number : ℕ) (old new : Place) : Type 0 where
  pub spec : spec_in new.slot ≡ spec_after (spec_in old.slot) c
  pub running : running_in new.slot ≡ config_in c
  pub agreement : new.agreed ≡ agreement_after old.agreed number c
