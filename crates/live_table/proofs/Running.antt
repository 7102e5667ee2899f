-- What runs in a slot of a table, and the network that is agreed for it.
use Rattle.std.proofs.Common.{◌≡◌, ℕ, List, None, Some, sym, subst, ◌∙◌}
use Rattle.net_defs.specs.Networks.{Network}
use Rattle.fabric_defs.specs.Geometries.{GeometryValue}
use Rattle.fabric_defs.specs.Configurations.{ConfigValue}
use Rattle.journal_defs.specs.Journals.{EntryValue}
use Rattle.journal_defs.specs.Legality.{IsInstallable}
use Rattle.slot_core.specs.Values.{TableValue}
use Rattle.slot_core.specs.declared.slot.Slot.{Slot}
use Rattle.slot_core.specs.Slots.{IsSlotAfter, spec_in, running_in}
use Rattle.slot_core.specs.Tables.{IsLegal}
use Rattle.slot_core.proofs.Places.{running-is_installable, unagreed-is_vacant}

-- where a slot has both, the configuration is equal to the network
pub runs_checked : (t : TableValue) (slot : ℕ) (s : Slot) (net : Network) (config : ConfigValue) → IsLegal t
    → IsSlotAfter t.journal slot s → spec_in s ≡ Some net → running_in s ≡ Some config
    → IsInstallable t.geometry t.journal slot net config
runs_checked t slot s net config legal after agreed runs =
    running-is_installable t.geometry t.slots t.limit slot t.journal net config legal (sym after.running ∙ runs)
    (sym after.spec ∙ agreed)

-- and it has no configuration where it has no network
pub runs_agreed : (t : TableValue) (slot : ℕ) (s : Slot) (config : ConfigValue) → IsLegal t
    → IsSlotAfter t.journal slot s → spec_in s ≡ None → running_in s ≡ Some config → ⊥
runs_agreed t slot s config legal after none runs =
    unagreed-is_vacant t.geometry t.slots t.limit slot t.journal config legal (sym after.running ∙ runs)
    (sym after.spec ∙ none)

-- the same of a network and a configuration that are these
pub checked_at : (g : GeometryValue) (h : List EntryValue) (slot : ℕ) (net n : Network) (config k : ConfigValue)
    → n ≡ net → k ≡ config → IsInstallable g h slot net config → IsInstallable g h slot n k
checked_at g h slot net n config k is_net is_config checked =
    subst (λ (m : Network). IsInstallable g h slot m k) (sym is_net)
    (subst (λ (c : ConfigValue). IsInstallable g h slot net c) (sym is_config) checked)
