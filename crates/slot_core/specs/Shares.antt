-- What an entry leaves in its slot.
use Rattle.std.specs.Prelude.{◌≡◌}
use Rattle.std.specs.Arc.{arc_value}
use Rattle.journal_defs.specs.Journals.{Change, agreed, installed, evicted}
use Rattle.slot_core.specs.declared.ready.Share.{Share}
use Rattle.slot_core.specs.declared.ready.Share.TheVariants.{Net, Config, Nothing}

-- the agreed network is left, or the installed configuration, or nothing
abbrev pub IsLeftBy : Change → Share → Type 0
IsLeftBy (agreed net) (Net share) = arc_value share ≡ net
IsLeftBy (agreed net) (Config share) = ⊥
IsLeftBy (agreed net) Nothing = ⊥
IsLeftBy (installed net config) (Net share) = ⊥
IsLeftBy (installed net config) (Config share) = arc_value share ≡ config
IsLeftBy (installed net config) Nothing = ⊥
IsLeftBy evicted (Net share) = ⊥
IsLeftBy evicted (Config share) = ⊥
IsLeftBy evicted Nothing = Unit {0}
