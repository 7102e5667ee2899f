-- What is known of an entry before it is made.
use Rattle.std.specs.Prelude.{◌≡◌, ◌≢◌, ℕ, List, Option, None, Some}
use Rattle.net_defs.specs.Networks.{Network}
use Rattle.miter_defs.specs.Equality.{Equal}
use Rattle.journal_defs.specs.Journals.{Change, agreed, installed, evicted}
use Rattle.live_table.specs.declared.judging.Standing.{Standing}
use Rattle.live_table.specs.declared.judging.Standing.TheVariants.{Agreed, Stale, Unagreed}

-- an installed configuration is equal to its network
abbrev pub IsChecked : Change → Type 0
IsChecked (agreed net) = Unit {0}
IsChecked (installed net config) = Equal net config
IsChecked evicted = Unit {0}

-- how a network stands to the one that is agreed, where one is
abbrev pub IsStanding : Option Network → Network → Standing → Type 0
IsStanding current net Agreed = current ≡ Some net
IsStanding current net Stale = (other : Network) × (current ≡ Some other) × (other ≢ net)
IsStanding current net Unagreed = current ≡ None
