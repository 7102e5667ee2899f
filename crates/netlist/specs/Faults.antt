-- The faults of texts and of designs as those of specifications.
use Rattle.std.specs.Prelude.{◌≡◌, ◌≢◌, ◌⊎◌}
use Rattle.blif_defs.specs.declared.error.BlifError.{BlifError}
use Rattle.blif_defs.specs.declared.error.BlifError.TheVariants as texts
use Rattle.net_defs.specs.declared.faults.NetError.{NetError}
use Rattle.net_defs.specs.declared.faults.NetError.TheVariants as networks
use Rattle.net_defs.specs.declared.specification.SpecError.{SpecError}
use Rattle.net_defs.specs.declared.specification.SpecError.TheVariants.{Text, Network, NoMemory}

-- the specification has this fault of the text, or memory was wanting there too
abbrev pub IsOfText : BlifError → SpecError → Type 0
IsOfText fault error = ((fault ≡ texts.NoMemory) × (error ≡ NoMemory)) ⊎ ((fault ≢ texts.NoMemory) × (error ≡ Text fault))

-- the specification has this fault of the design, or memory was wanting there too
abbrev pub IsOfNetwork : NetError → SpecError → Type 0
IsOfNetwork fault error = ((fault ≡ networks.NoMemory) × (error ≡ NoMemory)) ⊎ ((fault ≢ networks.NoMemory) × (error ≡ Network fault))
