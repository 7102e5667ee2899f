-- Words that are judged from the left on, each by its greatest value.
use Rattle.std.specs.Prelude.{◌≡◌, ℕ, ◌*◌, ◌<◌, ◌≤◌, List, slice_index}
use Rattle.fabric_defs.specs.Geometries.{GeometryValue}
use Rattle.fabric_defs.specs.Layout.{limits}
use Rattle.fabric_defs.specs.Configurations.{IsFirstAbove}
use Rattle.fabric_defs.specs.declared.faults.ConfigError.{ConfigError}
use Rattle.fabric_defs.specs.declared.faults.ConfigError.TheVariants.{Selector}

-- the words from one place on, up to another, are at most this
abbrev pub AreAtMost : ℕ → List ℕ → ℕ → ℕ → Type 0
AreAtMost most words from to = (i : ℕ) → from ≤ i → i < to → slice_index words i ≤ most

-- the fault names the first word above the greatest value that words from one place on, up to
-- another, may have
pub record NamesFirstAbove (most : ℕ) (words : List ℕ) (from to : ℕ) (error : ConfigError)
    : Type 0 where
  pub place : ℕ
  pub named : error ≡ Selector (2 * place)
  pub after : from ≤ place
  pub within : place < to
  pub here : most < slice_index words place
  pub earlier : AreAtMost most words from place

-- the words before this place are in their ranges
abbrev pub AreInRange : GeometryValue → List ℕ → ℕ → Type 0
AreInRange g words to = (i : ℕ) → i < to → slice_index words i ≤ slice_index (limits g) i

-- the fault names the first word that isn't in its range
abbrev pub NamesFirst : GeometryValue → List ℕ → ConfigError → Type 0
NamesFirst g words error =
    (place : ℕ) × (error ≡ Selector (2 * place)) × IsFirstAbove (limits g) words place
