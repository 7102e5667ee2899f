-- What `demo BITS OUT` comes to. It loads no file: both texts are those of its number of bits.
use Rattle.std.specs.Prelude.{◌≡◌, ◌⊎◌, ℕ, List, codes}
use Rattle.net_defs.specs.Networks.{Network}
use Rattle.net_defs.specs.Specifications.{HasNetwork, IsSpecFault}
use Rattle.net_defs.specs.declared.specification.SpecError.{SpecError}
use Rattle.fabric_defs.specs.Geometries.{GeometryValue}
use Rattle.produce.specs.declared.produce_end.ProduceEnd.{ProduceEnd}
use Rattle.produce.specs.Endings.{EndsBy}
use Rattle.demo_texts.specs.Texts.{ripple_text, select_text}
use Rattle.least_fabric.specs.LeastFabrics.{IsLeastFabric}
use Rattle.demonstration.specs.Demonstrations.{AreAdders, IsDemonstration}
use Rattle.demonstration.specs.declared.limits.TheConstants.{BUDGET}
use Rattle.pch_lines.specs.Lines.{and_word}
use Rattle.pch_lines.specs.FaultLines.{spec_line}
use Rattle.pch_lines.specs.DemoLines.{demo_text}
use Rattle.pch_shell.specs.Outcomes.{Outcome, done_with, bad_input}
use Rattle.pch_shell.specs.Produce.{DesignIsFaulty, ToldOfEnd}

-- the bytes are a bundle with the second adder, placed on its least fabric, and a log within the budget, and are accepted
-- for the first one, of whose outputs these are the ones
pub record IsShown (bits : ℕ) (bytes ones : List ℕ) : Type 0 where
  pub wanted : Network
  pub given : Network
  pub g : GeometryValue
  pub adders : AreAdders bits wanted given g
  pub shown : IsDemonstration bits wanted given g bytes ones

-- nothing was produced from both adders, which is told as of `produce`
pub record EndsAsProduce (bits : ℕ) (o : Outcome) : Type 0 where
  pub wanted : Network
  pub given : Network
  pub g : GeometryValue
  pub adders : AreAdders bits wanted given g
  pub end : ProduceEnd
  pub ends : EndsBy wanted given g BUDGET end
  pub told : ToldOfEnd wanted given end o

-- the fabric is the least one for the second adder
abbrev pub IsFabricFor : ℕ → GeometryValue → Type 0
IsFabricFor bits g = (given : Network) × HasNetwork (select_text bits) given × IsLeastFabric given g

-- what `demo` comes to for so many bits
abbrev pub DemoDue : ℕ → Outcome → Type 0
DemoDue bits o =
    ((bytes : List ℕ) × (ones : List ℕ) × IsShown bits bytes ones × (o ≡ done_with bytes (demo_text bits ones)))
    ⊎ (EndsAsProduce bits o
    ⊎ (((error : SpecError) × IsSpecFault (ripple_text bits) error
    × (o ≡ bad_input (spec_line (and_word (codes "blif") (codes "ripple")) error)))
    ⊎ ((error : SpecError) × DesignIsFaulty (ripple_text bits) (select_text bits) error
    × (o ≡ bad_input (spec_line (and_word (codes "blif") (codes "select")) error)))))
