-- The network that a text specifies, or why it specifies none.
use Rattle.std.specs.Prelude.{ℕ, List, Result, Ok, Err}
use Rattle.blif_defs.specs.Values.{BlifValue}
use Rattle.blif_defs.specs.Texts.{BlifText, BlifFault}
use Rattle.net_defs.specs.Networks.{Network}
use Rattle.net_defs.specs.NetOf.{NetOf}
use Rattle.net_defs.specs.declared.specification.SpecError.{SpecError}
use Rattle.net_defs.specs.declared.specification.SpecError.TheVariants.{Text, Network as NetworkFault, NoMemory}

-- these bytes are the specification of this network: they are the text of a design whose network it is
pub record HasNetwork (text : List ℕ) (net : Network) : Type 0 where
  pub design : BlifValue
  pub reads : BlifText text design
  pub builds : NetOf design (Ok net)

-- these bytes have this first fault: one of the text, or else one of the design that they describe; want
-- of memory is the fault of no bytes
abbrev pub IsSpecFault : List ℕ → SpecError → Type 0
IsSpecFault text (Text fault) = BlifFault text fault
IsSpecFault text (NetworkFault fault) = (design : BlifValue) × BlifText text design × NetOf design (Err fault)
IsSpecFault text NoMemory = ⊥

-- the network that these bytes specify, or their first fault
abbrev pub SpecificationOf : List ℕ → Result Network SpecError → Type 0
SpecificationOf text (Ok net) = HasNetwork text net
SpecificationOf text (Err fault) = IsSpecFault text fault
