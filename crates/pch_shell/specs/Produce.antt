-- What `produce SPEC DESIGN C R T I O BUDGET OUT` finds in the bytes of both files, and what it comes to.
use Rattle.std.specs.Prelude.{◌≡◌, ◌⊎◌, ℕ, List, length, Some, Err, codes}
use Rattle.sat_text_defs.specs.Printed.{trace_text}
use Rattle.sat_text_defs.specs.TraceText.{TraceText}
use Rattle.net_defs.specs.Networks.{Network}
use Rattle.net_defs.specs.Interfaces.{InterfaceOf}
use Rattle.net_defs.specs.Specifications.{HasNetwork, IsSpecFault}
use Rattle.net_defs.specs.declared.interface.InterfaceError.{InterfaceError}
use Rattle.net_defs.specs.declared.specification.SpecError.{SpecError}
use Rattle.fabric_defs.specs.Geometries.{GeometryValue}
use Rattle.log_defs.specs.Logs.{LogValue}
use Rattle.route_defs.specs.declared.demand.Demand.{Demand}
use Rattle.place_net.specs.Placings.{FirstOver}
use Rattle.produce.specs.declared.produce_end.ProduceEnd.{ProduceEnd}
use Rattle.produce.specs.declared.produce_end.ProduceEnd.TheVariants.{Interface, Unroutable, Differs, Spent, NoMemory}
use Rattle.miter_size.specs.Sizes.{log_trace, HasShortTrace}
use Rattle.produce.specs.Endings.{AlignedTo, EndsBy}
use Rattle.produce.specs.Differences.{DifferAt, DifferWith}
use Rattle.produce.specs.Bundling.{Produced}
use Rattle.pch_lines.specs.Lines.{and_word}
use Rattle.pch_lines.specs.FaultLines.{spec_line}
use Rattle.pch_lines.specs.RouteLines.{unroutable_line}
use Rattle.pch_lines.specs.ProduceLines.{interface_line, differs_line, spent_line}
use Rattle.pch_shell.specs.Outcomes.{Outcome, done_with, differs, unroutable, spent_with, bad_input, written_line}

-- the specification and the design describe these networks
pub record Describe (spec design : List ℕ) (wanted given : Network) : Type 0 where
  pub specified : HasNetwork spec wanted
  pub designed : HasNetwork design given

-- the bytes are a bundle with the placed design and a log within the budget, and are accepted for the specification
pub record IsProduced (g : GeometryValue) (budget : ℕ) (spec design bytes : List ℕ) : Type 0 where
  pub wanted : Network
  pub given : Network
  pub describe : Describe spec design wanted given
  pub produced : Produced wanted given g budget bytes

-- where the inputs have the bits x, the specification has the outputs y, and the design, put into the
-- specification's order, has other outputs, z
pub record IsDifference (spec design x y z : List ℕ) : Type 0 where
  pub wanted : Network
  pub given : Network
  pub describe : Describe spec design wanted given
  pub differ : DifferWith wanted given x y z

-- this is the first resource of which the design, put into the specification's order, needs more than is there
pub record NeedsMore (g : GeometryValue) (spec design : List ℕ) (over : Demand) : Type 0 where
  pub wanted : Network
  pub given : Network
  pub describe : Describe spec design wanted given
  pub net : Network
  pub aligned : AlignedTo wanted given net
  pub first : FirstOver net g (Some over)

-- the bytes are the text that is printed of the trace that the log is, which reads again
pub record IsPrintedLog (log : LogValue) (bytes : List ℕ) : Type 0 where
  pub text : bytes ≡ trace_text (log_trace log)
  pub trace : TraceText bytes 1 (log_trace log)

-- The budget was spent, and is less than what is enough. The bytes are the text of the trace of a log that has the miter
-- of the specification and the placed design as its originals, and what was derived from them.
pub record IsSpent (g : GeometryValue) (budget : ℕ) (spec design : List ℕ) (used need : ℕ) (bytes : List ℕ) : Type 0 where
  pub wanted : Network
  pub given : Network
  pub describe : Describe spec design wanted given
  pub log : LogValue
  pub ends : EndsBy wanted given g budget (Spent used need log)
  pub printed : IsPrintedLog log bytes

-- this is the first name of the specification or the design that has no partner
pub record HasLoneName (spec design : List ℕ) (error : InterfaceError) : Type 0 where
  pub wanted : Network
  pub given : Network
  pub describe : Describe spec design wanted given
  pub first : InterfaceOf wanted given (Err error)

-- the design has this fault; it is looked at only where the specification describes a network
pub record DesignIsFaulty (spec design : List ℕ) (error : SpecError) : Type 0 where
  pub wanted : Network
  pub specified : HasNetwork spec wanted
  pub faulty : IsSpecFault design error

-- what is told where nothing was produced, for this reason; nothing is told of want of memory
abbrev pub ToldOfEnd : Network → Network → ProduceEnd → Outcome → Type 0
ToldOfEnd wanted given (Interface error) o = o ≡ bad_input (interface_line error)
ToldOfEnd wanted given (Unroutable resource place need have) o =
    o ≡ unroutable (unroutable_line (record { resource = resource; place = place; need = need; have = have }))
ToldOfEnd wanted given (Differs x) o =
    (y : List ℕ) × (z : List ℕ) × DifferWith wanted given x y z × (o ≡ differs (differs_line x y z))
ToldOfEnd wanted given (Spent used need log) o =
    (bytes : List ℕ) × IsPrintedLog log bytes × (o ≡ spent_with bytes (spent_line used need))
ToldOfEnd wanted given NoMemory o = ⊥

-- what the telling of a reason rests on: that both differ at an input, and that a log has a text that can be read
abbrev pub CanBeTold : Network → Network → ProduceEnd → Type 0
CanBeTold wanted given (Interface error) = Unit {0}
CanBeTold wanted given (Unroutable resource place need have) = Unit {0}
CanBeTold wanted given (Differs x) = DifferAt wanted given x
CanBeTold wanted given (Spent used need log) = HasShortTrace log
CanBeTold wanted given NoMemory = Unit {0}

-- what `produce` of the bytes of both files comes to
abbrev pub ProduceDue : (spec_name design_name : List ℕ) → GeometryValue → (budget : ℕ) → (spec design : List ℕ) → Outcome → Type 0
ProduceDue spec_name design_name g budget spec design o =
    ((bytes : List ℕ) × IsProduced g budget spec design bytes × (o ≡ done_with bytes (written_line (length bytes))))
    ⊎ (((x : List ℕ) × (y : List ℕ) × (z : List ℕ) × IsDifference spec design x y z × (o ≡ differs (differs_line x y z)))
    ⊎ (((over : Demand) × NeedsMore g spec design over × (o ≡ unroutable (unroutable_line over)))
    ⊎ (((used : ℕ) × (need : ℕ) × (bytes : List ℕ) × IsSpent g budget spec design used need bytes
    × (o ≡ spent_with bytes (spent_line used need)))
    ⊎ (((error : InterfaceError) × HasLoneName spec design error × (o ≡ bad_input (interface_line error)))
    ⊎ (((error : SpecError) × IsSpecFault spec error × (o ≡ bad_input (spec_line (and_word (codes "blif") spec_name) error)))
    ⊎ ((error : SpecError) × DesignIsFaulty spec design error
    × (o ≡ bad_input (spec_line (and_word (codes "blif") design_name) error))))))))
