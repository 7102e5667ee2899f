-- The loaded files of a session, as what they hold.
use Rattle.std.specs.Prelude.{ℕ, ◌<◌, List}
use Rattle.std.specs.List.{AllZip}
use Rattle.std.specs.Arc.{arc_value}
use Rattle.net_defs.specs.Networks.{Network}
use Rattle.fabric_defs.specs.Geometries.{GeometryValue, cell_count}
use Rattle.script_defs.specs.declared.command.Kind.{Kind}
use Rattle.script_defs.specs.declared.command.Kind.TheVariants.{Spec as SpecFile, Bundle as BundleFile}
use Rattle.script_defs.specs.declared.command.FileUse.{FileUse}
use Rattle.script_defs.specs.declared.command.Command.{Command}
use Rattle.script_defs.specs.declared.command.Command.TheVariants.{Agree, Deliver, Evict, Cycle, Sweep}
use Rattle.session_defs.specs.Files.{Contents, specification, delivery, DescribesNet, IsDelivery}
use Rattle.run_actors.specs.declared.loaded.Loaded.{Loaded}
use Rattle.run_actors.specs.declared.loaded.Loaded.TheVariants.{Spec, Bundle}

-- what a loaded file holds
abbrev pub contents_of : Loaded → Contents
contents_of (Spec net) = specification (arc_value net)
contents_of (Bundle bytes) = delivery bytes.items

-- a file that is read as this kind may hold this
abbrev pub IsOfKind : Kind → Contents → Type 0
IsOfKind SpecFile (specification net) = Unit {0}
IsOfKind SpecFile (delivery bytes) = ⊥
IsOfKind BundleFile (specification net) = ⊥
IsOfKind BundleFile (delivery bytes) = Unit {0}

-- there is one loaded file for each that a script uses, and each is of the kind that it is used as
abbrev pub AreOfKinds : List FileUse → List Contents → Type 0
AreOfKinds uses files = AllZip (λ (u : FileUse) c. IsOfKind u.kind c) uses files

-- the file with this number describes some network
abbrev pub IsSpec : List Contents → ℕ → Type 0
IsSpec files file = (net : Network) × DescribesNet files file net

-- the file with this number is some bundle
abbrev pub IsBundle : List Contents → ℕ → Type 0
IsBundle files file = (bytes : List ℕ) × IsDelivery files file bytes

-- what the command names is there, on a device of this fabric with so many slots
abbrev pub CanRun : GeometryValue → ℕ → List Contents → Command → Type 0
CanRun g slots files (Agree slot file) = (slot < slots) × IsSpec files file
CanRun g slots files (Deliver slot file) = (slot < slots) × IsBundle files file
CanRun g slots files (Evict slot) = slot < slots
CanRun g slots files (Cycle slot bits probe) = (slot < slots) × (probe < cell_count g)
CanRun g slots files (Sweep slot first count) = slot < slots
