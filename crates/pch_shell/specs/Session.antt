-- What `run SCRIPT` finds in the script and in the files that it names, and what it comes to.
use Rattle.std.specs.Prelude.{◌≡◌, ◌≢◌, ◌⊎◌, ℕ, List, slice_get, Option, Some, codes}
use Rattle.net_defs.specs.declared.specification.SpecError.{SpecError}
use Rattle.net_defs.specs.declared.specification.SpecError.TheVariants as spec_errors
use Rattle.fabric_defs.specs.declared.kind.CellKind.{CellKind}
use Rattle.fabric_defs.specs.declared.kind.CellKind.TheVariants.{FourInputs, SixInputs}
use Rattle.fabric.specs.Geometry.{of_kind}
use Rattle.script_defs.specs.declared.limits.TheConstants.{MAX_SCRIPT_BYTES}
use Rattle.script_defs.specs.declared.command.FileUse.{FileUse}
use Rattle.script_defs.specs.declared.error.ScriptError.{ScriptError}
use Rattle.script_defs.specs.declared.error.ScriptError.TheVariants as script_errors
use Rattle.script_defs.specs.Scripts.{ScriptValue}
use Rattle.script_defs.specs.Texts.{ScriptText, ScriptFault}
use Rattle.script_defs.specs.Transcripts.{TranscriptValue}
use Rattle.script_defs.specs.Printing.{transcript_text}
use Rattle.session_defs.specs.Files.{Contents}
use Rattle.session_defs.specs.Transcripts.{TranscriptOf}
use Rattle.pch_io.specs.declared.store.LoadFail.{LoadFail}
use Rattle.pch_io.specs.declared.store.LoadFail.TheVariants.{NoMemory}
use Rattle.pch_io.specs.Outside.{Files, Loads, LoadCause}
use Rattle.session_load.specs.declared.fault.NoScript.{NoScript}
use Rattle.session_load.specs.declared.fault.NoScript.TheVariants as no_script
use Rattle.session_load.specs.declared.fault.FileFault.{FileFault}
use Rattle.session_load.specs.declared.fault.FileFault.TheVariants.{Load, Specification}
use Rattle.session_load.specs.Usable.{AreUsable, StopsAt}
use Rattle.pch_lines.specs.Lines.{and_word}
use Rattle.pch_lines.specs.FaultLines.{spec_line}
use Rattle.pch_lines.specs.ScriptLines.{script_line}
use Rattle.pch_lines.specs.Sessions.{SessionForm}
use Rattle.pch_shell.specs.Outcomes.{Outcome, done, bad_input, not_stored}
use Rattle.pch_shell.specs.Runs.{StoreState}

-- the script on a fabric of cells of this kind: as it reads, or with cells of six inputs
abbrev pub on_cells : CellKind → ScriptValue → ScriptValue
on_cells FourInputs s = s
on_cells SixInputs s = record {
  geometry = of_kind SixInputs s.geometry;
  slots = s.slots;
  limit = s.limit;
  workers = s.workers;
  files = s.files;
  lanes = s.lanes;
}

-- ---- the script

-- the named file is the text of a script, which is this one on cells of the kind that the words say
pub record HasScript (form : SessionForm) (told : Option Files) (s : ScriptValue) : Type 0 where
  pub text : List ℕ
  pub loads : Loads told form.script MAX_SCRIPT_BYTES text
  pub value : ScriptValue
  pub reads : ScriptText text value
  pub on_kind : s ≡ on_cells form.kind value

-- the named file is no script, for this first fault
pub record IsFaultyScript (form : SessionForm) (told : Option Files) (error : ScriptError) : Type 0 where
  pub text : List ℕ
  pub loads : Loads told form.script MAX_SCRIPT_BYTES text
  pub faulty : ScriptFault text error

-- ---- its files

-- all files of the script can be used, and the text is that of a transcript of the script and of what they hold
pub record HasTranscript (s : ScriptValue) (told : Option Files) (text : List ℕ) : Type 0 where
  pub contents : List Contents
  pub usable : AreUsable told 0 s.files contents
  pub transcript : TranscriptValue
  pub meets : TranscriptOf s contents transcript
  pub prints : text ≡ transcript_text transcript

-- the file of this name is the first of the script that can't be used, for this fault
pub record StopsAtFile (s : ScriptValue) (told : Option Files) (before now : ℕ) (name : List ℕ) (fault : FileFault)
    : Type 0 where
  pub file : ℕ
  pub stops : StopsAt told before now 0 s.files file fault
  pub named : FileUse
  pub is_there : slice_get s.files file ≡ Some named
  pub has_name : name ≡ named.name

-- this specification of the script is the first file that can't be used, for a fault of its text or its network
abbrev pub IsFaultySpec : ScriptValue → Option Files → (before now : ℕ) → List ℕ → SpecError → Type 0
IsFaultySpec s told before now name error =
    (error ≢ spec_errors.NoMemory) × StopsAtFile s told before now name (Specification error)

-- this file of the script is the first that can't be used, since it wasn't loaded
abbrev pub IsMissing : ScriptValue → Option Files → (before now : ℕ) → List ℕ → LoadFail → Type 0
IsMissing s told before now name fail = (fail ≢ NoMemory) × StopsAtFile s told before now name (Load fail)

-- ---- what is told

-- what is told of a file that can't be used: that it wasn't loaded, or the fault of a specification; nothing is told
-- of want of memory
abbrev pub IsToldOf : FileUse → FileFault → Outcome → Type 0
IsToldOf u (Load fail) told = (fail ≢ NoMemory) × (told ≡ not_stored u.name fail)
IsToldOf u (Specification error) told =
    (error ≢ spec_errors.NoMemory) × (told ≡ bad_input (spec_line (and_word (codes "blif") u.name) error))

-- what is told where there is no script of this name: that it wasn't loaded, or its fault
abbrev pub IsToldOfNone : List ℕ → NoScript → Outcome → Type 0
IsToldOfNone name (no_script.Load fail) told = (fail ≢ NoMemory) × (told ≡ not_stored name fail)
IsToldOfNone name (no_script.Read error) told =
    (error ≢ script_errors.NoMemory) × (told ≡ bad_input (script_line (and_word (codes "script") name) error))

-- what is told of a script: a transcript, the fault of a specification, or that a file wasn't loaded
abbrev pub ScriptTells : ScriptValue → StoreState → StoreState → Outcome → Type 0
ScriptTells s old new told =
    ((text : List ℕ) × HasTranscript s old.files text × (told ≡ done text))
    ⊎ (((name : List ℕ) × (error : SpecError) × IsFaultySpec s old.files old.faults new.faults name error
    × (told ≡ bad_input (spec_line (and_word (codes "blif") name) error)))
    ⊎ ((name : List ℕ) × (fail : LoadFail) × IsMissing s old.files old.faults new.faults name fail
    × (told ≡ not_stored name fail)))

-- what is told of the words of a session: that the script wasn't loaded, its fault, or what is told of it
abbrev pub SessionTells : SessionForm → StoreState → StoreState → Outcome → Type 0
SessionTells form old new told =
    ((fail : LoadFail) × (fail ≢ NoMemory)
    × LoadCause old.files form.script MAX_SCRIPT_BYTES old.faults new.faults fail × (told ≡ not_stored form.script fail))
    ⊎ (((error : ScriptError) × IsFaultyScript form old.files error
    × (told ≡ bad_input (script_line (and_word (codes "script") form.script) error)))
    ⊎ ((s : ScriptValue) × HasScript form old.files s × ScriptTells s old new told))
