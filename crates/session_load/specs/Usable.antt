-- The files of a session: which are loaded, with how many bytes at most, and what they hold.
use Rattle.std.specs.Prelude.{◌≡◌, ◌⊎◌, ℕ, zero, suc, ◌+◌, ◌-◌, min, List, [], ◌∷◌, length, Option, Ok}
use Rattle.blif_defs.specs.declared.mark.TheConstants.{MAX_BYTES}
use Rattle.net_defs.specs.Specifications.{SpecificationOf, IsSpecFault}
use Rattle.net_defs.specs.declared.specification.SpecError.TheVariants as spec_errors
use Rattle.pch_io.specs.Outside.{Files, Loads, LoadCause}
use Rattle.script_defs.specs.declared.command.Kind.{Kind}
use Rattle.script_defs.specs.declared.command.Kind.TheVariants.{Spec, Bundle}
use Rattle.script_defs.specs.declared.command.FileUse.{FileUse}
use Rattle.session_defs.specs.Files.{Contents, specification, delivery}
use Rattle.bundle_defs.specs.declared.limits.TheConstants.{MAX_BUNDLE_BYTES}
use Rattle.session_load.specs.declared.limits.TheConstants.{MAX_SESSION_BYTES}
use Rattle.script_defs.specs.declared.error.ScriptError.TheVariants as script_errors
use Rattle.script_defs.specs.declared.limits.TheConstants.{MAX_SCRIPT_BYTES}
use Rattle.script_defs.specs.Texts.{ScriptFault}
use Rattle.session_load.specs.declared.fault.NoScript.{NoScript}
use Rattle.session_load.specs.declared.fault.NoScript.TheVariants.{Load as NoLoad, Read as NoRead}
use Rattle.session_load.specs.declared.fault.FileFault.{FileFault}
use Rattle.session_load.specs.declared.fault.FileFault.TheVariants.{Load, Specification}

-- why there is no script of this name: a load that gives no bytes, or the fault of its text, or want of memory; the
-- store's count of faults was `before` and is `now`
abbrev pub ScriptCause : Option Files → (before now : ℕ) → List ℕ → NoScript → Type 0
ScriptCause told before now name (NoLoad fail) = LoadCause told name MAX_SCRIPT_BYTES before now fail
ScriptCause told before now name (NoRead error) =
    (bytes : List ℕ) × Loads told name MAX_SCRIPT_BYTES bytes
    × ((error ≡ script_errors.NoMemory) ⊎ ScriptFault bytes error)

-- the most bytes that a file may have that is read as this kind
abbrev pub kind_limit : Kind → ℕ
kind_limit Spec = MAX_BYTES
kind_limit Bundle = MAX_BUNDLE_BYTES

-- the same, or what is left of the limit of all files where those before have so many bytes
abbrev pub limit_behind : Kind → ℕ → ℕ
limit_behind kind used = min (kind_limit kind) (MAX_SESSION_BYTES - used)

-- bytes that are read as this kind hold this
abbrev pub IsContentOf : Kind → List ℕ → Contents → Type 0
IsContentOf Spec bytes (specification net) = SpecificationOf bytes (Ok net)
IsContentOf Spec bytes (delivery delivered) = ⊥
IsContentOf Bundle bytes (specification net) = ⊥
IsContentOf Bundle bytes (delivery delivered) = delivered ≡ bytes

-- the file has these bytes, which hold this; the files before it have so many bytes
pub record IsUsable (told : Option Files) (used : ℕ) (u : FileUse) (c : Contents) (bytes : List ℕ) : Type 0 where
  pub loads : Loads told u.name (limit_behind u.kind used) bytes
  pub holds : IsContentOf u.kind bytes c

-- the file can be used and has so many bytes
abbrev pub IsOfSize : Option Files → ℕ → FileUse → Contents → ℕ → Type 0
IsOfSize told used u c size = (bytes : List ℕ) × IsUsable told used u c bytes × (size ≡ length bytes)

-- all of these files can be used, and this is what they hold; those before them have so many bytes
abbrev pub AreUsable : Option Files → ℕ → List FileUse → List Contents → Type 0
AreUsable told used [] [] = Unit {0}
AreUsable told used [] (c ∷ cs) = ⊥
AreUsable told used (u ∷ us) [] = ⊥
AreUsable told used (u ∷ us) (c ∷ cs) =
    (bytes : List ℕ) × IsUsable told used u c bytes × AreUsable told (used + length bytes) us cs

-- why a file can't be used: a load that gives no bytes, or the fault of a specification, or want of memory; the
-- store's count of faults was `before` and is `now`
abbrev pub FileCause : Option Files → (before now used : ℕ) → FileUse → FileFault → Type 0
FileCause told before now used u (Load fail) = LoadCause told u.name (limit_behind u.kind used) before now fail
FileCause told before now used u (Specification error) =
    (u.kind ≡ Spec) × (bytes : List ℕ) × Loads told u.name (limit_behind u.kind used) bytes
    × ((error ≡ spec_errors.NoMemory) ⊎ IsSpecFault bytes error)

-- the file with this number can't be used, and those before it can
abbrev pub StopsAt : Option Files → (before now used : ℕ) → List FileUse → ℕ → FileFault → Type 0
StopsAt told before now used [] file fault = ⊥
StopsAt told before now used (u ∷ us) zero fault = FileCause told before now used u fault
StopsAt told before now used (u ∷ us) (suc file) fault =
    (c : Contents) × (bytes : List ℕ) × IsUsable told used u c bytes
    × StopsAt told before now (used + length bytes) us file fault
