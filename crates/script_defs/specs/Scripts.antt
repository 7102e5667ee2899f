-- The value of a script: the fabric of each slot, the numbers of a session, the files, and what each lane does.
use Rattle.std.specs.Prelude.{◌≡◌, ℕ, ◌^◌, ◌<◌, ◌≤◌, Bool, true, false, ◌&&◌, List, length, All, slice_get, Some, sum_by}
use Rattle.std.specs.List.{IsDistinct}
use Rattle.std.specs.Str.{bytes_eq}
use Rattle.fabric_defs.specs.Bits.{AreBits}
use Rattle.fabric_defs.specs.Geometries.{GeometryValue, IsGeometry, cell_count}
use Rattle.script_defs.specs.declared.command.Kind.{Kind}
use Rattle.script_defs.specs.declared.command.Kind.TheVariants.{Spec, Bundle}
use Rattle.script_defs.specs.declared.command.FileUse.{FileUse}
use Rattle.script_defs.specs.declared.command.Command.{Command}
use Rattle.script_defs.specs.declared.command.Command.TheVariants.{Agree, Deliver, Evict, Cycle, Sweep}
use Rattle.script_defs.specs.declared.limits.TheConstants.{MAX_SLOTS, MAX_JOURNAL, MAX_WORKERS, MAX_LANES, MAX_COMMANDS, MAX_SWEEP}

-- the fabric, how many slots there are, the limit of the journal, how many workers check a delivery, the files,
-- and the commands of each lane
pub record ScriptValue : Type 0 where
  pub geometry : GeometryValue
  pub slots : ℕ
  pub limit : ℕ
  pub workers : ℕ
  pub files : List FileUse
  pub lanes : List (List Command)

-- the two are one kind
abbrev pub same_kind : Kind → Kind → Bool
same_kind Spec Spec = true
same_kind Spec Bundle = false
same_kind Bundle Spec = false
same_kind Bundle Bundle = true

-- the two are one use of one file
abbrev pub same_use : FileUse → FileUse → Bool
same_use a b = same_kind a.kind b.kind && bytes_eq a.name b.name

-- the file of this number is there and is read as this kind
abbrev pub IsFileOf : List FileUse → Kind → ℕ → Type 0
IsFileOf files kind file = (u : FileUse) × (slice_get files file ≡ Some u) × (u.kind ≡ kind)

-- what a command names is there: its slot, its file with the kind that it is read as, its cell
abbrev pub IsCommand : GeometryValue → ℕ → List FileUse → Command → Type 0
IsCommand g slots files (Agree slot file) = (slot < slots) × IsFileOf files Spec file
IsCommand g slots files (Deliver slot file) = (slot < slots) × IsFileOf files Bundle file
IsCommand g slots files (Evict slot) = slot < slots
IsCommand g slots files (Cycle slot bits probe) = (slot < slots) × AreBits bits × (length bits ≤ 64) × (probe < cell_count g)
IsCommand g slots files (Sweep slot first count) =
    (slot < slots) × (first < 2 ^ 64) × (1 ≤ count) × (count ≤ MAX_SWEEP)

-- what holds of the value of each text, whatever the kind of its cells is
pub record IsScript (s : ScriptValue) : Type 0 where
  pub geometry : IsGeometry s.geometry
  pub some_slots : 1 ≤ s.slots
  pub slots : s.slots ≤ MAX_SLOTS
  pub some_limit : 1 ≤ s.limit
  pub limit : s.limit ≤ MAX_JOURNAL
  pub some_workers : 1 ≤ s.workers
  pub workers : s.workers ≤ MAX_WORKERS
  pub files_differ : IsDistinct same_use s.files
  pub files : length s.files ≤ MAX_COMMANDS
  pub some_lanes : 1 ≤ length s.lanes
  pub lanes : length s.lanes ≤ MAX_LANES
  pub commands_within : sum_by length s.lanes ≤ MAX_COMMANDS
  pub commands : All (All (IsCommand s.geometry s.slots s.files)) s.lanes
