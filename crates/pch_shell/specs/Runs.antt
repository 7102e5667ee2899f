-- What a run of the program does to the store and the sink, which status it ends with, and why.
use Rattle.std.specs.Prelude.{◌≡◌, ◌≢◌, ◌⊎◌, ℕ, List, Option, Some, None}
use Rattle.pch_io.specs.declared.store.LoadFail.{LoadFail}
use Rattle.pch_io.specs.declared.store.LoadFail.TheVariants.{Failed, NoMemory}
use Rattle.pch_io.specs.Outside.{Files, Rose, Saves, Spoils, Appends, AppendsPrefix}
use Rattle.pch_lines.specs.Words.{Form, form_of}
use Rattle.pch_lines.specs.Files.{files_of, out_of}
use Rattle.pch_shell.specs.Outcomes.{Outcome, no_words, not_stored}
use Rattle.pch_shell.specs.Loading.{AreLoaded, IsNotLoaded}
use Rattle.pch_shell.specs.Due.{FilesDue, Holds, Differ, NeedMore, Spend}
use Rattle.pch_shell.specs.declared.status.Status.{Status}
use Rattle.pch_shell.specs.declared.status.Status.TheVariants.{Done, Words, Store, Sink, Memory, Differs, Unroutable, Spent}

-- a store: its files, where it tells them, and its count of faults
pub record StoreState : Type 0 where
  pub files : Option Files
  pub faults : ℕ

-- a sink: what it holds, where it tells that, and its count of faults
pub record SinkState : Type 0 where
  pub held : Option (List ℕ)
  pub faults : ℕ

-- ---- the files

-- of which file a command may change what it holds: of none, or of the one that it saves
abbrev pub OnlyOut : Option (List ℕ) → Option Files → Option Files → Type 0
OnlyOut None old new = new ≡ old
OnlyOut (Some name) old new = Spoils old new name

-- what is to be saved under the name was saved, and no fault was counted
abbrev pub AreSaved : Option (List ℕ) → Option (List ℕ) → StoreState → StoreState → Type 0
AreSaved None saved old new = new ≡ old
AreSaved (Some name) None old new = new ≡ old
AreSaved (Some name) (Some bytes) old new = Saves old.files new.files name bytes × (new.faults ≡ old.faults)

-- the file of this name wasn't saved, and the fault was counted
pub record NotSaved (out : Option (List ℕ)) (old new : StoreState) (name : List ℕ) : Type 0 where
  pub named : out ≡ Some name
  pub others : Spoils old.files new.files name
  pub counted : Rose old.faults new.faults

-- what is told once the save was tried: what the command comes to, or that the save failed
abbrev pub AfterSave : Option (List ℕ) → Outcome → (old new : StoreState) → Outcome → Type 0
AfterSave out outcome old new told =
    (AreSaved out outcome.saved old new × (told ≡ outcome))
    ⊎ ((outcome.saved ≢ None) × (name : List ℕ) × NotSaved out old new name × (told ≡ not_stored name Failed))

-- what a save leaves that wants memory: nothing is changed, or there was something to save, and its file is spoiled
abbrev pub MaySpoil : (out saved : Option (List ℕ)) → (old new : Option Files) → Type 0
MaySpoil out saved old new = (new ≡ old) ⊎ ((saved ≢ None) × OnlyOut out old new)

-- ---- what is told

-- all files were loaded, and what the command comes to is saved and told; or the save failed, which is told
pub record Works (form : Form) (old new : StoreState) (told : Outcome) : Type 0 where
  pub files : List (List ℕ)
  pub loaded : AreLoaded old.files (files_of form) files
  pub outcome : Outcome
  pub due : FilesDue form files outcome
  pub saved : AfterSave (out_of form) outcome old new told

-- a file wasn't loaded, which is told; nothing was saved
pub record StopsAtLoad (form : Form) (old new : StoreState) (told : Outcome) : Type 0 where
  pub name : List ℕ
  pub fail : LoadFail
  pub not_loaded : IsNotLoaded old.files old.faults new.faults (files_of form) name fail
  pub real : fail ≢ NoMemory
  pub same_files : new.files ≡ old.files
  pub is_told : told ≡ not_stored name fail

-- what is told of a command
abbrev pub Tells : Form → StoreState → StoreState → Outcome → Type 0
Tells form old new told = Works form old new told ⊎ StopsAtLoad form old new told

-- what is told of words, which are those of a command or have none of the forms
abbrev pub WordsTell : Option Form → StoreState → StoreState → Outcome → Type 0
WordsTell None old new told = (told ≡ no_words) × (new ≡ old)
WordsTell (Some form) old new told = Tells form old new told

-- of which file the command of some words may change what it holds
abbrev pub out_named : Option Form → Option (List ℕ)
out_named None = None
out_named (Some form) = out_of form

-- ---- the writing of the text

-- What one put of the text does, where the status is due: all of the text is appended and no fault is counted; or
-- a fault is counted, and the status is `Sink`; or memory was wanting. A front of the text may be there then.
abbrev pub Put : Outcome → SinkState → SinkState → Status → Type 0
Put told old new status =
    ((status ≡ told.status) × Appends old.held new.held told.text × (new.faults ≡ old.faults))
    ⊎ (((status ≡ Sink) × Rose old.faults new.faults × AppendsPrefix old.held new.held told.text)
    ⊎ ((status ≡ Memory) × AppendsPrefix old.held new.held told.text))

-- all work of the command was done, and there was something to save; its file may be spoiled
pub record Worked (form : Form) (old new : Option Files) : Type 0 where
  pub files : List (List ℕ)
  pub loaded : AreLoaded old (files_of form) files
  pub outcome : Outcome
  pub due : FilesDue form files outcome
  pub saves : outcome.saved ≢ None
  pub only : OnlyOut (out_of form) old new

-- how the files may differ behind a run that wants memory: not at all, or all the work was done
abbrev pub Leaves : Option Form → (old new : Option Files) → Type 0
Leaves None old new = new ≡ old
Leaves (Some form) old new = (new ≡ old) ⊎ Worked form old new

-- memory was wanting before a text was due, and nothing was written
pub record WantsMemory (form : Option Form) (old new : StoreState) (before after : SinkState) (status : Status) : Type 0 where
  pub memory : status ≡ Memory
  pub silent : after ≡ before
  pub files : Leaves form old.files new.files

-- A run ends with a status: memory was wanting before a text was due; or what is told was put.
abbrev pub Ends : Option Form → (old new : StoreState) → (before after : SinkState) → Status → Type 0
Ends form old new before after status =
    WantsMemory form old new before after status
    ⊎ ((told : Outcome) × WordsTell form old new told × Put told before after status)

-- ---- what follows

-- the file that the command saves has these bytes, where the store tells it
abbrev pub HoldsOut : Option (List ℕ) → Option Files → List ℕ → Type 0
HoldsOut None now saved = Unit {0}
HoldsOut (Some name) None saved = Unit {0}
HoldsOut (Some name) (Some files) saved = files name ≡ Some saved

-- status 0: all files were loaded, the file that the command saves has some bytes, and what the command shows holds
-- of them
abbrev pub Shows : Option Form → Option Files → Option Files → Type 0
Shows None old new = ⊥
Shows (Some form) old new =
    (files : List (List ℕ)) × AreLoaded old (files_of form) files
    × (saved : List ℕ) × HoldsOut (out_of form) new saved × Holds form files saved

-- statuses 6 and 7: all files were loaded, the text that was written says what is found in them, and nothing was saved
abbrev pub Says : (Form → List (List ℕ) → List ℕ → Type 0) → Option Form → (old new : Option Files) → (held now : Option (List ℕ)) → Type 0
Says P None old new held now = ⊥
Says P (Some form) old new held now =
    (files : List (List ℕ)) × AreLoaded old (files_of form) files
    × (text : List ℕ) × P form files text × Appends held now text × (new ≡ old)

-- status 8: all files were loaded, the file that the command saves has the log so far, and the text says its words
abbrev pub SavesLog : Option Form → (old new : Option Files) → (held now : Option (List ℕ)) → Type 0
SavesLog None old new held now = ⊥
SavesLog (Some form) old new held now =
    (files : List (List ℕ)) × AreLoaded old (files_of form) files
    × (saved : List ℕ) × HoldsOut (out_of form) new saved
    × (text : List ℕ) × Spend form files saved text × Appends held now text

-- why a file of the command wasn't loaded or saved
abbrev pub StoreCause : Option Form → StoreState → StoreState → Type 0
StoreCause None old new = ⊥
StoreCause (Some form) old new =
    ((name : List ℕ) × (fail : LoadFail) × (fail ≢ NoMemory)
    × IsNotLoaded old.files old.faults new.faults (files_of form) name fail)
    ⊎ ((name : List ℕ) × NotSaved (out_of form) old new name)

-- the status says what a command comes to, with its text written and what it saves saved, if it isn't one of a fault
-- of the outside or of want of memory
abbrev pub IsDecided : Form → List (List ℕ) → StoreState → StoreState → SinkState → SinkState → Status → Type 0
IsDecided form files old new before after status =
    ((o : Outcome) × FilesDue form files o × (status ≡ o.status) × Appends before.held after.held o.text
    × AreSaved (out_of form) o.saved old new)
    ⊎ (((status ≡ Store) × Rose old.faults new.faults)
    ⊎ (((status ≡ Sink) × Rose before.faults after.faults)
    ⊎ (status ≡ Memory)))

-- where the told files are there within their limits, their bytes decide
abbrev pub Completes : Option Form → (old new : StoreState) → (before after : SinkState) → Status → Type 0
Completes None old new before after status = Unit {0}
Completes (Some form) old new before after status =
    (told : Files) (files : List (List ℕ)) → old.files ≡ Some told → AreLoaded old.files (files_of form) files
    → IsDecided form files old new before after status

-- What a run of these words comes to, where the store and the sink were `old` and `before` and are `new` and `after`.
pub record Runs (words : List (List ℕ)) (old new : StoreState) (before after : SinkState) (status : Status) : Type 0 where
  -- the status, why it comes, and what is written and saved with it
  pub ends : Ends (form_of words) old new before after status
  -- status 0: what the command shows holds of the told files; so a yes of `verify` is a bundle that is accepted, and
  -- whose configuration equals the network
  pub shows : status ≡ Done → Shows (form_of words) old.files new.files
  -- status 6: the text has an input at which a specification and a design differ
  pub differs : status ≡ Differs → Says Differ (form_of words) old.files new.files before.held after.held
  -- status 7: the text names the first resource of which the design needs more than is there
  pub over : status ≡ Unroutable → Says NeedMore (form_of words) old.files new.files before.held after.held
  -- status 8: the budget was less than what is enough, and what it was spent on is saved
  pub spent : status ≡ Spent → SavesLog (form_of words) old.files new.files before.held after.held
  -- only words without a form are answered so
  pub words_cause : status ≡ Words → form_of words ≡ None
  -- a fault of the outside is answered only by its cause
  pub store_cause : status ≡ Store → StoreCause (form_of words) old new
  pub sink_cause : status ≡ Sink → Rose before.faults after.faults
  -- the bytes of the files decide
  pub complete : Completes (form_of words) old new before after status
  -- no file changes but the one that the command saves
  pub files : OnlyOut (out_named (form_of words)) old.files new.files
