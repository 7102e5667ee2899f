-- What a session does to the sink, which status it ends with, and why. It changes no file.
use Rattle.std.specs.Prelude.{◌≡◌, ◌≢◌, ◌⊎◌, ℕ, List, Option, Some, None}
use Rattle.net_defs.specs.declared.specification.SpecError.{SpecError}
use Rattle.script_defs.specs.declared.limits.TheConstants.{MAX_SCRIPT_BYTES}
use Rattle.script_defs.specs.declared.error.ScriptError.{ScriptError}
use Rattle.script_defs.specs.Scripts.{ScriptValue}
use Rattle.session_defs.specs.Files.{Contents}
use Rattle.pch_io.specs.declared.store.LoadFail.{LoadFail}
use Rattle.pch_io.specs.declared.store.LoadFail.TheVariants.{NoMemory}
use Rattle.pch_io.specs.Outside.{Files, Rose, LoadCause, Appends}
use Rattle.session_load.specs.Usable.{AreUsable}
use Rattle.pch_lines.specs.Sessions.{SessionForm, session_form}
use Rattle.pch_shell.specs.Outcomes.{Outcome, no_words}
use Rattle.pch_shell.specs.Runs.{StoreState, SinkState, Put, Ends, Runs}
use Rattle.pch_shell.specs.Session.{HasScript, IsFaultyScript, HasTranscript, IsFaultySpec, IsMissing, SessionTells}
use Rattle.pch_shell.specs.declared.status.Status.{Status}
use Rattle.pch_shell.specs.declared.status.Status.TheVariants.{Done, Words, Store, Sink, Memory, BadInput}

-- a session ends with a status: memory was wanting before a text was due; or what is told was put
abbrev pub SessionEnds : SessionForm → (old new : StoreState) → (before after : SinkState) → Status → Type 0
SessionEnds form old new before after status =
    ((status ≡ Memory) × (after ≡ before))
    ⊎ ((told : Outcome) × SessionTells form old new told × Put told before after status)

-- status 0: a transcript of the script and its files was written
abbrev pub WritesTranscript : SessionForm → Option Files → (held now : Option (List ℕ)) → Type 0
WritesTranscript form told held now =
    (s : ScriptValue) × HasScript form told s × (text : List ℕ) × HasTranscript s told text × Appends held now text

-- why the script or a file of it wasn't loaded
abbrev pub SessionStoreCause : SessionForm → StoreState → StoreState → Type 0
SessionStoreCause form old new =
    ((fail : LoadFail) × (fail ≢ NoMemory)
    × LoadCause old.files form.script MAX_SCRIPT_BYTES old.faults new.faults fail)
    ⊎ ((s : ScriptValue) × HasScript form old.files s
    × (name : List ℕ) × (fail : LoadFail) × IsMissing s old.files old.faults new.faults name fail)

-- the script has a fault, or the first file of it that can't be used is a specification with a fault
abbrev pub HasBadFile : SessionForm → Option Files → (before now : ℕ) → Type 0
HasBadFile form told before now =
    ((error : ScriptError) × IsFaultyScript form told error)
    ⊎ ((s : ScriptValue) × HasScript form told s
    × (name : List ℕ) × (error : SpecError) × IsFaultySpec s told before now name error)

-- the script reads, and all its files can be used
abbrev pub IsReady : SessionForm → Option Files → Type 0
IsReady form told = (s : ScriptValue) × HasScript form told s × (contents : List Contents) × AreUsable told 0 s.files contents

-- the status is this one, if it isn't one of a fault of the outside or of want of memory
abbrev pub EndsWith : Status → (old new : StoreState) → (before after : SinkState) → Status → Type 0
EndsWith due old new before after status =
    (status ≡ due)
    ⊎ (((status ≡ Store) × Rose old.faults new.faults)
    ⊎ (((status ≡ Sink) × Rose before.faults after.faults)
    ⊎ (status ≡ Memory)))

-- What a session comes to, where the store and the sink were `old` and `before` and are `new` and `after`.
pub record SessionRuns (form : SessionForm) (old new : StoreState) (before after : SinkState) (status : Status)
    : Type 0 where
  -- the status, why it comes, and what is written with it
  pub ends : SessionEnds form old new before after status
  -- status 0: what is written is a transcript of the script and its files
  pub shows : status ≡ Done → WritesTranscript form old.files before.held after.held
  -- the words have the form
  pub words_cause : status ≢ Words
  -- a fault of the outside is answered only by its cause
  pub store_cause : status ≡ Store → SessionStoreCause form old new
  pub sink_cause : status ≡ Sink → Rose before.faults after.faults
  -- a fault of a file is answered only where it is there
  pub input_cause : status ≡ BadInput → HasBadFile form old.files old.faults new.faults
  -- told files decide: all that can be used give status 0, and one with a fault gives status 9
  pub complete : (told : Files) → old.files ≡ Some told → IsReady form (Some told)
      → EndsWith Done old new before after status
  pub complete_faults : (told : Files) → old.files ≡ Some told → HasBadFile form (Some told) old.faults new.faults
      → EndsWith BadInput old new before after status
  -- no file changes
  pub files : new.files ≡ old.files

-- what is told of words that run this session, or that have no form of one
abbrev pub AskedTells : Option SessionForm → (old new : StoreState) → Outcome → Type 0
AskedTells None old new told = told ≡ no_words
AskedTells (Some form) old new told = SessionTells form old new told

-- what comes of words that run this session, or that have no form of one
abbrev pub SessionAnswers : Option SessionForm → (old new : StoreState) → (before after : SinkState) → Status → Type 0
SessionAnswers None old new before after status = Ends None old new before after status
SessionAnswers (Some form) old new before after status = SessionRuns form old new before after status

-- what comes of words of all forms: those of a session run it, and all others are those of a command
abbrev pub AnswersOf : Option SessionForm → List (List ℕ) → (old new : StoreState) → (before after : SinkState) → Status → Type 0
AnswersOf None words old new before after status = Runs words old new before after status
AnswersOf (Some form) words old new before after status = SessionRuns form old new before after status

-- what comes of these words
abbrev pub Answers : List (List ℕ) → (old new : StoreState) → (before after : SinkState) → Status → Type 0
Answers words old new before after status = AnswersOf (session_form words) words old new before after status
