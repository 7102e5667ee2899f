-- What follows from how a session ends.
use Rattle.std.proofs.Common.{◌≡◌, ◌≢◌, ◌⊎◌, inl, inr, ℕ, zero, suc, ◌+◌, ◌<◌, List, [], ◌∷◌, length, All, slice_get, slice_index_or, get_or, Option, Some, None, Result, Ok, Err, IfOk, OnErr, refl, sym, ap, subst, ◌∙◌}
use Rattle.std.specs.Str.{IsUtf8}
use Rattle.std.proofs.lemmas.List.Elements.{All-get_or}
use Rattle.std.proofs.lemmas.Option.{slice_get_read}
use Rattle.net_defs.specs.Specifications.{IsSpecFault}
use Rattle.net_defs.specs.declared.specification.SpecError.{SpecError}
use Rattle.net_defs.specs.declared.specification.SpecError.TheVariants as spec_errors
use Rattle.net_laws.proofs.SpecificationLemmas.{specification_is_unique}
use Rattle.fabric_defs.specs.declared.kind.CellKind.{CellKind}
use Rattle.fabric_defs.specs.declared.kind.CellKind.TheVariants.{FourInputs, SixInputs}
use Rattle.fabric.specs.Geometry.{of_kind}
use Rattle.script_defs.specs.declared.limits.TheConstants.{MAX_SCRIPT_BYTES}
use Rattle.script_defs.specs.declared.command.Command.{Command}
use Rattle.script_defs.specs.declared.command.Command.TheVariants.{Agree, Deliver, Evict, Cycle, Sweep}
use Rattle.script_defs.specs.declared.command.Kind.TheVariants as kinds
use Rattle.script_defs.specs.declared.command.FileUse.{FileUse}
use Rattle.script_defs.specs.declared.error.ScriptError.{ScriptError}
use Rattle.script_defs.specs.Scripts.{ScriptValue, IsScript, IsCommand}
use Rattle.script_defs.specs.Texts.{ScriptText}
use Rattle.script_laws.proofs.Reading.{reading_is_unique}
use Rattle.script_defs.specs.Transcripts.{TranscriptValue}
use Rattle.script_defs.specs.Printing.{transcript_text}
use Rattle.session_defs.specs.Files.{Contents, specification, delivery}
use Rattle.session_defs.specs.Transcripts.{TranscriptOf}
use Rattle.pch_io.specs.declared.store.LoadFail.{LoadFail}
use Rattle.pch_io.specs.declared.store.LoadFail.TheVariants as fails
use Rattle.pch_io.specs.Outside.{Files, Rose, Loads, Appends}
use Rattle.session_load.specs.declared.fault.NoScript.{NoScript}
use Rattle.session_load.specs.declared.fault.NoScript.TheVariants as no_script
use Rattle.session_load.specs.declared.fault.FileFault.{FileFault}
use Rattle.session_load.specs.declared.fault.FileFault.TheVariants.{Load, Specification}
use Rattle.session_load.specs.Usable.{IsContentOf, limit_behind, IsUsable, AreUsable, FileCause, StopsAt, ScriptCause}
use Rattle.pch_lines.specs.Sessions.{SessionForm}
use Rattle.pch_shell.specs.Outcomes.{Outcome, done}
use Rattle.pch_shell.specs.Runs.{StoreState, SinkState, Put}
use Rattle.pch_shell.specs.Session.{on_cells, HasScript, IsFaultyScript, HasTranscript, IsFaultySpec, IsToldOf, IsToldOfNone, ScriptTells, SessionTells}
use Rattle.pch_shell.specs.SessionRuns.{SessionEnds, WritesTranscript, SessionStoreCause, HasBadFile, IsReady, EndsWith, SessionRuns, AskedTells, SessionAnswers}
use Rattle.pch_shell.specs.declared.status.Status.{Status}
use Rattle.pch_shell.specs.declared.status.Status.TheVariants.{Done, Words, Store, Sink, Memory, BadInput}
use Rattle.pch_shell.proofs.DueLemmas.{status_of}
use Rattle.pch_shell.proofs.RunLemmas.{cause_rose}

-- ---- scripts on other cells

-- a command names what is there on other cells too
command_on : (s : ScriptValue) (c : Command) → IsCommand s.geometry s.slots s.files c
    → IsCommand (of_kind SixInputs s.geometry) s.slots s.files c
command_on s (Agree slot file) h = h
command_on s (Deliver slot file) h = h
command_on s (Evict slot) h = h
command_on s (Cycle slot bits probe) h = h
command_on s (Sweep slot first count) h = h

-- a script on other cells is within the limits
pub script_on : (kind : CellKind) (s : ScriptValue) → IsScript s → IsScript (on_cells kind s)
script_on FourInputs s h = h
script_on SixInputs s h = record {
  geometry = record {
    some_columns = h.geometry.some_columns;
    columns = h.geometry.columns;
    some_rows = h.geometry.some_rows;
    rows = h.geometry.rows;
    some_tracks = h.geometry.some_tracks;
    tracks = h.geometry.tracks;
    some_input_pads = h.geometry.some_input_pads;
    input_pads = h.geometry.input_pads;
    some_output_pads = h.geometry.some_output_pads;
    output_pads = h.geometry.output_pads;
  };
  some_slots = h.some_slots;
  slots = h.slots;
  some_limit = h.some_limit;
  limit = h.limit;
  some_workers = h.some_workers;
  workers = h.workers;
  files_differ = h.files_differ;
  files = h.files;
  some_lanes = h.some_lanes;
  lanes = h.lanes;
  commands_within = h.commands_within;
  commands = λ lane lanes within turn turns below.
      command_on s (slice_index_or (slice_index_or s.lanes lane lanes) turn turns) (h.commands lane lanes within turn turns below);
}

-- it has the same files
pub files_on : (kind : CellKind) (s : ScriptValue) → (on_cells kind s).files ≡ s.files
files_on FourInputs s = refl
files_on SixInputs s = refl

-- ---- what is told

-- the file at a place has a name that is a text
pub name_at : (uses files : List FileUse) (i : ℕ) (u : FileUse) → uses ≡ files → i < length uses → u ≡ get_or uses i u
    → All (λ (v : FileUse). IsUtf8 v.name) files → IsUtf8 u.name
name_at uses files i u same below is h =
    let here : IsUtf8 (get_or uses i u).name =
    All-get_or (λ (v : FileUse). IsUtf8 v.name) uses i u below (subst (λ (fs : List FileUse). All (λ (v : FileUse). IsUtf8 v.name) fs) (sym same) h) in
    subst (λ (v : FileUse). IsUtf8 v.name) (sym is) here

-- a file that can't be used is told of its script, by the kind of its fault
stops_told : (o : Outcome) (s : ScriptValue) (old new : StoreState) (file : ℕ) (fault : FileFault) (u : FileUse)
    → StopsAt old.files old.faults new.faults 0 s.files file fault → slice_get s.files file ≡ Some u → IsToldOf u fault o
    → ScriptTells s old new o
stops_told o s old new file (Load fail) u stops e is =
    inr (inr (u.name, fail, (is.0, record { file = file; stops = stops; named = u; is_there = e; has_name = refl }), is.1))
stops_told o s old new file (Specification error) u stops e is =
    inr (inl (u.name, error, (is.0, record { file = file; stops = stops; named = u; is_there = e; has_name = refl }), is.1))

-- so it is told of the script
pub stops_tell : {N : Type 0} (r : Result Outcome N) (s : ScriptValue) (old new : StoreState) (uses : List FileUse) (file : ℕ)
    (fault : FileFault) (u : FileUse) → uses ≡ s.files → StopsAt old.files old.faults new.faults 0 uses file fault
    → file < length uses → u ≡ get_or uses file u → IfOk r (IsToldOf u fault) → IfOk r (ScriptTells s old new)
stops_tell (Err n) s old new uses file fault u same stops below e is = is
stops_tell (Ok o) s old new uses file fault u same stops below e is =
    let there : slice_get uses file ≡ Some u = slice_get_read uses (length uses) file u refl below e in
    stops_told o s old new file fault u (subst (λ fs. StopsAt old.files old.faults new.faults 0 fs file fault) same stops)
    (subst (λ (fs : List FileUse). slice_get fs file ≡ Some u) same there) is

-- where there is no script, that is told
pub none_tells : {N : Type 0} (r : Result Outcome N) (form : SessionForm) (old new : StoreState) (why : NoScript)
    → ScriptCause old.files old.faults new.faults form.script why → IfOk r (IsToldOfNone form.script why)
    → IfOk r (SessionTells form old new)
none_tells (Err n) form old new why cause is = is
none_tells (Ok o) form old new (no_script.Load fail) cause is = inl (fail, is.0, cause, is.1)
none_tells (Ok o) form old new (no_script.Read error) (text, loads, inl none) is = absurd (is.0 none)
none_tells (Ok o) form old new (no_script.Read error) (text, loads, inr faulty) is =
    inr (inl (error, record { text = text; loads = loads; faulty = faulty }, is.1))

-- what is told of a script is told of the words that name it
pub script_tells : {N : Type 0} (r : Result Outcome N) (form : SessionForm) (old middle new : StoreState) (text : List ℕ)
    (value s : ScriptValue) → Loads old.files form.script MAX_SCRIPT_BYTES text → ScriptText text value
    → s ≡ on_cells form.kind value → middle.files ≡ old.files → middle.faults ≡ old.faults
    → IfOk r (ScriptTells s middle new) → IfOk r (SessionTells form old new)
script_tells (Err n) form old middle new text value s loads reads is files faults tells = tells
script_tells (Ok o) form old middle new text value s loads reads is files faults tells =
    let other : ScriptTells s (record { files = old.files; faults = middle.faults }) new o =
    subst (λ f. ScriptTells s (record { files = f; faults = middle.faults }) new o) files tells in
    inr (inr (
      s,
      record { text = text; loads = loads; value = value; reads = reads; on_kind = is },
      subst (λ n. ScriptTells s (record { files = old.files; faults = n }) new o) faults other,
    ))

-- the names of the files are texts on other cells too
pub names_on : (kind : CellKind) (s value : ScriptValue) → s ≡ on_cells kind value
    → All (λ (u : FileUse). IsUtf8 u.name) value.files → All (λ (u : FileUse). IsUtf8 u.name) s.files
names_on kind s value is h =
    subst (λ (fs : List FileUse). All (λ (u : FileUse). IsUtf8 u.name) fs)
    (sym (ap (λ (x : ScriptValue). x.files) is ∙ files_on kind value)) h

-- the session has a transcript
pub runs_tell : (o : Outcome) (s : ScriptValue) (old new : StoreState) (contents : List Contents) (t : TranscriptValue) (text : List ℕ)
    → AreUsable old.files 0 s.files contents → TranscriptOf s contents t → text ≡ transcript_text t → o ≡ done text
    → ScriptTells s old new o
runs_tell o s old new contents t text usable meets prints is =
    inl (text, record { contents = contents; usable = usable; transcript = t; meets = meets; prints = prints }, is)

-- ---- told files decide

-- the bytes of a told file are determined
loads_one : (t : Files) (name : List ℕ) (l m : ℕ) (a b : List ℕ) → Loads (Some t) name l a → Loads (Some t) name m b → a ≡ b
loads_one t name l m a b h k = let e : Some a ≡ Some b = sym h.0 ∙ k.0 in cc

-- so is the script of some words
script_one : (form : SessionForm) (t : Files) (s r : ScriptValue) → HasScript form (Some t) s → HasScript form (Some t) r → s ≡ r
script_one form t s r h k =
    let texts : h.text ≡ k.text = loads_one t form.script MAX_SCRIPT_BYTES MAX_SCRIPT_BYTES h.text k.text h.loads k.loads in
    let both : Ok h.value ≡ Ok k.value =
    reading_is_unique k.text (Ok h.value) (Ok k.value) (subst (λ (x : List ℕ). ScriptText x h.value) texts h.reads) k.reads in
    let values : h.value ≡ k.value = cc in
    h.on_kind ∙ ap (on_cells form.kind) values ∙ sym k.on_kind

-- a script has no fault
not_faulty : (form : SessionForm) (t : Files) (s : ScriptValue) (error : ScriptError) → HasScript form (Some t) s
    → IsFaultyScript form (Some t) error → ⊥
not_faulty form t s error h k =
    let texts : h.text ≡ k.text = loads_one t form.script MAX_SCRIPT_BYTES MAX_SCRIPT_BYTES h.text k.text h.loads k.loads in
    let both : Ok h.value ≡ Err error =
    reading_is_unique k.text (Ok h.value) (Err error) (subst (λ (x : List ℕ). ScriptText x h.value) texts h.reads) k.faulty in
    cc

-- what specifies a network has no fault
specifies : (bytes : List ℕ) (c : Contents) (error : SpecError) → IsContentOf kinds.Spec bytes c → IsSpecFault bytes error → ⊥
specifies bytes (specification net) error h k =
    let both : Ok net ≡ Err error = specification_is_unique bytes (Ok net) (Err error) h k in cc
specifies bytes (delivery delivered) error h k = absurd h

-- a file that can be used is no faulty specification
usable_one : (t : Files) (b n used : ℕ) (u : FileUse) (c : Contents) (bytes : List ℕ) (error : SpecError)
    → IsUsable (Some t) used u c bytes → FileCause (Some t) b n used u (Specification error) → error ≢ spec_errors.NoMemory → ⊥
usable_one t b n used u c bytes error h (is, text, loads, inl none) real = real none
usable_one t b n used u c bytes error h (is, text, loads, inr faulty) real =
    let same : text ≡ bytes = loads_one t u.name (limit_behind u.kind used) (limit_behind u.kind used) text bytes loads h.loads in
    specifies bytes c error (subst (λ k. IsContentOf k bytes c) is h.holds) (subst (λ (x : List ℕ). IsSpecFault x error) same faulty)

-- where all files can be used, none is a faulty specification
usable_all : (t : Files) (b n used : ℕ) (us : List FileUse) (cs : List Contents) (file : ℕ) (error : SpecError)
    → AreUsable (Some t) used us cs → StopsAt (Some t) b n used us file (Specification error) → error ≢ spec_errors.NoMemory → ⊥
usable_all t b n used [] cs file error h k real = k
usable_all t b n used (u ∷ us) [] file error h k real = h
usable_all t b n used (u ∷ us) (c ∷ cs) zero error h k real = usable_one t b n used u c h.0 error h.1 k real
usable_all t b n used (u ∷ us) (c ∷ cs) (suc file) error h k real =
    let same : k.1 ≡ h.0 = loads_one t u.name (limit_behind u.kind used) (limit_behind u.kind used) k.1 h.0 k.2.loads h.1.loads in
    usable_all t b n (used + length h.0) us cs file error h.2
    (subst (λ (x : List ℕ). StopsAt (Some t) b n (used + length x) us file (Specification error)) same k.3) real

-- where all files can be used, one is missing only where a fault was counted
usable_rose : (t : Files) (b n used : ℕ) (us : List FileUse) (cs : List Contents) (file : ℕ) (fail : LoadFail)
    → AreUsable (Some t) used us cs → StopsAt (Some t) b n used us file (Load fail) → fail ≢ fails.NoMemory → Rose b n
usable_rose t b n used [] cs file fail h k real = absurd k
usable_rose t b n used (u ∷ us) [] file fail h k real = absurd h
usable_rose t b n used (u ∷ us) (c ∷ cs) zero fail h k real =
    cause_rose t u.name (limit_behind u.kind used) b n fail h.0 h.1.loads k real
usable_rose t b n used (u ∷ us) (c ∷ cs) (suc file) fail h k real =
    let same : k.1 ≡ h.0 = loads_one t u.name (limit_behind u.kind used) (limit_behind u.kind used) k.1 h.0 k.2.loads h.1.loads in
    usable_rose t b n (used + length h.0) us cs file fail h.2
    (subst (λ (x : List ℕ). StopsAt (Some t) b n (used + length x) us file (Load fail)) same k.3) real

-- where the first file that can't be used is a faulty specification, one is missing only where a fault was counted
faulty_rose : (t : Files) (b n used : ℕ) (us : List FileUse) (i j : ℕ) (error : SpecError) (fail : LoadFail)
    → StopsAt (Some t) b n used us i (Specification error) → error ≢ spec_errors.NoMemory
    → StopsAt (Some t) b n used us j (Load fail) → fail ≢ fails.NoMemory → Rose b n
faulty_rose t b n used [] i j error fail h bad k real = absurd h
faulty_rose t b n used (u ∷ us) zero zero error fail h bad k real =
    cause_rose t u.name (limit_behind u.kind used) b n fail h.1 h.2 k real
faulty_rose t b n used (u ∷ us) zero (suc j) error fail h bad k real = absurd (usable_one t b n used u k.0 k.1 error k.2 h bad)
faulty_rose t b n used (u ∷ us) (suc i) zero error fail h bad k real =
    cause_rose t u.name (limit_behind u.kind used) b n fail h.1 h.2.loads k real
faulty_rose t b n used (u ∷ us) (suc i) (suc j) error fail h bad k real =
    let same : k.1 ≡ h.1 = loads_one t u.name (limit_behind u.kind used) (limit_behind u.kind used) k.1 h.1 k.2.loads h.2.loads in
    faulty_rose t b n (used + length h.1) us i j error fail h.3 bad
    (subst (λ (x : List ℕ). StopsAt (Some t) b n (used + length x) us j (Load fail)) same k.3) real

-- the status that is told is this one, or a load failed, which was counted
abbrev DecidedBy : Status → (before now : ℕ) → Outcome → Type 0
DecidedBy due before now told = (told.status ≡ due) ⊎ ((told.status ≡ Store) × Rose before now)

-- status 0 is told where the script reads and all its files can be used
ready_told : (t : Files) (b : ℕ) (form : SessionForm) (new : StoreState) (told : Outcome)
    → SessionTells form (record { files = Some t; faults = b }) new told → IsReady form (Some t)
    → DecidedBy Done b new.faults told
ready_told t b form new told (inl (fail, real, cause, is)) (r, has, contents, usable) =
    inr (status_of told _ is, cause_rose t form.script MAX_SCRIPT_BYTES b new.faults fail has.text has.loads cause real)
ready_told t b form new told (inr (inl (error, faulty, is))) (r, has, contents, usable) =
    absurd (not_faulty form t r error has faulty)
ready_told t b form new told (inr (inr (s, h, inl (text, transcript, is)))) (r, has, contents, usable) = inl (status_of told _ is)
ready_told t b form new told (inr (inr (s, h, inr (inl (name, error, faulty, is))))) (r, has, contents, usable) =
    absurd (usable_all t b new.faults 0 s.files contents faulty.1.file error
    (subst (λ (x : ScriptValue). AreUsable (Some t) 0 x.files contents) (script_one form t r s has h) usable) faulty.1.stops faulty.0)
ready_told t b form new told (inr (inr (s, h, inr (inr (name, fail, missing, is))))) (r, has, contents, usable) =
    inr (
      status_of told _ is,
      usable_rose t b new.faults 0 s.files contents missing.1.file fail
          (subst (λ (x : ScriptValue). AreUsable (Some t) 0 x.files contents) (script_one form t r s has h) usable) missing.1.stops missing.0,
    )

-- status 9 is told where the script has a fault
script_told : (t : Files) (b : ℕ) (form : SessionForm) (new : StoreState) (told : Outcome) (e : ScriptError)
    → SessionTells form (record { files = Some t; faults = b }) new told → IsFaultyScript form (Some t) e
    → DecidedBy BadInput b new.faults told
script_told t b form new told e (inl (fail, real, cause, is)) bad =
    inr (status_of told _ is, cause_rose t form.script MAX_SCRIPT_BYTES b new.faults fail bad.text bad.loads cause real)
script_told t b form new told e (inr (inl (error, faulty, is))) bad = inl (status_of told _ is)
script_told t b form new told e (inr (inr (s, h, tells))) bad = absurd (not_faulty form t s e h bad)

-- and where the first file that can't be used is a faulty specification
spec_told : (t : Files) (b : ℕ) (form : SessionForm) (new : StoreState) (told : Outcome) (r : ScriptValue) (bad_name : List ℕ)
    (e : SpecError) → SessionTells form (record { files = Some t; faults = b }) new told → HasScript form (Some t) r
    → IsFaultySpec r (Some t) b new.faults bad_name e → DecidedBy BadInput b new.faults told
spec_told t b form new told r bad_name e (inl (fail, real, cause, is)) has bad =
    inr (status_of told _ is, cause_rose t form.script MAX_SCRIPT_BYTES b new.faults fail has.text has.loads cause real)
spec_told t b form new told r bad_name e (inr (inl (error, faulty, is))) has bad = inl (status_of told _ is)
spec_told t b form new told r bad_name e (inr (inr (s, h, inl (text, transcript, is)))) has bad =
    absurd (usable_all t b new.faults 0 r.files transcript.contents bad.1.file e
    (subst (λ (x : ScriptValue). AreUsable (Some t) 0 x.files transcript.contents) (script_one form t s r h has) transcript.usable)
    bad.1.stops bad.0)
spec_told t b form new told r bad_name e (inr (inr (s, h, inr (inl (name, error, faulty, is))))) has bad = inl (status_of told _ is)
spec_told t b form new told r bad_name e (inr (inr (s, h, inr (inr (name, fail, missing, is))))) has bad =
    inr (
      status_of told _ is,
      faulty_rose t b new.faults 0 r.files bad.1.file missing.1.file e fail bad.1.stops bad.0
          (subst (λ (x : ScriptValue). StopsAt (Some t) b new.faults 0 x.files missing.1.file (Load fail)) (script_one form t s r h has) missing.1.stops)
          missing.0,
    )

-- so it is where a file has a fault
bad_told : (t : Files) (b : ℕ) (form : SessionForm) (new : StoreState) (told : Outcome)
    → SessionTells form (record { files = Some t; faults = b }) new told → HasBadFile form (Some t) b new.faults
    → DecidedBy BadInput b new.faults told
bad_told t b form new told tells (inl (error, faulty)) = script_told t b form new told error tells faulty
bad_told t b form new told tells (inr (r, has, name, error, faulty)) = spec_told t b form new told r name error tells has faulty

-- what is told decides how a session ends
decided : (due : Status) (form : SessionForm) (old new : StoreState) (before after : SinkState) (status : Status)
    → SessionEnds form old new before after status
    → ((told : Outcome) → SessionTells form old new told → DecidedBy due old.faults new.faults told)
    → EndsWith due old new before after status
decided due form old new before after status (inl w) f = inr (inr (inr w.0))
decided due form old new before after status (inr (told, tells, inl put)) f =
    elim (f told tells) [
      | inl e ↦ inl (put.0 ∙ e)
      | inr e ↦ inr (inl (put.0 ∙ e.0, e.1))
    ]
decided due form old new before after status (inr (told, tells, inr (inl put))) f = inr (inr (inl (put.0, put.1)))
decided due form old new before after status (inr (told, tells, inr (inr put))) f = inr (inr (inr put.0))

-- ---- statuses and their causes

-- what is told has status 0 with a transcript, or status 9 or 3 with its cause
abbrev ToldBy : SessionForm → (old new : StoreState) → Outcome → Type 0
ToldBy form old new told =
    ((told.status ≡ Done) × (s : ScriptValue) × HasScript form old.files s
    × (text : List ℕ) × HasTranscript s old.files text × (told.text ≡ text))
    ⊎ (((told.status ≡ BadInput) × HasBadFile form old.files old.faults new.faults)
    ⊎ ((told.status ≡ Store) × SessionStoreCause form old new))

-- each thing that is told has one of these statuses
told_by : (form : SessionForm) (old new : StoreState) (told : Outcome) → SessionTells form old new told → ToldBy form old new told
told_by form old new told (inl (fail, real, cause, is)) = inr (inr (status_of told _ is, inl (fail, real, cause)))
told_by form old new told (inr (inl (error, faulty, is))) = inr (inl (status_of told _ is, inl (error, faulty)))
told_by form old new told (inr (inr (s, has, inl (text, transcript, is)))) =
    inl (status_of told _ is, s, has, text, transcript, ap (λ (x : Outcome). x.text) is)
told_by form old new told (inr (inr (s, has, inr (inl (name, error, faulty, is))))) =
    inr (inl (status_of told _ is, inr (s, has, name, error, faulty)))
told_by form old new told (inr (inr (s, has, inr (inr (name, fail, missing, is))))) =
    inr (inr (status_of told _ is, inr (s, has, name, fail, missing)))

-- an outcome of a session has no other status
told_not : (form : SessionForm) (old new : StoreState) (told : Outcome) (status : Status) → ToldBy form old new told
    → status ≢ Done → status ≢ BadInput → status ≢ Store → status ≡ told.status → ⊥
told_not form old new told status (inl h) done bad store is = done (is ∙ h.0)
told_not form old new told status (inr (inl h)) done bad store is = bad (is ∙ h.0)
told_not form old new told status (inr (inr h)) done bad store is = store (is ∙ h.0)

-- what was told and written, where the status isn't one of the sink and of want of memory
written : (form : SessionForm) (old new : StoreState) (before after : SinkState) (status : Status)
    → SessionEnds form old new before after status → status ≢ Sink → status ≢ Memory
    → (told : Outcome) × ToldBy form old new told × (status ≡ told.status) × Appends before.held after.held told.text
written form old new before after status (inl w) sink memory = absurd (memory w.0)
written form old new before after status (inr (told, tells, inl put)) sink memory =
    (told, told_by form old new told tells, put.0, put.1)
written form old new before after status (inr (told, tells, inr (inl put))) sink memory = absurd (sink put.0)
written form old new before after status (inr (told, tells, inr (inr put))) sink memory = absurd (memory put.0)

-- status 0 comes with a transcript
shows_of : (form : SessionForm) (old new : StoreState) (before after : SinkState) (told : Outcome) → ToldBy form old new told
    → told.status ≡ Done → Appends before.held after.held told.text → WritesTranscript form old.files before.held after.held
shows_of form old new before after told (inl (e, s, has, text, transcript, is)) done put =
    (s, has, text, transcript, subst (λ (x : List ℕ). Appends before.held after.held x) is put)
shows_of form old new before after told (inr (inl h)) done put = absurd (let e : BadInput ≡ Done = sym h.0 ∙ done in cc)
shows_of form old new before after told (inr (inr h)) done put = absurd (let e : Store ≡ Done = sym h.0 ∙ done in cc)

-- status 9 comes with a fault of a file
input_of : (form : SessionForm) (old new : StoreState) (told : Outcome) → ToldBy form old new told
    → told.status ≡ BadInput → HasBadFile form old.files old.faults new.faults
input_of form old new told (inl h) bad = absurd (let e : Done ≡ BadInput = sym h.0 ∙ bad in cc)
input_of form old new told (inr (inl h)) bad = h.1
input_of form old new told (inr (inr h)) bad = absurd (let e : Store ≡ BadInput = sym h.0 ∙ bad in cc)

-- status 3 comes with its cause
store_of : (form : SessionForm) (old new : StoreState) (told : Outcome) → ToldBy form old new told
    → told.status ≡ Store → SessionStoreCause form old new
store_of form old new told (inl h) store = absurd (let e : Done ≡ Store = sym h.0 ∙ store in cc)
store_of form old new told (inr (inl h)) store = absurd (let e : BadInput ≡ Store = sym h.0 ∙ store in cc)
store_of form old new told (inr (inr h)) store = h.1

-- status 4 comes with a fault of the sink
sink_of : (form : SessionForm) (old new : StoreState) (before after : SinkState) (status : Status)
    → SessionEnds form old new before after status → status ≡ Sink → Rose before.faults after.faults
sink_of form old new before after status (inl w) is = absurd (let e : Memory ≡ Sink = sym w.0 ∙ is in cc)
sink_of form old new before after status (inr (told, tells, inl put)) is =
    absurd (told_not form old new told Sink (told_by form old new told tells) (λ e. cc) (λ e. cc) (λ e. cc) (sym is ∙ put.0))
sink_of form old new before after status (inr (told, tells, inr (inl put))) is = put.1
sink_of form old new before after status (inr (told, tells, inr (inr put))) is =
    absurd (let e : Memory ≡ Sink = sym put.0 ∙ is in cc)

-- a session ends with what is told, once that was put, or for want of memory
pub session_ends : {N W : Type 0} (r : Result Outcome N) (form : SessionForm) (old new : StoreState)
    (held : W → Option (List ℕ)) (faults : W → ℕ) (before after : W) (status : Status)
    → IfOk r (SessionTells form old new)
    → IfOk r (λ told. Put told (record { held = held before; faults = faults before }) (record { held = held after; faults = faults after }) status)
    → OnErr r ((status ≡ Memory) × (after ≡ before))
    → SessionEnds form old new (record { held = held before; faults = faults before }) (record { held = held after; faults = faults after }) status
session_ends (Ok told) form old new held faults before after status tells put none = inr (told, tells, put)
session_ends (Err n) form old new held faults before after status tells put none =
    inl (none.0, ap (λ w. record { held = held w; faults = faults w }) none.1)

-- all that a session comes to follows from how it ends
pub session_runs : (form : SessionForm) (old new : StoreState) (before after : SinkState) (status : Status)
    → SessionEnds form old new before after status → new.files ≡ old.files → SessionRuns form old new before after status
session_runs form old new before after status ends same = record {
  ends = ends;
  shows = λ is. let at = written form old new before after status ends (λ e. let k : Done ≡ Sink = sym is ∙ e in cc)
      (λ e. let k : Done ≡ Memory = sym is ∙ e in cc) in
      shows_of form old new before after at.0 at.1 (sym at.2 ∙ is) at.3;
  words_cause = λ is. let at = written form old new before after status ends (λ e. let k : Words ≡ Sink = sym is ∙ e in cc)
      (λ e. let k : Words ≡ Memory = sym is ∙ e in cc) in
      told_not form old new at.0 Words at.1 (λ e. cc) (λ e. cc) (λ e. cc) (sym is ∙ at.2);
  store_cause = λ is. let at = written form old new before after status ends (λ e. let k : Store ≡ Sink = sym is ∙ e in cc)
      (λ e. let k : Store ≡ Memory = sym is ∙ e in cc) in
      store_of form old new at.0 at.1 (sym at.2 ∙ is);
  sink_cause = λ is. sink_of form old new before after status ends is;
  input_cause = λ is. let at = written form old new before after status ends (λ e. let k : BadInput ≡ Sink = sym is ∙ e in cc)
      (λ e. let k : BadInput ≡ Memory = sym is ∙ e in cc) in
      input_of form old new at.0 at.1 (sym at.2 ∙ is);
  complete = λ t is ready. decided Done form old new before after status ends (λ told tells.
      ready_told t old.faults form new told
      (subst (λ f. SessionTells form (record { files = f; faults = old.faults }) new told) is tells) ready);
  complete_faults = λ t is bad. decided BadInput form old new before after status ends (λ told tells.
      bad_told t old.faults form new told
      (subst (λ f. SessionTells form (record { files = f; faults = old.faults }) new told) is tells) bad);
  files = same;
}

-- ---- words

-- what comes of words that may run a session follows from what is told of them and put
pub answers_of : {N T W : Type 0} (r : Result Outcome N) (form : Option SessionForm) (files : T → Option Files) (count : T → ℕ) (old new : T)
    (held : W → Option (List ℕ)) (faults : W → ℕ) (before after : W) (status : Status)
    → IfOk r (AskedTells form (record { files = files old; faults = count old }) (record { files = files new; faults = count new }))
    → (form ≡ None → new ≡ old) → files new ≡ files old
    → IfOk r (λ told. Put told (record { held = held before; faults = faults before }) (record { held = held after; faults = faults after }) status)
    → OnErr r ((status ≡ Memory) × (after ≡ before))
    → SessionAnswers form (record { files = files old; faults = count old }) (record { files = files new; faults = count new })
    (record { held = held before; faults = faults before }) (record { held = held after; faults = faults after }) status
answers_of (Ok told) None files count old new held faults before after status tells untouched same put none =
    inr (told, (tells, ap (λ s. record { files = files s; faults = count s }) (untouched refl)), put)
answers_of (Err n) None files count old new held faults before after status tells untouched same put none = inl (record {
  memory = none.0;
  silent = ap (λ w. record { held = held w; faults = faults w }) none.1;
  files = same;
})
answers_of r (Some form) files count old new held faults before after status tells untouched same put none =
    let o : StoreState = record { files = files old; faults = count old } in
    let n : StoreState = record { files = files new; faults = count new } in
    let b : SinkState = record { held = held before; faults = faults before } in
    let a : SinkState = record { held = held after; faults = faults after } in
    session_runs form o n b a status (session_ends r form o n held faults before after status tells put none) same
