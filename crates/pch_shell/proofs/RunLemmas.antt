-- What follows from how a run ends.
use Rattle.std.proofs.Common.{◌≡◌, ◌≢◌, inl, inr, ℕ, ◌<◌, ◌≤◌, List, [], ◌∷◌, length, Option, Some, None, IsSomeAnd, Result, Ok, Err, IfOk, OnErr, refl, sym, ap, subst, ◌∙◌, arith}
use Rattle.pch_io.specs.declared.store.LoadFail.{LoadFail}
use Rattle.pch_io.specs.declared.store.LoadFail.TheVariants as fails
use Rattle.pch_io.specs.Outside.{Files, Rose, Loads, LoadCause, Saves, Spoils, Appends}
use Rattle.pch_lines.specs.Words.{Form, form_of}
use Rattle.pch_lines.specs.Files.{FileValue, files_of, out_of}
use Rattle.pch_shell.specs.Outcomes.{Outcome, not_stored}
use Rattle.pch_shell.specs.Loading.{AreLoaded, IsNotLoaded}
use Rattle.pch_shell.specs.Due.{FilesDue, Differ, NeedMore}
use Rattle.pch_shell.specs.Runs.{StoreState, SinkState, OnlyOut, AreSaved, NotSaved, AfterSave, Tells, WordsTell, out_named, Put, Leaves, Ends, Shows, Says, SavesLog, StoreCause, IsDecided, Completes, Runs}
use Rattle.pch_shell.specs.declared.status.Status.{Status}
use Rattle.pch_shell.specs.declared.status.Status.TheVariants.{Done, Words, Store, Sink, Memory, Differs, Unroutable, Spent}
use Rattle.pch_shell.proofs.DueLemmas.{status_of, IsOfWork, due_work, done_shows, due_differ, due_over, due_spent}

-- ---- files

-- a file that stays as it is may count as spoiled
spoils_same : (f : Option Files) (name : List ℕ) → Spoils f f name
spoils_same None name = tt
spoils_same (Some f) name = λ other ne. refl

-- files that stay as they are change in the saved one alone
pub only_same : (out : Option (List ℕ)) (old new : Option Files) → new ≡ old → OnlyOut out old new
only_same None old new e = e
only_same (Some name) old new e = rw e (spoils_same old name)

-- saving a file spoils no other
saves_spoils : (old new : Option Files) (name bytes : List ℕ) → Saves old new name bytes → Spoils old new name
saves_spoils None None name bytes h = tt
saves_spoils None (Some f) name bytes h = absurd h
saves_spoils (Some f) None name bytes h = absurd h
saves_spoils (Some f) (Some k) name bytes h = h.1

-- equal states have the same files
files_of_state : (old new : StoreState) → new ≡ old → new.files ≡ old.files
files_of_state old new e = ap (λ (s : StoreState). s.files) e

-- what is saved changes the saved file alone
saved_only : (out saved : Option (List ℕ)) (old new : StoreState) → AreSaved out saved old new → OnlyOut out old.files new.files
saved_only None saved old new h = files_of_state old new h
saved_only (Some name) None old new h = only_same (Some name) old.files new.files (files_of_state old new h)
saved_only (Some name) (Some bytes) old new h = saves_spoils old.files new.files name bytes h.0

-- so does what couldn't be saved
not_saved_only : (out : Option (List ℕ)) (old new : StoreState) (name : List ℕ) → NotSaved out old new name → OnlyOut out old.files new.files
not_saved_only out old new name h = subst (λ (x : Option (List ℕ)). OnlyOut x old.files new.files) (sym h.named) h.others

-- and so does all that a command does before it writes
tells_only : (form : Option Form) (old new : StoreState) (told : Outcome) → WordsTell form old new told
    → OnlyOut (out_named form) old.files new.files
tells_only None old new told h = files_of_state old new h.1
tells_only (Some form) old new told (inl w) =
    elim w.saved [
      | inl s ↦ saved_only (out_of form) w.outcome.saved old new s.0
      | inr s ↦ not_saved_only (out_of form) old new s.1 s.2
    ]
tells_only (Some form) old new told (inr s) = only_same (out_of form) old.files new.files s.same_files

-- ---- what is told

-- an outcome that is told has none of the statuses of the sink and of want of memory
told_not_sink : (form : Option Form) (old new : StoreState) (told : Outcome) → WordsTell form old new told → told.status ≡ Sink → ⊥
told_not_sink None old new told h is = let e : Words ≡ Sink = sym (status_of told _ h.0) ∙ is in cc
told_not_sink (Some form) old new told (inl w) is =
    elim w.saved [
      | inl s ↦ subst IsOfWork (sym (status_of told w.outcome s.1) ∙ is) (due_work form w.files w.outcome w.due)
      | inr s ↦ absurd (let e : Store ≡ Sink = sym (status_of told _ s.3) ∙ is in cc)
    ]
told_not_sink (Some form) old new told (inr s) is = let e : Store ≡ Sink = sym (status_of told _ s.is_told) ∙ is in cc

-- the bytes of told files are determined
loaded_one : (t : Files) (fs : List FileValue) (bs cs : List (List ℕ)) → AreLoaded (Some t) fs bs → AreLoaded (Some t) fs cs → bs ≡ cs
loaded_one t [] [] [] h k = refl
loaded_one t [] [] (c ∷ cs) h k = absurd k
loaded_one t [] (b ∷ bs) cs h k = absurd h
loaded_one t (f ∷ fs) [] cs h k = absurd h
loaded_one t (f ∷ fs) (b ∷ bs) [] h k = absurd k
loaded_one t (f ∷ fs) (b ∷ bs) (c ∷ cs) h k =
    let first : Some b ≡ Some c = sym h.0.0 ∙ k.0.0 in
    let same : b ≡ c = cc in
    let rest = loaded_one t fs bs cs h.1 k.1 in
    cc

-- a file within the limit isn't too long
too_long : (o : Option (List ℕ)) (limit : ℕ) (b : List ℕ) → o ≡ Some b → length b ≤ limit → IsSomeAnd o (λ c. limit < length c) → ⊥
too_long None limit b e le h = absurd (cc)
too_long (Some c) limit b e le h = let same : c ≡ b = cc in let k : limit < length b = rw same at h in omega arith

-- a file that is there within its limit isn't loaded only where a fault was counted
pub cause_rose : (t : Files) (name : List ℕ) (limit before now : ℕ) (fail : LoadFail) (b : List ℕ) → Loads (Some t) name limit b
    → LoadCause (Some t) name limit before now fail → fail ≢ fails.NoMemory → Rose before now
cause_rose t name limit before now fails.Failed b there cause real = cause
cause_rose t name limit before now fails.Absent b there cause real = absurd (let e : Some b ≡ None = sym there.0 ∙ cause in cc)
cause_rose t name limit before now fails.TooLong b there cause real = absurd (too_long (t name) limit b there.0 there.1 cause)
cause_rose t name limit before now fails.NoMemory b there cause real = absurd (real refl)

-- where all files are there within their limits, a load that failed counted a fault
fails_by_count : (t : Files) (before now : ℕ) (fs : List FileValue) (bs : List (List ℕ)) (name : List ℕ) (fail : LoadFail)
    → AreLoaded (Some t) fs bs → IsNotLoaded (Some t) before now fs name fail → fail ≢ fails.NoMemory → Rose before now
fails_by_count t before now [] bs name fail h not real = absurd not
fails_by_count t before now (f ∷ fs) [] name fail h not real = absurd h
fails_by_count t before now (f ∷ fs) (b ∷ bs) name fail h (inl here) real =
    cause_rose t f.name f.limit before now fail b h.0 here.1 real
fails_by_count t before now (f ∷ fs) (b ∷ bs) name fail h (inr later) real = fails_by_count t before now fs bs name fail h.1 later.1 real

-- ---- a run

-- a run ends with what is told, once that was put, or for want of memory
pub ends_of : {N W : Type 0} (r : Result Outcome N) (form : Option Form) (old new : StoreState)
    (held : W → Option (List ℕ)) (faults : W → ℕ) (before after : W) (status : Status)
    → IfOk r (WordsTell form old new)
    → OnErr r (Leaves form old.files new.files)
    → IfOk r (λ told. Put told (record { held = held before; faults = faults before }) (record { held = held after; faults = faults after }) status)
    → OnErr r ((status ≡ Memory) × (after ≡ before))
    → Ends form old new (record { held = held before; faults = faults before }) (record { held = held after; faults = faults after }) status
ends_of (Ok told) form old new held faults before after status tells files put none = inr (told, tells, put)
ends_of (Err n) form old new held faults before after status tells files put none = inl (record {
  memory = none.0;
  silent = ap (λ w. record { held = held w; faults = faults w }) none.1;
  files = files;
})

-- what was told, where the status isn't one of the sink and of want of memory
told_of : (form : Option Form) (old new : StoreState) (before after : SinkState) (status : Status) → status ≢ Sink → status ≢ Memory
    → Ends form old new before after status → (told : Outcome) × WordsTell form old new told × (told.status ≡ status)
told_of form old new before after status not_sink not_memory (inl w) = absurd (not_memory w.memory)
told_of form old new before after status not_sink not_memory (inr (told, tells, inl put)) = (told, tells, sym put.0)
told_of form old new before after status not_sink not_memory (inr (told, tells, inr (inl put))) = absurd (not_sink put.0)
told_of form old new before after status not_sink not_memory (inr (told, tells, inr (inr put))) = absurd (not_memory put.0)

-- where status 0 is told, what it shows holds
told_shows : (form : Option Form) (old new : StoreState) (told : Outcome) → WordsTell form old new told → told.status ≡ Done
    → Shows form old.files new.files
told_shows None old new told h done = absurd (let e : Words ≡ Done = sym (status_of told _ h.0) ∙ done in cc)
told_shows (Some form) old new told (inl w) done =
    elim w.saved [
      | inl s ↦
          let shown = done_shows form w.files w.outcome old new (sym (status_of told w.outcome s.1) ∙ done) w.due s.0 in
          (w.files, w.loaded, shown.0, shown.1, shown.2)
      | inr s ↦ absurd (let e : Store ≡ Done = sym (status_of told _ s.3) ∙ done in cc)
    ]
told_shows (Some form) old new told (inr s) done = absurd (let e : Store ≡ Done = sym (status_of told _ s.is_told) ∙ done in cc)

-- files that nothing was saved in stay
nothing_saved : (out saved : Option (List ℕ)) (old new : StoreState) → saved ≡ None → AreSaved out saved old new → new.files ≡ old.files
nothing_saved None saved old new none h = files_of_state old new h
nothing_saved (Some name) None old new none h = files_of_state old new h
nothing_saved (Some name) (Some bytes) old new none h = cc

-- a status of the work is told of files that were all loaded, and what was due is saved
told_of_work : (form : Form) (old new : StoreState) (told : Outcome) (s : Status) → IsOfWork s → Tells form old new told → told.status ≡ s
    → (files : List (List ℕ)) × AreLoaded old.files (files_of form) files × FilesDue form files told
    × AreSaved (out_of form) told.saved old new
told_of_work form old new told s work (inl w) is =
    elim w.saved [
      | inl k ↦ (
        w.files,
        w.loaded,
        subst (FilesDue form w.files) (sym k.1) w.due,
        subst (λ (o : Outcome). AreSaved (out_of form) o.saved old new) (sym k.1) k.0,
      )
      | inr k ↦ absurd (subst IsOfWork (sym is ∙ status_of told _ k.3) work)
    ]
told_of_work form old new told s work (inr k) is = absurd (subst IsOfWork (sym is ∙ status_of told _ k.is_told) work)

-- where nothing is saved with a status of the work, the text says what it says of the files
told_says : (P : Form → List (List ℕ) → List ℕ → Type 0) (s : Status) → IsOfWork s
    → ((f : Form) (files : List (List ℕ)) (o : Outcome) → o.status ≡ s → FilesDue f files o → P f files o.text × (o.saved ≡ None))
    → (form : Option Form) (old new : StoreState) (held now : Option (List ℕ)) (told : Outcome) → WordsTell form old new told
    → told.status ≡ s → Appends held now told.text → Says P form old.files new.files held now
told_says P s work due None old new held now told h is put = subst IsOfWork (sym is ∙ status_of told _ h.0) work
told_says P s work due (Some form) old new held now told h is put =
    let at = told_of_work form old new told s work h is in
    let found = due form at.0 told is at.2 in
    (at.0, at.1, told.text, found.0, put, nothing_saved (out_of form) told.saved old new found.1 at.3)

-- so it is where a run ends with that status
ends_say : (P : Form → List (List ℕ) → List ℕ → Type 0) (s : Status) → IsOfWork s
    → ((f : Form) (files : List (List ℕ)) (o : Outcome) → o.status ≡ s → FilesDue f files o → P f files o.text × (o.saved ≡ None))
    → (form : Option Form) (old new : StoreState) (before after : SinkState) (status : Status) → status ≡ s
    → Ends form old new before after status → Says P form old.files new.files before.held after.held
ends_say P s work due form old new before after status is (inl w) = absurd (subst IsOfWork (sym is ∙ w.memory) work)
ends_say P s work due form old new before after status is (inr (told, tells, inl put)) =
    told_says P s work due form old new before.held after.held told tells (sym put.0 ∙ is) put.1
ends_say P s work due form old new before after status is (inr (told, tells, inr (inl put))) =
    absurd (subst IsOfWork (sym is ∙ put.0) work)
ends_say P s work due form old new before after status is (inr (told, tells, inr (inr put))) =
    absurd (subst IsOfWork (sym is ∙ put.0) work)

-- where status 8 is told and written, the log is saved
told_spent : (form : Option Form) (old new : StoreState) (held now : Option (List ℕ)) (told : Outcome) → WordsTell form old new told
    → told.status ≡ Spent → Appends held now told.text → SavesLog form old.files new.files held now
told_spent None old new held now told h is put = absurd (let e : Words ≡ Spent = sym (status_of told _ h.0) ∙ is in cc)
told_spent (Some form) old new held now told h is put =
    let at = told_of_work form old new told Spent tt h is in
    let found = due_spent form at.0 told old new is at.2 at.3 in
    (at.0, at.1, found.0, found.1, told.text, found.2, put)

-- so it is where a run ends with status 8
ends_spent : (form : Option Form) (old new : StoreState) (before after : SinkState) (status : Status) → status ≡ Spent
    → Ends form old new before after status → SavesLog form old.files new.files before.held after.held
ends_spent form old new before after status is (inl w) = absurd (let e : Memory ≡ Spent = sym w.memory ∙ is in cc)
ends_spent form old new before after status is (inr (told, tells, inl put)) =
    told_spent form old new before.held after.held told tells (sym put.0 ∙ is) put.1
ends_spent form old new before after status is (inr (told, tells, inr (inl put))) =
    absurd (let e : Sink ≡ Spent = sym put.0 ∙ is in cc)
ends_spent form old new before after status is (inr (told, tells, inr (inr put))) =
    absurd (let e : Memory ≡ Spent = sym put.0 ∙ is in cc)

-- the status of words comes with no form alone
told_words : (form : Option Form) (old new : StoreState) (told : Outcome) → WordsTell form old new told → told.status ≡ Words
    → form ≡ None
told_words None old new told h is = refl
told_words (Some form) old new told (inl w) is =
    elim w.saved [
      | inl s ↦ absurd (subst IsOfWork (sym (status_of told w.outcome s.1) ∙ is) (due_work form w.files w.outcome w.due))
      | inr s ↦ absurd (let e : Store ≡ Words = sym (status_of told _ s.3) ∙ is in cc)
    ]
told_words (Some form) old new told (inr s) is = absurd (let e : Store ≡ Words = sym (status_of told _ s.is_told) ∙ is in cc)

-- the status of the store comes with its cause
told_store : (form : Option Form) (old new : StoreState) (told : Outcome) → WordsTell form old new told → told.status ≡ Store
    → StoreCause form old new
told_store None old new told h is = let e : Words ≡ Store = sym (status_of told _ h.0) ∙ is in cc
told_store (Some form) old new told (inl w) is =
    elim w.saved [
      | inl s ↦ absurd (subst IsOfWork (sym (status_of told w.outcome s.1) ∙ is) (due_work form w.files w.outcome w.due))
      | inr s ↦ inr (s.1, s.2)
    ]
told_store (Some form) old new told (inr s) is = inl (s.name, s.fail, s.real, s.not_loaded)

-- where the status is that of the sink, its faults rose
sink_rose : (form : Option Form) (old new : StoreState) (before after : SinkState) (status : Status) → status ≡ Sink
    → Ends form old new before after status → Rose before.faults after.faults
sink_rose form old new before after status is (inl w) = absurd (let e : Memory ≡ Sink = sym w.memory ∙ is in cc)
sink_rose form old new before after status is (inr (told, tells, inl put)) =
    absurd (told_not_sink form old new told tells (sym put.0 ∙ is))
sink_rose form old new before after status is (inr (told, tells, inr (inl put))) = put.1
sink_rose form old new before after status is (inr (told, tells, inr (inr put))) =
    absurd (let e : Memory ≡ Sink = sym put.0 ∙ is in cc)

-- where the files are loaded, their bytes decide how a run ends
decided : (form : Form) (old new : StoreState) (before after : SinkState) (status : Status) (told : Outcome) (t : Files) (files : List (List ℕ))
    → old.files ≡ Some t → AreLoaded old.files (files_of form) files → Tells form old new told → status ≡ told.status
    → Appends before.held after.held told.text → IsDecided form files old new before after status
decided form old new before after status told t files is_told loaded (inl w) is put =
    let L : Option Files → List (List ℕ) → Type 0 = λ f bs. AreLoaded f (files_of form) bs in
    let same : w.files ≡ files =
    loaded_one t (files_of form) w.files files (subst (λ f. L f w.files) is_told w.loaded) (subst (λ f. L f files) is_told loaded) in
    elim w.saved [
      | inl s ↦ inl (
        w.outcome,
        subst (λ bs. FilesDue form bs w.outcome) same w.due,
        is ∙ status_of told w.outcome s.1,
        subst (λ (x : List ℕ). Appends before.held after.held x) (ap (λ (x : Outcome). x.text) s.1) put,
        s.0,
      )
      | inr s ↦ inr (inl (is ∙ status_of told _ s.3, s.2.counted))
    ]
decided form old new before after status told t files is_told loaded (inr s) is put =
    let not : IsNotLoaded (Some t) old.faults new.faults (files_of form) s.name s.fail =
    subst (λ f. IsNotLoaded f old.faults new.faults (files_of form) s.name s.fail) is_told s.not_loaded in
    inr (inl (
      is ∙ status_of told _ s.is_told,
      fails_by_count t old.faults new.faults (files_of form) files s.name s.fail
          (subst (λ f. AreLoaded f (files_of form) files) is_told loaded) not s.real,
    ))

-- the bytes of files decide how a run ends, or else a fault of the outside or want of memory does
completes : (form : Option Form) (old new : StoreState) (before after : SinkState) (status : Status)
    → Ends form old new before after status → Completes form old new before after status
completes None old new before after status ends = tt
completes (Some form) old new before after status (inl w) = λ t files is loaded. inr (inr (inr w.memory))
completes (Some form) old new before after status (inr (told, tells, inl put)) =
    λ t files is loaded. decided form old new before after status told t files is loaded tells put.0 put.1
completes (Some form) old new before after status (inr (told, tells, inr (inl put))) =
    λ t files is loaded. inr (inr (inl (put.0, put.1)))
completes (Some form) old new before after status (inr (told, tells, inr (inr put))) =
    λ t files is loaded. inr (inr (inr put.0))

-- a run that wants memory changes the saved file alone
leaves_only : (form : Option Form) (old new : Option Files) → Leaves form old new → OnlyOut (out_named form) old new
leaves_only None old new e = e
leaves_only (Some form) old new (inl e) = only_same (out_of form) old new e
leaves_only (Some form) old new (inr w) = w.only

-- so does every run
ends_only : (form : Option Form) (old new : StoreState) (before after : SinkState) (status : Status)
    → Ends form old new before after status → OnlyOut (out_named form) old.files new.files
ends_only form old new before after status (inl w) = leaves_only form old.files new.files w.files
ends_only form old new before after status (inr (told, tells, put)) = tells_only form old new told tells

-- all that a run comes to follows from how it ends
pub runs_of : (words : List (List ℕ)) (old new : StoreState) (before after : SinkState) (status : Status)
    → Ends (form_of words) old new before after status → Runs words old new before after status
runs_of words old new before after status ends = record {
  ends = ends;
  shows = λ is. let at = told_of (form_of words) old new before after status (λ e. let k : Done ≡ Sink = sym is ∙ e in cc)
      (λ e. let k : Done ≡ Memory = sym is ∙ e in cc) ends in
      told_shows (form_of words) old new at.0 at.1 (at.2 ∙ is);
  differs = λ is. ends_say Differ Differs tt due_differ (form_of words) old new before after status is ends;
  over = λ is. ends_say NeedMore Unroutable tt due_over (form_of words) old new before after status is ends;
  spent = λ is. ends_spent (form_of words) old new before after status is ends;
  words_cause = λ is. let at = told_of (form_of words) old new before after status (λ e. let k : Words ≡ Sink = sym is ∙ e in cc)
      (λ e. let k : Words ≡ Memory = sym is ∙ e in cc) ends in
      told_words (form_of words) old new at.0 at.1 (at.2 ∙ is);
  store_cause = λ is. let at = told_of (form_of words) old new before after status (λ e. let k : Store ≡ Sink = sym is ∙ e in cc)
      (λ e. let k : Store ≡ Memory = sym is ∙ e in cc) ends in
      told_store (form_of words) old new at.0 at.1 (at.2 ∙ is);
  sink_cause = λ is. sink_rose (form_of words) old new before after status is ends;
  complete = completes (form_of words) old new before after status ends;
  files = ends_only (form_of words) old new before after status ends;
}

-- ---- the steps of a run

-- a file wasn't loaded
pub stops_tell : {N : Type 0} (r : Result Outcome N) (form : Form) (old new : StoreState) (name : List ℕ) (fail : LoadFail)
    → IsNotLoaded old.files old.faults new.faults (files_of form) name fail → new.files ≡ old.files
    → IfOk r (λ o. o ≡ not_stored name fail) → IfOk r (λ o. fail ≢ fails.NoMemory)
    → IfOk r (Tells form old new)
stops_tell (Ok o) form old new name fail not same is real = inr (record {
  name = name;
  fail = fail;
  not_loaded = not;
  real = real;
  same_files = same;
  is_told = is;
})
stops_tell (Err n) form old new name fail not same is real = is

-- all files were loaded, and what the command comes to was to be saved
pub works_tell : {N : Type 0} (r : Result Outcome N) (form : Form) (old middle new : StoreState) (files : List (List ℕ)) (outcome : Outcome)
    → AreLoaded old.files (files_of form) files → middle ≡ old → FilesDue form files outcome
    → IfOk r (AfterSave (out_of form) outcome middle new)
    → IfOk r (Tells form old new)
works_tell (Ok o) form old middle new files outcome loaded same due saved = inl (record {
  files = files;
  loaded = loaded;
  outcome = outcome;
  due = due;
  saved = subst (λ s. AfterSave (out_of form) outcome s new o) same saved;
})
works_tell (Err n) form old middle new files outcome loaded same due saved = saved
