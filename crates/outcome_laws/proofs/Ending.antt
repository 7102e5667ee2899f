-- A run ends as is due for the bytes of its files.
use Rattle.std.proofs.Common.{◌≡◌, inl, inr, ℕ, List, Option, Some, subst, ◌∙◌}
use Rattle.pch_io.specs.Outside.{Files, Appends}
use Rattle.pch_lines.specs.Words.{Form, form_of}
use Rattle.pch_lines.specs.Files.{files_of}
use Rattle.pch_shell.specs.Outcomes.{Outcome}
use Rattle.pch_shell.specs.Loading.{AreLoaded}
use Rattle.pch_shell.specs.Due.{FilesDue}
use Rattle.pch_shell.specs.Runs.{StoreState, SinkState, IsDecided, Completes, Runs}
use Rattle.pch_shell.specs.declared.status.Status.{Status}
use Rattle.outcome_laws.specs.Telling.{TellsOneThing, EndsAs}
use Rattle.outcome_laws.proofs.Deciding.{told_alike}

-- what decides a run is told as whatever is due for its files
decided_as : (form : Form) (files : List (List ℕ)) (o : Outcome) (old new : StoreState) (before after : SinkState) (status : Status)
    → TellsOneThing form → FilesDue form files o → IsDecided form files old new before after status → EndsAs o old new before after status
decided_as form files o old new before after status tells due (inl (p, other, is, put, saved)) =
    let same = told_alike form files p o tells other due in
    inl (is ∙ same.0, subst (λ (text : List ℕ). Appends before.held after.held text) same.1 put)
decided_as form files o old new before after status tells due (inr outside) = inr outside

-- a run over told files ends as is due for them
pub ends_as : (words : List (List ℕ)) (form : Form) (old new : StoreState) (before after : SinkState) (status : Status) (told : Files)
    (files : List (List ℕ)) (o : Outcome) → Runs words old new before after status → form_of words ≡ Some form → TellsOneThing form
    → old.files ≡ Some told → AreLoaded old.files (files_of form) files → FilesDue form files o
    → EndsAs o old new before after status
ends_as words form old new before after status told files o runs is_form tells is_told loaded due =
    let P : Option Form → Type 0 = λ f. Completes f old new before after status in
    decided_as form files o old new before after status tells due (subst P is_form runs.complete told files is_told loaded)
