-- What the outcome that is due says of the files: which statuses a command comes to, and what each shows.
use Rattle.std.proofs.Common.{◌≡◌, inl, inr, ℕ, List, [], ◌∷◌, Option, Some, None, sym, ap, subst, codes, ◌∙◌}
use Rattle.net_defs.specs.Networks.{Network}
use Rattle.fabric_defs.specs.Geometries.{GeometryValue}
use Rattle.route_defs.specs.declared.demand.Demand.{Demand}
use Rattle.pch_io.specs.Outside.{Files, Saves}
use Rattle.pch_lines.specs.Words.{Form, check, verify, cnf, compact, place, produce, demo}
use Rattle.pch_lines.specs.Files.{out_of}
use Rattle.pch_lines.specs.RouteLines.{unroutable_line}
use Rattle.pch_lines.specs.ProduceLines.{differs_line, spent_line}
use Rattle.pch_shell.specs.Outcomes.{Outcome, differs, unroutable, spent_with}
use Rattle.pch_shell.specs.Check.{Refuted, CheckDue}
use Rattle.pch_shell.specs.Verify.{IsAccepted, VerifyDue}
use Rattle.pch_shell.specs.Cnf.{CnfDue}
use Rattle.pch_shell.specs.Compact.{CompactDue}
use Rattle.pch_shell.specs.Place.{IsUnroutable, PlaceDue}
use Rattle.pch_shell.specs.Produce.{IsDifference, NeedsMore, IsSpent, ToldOfEnd, ProduceDue}
use Rattle.pch_shell.specs.Demo.{EndsAsProduce, IsFabricFor, DemoDue}
use Rattle.pch_shell.proofs.ProduceLemmas.{ended_due}
use Rattle.produce.specs.declared.produce_end.ProduceEnd.{ProduceEnd}
use Rattle.produce.specs.declared.produce_end.ProduceEnd.TheVariants as ends
use Rattle.demo_texts.specs.Texts.{ripple_text, select_text}
use Rattle.demonstration.specs.declared.limits.TheConstants.{BUDGET}
use Rattle.pch_shell.specs.Due.{OfOne, OfTwo, FilesDue, Holds, Differ, NeedMore, Spend}
use Rattle.pch_shell.specs.Runs.{StoreState, AreSaved, HoldsOut}
use Rattle.pch_shell.specs.declared.status.Status.{Status}
use Rattle.pch_shell.specs.declared.status.Status.TheVariants.{Done, NotAccepted, Words, Store, Sink, Memory, Differs, Unroutable, Spent, BadInput}

-- equal outcomes have one status
pub status_of : (o p : Outcome) → o ≡ p → o.status ≡ p.status
status_of o p e = ap (λ (x : Outcome). x.status) e

-- an outcome that is this one has no other status
other_status : (o p : Outcome) (s : Status) → o ≡ p → (p.status ≡ s → ⊥) → o.status ≡ s → ⊥
other_status o p s e other is = other (sym (status_of o p e) ∙ is)

-- what is due for one file is due for that file
of_one : (files : List (List ℕ)) (P : List ℕ → Type 0) (Q : Type 0) → OfOne files P → ((a : List ℕ) → P a → Q) → Q
of_one [] P Q h k = absurd h
of_one (a ∷ []) P Q h k = k a h
of_one (a ∷ b ∷ rest) P Q h k = absurd h

-- what is due for two files is due for those two
of_two : (files : List (List ℕ)) (P : List ℕ → List ℕ → Type 0) (Q : Type 0) → OfTwo files P
    → ((a b : List ℕ) → P a b → Q) → Q
of_two [] P Q h k = absurd h
of_two (a ∷ []) P Q h k = absurd h
of_two (a ∷ b ∷ []) P Q h k = k a b h
of_two (a ∷ b ∷ c ∷ rest) P Q h k = absurd h

-- what is due for two files may be replaced by what follows from it
map_two : (files : List (List ℕ)) (P Q : List ℕ → List ℕ → Type 0) → OfTwo files P
    → ((a b : List ℕ) → P a b → Q a b) → OfTwo files Q
map_two [] P Q h k = absurd h
map_two (a ∷ []) P Q h k = absurd h
map_two (a ∷ b ∷ []) P Q h k = k a b h
map_two (a ∷ b ∷ c ∷ rest) P Q h k = absurd h

-- ---- the statuses that each command comes to

-- what is said of the statuses of `check` is said of what it comes to
check_status : (P : Status → Type 0) → P Done → P NotAccepted → P BadInput → (cn tn formula trace : List ℕ) (o : Outcome)
    → CheckDue cn tn formula trace o → P o.status
check_status P d n b cn tn formula trace o (inl h) = subst P (sym (status_of o _ h.1)) d
check_status P d n b cn tn formula trace o (inr (inl h)) = subst P (sym (status_of o _ h.2)) n
check_status P d n b cn tn formula trace o (inr (inr (inl h))) = subst P (sym (status_of o _ h.2)) b
check_status P d n b cn tn formula trace o (inr (inr (inr h))) = subst P (sym (status_of o _ h.2)) b

-- of those of `verify`
verify_status : (P : Status → Type 0) → P Done → P NotAccepted → P BadInput → (sn : List ℕ) (g : GeometryValue) (spec bundle : List ℕ) (o : Outcome)
    → VerifyDue sn g spec bundle o → P o.status
verify_status P d n b sn g spec bundle o (inl h) = subst P (sym (status_of o _ h.1)) d
verify_status P d n b sn g spec bundle o (inr (inl h)) = subst P (sym (status_of o _ h.2)) n
verify_status P d n b sn g spec bundle o (inr (inr h)) = subst P (sym (status_of o _ h.2)) b

-- of those of `cnf`
cnf_status : (P : Status → Type 0) → P Done → P BadInput → (sn bn spec bundle : List ℕ) (o : Outcome) → CnfDue sn bn spec bundle o → P o.status
cnf_status P d b sn bn spec bundle o (inl h) = subst P (sym (status_of o _ h.2)) d
cnf_status P d b sn bn spec bundle o (inr (inl h)) = subst P (sym (status_of o _ h.2)) b
cnf_status P d b sn bn spec bundle o (inr (inr h)) = subst P (sym (status_of o _ h.2)) b

-- of those of `compact`
compact_status : (P : Status → Type 0) → P Done → P BadInput → (name bytes : List ℕ) (o : Outcome) → CompactDue name bytes o → P o.status
compact_status P d b name bytes o (inl h) = subst P (sym (status_of o _ h.2)) d
compact_status P d b name bytes o (inr (inl h)) = subst P (sym (status_of o _ h.2)) b
compact_status P d b name bytes o (inr (inr (inl h))) = subst P (sym (status_of o _ h.2)) b
compact_status P d b name bytes o (inr (inr (inr h))) = subst P (sym (status_of o _ h.2)) b

-- of those of `place`
place_status : (P : Status → Type 0) → P Done → P Unroutable → P BadInput → (name : List ℕ) (g : GeometryValue) (design : List ℕ) (o : Outcome)
    → PlaceDue name g design o → P o.status
place_status P d u b name g design o (inl h) = subst P (sym (status_of o _ h.2)) d
place_status P d u b name g design o (inr (inl h)) = subst P (sym (status_of o _ h.2)) u
place_status P d u b name g design o (inr (inr h)) = subst P (sym (status_of o _ h.2)) b

-- of those of `produce`
produce_status : (P : Status → Type 0) → P Done → P Differs → P Unroutable → P Spent → P BadInput
    → (sn dn : List ℕ) (g : GeometryValue) (budget : ℕ) (spec design : List ℕ) (o : Outcome)
    → ProduceDue sn dn g budget spec design o → P o.status
produce_status P d x u s b sn dn g budget spec design o (inl h) = subst P (sym (status_of o _ h.2)) d
produce_status P d x u s b sn dn g budget spec design o (inr (inl h)) = subst P (sym (status_of o _ h.4)) x
produce_status P d x u s b sn dn g budget spec design o (inr (inr (inl h))) = subst P (sym (status_of o _ h.2)) u
produce_status P d x u s b sn dn g budget spec design o (inr (inr (inr (inl h)))) = subst P (sym (status_of o _ h.4)) s
produce_status P d x u s b sn dn g budget spec design o (inr (inr (inr (inr (inl h))))) = subst P (sym (status_of o _ h.2)) b
produce_status P d x u s b sn dn g budget spec design o (inr (inr (inr (inr (inr (inl h)))))) = subst P (sym (status_of o _ h.2)) b
produce_status P d x u s b sn dn g budget spec design o (inr (inr (inr (inr (inr (inr h)))))) = subst P (sym (status_of o _ h.2)) b

-- where nothing is produced from both adders, `produce` of their texts comes to the same
as_produced : (bits : ℕ) (o : Outcome) (e : EndsAsProduce bits o)
    → ProduceDue (codes "ripple") (codes "select") e.g BUDGET (ripple_text bits) (select_text bits) o
as_produced bits o e =
    ended_due (codes "ripple") (codes "select") e.g BUDGET (ripple_text bits) (select_text bits) e.wanted e.given e.end o
    (record { specified = e.adders.specified; designed = e.adders.designed }) e.ends e.told

-- on the fabric that is the least one for the second adder
fabric_for : (bits : ℕ) (o : Outcome) (e : EndsAsProduce bits o) → IsFabricFor bits e.g
fabric_for bits o e = (e.given, e.adders.designed, e.adders.least)

-- of those of `demo`
demo_status : (P : Status → Type 0) → P Done → P Differs → P Unroutable → P Spent → P BadInput → (bits : ℕ) (o : Outcome)
    → DemoDue bits o → P o.status
demo_status P d x u s b bits o (inl h) = subst P (sym (status_of o _ h.3)) d
demo_status P d x u s b bits o (inr (inl e)) = produce_status P d x u s b (codes "ripple") (codes "select") _ _ _ _ o (as_produced bits o e)
demo_status P d x u s b bits o (inr (inr (inl h))) = subst P (sym (status_of o _ h.2)) b
demo_status P d x u s b bits o (inr (inr (inr h))) = subst P (sym (status_of o _ h.2)) b

-- a status that the work of a command comes to; the others come of its words, of the outside and of want of memory
abbrev pub IsOfWork : Status → Type 0
IsOfWork Done = Unit {0}
IsOfWork NotAccepted = Unit {0}
IsOfWork Words = ⊥
IsOfWork Store = ⊥
IsOfWork Sink = ⊥
IsOfWork Memory = ⊥
IsOfWork Differs = Unit {0}
IsOfWork Unroutable = Unit {0}
IsOfWork Spent = Unit {0}
IsOfWork BadInput = Unit {0}

-- what a command comes to for the bytes of its files is of its work
pub due_work : (form : Form) (files : List (List ℕ)) (o : Outcome) → FilesDue form files o → IsOfWork o.status
due_work (check cn tn) files o h = of_two files _ _ h (λ a b due. check_status IsOfWork tt tt tt cn tn a b o due)
due_work (verify sn bn g workers) files o h = of_two files _ _ h (λ a b due. verify_status IsOfWork tt tt tt sn g a b o due)
due_work (cnf sn bn) files o h = of_two files _ _ h (λ a b due. cnf_status IsOfWork tt tt sn bn a b o due)
due_work (compact bn out) files o h = of_one files _ _ h (λ a due. compact_status IsOfWork tt tt bn a o due)
due_work (place dn g out) files o h = of_one files _ _ h (λ a due. place_status IsOfWork tt tt tt dn g a o due)
due_work (produce sn dn g budget out) files o h =
    of_two files _ _ h (λ a b due. produce_status IsOfWork tt tt tt tt tt sn dn g budget a b o due)
due_work (demo bits out) files o h = demo_status IsOfWork tt tt tt tt tt bits o h

-- ---- what status 0 shows

-- where `check` is done, the trace refutes the formula
check_shows : (cn tn formula trace : List ℕ) (o : Outcome) → o.status ≡ Done → CheckDue cn tn formula trace o
    → Refuted formula trace
check_shows cn tn formula trace o done (inl h) = h.0
check_shows cn tn formula trace o done (inr (inl h)) = absurd (other_status o _ Done h.2 (λ e. cc) done)
check_shows cn tn formula trace o done (inr (inr (inl h))) = absurd (other_status o _ Done h.2 (λ e. cc) done)
check_shows cn tn formula trace o done (inr (inr (inr h))) = absurd (other_status o _ Done h.2 (λ e. cc) done)

-- where `verify` is done, the bundle is accepted
verify_shows : (sn : List ℕ) (g : GeometryValue) (spec bundle : List ℕ) (o : Outcome) → o.status ≡ Done → VerifyDue sn g spec bundle o
    → IsAccepted g spec bundle
verify_shows sn g spec bundle o done (inl h) = h.0
verify_shows sn g spec bundle o done (inr (inl h)) = absurd (other_status o _ Done h.2 (λ e. cc) done)
verify_shows sn g spec bundle o done (inr (inr h)) = absurd (other_status o _ Done h.2 (λ e. cc) done)

-- the saved file has the bytes that were saved
holds_saved : (old new : Option Files) (name bytes : List ℕ) → Saves old new name bytes → HoldsOut (Some name) new bytes
holds_saved None None name bytes h = tt
holds_saved None (Some f) name bytes h = absurd h
holds_saved (Some f) None name bytes h = absurd h
holds_saved (Some f) (Some k) name bytes h = h.0

-- some bytes are in the file that the command saves, and what status 0 shows holds of them
abbrev ShowsSaved : Form → List (List ℕ) → Option Files → Type 0
ShowsSaved form files new = (saved : List ℕ) × HoldsOut (out_of form) new saved × Holds form files saved

-- where the bytes of an outcome are saved, the file has them
saved_as : (o : Outcome) (bytes out : List ℕ) (old new : StoreState) → o.saved ≡ Some bytes → AreSaved (Some out) o.saved old new
    → HoldsOut (Some out) new.files bytes
saved_as o bytes out old new is saved =
    let named : AreSaved (Some out) (Some bytes) old new = subst (λ (x : Option (List ℕ)). AreSaved (Some out) x old new) is saved in
    holds_saved old.files new.files out bytes named.0

-- an outcome saves what an equal one saves
pub saved_of : (o p : Outcome) → o ≡ p → o.saved ≡ p.saved
saved_of o p e = ap (λ (x : Outcome). x.saved) e

-- and has its text
pub text_of : (o p : Outcome) → o ≡ p → o.text ≡ p.text
text_of o p e = ap (λ (x : Outcome). x.text) e

-- where `compact` is done, the file has the compacted bundle
compact_shows : (name bytes out : List ℕ) (o : Outcome) (old new : StoreState) → o.status ≡ Done → CompactDue name bytes o
    → AreSaved (Some out) o.saved old new → ShowsSaved (compact name out) (bytes ∷ []) new.files
compact_shows name bytes out o old new done (inl (short, is, due)) saved =
    (short, saved_as o short out old new (saved_of o _ due) saved, is)
compact_shows name bytes out o old new done (inr (inl h)) saved = absurd (other_status o _ Done h.2 (λ e. cc) done)
compact_shows name bytes out o old new done (inr (inr (inl h))) saved = absurd (other_status o _ Done h.2 (λ e. cc) done)
compact_shows name bytes out o old new done (inr (inr (inr h))) saved = absurd (other_status o _ Done h.2 (λ e. cc) done)

-- where `place` is done, the file has a configuration that places the design
place_shows : (name : List ℕ) (g : GeometryValue) (design out : List ℕ) (o : Outcome) (old new : StoreState) → o.status ≡ Done
    → PlaceDue name g design o → AreSaved (Some out) o.saved old new → ShowsSaved (place name g out) (design ∷ []) new.files
place_shows name g design out o old new done (inl (bytes, is, due)) saved =
    (bytes, saved_as o bytes out old new (saved_of o _ due) saved, is)
place_shows name g design out o old new done (inr (inl h)) saved = absurd (other_status o _ Done h.2 (λ e. cc) done)
place_shows name g design out o old new done (inr (inr h)) saved = absurd (other_status o _ Done h.2 (λ e. cc) done)

-- where `produce` is done, the bytes are a bundle that is accepted
produce_shows : (sn dn : List ℕ) (g : GeometryValue) (budget : ℕ) (spec design out : List ℕ) (o : Outcome) (old new : StoreState)
    → o.status ≡ Done → ProduceDue sn dn g budget spec design o → AreSaved (Some out) o.saved old new
    → ShowsSaved (produce sn dn g budget out) (spec ∷ design ∷ []) new.files
produce_shows sn dn g budget spec design out o old new done (inl (bytes, is, due)) saved =
    (bytes, saved_as o bytes out old new (saved_of o _ due) saved, is)
produce_shows sn dn g budget spec design out o old new done (inr (inl h)) saved = absurd (other_status o _ Done h.4 (λ e. cc) done)
produce_shows sn dn g budget spec design out o old new done (inr (inr (inl h))) saved = absurd (other_status o _ Done h.2 (λ e. cc) done)
produce_shows sn dn g budget spec design out o old new done (inr (inr (inr (inl h)))) saved = absurd (other_status o _ Done h.4 (λ e. cc) done)
produce_shows sn dn g budget spec design out o old new done (inr (inr (inr (inr (inl h))))) saved =
    absurd (other_status o _ Done h.2 (λ e. cc) done)
produce_shows sn dn g budget spec design out o old new done (inr (inr (inr (inr (inr (inl h)))))) saved =
    absurd (other_status o _ Done h.2 (λ e. cc) done)
produce_shows sn dn g budget spec design out o old new done (inr (inr (inr (inr (inr (inr h)))))) saved =
    absurd (other_status o _ Done h.2 (λ e. cc) done)

-- where nothing was produced, something else is told than that it is done
told_other : (wanted given : Network) (end : ProduceEnd) (o : Outcome) → ToldOfEnd wanted given end o → o.status ≡ Done → ⊥
told_other wanted given (ends.Interface error) o is = other_status o _ Done is (λ e. cc)
told_other wanted given (ends.Unroutable resource which need have) o is = other_status o _ Done is (λ e. cc)
told_other wanted given (ends.Differs x) o (y, z, differ, is) = other_status o _ Done is (λ e. cc)
told_other wanted given (ends.Spent used need log) o (bytes, reads, is) = other_status o _ Done is (λ e. cc)
told_other wanted given ends.NoMemory o is = absurd is

-- where `demo` is done, the bytes are a bundle that is accepted, and the ones are those of its outputs
demo_shows : (bits : ℕ) (out : List ℕ) (files : List (List ℕ)) (o : Outcome) (old new : StoreState) → o.status ≡ Done → DemoDue bits o
    → AreSaved (Some out) o.saved old new → ShowsSaved (demo bits out) files new.files
demo_shows bits out files o old new done (inl (bytes, ones, is, due)) saved =
    (bytes, saved_as o bytes out old new (saved_of o _ due) saved, (ones, is))
demo_shows bits out files o old new done (inr (inl e)) saved = absurd (told_other e.wanted e.given e.end o e.told done)
demo_shows bits out files o old new done (inr (inr (inl h))) saved = absurd (other_status o _ Done h.2 (λ e. cc) done)
demo_shows bits out files o old new done (inr (inr (inr h))) saved = absurd (other_status o _ Done h.2 (λ e. cc) done)

-- where a command is done, what status 0 shows holds of what is saved
pub done_shows : (form : Form) (files : List (List ℕ)) (o : Outcome) (old new : StoreState) → o.status ≡ Done → FilesDue form files o
    → AreSaved (out_of form) o.saved old new → ShowsSaved form files new.files
done_shows (check cn tn) files o old new done h saved =
    ([], tt, map_two files _ _ h (λ a b due. check_shows cn tn a b o done due))
done_shows (verify sn bn g workers) files o old new done h saved =
    ([], tt, map_two files _ _ h (λ a b due. verify_shows sn g a b o done due))
done_shows (cnf sn bn) files o old new done h saved = (
  [],
  tt,
  map_two files _ _ h (λ a b due. elim due [
    | inl m ↦ (m.0, m.1)
    | inr (inl e) ↦ absurd (other_status o _ Done e.2 (λ q. cc) done)
    | inr (inr e) ↦ absurd (other_status o _ Done e.2 (λ q. cc) done)
  ]),
)
done_shows (compact bn out) [] o old new done h saved = absurd h
done_shows (compact bn out) (bytes ∷ []) o old new done h saved = compact_shows bn bytes out o old new done h saved
done_shows (compact bn out) (bytes ∷ b ∷ rest) o old new done h saved = absurd h
done_shows (place dn g out) [] o old new done h saved = absurd h
done_shows (place dn g out) (design ∷ []) o old new done h saved = place_shows dn g design out o old new done h saved
done_shows (place dn g out) (design ∷ b ∷ rest) o old new done h saved = absurd h
done_shows (produce sn dn g budget out) [] o old new done h saved = absurd h
done_shows (produce sn dn g budget out) (spec ∷ []) o old new done h saved = absurd h
done_shows (produce sn dn g budget out) (spec ∷ design ∷ []) o old new done h saved =
    produce_shows sn dn g budget spec design out o old new done h saved
done_shows (produce sn dn g budget out) (spec ∷ design ∷ more ∷ rest) o old new done h saved = absurd h
done_shows (demo bits out) files o old new done h saved = demo_shows bits out files o old new done h saved

-- ---- what the statuses 6, 7 and 8 show

-- where `produce` tells a difference, it is there
produce_differs : (sn dn : List ℕ) (g : GeometryValue) (budget : ℕ) (spec design : List ℕ) (o : Outcome) → o.status ≡ Differs
    → ProduceDue sn dn g budget spec design o
    → (x : List ℕ) × (y : List ℕ) × (z : List ℕ) × IsDifference spec design x y z × (o ≡ differs (differs_line x y z))
produce_differs sn dn g budget spec design o is (inl h) = absurd (other_status o _ Differs h.2 (λ e. cc) is)
produce_differs sn dn g budget spec design o is (inr (inl h)) = h
produce_differs sn dn g budget spec design o is (inr (inr (inl h))) = absurd (other_status o _ Differs h.2 (λ e. cc) is)
produce_differs sn dn g budget spec design o is (inr (inr (inr (inl h)))) = absurd (other_status o _ Differs h.4 (λ e. cc) is)
produce_differs sn dn g budget spec design o is (inr (inr (inr (inr (inl h))))) = absurd (other_status o _ Differs h.2 (λ e. cc) is)
produce_differs sn dn g budget spec design o is (inr (inr (inr (inr (inr (inl h)))))) = absurd (other_status o _ Differs h.2 (λ e. cc) is)
produce_differs sn dn g budget spec design o is (inr (inr (inr (inr (inr (inr h)))))) = absurd (other_status o _ Differs h.2 (λ e. cc) is)

-- where it tells that a resource is wanting, it is
produce_over : (sn dn : List ℕ) (g : GeometryValue) (budget : ℕ) (spec design : List ℕ) (o : Outcome) → o.status ≡ Unroutable
    → ProduceDue sn dn g budget spec design o → (over : Demand) × NeedsMore g spec design over × (o ≡ unroutable (unroutable_line over))
produce_over sn dn g budget spec design o is (inl h) = absurd (other_status o _ Unroutable h.2 (λ e. cc) is)
produce_over sn dn g budget spec design o is (inr (inl h)) = absurd (other_status o _ Unroutable h.4 (λ e. cc) is)
produce_over sn dn g budget spec design o is (inr (inr (inl h))) = h
produce_over sn dn g budget spec design o is (inr (inr (inr (inl h)))) = absurd (other_status o _ Unroutable h.4 (λ e. cc) is)
produce_over sn dn g budget spec design o is (inr (inr (inr (inr (inl h))))) = absurd (other_status o _ Unroutable h.2 (λ e. cc) is)
produce_over sn dn g budget spec design o is (inr (inr (inr (inr (inr (inl h)))))) = absurd (other_status o _ Unroutable h.2 (λ e. cc) is)
produce_over sn dn g budget spec design o is (inr (inr (inr (inr (inr (inr h)))))) = absurd (other_status o _ Unroutable h.2 (λ e. cc) is)

-- so is where `place` tells it
place_over : (name : List ℕ) (g : GeometryValue) (design : List ℕ) (o : Outcome) → o.status ≡ Unroutable → PlaceDue name g design o
    → (over : Demand) × IsUnroutable g design over × (o ≡ unroutable (unroutable_line over))
place_over name g design o is (inl h) = absurd (other_status o _ Unroutable h.2 (λ e. cc) is)
place_over name g design o is (inr (inl h)) = h
place_over name g design o is (inr (inr h)) = absurd (other_status o _ Unroutable h.2 (λ e. cc) is)

-- where `produce` tells that its budget is spent, it is
produce_spent : (sn dn : List ℕ) (g : GeometryValue) (budget : ℕ) (spec design : List ℕ) (o : Outcome) → o.status ≡ Spent
    → ProduceDue sn dn g budget spec design o
    → (used : ℕ) × (need : ℕ) × (bytes : List ℕ) × IsSpent g budget spec design used need bytes
    × (o ≡ spent_with bytes (spent_line used need))
produce_spent sn dn g budget spec design o is (inl h) = absurd (other_status o _ Spent h.2 (λ e. cc) is)
produce_spent sn dn g budget spec design o is (inr (inl h)) = absurd (other_status o _ Spent h.4 (λ e. cc) is)
produce_spent sn dn g budget spec design o is (inr (inr (inl h))) = absurd (other_status o _ Spent h.2 (λ e. cc) is)
produce_spent sn dn g budget spec design o is (inr (inr (inr (inl h)))) = h
produce_spent sn dn g budget spec design o is (inr (inr (inr (inr (inl h))))) = absurd (other_status o _ Spent h.2 (λ e. cc) is)
produce_spent sn dn g budget spec design o is (inr (inr (inr (inr (inr (inl h)))))) = absurd (other_status o _ Spent h.2 (λ e. cc) is)
produce_spent sn dn g budget spec design o is (inr (inr (inr (inr (inr (inr h)))))) = absurd (other_status o _ Spent h.2 (λ e. cc) is)

-- where `demo` tells a difference, it is there
demo_differs : (bits : ℕ) (o : Outcome) → o.status ≡ Differs → DemoDue bits o
    → (x : List ℕ) × (y : List ℕ) × (z : List ℕ) × IsDifference (ripple_text bits) (select_text bits) x y z
    × (o ≡ differs (differs_line x y z))
demo_differs bits o is (inl h) = absurd (other_status o _ Differs h.3 (λ e. cc) is)
demo_differs bits o is (inr (inl e)) = produce_differs (codes "ripple") (codes "select") _ _ _ _ o is (as_produced bits o e)
demo_differs bits o is (inr (inr (inl h))) = absurd (other_status o _ Differs h.2 (λ e. cc) is)
demo_differs bits o is (inr (inr (inr h))) = absurd (other_status o _ Differs h.2 (λ e. cc) is)

-- where it tells that a resource is wanting, it is
demo_over : (bits : ℕ) (o : Outcome) → o.status ≡ Unroutable → DemoDue bits o
    → (g : GeometryValue) × IsFabricFor bits g × (over : Demand) × NeedsMore g (ripple_text bits) (select_text bits) over
    × (o ≡ unroutable (unroutable_line over))
demo_over bits o is (inl h) = absurd (other_status o _ Unroutable h.3 (λ e. cc) is)
demo_over bits o is (inr (inl e)) =
    let found = produce_over (codes "ripple") (codes "select") _ _ _ _ o is (as_produced bits o e) in
    (e.g, fabric_for bits o e, found.0, found.1, found.2)
demo_over bits o is (inr (inr (inl h))) = absurd (other_status o _ Unroutable h.2 (λ e. cc) is)
demo_over bits o is (inr (inr (inr h))) = absurd (other_status o _ Unroutable h.2 (λ e. cc) is)

-- where it tells that its budget is spent, it is
demo_spent : (bits : ℕ) (o : Outcome) → o.status ≡ Spent → DemoDue bits o
    → (g : GeometryValue) × IsFabricFor bits g × (used : ℕ) × (need : ℕ) × (bytes : List ℕ)
    × IsSpent g BUDGET (ripple_text bits) (select_text bits) used need bytes × (o ≡ spent_with bytes (spent_line used need))
demo_spent bits o is (inl h) = absurd (other_status o _ Spent h.3 (λ e. cc) is)
demo_spent bits o is (inr (inl e)) =
    let found = produce_spent (codes "ripple") (codes "select") _ _ _ _ o is (as_produced bits o e) in
    (e.g, fabric_for bits o e, found.0, found.1, found.2, found.3, found.4)
demo_spent bits o is (inr (inr (inl h))) = absurd (other_status o _ Spent h.2 (λ e. cc) is)
demo_spent bits o is (inr (inr (inr h))) = absurd (other_status o _ Spent h.2 (λ e. cc) is)

-- what status 6 shows holds of what is due with it, and nothing is saved
pub due_differ : (form : Form) (files : List (List ℕ)) (o : Outcome) → o.status ≡ Differs → FilesDue form files o
    → Differ form files o.text × (o.saved ≡ None)
due_differ (check cn tn) files o is h =
    absurd (of_two files _ _ h (λ a b due. check_status (λ s. s ≡ Differs → ⊥) (λ e. cc) (λ e. cc) (λ e. cc) cn tn a b o due is))
due_differ (verify sn bn g workers) files o is h =
    absurd (of_two files _ _ h (λ a b due. verify_status (λ s. s ≡ Differs → ⊥) (λ e. cc) (λ e. cc) (λ e. cc) sn g a b o due is))
due_differ (cnf sn bn) files o is h =
    absurd (of_two files _ _ h (λ a b due. cnf_status (λ s. s ≡ Differs → ⊥) (λ e. cc) (λ e. cc) sn bn a b o due is))
due_differ (compact bn out) files o is h =
    absurd (of_one files _ _ h (λ a due. compact_status (λ s. s ≡ Differs → ⊥) (λ e. cc) (λ e. cc) bn a o due is))
due_differ (place dn g out) files o is h =
    absurd (of_one files _ _ h (λ a due. place_status (λ s. s ≡ Differs → ⊥) (λ e. cc) (λ e. cc) (λ e. cc) dn g a o due is))
due_differ (produce sn dn g budget out) files o is h = (
  map_two files _ _ h (λ a b due. let found = produce_differs sn dn g budget a b o is due in
      (found.0, found.1, found.2, found.3, text_of o _ found.4)),
  of_two files _ _ h (λ a b due. let found = produce_differs sn dn g budget a b o is due in saved_of o _ found.4),
)
due_differ (demo bits out) files o is h =
    let found = demo_differs bits o is h in
    ((found.0, found.1, found.2, found.3, text_of o _ found.4), saved_of o _ found.4)

-- what status 7 shows holds of what is due with it, and nothing is saved
pub due_over : (form : Form) (files : List (List ℕ)) (o : Outcome) → o.status ≡ Unroutable → FilesDue form files o
    → NeedMore form files o.text × (o.saved ≡ None)
due_over (check cn tn) files o is h =
    absurd (of_two files _ _ h (λ a b due. check_status (λ s. s ≡ Unroutable → ⊥) (λ e. cc) (λ e. cc) (λ e. cc) cn tn a b o due is))
due_over (verify sn bn g workers) files o is h =
    absurd (of_two files _ _ h (λ a b due. verify_status (λ s. s ≡ Unroutable → ⊥) (λ e. cc) (λ e. cc) (λ e. cc) sn g a b o due is))
due_over (cnf sn bn) files o is h =
    absurd (of_two files _ _ h (λ a b due. cnf_status (λ s. s ≡ Unroutable → ⊥) (λ e. cc) (λ e. cc) sn bn a b o due is))
due_over (compact bn out) files o is h =
    absurd (of_one files _ _ h (λ a due. compact_status (λ s. s ≡ Unroutable → ⊥) (λ e. cc) (λ e. cc) bn a o due is))
due_over (place dn g out) [] o is h = absurd h
due_over (place dn g out) (design ∷ []) o is h =
    let found = place_over dn g design o is h in ((found.0, found.1, text_of o _ found.2), saved_of o _ found.2)
due_over (place dn g out) (design ∷ b ∷ rest) o is h = absurd h
due_over (produce sn dn g budget out) files o is h = (
  map_two files _ _ h (λ a b due. let found = produce_over sn dn g budget a b o is due in (found.0, found.1, text_of o _ found.2)),
  of_two files _ _ h (λ a b due. let found = produce_over sn dn g budget a b o is due in saved_of o _ found.2),
)
due_over (demo bits out) files o is h =
    let found = demo_over bits o is h in
    ((found.0, found.1, found.2, found.3, text_of o _ found.4), saved_of o _ found.4)

-- what status 8 shows holds of what is due with it, and the file has the log
pub due_spent : (form : Form) (files : List (List ℕ)) (o : Outcome) (old new : StoreState) → o.status ≡ Spent → FilesDue form files o
    → AreSaved (out_of form) o.saved old new → (saved : List ℕ) × HoldsOut (out_of form) new.files saved × Spend form files saved o.text
due_spent (check cn tn) files o old new is h kept =
    absurd (of_two files _ _ h (λ a b due. check_status (λ s. s ≡ Spent → ⊥) (λ e. cc) (λ e. cc) (λ e. cc) cn tn a b o due is))
due_spent (verify sn bn g workers) files o old new is h kept =
    absurd (of_two files _ _ h (λ a b due. verify_status (λ s. s ≡ Spent → ⊥) (λ e. cc) (λ e. cc) (λ e. cc) sn g a b o due is))
due_spent (cnf sn bn) files o old new is h kept =
    absurd (of_two files _ _ h (λ a b due. cnf_status (λ s. s ≡ Spent → ⊥) (λ e. cc) (λ e. cc) sn bn a b o due is))
due_spent (compact bn out) files o old new is h kept =
    absurd (of_one files _ _ h (λ a due. compact_status (λ s. s ≡ Spent → ⊥) (λ e. cc) (λ e. cc) bn a o due is))
due_spent (place dn g out) files o old new is h kept =
    absurd (of_one files _ _ h (λ a due. place_status (λ s. s ≡ Spent → ⊥) (λ e. cc) (λ e. cc) (λ e. cc) dn g a o due is))
due_spent (produce sn dn g budget out) [] o old new is h kept = absurd h
due_spent (produce sn dn g budget out) (spec ∷ []) o old new is h kept = absurd h
due_spent (produce sn dn g budget out) (spec ∷ design ∷ []) o old new is h kept =
    let found = produce_spent sn dn g budget spec design o is h in (
      found.2,
      saved_as o found.2 out old new (saved_of o _ found.4) kept,
      (found.0, found.1, found.3, text_of o _ found.4),
    )
due_spent (produce sn dn g budget out) (spec ∷ design ∷ more ∷ rest) o old new is h kept = absurd h
due_spent (demo bits out) files o old new is h kept =
    let found = demo_spent bits o is h in (
      found.4,
      saved_as o found.4 out old new (saved_of o _ found.6) kept,
      (found.0, found.1, found.2, found.3, found.5, text_of o _ found.6),
    )
