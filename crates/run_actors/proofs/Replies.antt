-- Replies stay right where more entries come.
use Rattle.std.proofs.Common.{◌≡◌, ℕ, ◌-◌, List, take, None, Some, refl, sym, ap, subst, ◌∙◌}
use Rattle.net_defs.specs.Networks.{Network}
use Rattle.fabric_defs.specs.Geometries.{GeometryValue}
use Rattle.verify_defs.specs.Acceptance.{Accepts}
use Rattle.verify_defs.specs.Refusals.{FirstRefusal}
use Rattle.journal_defs.specs.Journals.{EntryValue, spec_at}
use Rattle.journal_defs.specs.Replies as journal
use Rattle.script_defs.specs.declared.command.Command.{Command}
use Rattle.script_defs.specs.declared.command.Command.TheVariants.{Agree, Deliver, Evict, Cycle, Sweep}
use Rattle.script_defs.specs.declared.line.EntryKind.{EntryKind}
use Rattle.script_defs.specs.declared.line.EntryKind.TheVariants.{Agreed, Installed, Evicted}
use Rattle.script_defs.specs.Transcripts.{ReplyValue, agreed, installed, evicted, full, unagreed, refused, stale, out, vacant, width, ones}
use Rattle.session_defs.specs.Files.{Contents, IsDelivery}
use Rattle.session_defs.specs.Points.{before, after}
use Rattle.session_defs.specs.Replies.{MeetsDeliver, MeetsCycle, MeetsSweep, Meets}
use Rattle.session_defs.specs.Transcripts.{made}
use Rattle.run_actors.specs.Steps.{MakesNone}

-- ---- which entries a reply speaks of

-- the same entries come first, up to both points of the reply
abbrev pub SameSoFar : List EntryValue → List EntryValue → ReplyValue → Type 0
SameSoFar h later r = (take (before r) h ≡ take (before r) later) × (take (after r) h ≡ take (after r) later)

-- a reply to a delivery speaks only of entries up to its points, so later ones don't touch it
meets-deliver : (g : GeometryValue) (limit : ℕ) (files : List Contents) (h later : List EntryValue) (slot file : ℕ)
    (r : ReplyValue) → SameSoFar h later r → MeetsDeliver g limit files h slot file r
    → MeetsDeliver g limit files later slot file r
meets-deliver g limit files h later slot file (agreed at) same m = m
meets-deliver g limit files h later slot file (installed at) same m =
    subst (λ p. (net : Network) × (bytes : List ℕ) × (spec_at p slot ≡ Some net) × IsDelivery files file bytes × Accepts g net bytes) same.0 m
meets-deliver g limit files h later slot file (evicted at) same m = m
meets-deliver g limit files h later slot file (full at) same m =
    (m.0, subst (λ p. (net : Network) × (bytes : List ℕ) × (spec_at p slot ≡ Some net) × IsDelivery files file bytes × Accepts g net bytes) same.1 m.1)
meets-deliver g limit files h later slot file (unagreed at) same m = subst (λ p. spec_at p slot ≡ None) same.1 m
meets-deliver g limit files h later slot file (refused why at) same m =
    subst (λ p. (net : Network) × (bytes : List ℕ) × (spec_at p slot ≡ Some net) × IsDelivery files file bytes × FirstRefusal g net bytes why) same.1 m
meets-deliver g limit files h later slot file (stale checked at) same m =
    subst (λ p. (net : Network) × (bytes : List ℕ) × (spec_at (take checked later) slot ≡ Some net) × IsDelivery files file bytes × Accepts g net bytes × (spec_at p slot ≡ Some net → ⊥)) same.1
    (subst (λ p. (net : Network) × (bytes : List ℕ) × (spec_at p slot ≡ Some net) × IsDelivery files file bytes × Accepts g net bytes × (spec_at (take at h) slot ≡ Some net → ⊥)) same.0 m)
meets-deliver g limit files h later slot file (out y bit at) same m = m
meets-deliver g limit files h later slot file (vacant at) same m = m
meets-deliver g limit files h later slot file (width want at) same m = m
meets-deliver g limit files h later slot file (ones counts outputs at) same m = m

-- the same of a cycle, which speaks of one point
meets-cycle : (h later : List EntryValue) (slot : ℕ) (bits : List ℕ) (probe : ℕ)
    (r : ReplyValue) → SameSoFar h later r → MeetsCycle h slot bits probe r → MeetsCycle later slot bits probe r
meets-cycle h later slot bits probe (agreed at) same m = m
meets-cycle h later slot bits probe (installed at) same m = m
meets-cycle h later slot bits probe (evicted at) same m = m
meets-cycle h later slot bits probe (full at) same m = m
meets-cycle h later slot bits probe (unagreed at) same m = m
meets-cycle h later slot bits probe (refused why at) same m = m
meets-cycle h later slot bits probe (stale checked at) same m = m
meets-cycle h later slot bits probe (out y bit at) same m =
    subst (λ p. journal.ReplyAt p (journal.cycle slot bits probe) (journal.out y bit) at) same.1 m
meets-cycle h later slot bits probe (vacant at) same m =
    subst (λ p. journal.ReplyAt p (journal.cycle slot bits probe) journal.vacant at) same.1 m
meets-cycle h later slot bits probe (width want at) same m =
    subst (λ p. journal.ReplyAt p (journal.cycle slot bits probe) (journal.width want) at) same.1 m
meets-cycle h later slot bits probe (ones counts outputs at) same m = m

-- the same of a sweep
meets-sweep : (h later : List EntryValue) (slot first count : ℕ) (r : ReplyValue) → SameSoFar h later r
    → MeetsSweep h slot first count r → MeetsSweep later slot first count r
meets-sweep h later slot first count (agreed at) same m = m
meets-sweep h later slot first count (installed at) same m = m
meets-sweep h later slot first count (evicted at) same m = m
meets-sweep h later slot first count (full at) same m = m
meets-sweep h later slot first count (unagreed at) same m = m
meets-sweep h later slot first count (refused why at) same m = m
meets-sweep h later slot first count (stale checked at) same m = m
meets-sweep h later slot first count (out y bit at) same m = m
meets-sweep h later slot first count (vacant at) same m =
    subst (λ p. journal.ReplyAt p (journal.sweep slot first count) journal.vacant at) same.1 m
meets-sweep h later slot first count (width want at) same m = m
meets-sweep h later slot first count (ones counts outputs at) same m =
    subst (λ p. journal.ReplyAt p (journal.sweep slot first count) (journal.ones counts outputs) at) same.1 m

-- a reply stays right
pub meets-later : (g : GeometryValue) (limit : ℕ) (files : List Contents) (h later : List EntryValue) (c : Command)
    (r : ReplyValue) → SameSoFar h later r → Meets g limit files h c r → Meets g limit files later c r
meets-later g limit files h later (Agree slot file) r same m = m
meets-later g limit files h later (Deliver slot file) r same m =
    meets-deliver g limit files h later slot file r same m
meets-later g limit files h later (Evict slot) r same m = m
meets-later g limit files h later (Cycle slot bits probe) r same m = meets-cycle h later slot bits probe r same m
meets-later g limit files h later (Sweep slot first count) r same m = meets-sweep h later slot first count r same m

-- ---- replies of commands that made an entry

-- the kind of the entry that a reply says was made
abbrev kind_in : ReplyValue → EntryKind
kind_in (agreed at) = Agreed
kind_in (installed at) = Installed
kind_in (evicted at) = Evicted
kind_in (full at) = Agreed
kind_in (unagreed at) = Agreed
kind_in (refused why at) = Agreed
kind_in (stale checked at) = Agreed
kind_in (out y bit at) = Agreed
kind_in (vacant at) = Agreed
kind_in (width want at) = Agreed
kind_in (ones counts outputs at) = Agreed

-- the kind can be read from a reply that tells of an entry
kind_in-made : (kind : EntryKind) (number : ℕ) → kind_in (made kind number) ≡ kind
kind_in-made Agreed number = refl
kind_in-made Installed number = refl
kind_in-made Evicted number = refl

-- such a reply stands behind its own entry
pub after-made : (kind : EntryKind) (number : ℕ) → after (made kind number) ≡ number
after-made Agreed number = refl
after-made Installed number = refl
after-made Evicted number = refl

-- and was decided before it
pub before-made : (kind : EntryKind) (number : ℕ) → before (made kind number) ≡ number - 1
before-made Agreed number = refl
before-made Installed number = refl
before-made Evicted number = refl

-- a reply says one kind
pub made-same_kind : (k l : EntryKind) (m n : ℕ) → made k m ≡ made l n → k ≡ l
made-same_kind k l m n same = sym (kind_in-made k m) ∙ ap kind_in same ∙ kind_in-made l n

-- and one number
pub made-same_number : (k l : EntryKind) (m n : ℕ) → made k m ≡ made l n → m ≡ n
made-same_number k l m n same = sym (after-made k m) ∙ ap after same ∙ after-made l n

-- each of the three kinds of entries is one
makes_some : (kind : EntryKind) (number : ℕ) → MakesNone (made kind number) → ⊥
makes_some Agreed number none = none
makes_some Installed number none = none
makes_some Evicted number none = none

-- a command that made no entry wasn't replied to have made one
pub makes_none : (r : ReplyValue) (kind : EntryKind) (number : ℕ) → MakesNone r → r ≡ made kind number → ⊥
makes_none r kind number none same = makes_some kind number (subst MakesNone same none)
