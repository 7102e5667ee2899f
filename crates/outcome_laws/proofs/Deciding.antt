-- The bytes of a command's files come to one status and one text.
use Rattle.std.proofs.Common.{◌≡◌, ℕ, List, [], ◌∷◌, ap}
use Rattle.pch_lines.specs.Words.{Form, check, verify, cnf, compact, place, produce, demo}
use Rattle.pch_shell.specs.Outcomes.{Outcome}
use Rattle.pch_shell.specs.Due.{OfOne, OfTwo, FilesDue}
use Rattle.outcome_laws.specs.Telling.{AreToldAlike, TellsOneThing, SavesOneThing}
use Rattle.outcome_laws.proofs.Checking.{check_one}
use Rattle.outcome_laws.proofs.Verifying.{verify_one}
use Rattle.outcome_laws.proofs.Delivering.{cnf_one}
use Rattle.outcome_laws.proofs.Compacting.{compact_one}
use Rattle.outcome_laws.proofs.Placing.{equal_alike, place_one}

-- what is due for one file is one thing where it is for its bytes
of_one-same : (files : List (List ℕ)) (P Q : List ℕ → Type 0) (R : Type 0) → OfOne files P → OfOne files Q
    → ((a : List ℕ) → P a → Q a → R) → R
of_one-same [] P Q R h k f = absurd h
of_one-same (a ∷ []) P Q R h k f = f a h k
of_one-same (a ∷ b ∷ rest) P Q R h k f = absurd h

-- and so it is for two files
of_two-same : (files : List (List ℕ)) (P Q : List ℕ → List ℕ → Type 0) (R : Type 0) → OfTwo files P → OfTwo files Q
    → ((a b : List ℕ) → P a b → Q a b → R) → R
of_two-same [] P Q R h k f = absurd h
of_two-same (a ∷ []) P Q R h k f = absurd h
of_two-same (a ∷ b ∷ []) P Q R h k f = f a b h k
of_two-same (a ∷ b ∷ c ∷ rest) P Q R h k f = absurd h

-- the bytes of the files come to one outcome, but for `place`, `produce` and `demo`
one_outcome : (form : Form) (files : List (List ℕ)) (o p : Outcome) → SavesOneThing form → FilesDue form files o → FilesDue form files p → o ≡ p
one_outcome (check cn tn) files o p saves h k = of_two-same files _ _ _ h k (λ a b due other. check_one cn tn a b o p due other)
one_outcome (verify sn bn g workers) files o p saves h k = of_two-same files _ _ _ h k (λ a b due other. verify_one sn g a b o p due other)
one_outcome (cnf sn bn) files o p saves h k = of_two-same files _ _ _ h k (λ a b due other. cnf_one sn bn a b o p due other)
one_outcome (compact bn out) files o p saves h k = of_one-same files _ _ _ h k (λ a due other. compact_one bn a o p due other)
one_outcome (place dn g out) files o p saves h k = absurd saves
one_outcome (produce sn dn g budget out) files o p saves h k = absurd saves
one_outcome (demo bits out) files o p saves h k = absurd saves

-- they come to one status and one text, but for `produce` and `demo`
pub told_alike : (form : Form) (files : List (List ℕ)) (o p : Outcome) → TellsOneThing form → FilesDue form files o → FilesDue form files p
    → AreToldAlike o p
told_alike (check cn tn) files o p tells h k = equal_alike o p (one_outcome (check cn tn) files o p tt h k)
told_alike (verify sn bn g workers) files o p tells h k = equal_alike o p (one_outcome (verify sn bn g workers) files o p tt h k)
told_alike (cnf sn bn) files o p tells h k = equal_alike o p (one_outcome (cnf sn bn) files o p tt h k)
told_alike (compact bn out) files o p tells h k = equal_alike o p (one_outcome (compact bn out) files o p tt h k)
told_alike (place dn g out) files o p tells h k = of_one-same files _ _ _ h k (λ a due other. place_one dn g a o p due other)
told_alike (produce sn dn g budget out) files o p tells h k = absurd tells
told_alike (demo bits out) files o p tells h k = absurd tells

-- and to one thing to save, but for `place`, `produce` and `demo`
pub saved_alike : (form : Form) (files : List (List ℕ)) (o p : Outcome) → SavesOneThing form → FilesDue form files o → FilesDue form files p
    → o.saved ≡ p.saved
saved_alike form files o p saves h k = ap (λ (x : Outcome). x.saved) (one_outcome form files o p saves h k)
