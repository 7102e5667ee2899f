-- Lists that are appended one after another.
use Rattle.std.proofs.Common.{◌≡◌, ℕ, ◌+◌, List, ◌++◌, ap, sym, ◌∙◌}
use Rattle.std.proofs.lemmas.List.{append_assoc}
use Rattle.fabric_defs.specs.Numbered.{joined}
use Rattle.fabric_laws.proofs.NumberedLemmas.{joined-more}

-- after n lists the next one is appended
pub appends_next : {X : Type 0} (n : ℕ) (f : ℕ → List X) (old before now : List X)
    → before ≡ old ++ joined n f → now ≡ before ++ f n → now ≡ old ++ joined (n + 1) f
appends_next n f old before now h added =
    added ∙ ap (λ l. l ++ f n) h ∙ append_assoc old (joined n f) (f n) ∙ ap (λ l. old ++ l) (sym (joined-more n f))
