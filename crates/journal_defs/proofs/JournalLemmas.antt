-- What one more entry changes.
use Rattle.std.proofs.Common.{◌≡◌, ◌≢◌, ℕ, suc, ◌+◌, Bool, true, false, cond, ◌&&◌, List, [], ◌∷◌, ◌++◌, length, filter, Option, None, Some, inl, inr, refl, ap, ◌∙◌, eq-eqb, eqb-true, add-one, arith}
use Rattle.std.specs.List.{last_or}
use Rattle.std.proofs.lemmas.Bool.{cases_Bool}
use Rattle.std.proofs.lemmas.List.{append-nil}
use Rattle.std.proofs.lemmas.List.Elements.{filter-append}
use Rattle.journal_defs.specs.Journals.{Change, agreed, installed, evicted, EntryValue, network_in, config_in, is_agreement, is_of, is_agreement_of, last_passing, number_with, last_number, network_of, config_of, spec_at, config_at, agreement_at, spec_after, agreement_after}

-- ---- one more element

-- the last element of a longer list is the new one
last_or-snoc : {X : Type 0} (o : Option X) (xs : List X) (x : X) → last_or o (xs ++ x ∷ []) ≡ Some x
last_or-snoc o [] x = refl
last_or-snoc o (y ∷ ys) x = last_or-snoc (Some y) ys x

-- one that passes is the last one
last_passing-here : {X : Type 0} (p : X → Bool) (xs : List X) (x : X) → p x ≡ true
    → last_passing p (xs ++ x ∷ []) ≡ Some x
last_passing-here p xs x passes =
    ap (last_or None) (filter-append p xs (x ∷ []) ∙ ap (λ b. filter p xs ++ cond b (x ∷ []) []) passes)
    ∙ last_or-snoc None (filter p xs) x

-- one that doesn't pass changes nothing
last_passing-other : {X : Type 0} (p : X → Bool) (xs : List X) (x : X) → p x ≡ false
    → last_passing p (xs ++ x ∷ []) ≡ last_passing p xs
last_passing-other p xs x fails =
    ap (last_or None)
    (filter-append p xs (x ∷ []) ∙ ap (λ b. filter p xs ++ cond b (x ∷ []) []) fails ∙ append-nil (filter p xs))

-- one that passes at the end has the number of the last place
last_number-here : {X : Type 0} (p : X → Bool) (xs : List X) (x : X) → p x ≡ true
    → last_number p (xs ++ x ∷ []) ≡ length xs + 1
last_number-here p [] x passes = ap (λ b. number_with b 0) passes
last_number-here p (y ∷ ys) x passes =
    let more : suc (suc (length ys)) ≡ suc (length ys) + 1 = omega arith in
    ap (number_with (p y)) (last_number-here p ys x passes ∙ add-one (length ys)) ∙ more

-- one that doesn't pass leaves the number as it was
last_number-other : {X : Type 0} (p : X → Bool) (xs : List X) (x : X) → p x ≡ false
    → last_number p (xs ++ x ∷ []) ≡ last_number p xs
last_number-other p [] x fails = ap (λ b. number_with b 0) fails
last_number-other p (y ∷ ys) x fails = ap (number_with (p y)) (last_number-other p ys x fails)

-- ---- which entries are of a slot

-- an entry is of its own slot
is_of-own : (e : EntryValue) → is_of e.slot e ≡ true
is_of-own e = eq-eqb e.slot e.slot refl

-- and of no other
is_of-other : (e : EntryValue) (slot : ℕ) → e.slot ≢ slot → is_of slot e ≡ false
is_of-other e slot other =
    elim (cases_Bool (is_of slot e)) [ inl yes_it ↦ absurd (other (eqb-true e.slot slot yes_it)) | inr not_it ↦ not_it ]

-- whether an entry is an agreement of its own slot is told by its change
is_agreement_of-own : (e : EntryValue) (c : Change) → e.change ≡ c → is_agreement_of e.slot e ≡ is_agreement c
is_agreement_of-own e c same = ap (λ b. b && is_agreement e.change) (is_of-own e) ∙ ap is_agreement same

-- it is none of another slot
is_agreement_of-other : (e : EntryValue) (slot : ℕ) → e.slot ≢ slot → is_agreement_of slot e ≡ false
is_agreement_of-other e slot other = ap (λ b. b && is_agreement e.change) (is_of-other e slot other)

-- ---- its own slot

-- the agreed network of its own slot, by the kind of the change
spec-by : (h : List EntryValue) (e : EntryValue) (c : Change) → e.change ≡ c
    → spec_at (h ++ e ∷ []) e.slot ≡ spec_after (spec_at h e.slot) c
spec-by h e (agreed net) same =
    ap network_of (last_passing-here (is_agreement_of e.slot) h e (is_agreement_of-own e (agreed net) same))
    ∙ ap network_in same
spec-by h e (installed net config) same =
    ap network_of
    (last_passing-other (is_agreement_of e.slot) h e (is_agreement_of-own e (installed net config) same))
spec-by h e evicted same =
    ap network_of (last_passing-other (is_agreement_of e.slot) h e (is_agreement_of-own e evicted same))

-- so one more entry changes the agreed network as its change says
pub spec-own : (h : List EntryValue) (e : EntryValue)
    → spec_at (h ++ e ∷ []) e.slot ≡ spec_after (spec_at h e.slot) e.change
spec-own h e = spec-by h e e.change refl

-- what runs then is what its change installs, if it installs something
pub config-own : (h : List EntryValue) (e : EntryValue) → config_at (h ++ e ∷ []) e.slot ≡ config_in e.change
config-own h e = ap config_of (last_passing-here (is_of e.slot) h e (is_of-own e))

-- the number of the last agreement, by the kind of the change
agreement-by : (h : List EntryValue) (e : EntryValue) (c : Change) → e.change ≡ c
    → agreement_at (h ++ e ∷ []) e.slot ≡ agreement_after (agreement_at h e.slot) (length h + 1) c
agreement-by h e (agreed net) same =
    last_number-here (is_agreement_of e.slot) h e (is_agreement_of-own e (agreed net) same)
agreement-by h e (installed net config) same =
    last_number-other (is_agreement_of e.slot) h e (is_agreement_of-own e (installed net config) same)
agreement-by h e evicted same =
    last_number-other (is_agreement_of e.slot) h e (is_agreement_of-own e evicted same)

-- so that number changes as the change says
pub agreement-own : (h : List EntryValue) (e : EntryValue)
    → agreement_at (h ++ e ∷ []) e.slot ≡ agreement_after (agreement_at h e.slot) (length h + 1) e.change
agreement-own h e = agreement-by h e e.change refl

-- ---- another slot

-- the agreed network of another slot stays
pub spec-other : (h : List EntryValue) (e : EntryValue) (slot : ℕ) → e.slot ≢ slot
    → spec_at (h ++ e ∷ []) slot ≡ spec_at h slot
spec-other h e slot other =
    ap network_of (last_passing-other (is_agreement_of slot) h e (is_agreement_of-other e slot other))

-- and so does what runs there
pub config-other : (h : List EntryValue) (e : EntryValue) (slot : ℕ) → e.slot ≢ slot
    → config_at (h ++ e ∷ []) slot ≡ config_at h slot
config-other h e slot other = ap config_of (last_passing-other (is_of slot) h e (is_of-other e slot other))

-- and the number of the last agreement
pub agreement-other : (h : List EntryValue) (e : EntryValue) (slot : ℕ) → e.slot ≢ slot
    → agreement_at (h ++ e ∷ []) slot ≡ agreement_at h slot
agreement-other h e slot other =
    last_number-other (is_agreement_of slot) h e (is_agreement_of-other e slot other)
