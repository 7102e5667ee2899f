-- What stands at the places of lists, and at the turns of lanes.
use Rattle.std.proofs.Common.{◌≡◌, ℕ, zero, suc, inl, inr, List, [], ◌∷◌, ◌++◌, length, take, All, Some, refl, sym, ap, subst, ◌∙◌, arith}
use Rattle.std.specs.List.{slice_get}
use Rattle.std.proofs.Math.Seq.{take-suc}
use Rattle.std.proofs.lemmas.Bool.{cases_eq}
use Rattle.std.proofs.lemmas.List.{take_all}
use Rattle.std.proofs.lemmas.List.Elements.{All-nil, All-cons, All-head, All-tail}
use Rattle.std.proofs.lemmas.Option.{none-some, same_Some, slice_get_within, slice_get_cases}
use Rattle.net_defs.specs.Networks.{Network}
use Rattle.journal_defs.specs.Journals.{Change, agreed, installed, evicted, EntryValue, spec_at, spec_after}
use Rattle.journal_defs.proofs.JournalLemmas.{spec-own, spec-other}
use Rattle.session_defs.specs.Meant.{at_turn}

-- what holds at each place holds of all
pub all-places : {X : Type 0} (P : X → Type 0) (xs : List X) → ((i : ℕ) (x : X) → slice_get xs i ≡ Some x → P x) → All P xs
all-places P [] each = All-nil P
all-places P (x ∷ xs) each = All-cons P x xs (each 0 x refl) (all-places P xs (λ i. each (suc i)))

-- what holds of all holds at each place
pub place-all : {X : Type 0} (P : X → Type 0) (xs : List X) (i : ℕ) (x : X) → All P xs → slice_get xs i ≡ Some x → P x
place-all P [] i x all found = absurd (none-some x found)
place-all P (y ∷ xs) zero x all found = subst P (same_Some y x found) (All-head P y xs all)
place-all P (y ∷ xs) (suc i) x all found = place-all P xs i x (All-tail P y xs all) found

-- and at each turn
pub turn-all : {X : Type 0} (P : X → Type 0) (ls : List (List X)) (lane turn : ℕ) (x : X) → All (All P) ls
    → at_turn ls lane turn ≡ Some x → P x
turn-all P [] lane turn x all found = absurd (none-some x found)
turn-all P (l ∷ ls) zero turn x all found = place-all P l turn x (All-head (All P) l ls all) found
turn-all P (l ∷ ls) (suc lane) turn x all found = turn-all P ls lane turn x (All-tail (All P) l ls all) found

-- a list that is as long has something at the same place
pub place-same : {X Y : Type 0} (xs : List X) (ys : List Y) (i : ℕ) (x : X) → length xs ≡ length ys
    → slice_get xs i ≡ Some x → (y : Y) × (slice_get ys i ≡ Some y)
place-same xs ys i x count found =
    elim (slice_get_cases ys i).1 [
      | inl f ↦ (f.0, f.2)
      | inr past ↦ absurd (omega (arith, count, past.0, slice_get_within xs i x found))
    ]

-- ---- where an agreed network comes from

-- there is an entry in the journal that agrees this network
abbrev pub IsAgreedIn : List EntryValue → Network → Type 0
IsAgreedIn h net = (q : ℕ) × (e : EntryValue) × (slice_get h q ≡ Some e) × (e.change ≡ agreed net)

-- the agreed network after an entry is the entry's own, or was agreed before it
agreed-by : (h : List EntryValue) (slot : ℕ) (net : Network) (q : ℕ) (e : EntryValue) (c : Change)
    → slice_get h q ≡ Some e → e.change ≡ c
    → spec_after (spec_at (take q h) slot) c ≡ Some net
    → (spec_at (take q h) slot ≡ Some net → IsAgreedIn h net) → IsAgreedIn h net
agreed-by h slot net q e (agreed other) found is spec before =
    (q, e, found, is ∙ ap agreed (same_Some other net spec))
agreed-by h slot net q e (installed other config) found is spec before = before spec
agreed-by h slot net q e evicted found is spec before = before spec

-- an entry of another slot changes nothing that is agreed for this one
agreed-step : (h : List EntryValue) (slot : ℕ) (net : Network) (q : ℕ) (e : EntryValue)
    → slice_get h q ≡ Some e → spec_at (take q h ++ e ∷ []) slot ≡ Some net
    → (spec_at (take q h) slot ≡ Some net → IsAgreedIn h net) → IsAgreedIn h net
agreed-step h slot net q e found spec before =
    elim (cases_eq e.slot slot) [
      | inl own ↦
          let here : spec_at (take q h ++ e ∷ []) e.slot ≡ Some net =
          subst (λ n. spec_at (take q h ++ e ∷ []) n ≡ Some net) (sym own) spec in
          let after : spec_after (spec_at (take q h) slot) e.change ≡ Some net =
          subst (λ n. spec_after (spec_at (take q h) n) e.change ≡ Some net) own (sym (spec-own (take q h) e) ∙ here) in
          agreed-by h slot net q e e.change found refl after before
      | inr other ↦ before (sym (spec-other (take q h) e slot other) ∙ spec)
    ]

-- the agreed network of a slot was agreed by an entry
pub agreed-in : (h : List EntryValue) (slot : ℕ) (net : Network) (n : ℕ) → spec_at (take n h) slot ≡ Some net
    → IsAgreedIn h net
agreed-in h slot net zero spec = absurd (none-some net spec)
agreed-in h slot net (suc n) spec =
    elim (slice_get_cases h n).1 [
      | inl f ↦
          let more : take (suc n) h ≡ take n h ++ f.0 ∷ [] =
          take-suc h n f.0 f.1 ∙ ap (λ e. take n h ++ e ∷ []) f.3 in
          agreed-step h slot net n f.0 f.2 (subst (λ j. spec_at j slot ≡ Some net) more spec) (agreed-in h slot net n)
      | inr past ↦
          let all : take (suc n) h ≡ take n h =
          take_all (suc n) h (omega (arith, past.0)) ∙ sym (take_all n h past.0) in
          agreed-in h slot net n (subst (λ j. spec_at j slot ≡ Some net) all spec)
    ]
