-- Legal journals: what may be appended, their beginnings, and what runs after them.
use Rattle.std.proofs.Common.{◌≡◌, ◌≢◌, ℕ, zero, suc, ◌<◌, inl, inr, List, [], ◌∷◌, ◌++◌, length, take, drop, All, Some, refl, sym, ap, subst, ◌∙◌, arith}
use Rattle.std.specs.List.{slice_get}
use Rattle.std.proofs.Math.Seq.{take-suc, take-append_seam}
use Rattle.std.proofs.lemmas.Bool.{cases_lt, cases_eq}
use Rattle.std.proofs.lemmas.List.{length-append, take_all, take-append-le, take-append-drop}
use Rattle.std.proofs.lemmas.List.Elements.{All-nil, All-cons, All-append, All-take}
use Rattle.std.proofs.lemmas.Option.{none-some, same_Some, slice_get_within, slice_get_cases}
use Rattle.net_defs.specs.Networks.{Network}
use Rattle.net_defs.specs.Settling.{IsAcyclic}
use Rattle.net_defs.specs.Evaluation.{SpecOut, bits_at, output_signals}
use Rattle.net_defs.proofs.AssignmentLemmas.{assignment_exists}
use Rattle.fabric_defs.specs.Bits.{AreBits}
use Rattle.fabric_defs.specs.Geometries.{GeometryValue}
use Rattle.fabric_defs.specs.Configurations.{ConfigValue}
use Rattle.miter_defs.specs.Equality.{Equal}
use Rattle.journal_defs.specs.Journals.{Change, agreed, installed, evicted, EntryValue, config_in, spec_at, config_at, spec_after}
use Rattle.journal_defs.specs.Legality.{IsInstallable, CanChange, CanFollow, Legal}
use Rattle.journal_defs.specs.Replies.{GivesOut, AreOutputs}
use Rattle.journal_defs.proofs.JournalLemmas.{spec-own, spec-other, config-own, config-other}

-- ---- places of two lists

-- what stands in the first of two lists stands there in both together
slice_get-left : {X : Type 0} (xs ys : List X) (i : ℕ) → i < length xs → slice_get (xs ++ ys) i ≡ slice_get xs i
slice_get-left [] ys i lt = absurd (omega arith)
slice_get-left (x ∷ xs) ys zero lt = refl
slice_get-left (x ∷ xs) ys (suc i) lt = slice_get-left xs ys i (omega arith)

-- one more element stands behind the others
slice_get-seam : {X : Type 0} (xs : List X) (y : X) → slice_get (xs ++ y ∷ []) (length xs) ≡ Some y
slice_get-seam [] y = refl
slice_get-seam (x ∷ xs) y = slice_get-seam xs y

-- ---- one more entry

-- a journal without entries is legal
pub legal-nothing : (g : GeometryValue) (slots limit : ℕ) → Legal g slots limit []
legal-nothing g slots limit = record {
  short = omega arith;
  within = All-nil (λ (e : EntryValue). e.slot < slots);
  follows = λ p e found. absurd (none-some e found);
}

-- the entry at a place of a legal journal with one more entry may follow those before it
follows-appended : (g : GeometryValue) (slots limit : ℕ) (h : List EntryValue) (e : EntryValue)
    → Legal g slots limit h → CanFollow g h e
    → (p : ℕ) (d : EntryValue) → slice_get (h ++ e ∷ []) p ≡ Some d → CanFollow g (take p (h ++ e ∷ [])) d
follows-appended g slots limit h e legal next p d found =
    elim (cases_lt p (length h)) [
      | inl lt ↦ subst (λ before. CanFollow g before d) (sym (take-append-le p h (e ∷ []) (omega arith)))
          (legal.follows p d (sym (slice_get-left h (e ∷ []) p lt) ∙ found))
      | inr le ↦
          let within : p < length (h ++ e ∷ []) = slice_get_within (h ++ e ∷ []) p d found in
          let here : length h ≡ p = omega (arith, length-append h (e ∷ [])) in
          let at_end : slice_get (h ++ e ∷ []) (length h) ≡ Some d = ap (slice_get (h ++ e ∷ [])) here ∙ found in
          let last : e ≡ d = same_Some e d (sym (slice_get-seam h e) ∙ at_end) in
          let before : h ≡ take p (h ++ e ∷ []) =
          sym (take-append_seam h (e ∷ [])) ∙ ap (λ n. take n (h ++ e ∷ [])) here in
          subst (λ d. CanFollow g (take p (h ++ e ∷ [])) d) last (subst (λ before. CanFollow g before e) before next)
    ]

-- a legal journal stays legal with an entry that may follow it, where there is room
pub legal-appended : (g : GeometryValue) (slots limit : ℕ) (h : List EntryValue) (e : EntryValue)
    → Legal g slots limit h → length h < limit → e.slot < slots → CanFollow g h e → Legal g slots limit (h ++ e ∷ [])
legal-appended g slots limit h e legal room slot next = record {
  short = omega (arith, length-append h (e ∷ []));
  within =
      let P : EntryValue → Type 0 = λ d. d.slot < slots in
      All-append P h (e ∷ []) legal.within (All-cons P e [] slot (All-nil P));
  follows = follows-appended g slots limit h e legal next;
}

-- ---- beginnings

-- the beginning of a legal journal is legal
pub legal-before : (g : GeometryValue) (slots limit : ℕ) (h later : List EntryValue)
    → Legal g slots limit (h ++ later) → Legal g slots limit h
legal-before g slots limit h later legal = record {
  short = omega (arith, length-append h later, legal.short);
  within =
      let P : EntryValue → Type 0 = λ d. d.slot < slots in
      subst (All P) (take-append_seam h later) (All-take P (length h) (h ++ later) legal.within);
  follows = λ p e found.
      let lt : p < length h = slice_get_within h p e found in
      subst (λ before. CanFollow g before e) (take-append-le p h later (omega arith))
      (legal.follows p e (slice_get-left h later p lt ∙ found));
}

-- so are its first n entries
pub legal-take : (g : GeometryValue) (slots limit n : ℕ) (h : List EntryValue)
    → Legal g slots limit h → Legal g slots limit (take n h)
legal-take g slots limit n h legal =
    legal-before g slots limit (take n h) (drop n h) (subst (Legal g slots limit) (sym (take-append-drop n h)) legal)

-- ---- what runs

-- what runs in the slot is equal to its agreed network
abbrev RunsEqual : GeometryValue → ℕ → List EntryValue → Type 0
RunsEqual g slot h =
    (config : ConfigValue) → config_at h slot ≡ Some config → (net : Network) × IsInstallable g h slot net config

-- what the entry leaves in its own slot
equal-own : (g : GeometryValue) (h : List EntryValue) (e : EntryValue) (c : Change) → e.change ≡ c
    → CanChange g h e.slot c → RunsEqual g e.slot (h ++ e ∷ [])
equal-own g h e (agreed net) same next config runs =
    absurd (none-some config (sym (config-own h e ∙ ap config_in same) ∙ runs))
equal-own g h e (installed net other) same next config runs =
    let one : other ≡ config = same_Some other config (sym (config-own h e ∙ ap config_in same) ∙ runs) in
    let spec : spec_at (h ++ e ∷ []) e.slot ≡ Some net =
    spec-own h e ∙ ap (spec_after (spec_at h e.slot)) same ∙ next.same in (
      net,
      record {
        same = spec;
        geometry = sym (ap (λ (k : ConfigValue). k.geometry) one) ∙ next.geometry;
        equal = subst (Equal net) one next.equal;
      },
    )
equal-own g h e evicted same next config runs =
    absurd (none-some config (sym (config-own h e ∙ ap config_in same) ∙ runs))

-- an entry leaves what runs in another slot
equal-other : (g : GeometryValue) (slot : ℕ) (h : List EntryValue) (e : EntryValue) → e.slot ≢ slot
    → RunsEqual g slot h → RunsEqual g slot (h ++ e ∷ [])
equal-other g slot h e other before config runs =
    let was = before config (sym (config-other h e slot other) ∙ runs) in (
      was.0,
      record {
        same = spec-other h e slot other ∙ was.1.same;
        geometry = was.1.geometry;
        equal = was.1.equal;
      },
    )

-- so what runs in any slot stays equal to its agreed network
equal-snoc : (g : GeometryValue) (slot : ℕ) (h : List EntryValue) (e : EntryValue) → CanFollow g h e
    → RunsEqual g slot h → RunsEqual g slot (h ++ e ∷ [])
equal-snoc g slot h e next before =
    elim (cases_eq e.slot slot) [
      | inl own ↦ subst (λ s. RunsEqual g s (h ++ e ∷ [])) own (equal-own g h e e.change refl next)
      | inr other ↦ equal-other g slot h e other before
    ]

-- and after the first n entries of a legal journal it is so
equal-take : (g : GeometryValue) (slots limit slot : ℕ) (h : List EntryValue) → Legal g slots limit h
    → (n : ℕ) → RunsEqual g slot (take n h)
equal-take g slots limit slot h legal zero = λ config runs. absurd (none-some config runs)
equal-take g slots limit slot h legal (suc n) =
    let before : RunsEqual g slot (take n h) = equal-take g slots limit slot h legal n in
    elim (slice_get_cases h n).1 [
      | inl f ↦
          let more : take n h ++ f.0 ∷ [] ≡ take (suc n) h =
          ap (λ e. take n h ++ e ∷ []) (sym f.3) ∙ sym (take-suc h n f.0 f.1) in
          subst (RunsEqual g slot) more (equal-snoc g slot (take n h) f.0 (legal.follows n f.0 f.2) before)
      | inr past ↦
          let all : take n h ≡ take (suc n) h =
          take_all n h past.0 ∙ sym (take_all (suc n) h (omega (arith, past.0))) in
          subst (RunsEqual g slot) all before
    ]

-- what runs in a slot after a legal journal is equal to the slot's agreed network
pub running-equal : (g : GeometryValue) (slots limit slot : ℕ) (h : List EntryValue) (config : ConfigValue)
    → Legal g slots limit h → config_at h slot ≡ Some config → (net : Network) × IsInstallable g h slot net config
running-equal g slots limit slot h config legal =
    subst (RunsEqual g slot) (take_all (length h) h (omega arith))
    (equal-take g slots limit slot h legal (length h)) config

-- ---- outputs

-- so what a slot answers are the outputs of its agreed network
pub outputs-agreed : (g : GeometryValue) (slots limit slot cell bit : ℕ) (h : List EntryValue) (x y : List ℕ)
    (net : Network) → Legal g slots limit h → GivesOut h slot x cell y bit → spec_at h slot ≡ Some net
    → IsAcyclic net → AreBits x → SpecOut net x y
outputs-agreed g slots limit slot cell bit h x y net legal given agrees acyclic bits =
    let runs = given.2 in
    let found = running-equal g slots limit slot h given.1 legal runs.running in
    let shown : given.0 ≡ net = same_Some given.0 net (sym runs.spec ∙ agrees) in
    let checked : found.0 ≡ net = same_Some found.0 net (sym found.1.same ∙ agrees) in
    let equal : Equal net given.1 = subst (λ n. Equal n given.1) checked found.1.equal in
    let outputs : AreOutputs net given.1 x cell y bit = subst (λ n. AreOutputs n given.1 x cell y bit) shown given.3 in
    let one = assignment_exists net x acyclic outputs.inputs in
    let agreed_bits : List ℕ = bits_at one.0 (output_signals net) in
    let same : take (length net.outputs) outputs.pads ≡ agreed_bits =
    equal.same x agreed_bits outputs.pads (record { count = outputs.inputs; bits = bits }) (one.0, one.1, refl)
    outputs.outputs in
    (one.0, one.1, outputs.first ∙ same)
