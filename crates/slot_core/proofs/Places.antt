-- The slots of a table after one more entry, and what runs in them.
use Rattle.std.proofs.Common.{◌≡◌, ◌≢◌, ℕ, ◌+◌, ◌<◌, inl, inr, List, [], ◌∷◌, ◌++◌, length, map, get_or, set, Option, None, Some, sym, ap, subst, ◌∙◌, arith}
use Rattle.std.specs.Arc.{arc_value}
use Rattle.std.specs.Option.{option_map}
use Rattle.std.specs.declared.sync.Arc.{Arc}
use Rattle.std.proofs.lemmas.Bool.{cases_eq}
use Rattle.std.proofs.lemmas.List.{length-map, length-set, get_or_default, get_or-set_same, get_or-set_other, map-append}
use Rattle.std.proofs.lemmas.Option.{none-some, same_Some}
use Rattle.net_defs.specs.Networks.{Network}
use Rattle.fabric_defs.specs.Geometries.{GeometryValue}
use Rattle.fabric_defs.specs.Configurations.{ConfigValue}
use Rattle.journal_defs.specs.Journals.{EntryValue, spec_at, config_at, spec_after, agreement_after}
use Rattle.journal_defs.specs.Legality.{IsInstallable, CanFollow, Legal}
use Rattle.journal_defs.specs.Replies.{cycle, Runs}
use Rattle.journal_defs.proofs.JournalLemmas.{spec-own, spec-other, config-own, config-other, agreement-own, agreement-other}
use Rattle.journal_defs.proofs.LegalityLemmas.{legal-appended, running-equal}
use Rattle.slot_core.specs.declared.entry.Entry.{Entry}
use Rattle.slot_core.specs.declared.place.Place.{Place}
use Rattle.slot_core.specs.declared.cycle.Cycle.{Cycle}
use Rattle.slot_core.specs.declared.cycle.Cycle.TheVariants.{Out, Vacant, Width}
use Rattle.slot_core.specs.Entries.{entry_value}
use Rattle.slot_core.specs.Slots.{IsPlaceAfter, IsChanged}
use Rattle.slot_core.specs.Tables.{IsKept}
use Rattle.slot_core.specs.Cycles.{IsReplyTo, IsGivenBy}

-- ---- one more entry

-- the entry's own slot
place-own : (h : List EntryValue) (e : EntryValue) (old new : Place) → IsPlaceAfter h e.slot old
    → IsChanged e.change (length h + 1) old new → IsPlaceAfter (h ++ e ∷ []) e.slot new
place-own h e old new before change = record {
  contents = record {
    spec = change.spec ∙ ap (λ o. spec_after o e.change) before.contents.spec ∙ sym (spec-own h e);
    running = change.running ∙ sym (config-own h e);
  };
  agreement = change.agreement ∙ ap (λ n. agreement_after n (length h + 1) e.change) before.agreement
      ∙ sym (agreement-own h e);
}

-- another slot
place-other : (h : List EntryValue) (e : EntryValue) (number : ℕ) (p : Place) → e.slot ≢ number
    → IsPlaceAfter h number p → IsPlaceAfter (h ++ e ∷ []) number p
place-other h e number p other before = record {
  contents = record {
    spec = before.contents.spec ∙ sym (spec-other h e number other);
    running = before.contents.running ∙ sym (config-other h e number other);
  };
  agreement = before.agreement ∙ sym (agreement-other h e number other);
}

-- all slots of a table
places-after : (h : List EntryValue) (e : EntryValue) (places : List Place) (new : Place)
    → e.slot < length places → ((d : Place) → IsChanged e.change (length h + 1) (get_or places e.slot d) new)
    → ((number : ℕ) (d : Place) → number < length places → IsPlaceAfter h number (get_or places number d))
    → (number : ℕ) (d : Place) → number < length (set places e.slot new)
    → IsPlaceAfter (h ++ e ∷ []) number (get_or (set places e.slot new) number d)
places-after h e places new within change before number d lt =
    let lt' : number < length places = omega (arith, length-set places e.slot new) in
    elim (cases_eq e.slot number) [
      | inl own ↦
          let P : ℕ → Type 0 = λ n. IsPlaceAfter (h ++ e ∷ []) n (get_or (set places e.slot new) n d) in
          subst P own
          (subst (IsPlaceAfter (h ++ e ∷ []) e.slot) (sym (get_or-set_same places e.slot new d within))
          (place-own h e (get_or places e.slot d) new (before e.slot d within) (change d)))
      | inr other ↦
          subst (IsPlaceAfter (h ++ e ∷ []) number)
          (sym (get_or-set_other places e.slot number new d (λ same. other (sym same))))
          (place-other h e number (get_or places number d) other (before number d lt'))
    ]

-- a table after one more entry
kept-after : (g : GeometryValue) (limit capacity : ℕ) (entries : List Entry) (entry : Entry) (places : List Place)
    (new : Place) → IsKept g limit capacity entries places → length entries < limit
    → (entry_value entry).slot < length places → CanFollow g (map entry_value entries) (entry_value entry)
    → ((d : Place) → IsChanged (entry_value entry).change (length entries + 1)
    (get_or places (entry_value entry).slot d) new)
    → IsKept g limit capacity (entries ++ entry ∷ []) (set places (entry_value entry).slot new)
kept-after g limit capacity entries entry places new kept room within next change =
    let h : List EntryValue = map entry_value entries in
    let e : EntryValue = entry_value entry in
    let more : h ++ e ∷ [] ≡ map entry_value (entries ++ entry ∷ []) =
    sym (map-append entry_value entries (entry ∷ [])) in
    let same_count : length h ≡ length entries = length-map entries entry_value in
    let count : length (set places e.slot new) ≡ length places = length-set places e.slot new in
    let longer : Legal g (length places) limit (h ++ e ∷ []) =
    legal-appended g (length places) limit h e kept.legal (omega arith) within next in
    let numbered : (d : Place) → IsChanged e.change (length h + 1) (get_or places e.slot d) new =
    λ d. subst (λ n. IsChanged e.change (n + 1) (get_or places e.slot d) new) (sym same_count) (change d) in
    record {
      counted = kept.counted;
      room = kept.room;
      legal = subst (Legal g (length (set places e.slot new)) limit) more
          (subst (λ n. Legal g n limit (h ++ e ∷ [])) (sym count) longer);
      slots = λ number d lt. subst (λ j. IsPlaceAfter j number (get_or (set places e.slot new) number d)) more
          (places-after h e places new within numbered kept.slots number d lt);
    }

-- the same by the parts of the call that appends: the entry's value e, the place i of its slot, what stood there
-- before, and the entry's number
pub kept-applied : (g : GeometryValue) (limit capacity : ℕ) (entries : List Entry) (entry : Entry) (places : List Place)
    (old new : Place) (e : EntryValue) (i number : ℕ) → IsKept g limit capacity entries places
    → entry_value entry ≡ e → i ≡ e.slot → number ≡ length entries + 1
    → length (map entry_value entries) < limit → e.slot < length places
    → CanFollow g (map entry_value entries) e → old ≡ get_or places i old
    → IsChanged (entry_value entry).change number old new
    → IsKept g limit capacity (entries ++ entry ∷ []) (set places i new)
kept-applied g limit capacity entries entry places old new e i number kept value at count room within next was change =
    let here : (entry_value entry).slot ≡ i = ap (λ (v : EntryValue). v.slot) value ∙ sym at in
    let slot : (entry_value entry).slot < length places = omega (arith, here, at, within) in
    let shorter : length entries < limit = omega (arith, room, length-map entries entry_value) in
    let changes : (d : Place) → IsChanged (entry_value entry).change (length entries + 1)
    (get_or places (entry_value entry).slot d) new = λ d.
    let stood : old ≡ get_or places (entry_value entry).slot d =
    was ∙ ap (λ n. get_or places n old) (sym here)
    ∙ get_or_default places (entry_value entry).slot old d slot in
    subst (λ p. IsChanged (entry_value entry).change (length entries + 1) p new) stood
    (subst (λ n. IsChanged (entry_value entry).change n old new) count change) in
    subst (λ n. IsKept g limit capacity (entries ++ entry ∷ []) (set places n new)) here
    (kept-after g limit capacity entries entry places new kept shorter slot
    (subst (CanFollow g (map entry_value entries)) (sym value) next) changes)

-- ---- cycles

-- the value of what is shared, where there is something
pub shared-value : {X Z : Type 0} (o : Option (Arc X Z)) (a : Arc X Z) → o ≡ Some a → option_map arc_value o ≡ Some (arc_value a)
shared-value o a is = ap (λ p. option_map arc_value p) is

-- and where there is nothing
pub shared-nothing : {X Z : Type 0} (o : Option (Arc X Z)) → o ≡ None → option_map arc_value o ≡ None
shared-nothing o is = ap (λ p. option_map arc_value p) is

-- a configuration that runs is equal to the agreed network
pub running-is_installable : (g : GeometryValue) (slots limit slot : ℕ) (h : List EntryValue) (net : Network)
    (config : ConfigValue) → Legal g slots limit h → config_at h slot ≡ Some config → spec_at h slot ≡ Some net
    → IsInstallable g h slot net config
running-is_installable g slots limit slot h net config legal runs agrees =
    let found = running-equal g slots limit slot h config legal runs in
    let same : found.0 ≡ net = same_Some found.0 net (sym found.1.same ∙ agrees) in
    subst (λ n. IsInstallable g h slot n config) same found.1

-- where no network is agreed, nothing runs
pub unagreed-is_vacant : (g : GeometryValue) (slots limit slot : ℕ) (h : List EntryValue) (config : ConfigValue)
    → Legal g slots limit h → config_at h slot ≡ Some config → spec_at h slot ≡ None → ⊥
unagreed-is_vacant g slots limit slot h config legal runs agrees =
    let found = running-equal g slots limit slot h config legal runs in
    none-some found.0 (sym agrees ∙ found.1.same)

-- what a configuration that runs answers is the reply of the journal
pub given-replies : (h : List EntryValue) (slot cell : ℕ) (x : List ℕ) (net : Network) (config : ConfigValue)
    (c : Cycle) → Runs h slot net config → IsGivenBy net config x cell (length h) c
    → IsReplyTo h (cycle slot x cell) c
given-replies h slot cell x net config (Out outputs probe at) runs given =
    record { answers = (net, config, runs, given.0); all_entries = given.1 }
given-replies h slot cell x net config (Vacant at) runs given = absurd given
given-replies h slot cell x net config (Width want at) runs given =
    record { answers = (net, config, runs, given.0, given.1); all_entries = given.2 }
