use Rattle.std.proofs.Common.{◌≡◌, ℕ, ◌-◌, ◌<◌, List, get_or, length, sym, ap, ◌∙◌, subst, arith}
use Rattle.std.proofs.lemmas.List.{get_or_past, get_or_default}
use Rattle.trace_places.specs.Others.{place_in}
use Rattle.clause_defs.specs.Traces.{place_of}
use Rattle.trace_places.specs.Groups.{AreWithin, StandsInSlot}
use Rattle.trace_places.proofs.PushLemmas.{entry_of, known_in_map}
use Rattle.trace_places.proofs.places.Places.place.Goals as goal
use Rattle.trace_places.proofs.places.Places.place.Goals.{else-at-len-via-then-at-len+else-index-ne0, else-at-len-via-else-at-len}

-- an entry of the table says the place
pub returns-then-index-ne0 : goal.returns-then-index-ne0
returns-then-index-ne0 c =
    let len : c.len.result ≡ length c.self.inside.table.items = c.len.ensures ∙ c.self.inside.table.ok.0 in
    let below = c.if-at-len.true in
    let lt : c.args.index < length c.self.inside.table.items = omega arith in
    let seen : c.index.result.now ≡ get_or c.self.inside.table.items c.args.index 0 =
    c.index.ensures ∙ get_or_default c.self.inside.table.items c.args.index c.index.result.now 0 lt in
    let read : c.index-then-index-ne0.result.now ≡ get_or c.self.inside.table.items c.args.index 0 =
    c.index-then-index-ne0.ensures ∙ get_or_default c.self.inside.table.items c.args.index c.index-then-index-ne0.result.now 0 lt in
    let entry = entry_of (get_or c.self.inside.table.items c.args.index 0) c.index-then-index-ne0.result.now read (λ none. c.if-index-ne0.true (seen ∙ none)) in
    let found = c.self.invariant.tabled c.args.index (c.index-then-index-ne0.result.now - 1) entry in
    sym (sym (ap (λ (is : List ℕ). place_of is c.args.index) c.self.view_is) ∙ found)

-- the slots have places of these indices
pub find-requires-clause-within : goal.find-requires-clause-within
find-requires-clause-within c =
    let lent : c.deref.result.now ≡ c.self.inside.indices.items = cc in
    subst (λ (is : List ℕ). AreWithin is c.self.inside.groups.numbers.items) (sym lent) c.self.invariant.within

-- of what neither the table nor a slot has, the map says the place
pub returns : goal.returns
returns c =
    let len : c.len.result ≡ length c.self.inside.table.items = c.len.ensures ∙ c.self.inside.table.ok.0 in
    let no_entry : get_or c.self.inside.table.items c.args.index 0 ≡ 0 = elim c.else-at-len.branch [
      | else-at-len-via-then-at-len+else-index-ne0 w ↦
          let below = w.if-at-len.true in
          sym (get_or_default c.self.inside.table.items c.args.index w.index.result.now 0 (omega arith)) ∙ sym w.index.ensures ∙ w.if-index-ne0.false
      | else-at-len-via-else-at-len w ↦ let past = w.if-at-len.false in get_or_past c.self.inside.table.items c.args.index 0 (omega arith)
    ] in
    let lent : c.deref.result.now ≡ c.self.inside.indices.items = cc in
    let no_slot : (k : ℕ) → get_or c.self.inside.indices.items k 0 ≡ c.args.index → StandsInSlot c.self.inside.groups.count c.self.inside.groups.tags.items c.self.inside.groups.numbers.items c.args.index k → ⊥ =
    subst (λ (is : List ℕ). (k : ℕ) → get_or is k 0 ≡ c.args.index
    → StandsInSlot c.self.inside.groups.count c.self.inside.groups.tags.items c.self.inside.groups.numbers.items c.args.index k → ⊥)
    lent (c.in_default.ensures {u = tt}).none in
    let here = known_in_map c.self.inside.indices.items c.self.inside.table.items c.self.inside.groups.count c.self.inside.groups.tags.items
    c.self.inside.groups.numbers.items (place_in c.self.inside.others) c.args.index c.self.invariant no_entry no_slot in
    c.get.ensures ∙ here ∙ ap (λ (is : List ℕ). place_of is c.args.index) c.self.view_is
