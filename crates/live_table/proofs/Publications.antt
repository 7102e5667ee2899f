-- Publishing an entry keeps the rule of the published copies.
use Rattle.std.proofs.Common.{◌≡◌, ℕ, List, [], ◌∷◌, ◌++◌, fold, Option, refl, sym, ap, ◌∙◌, subst}
use Rattle.crossbeam_utils.specs.Register.{TurnsAt}
use Rattle.journal_defs.specs.Journals.{Change, agreed, installed, evicted, EntryValue}
use Rattle.journal_defs.specs.Legality.{CanChange}
use Rattle.fabric_defs.specs.Geometries.{GeometryValue}
use Rattle.slot_core.specs.Values.{TableValue}
use Rattle.live_table.specs.Values.{FrontValue, ChangeValue, with_entry}
use Rattle.live_table.specs.Changes.{IsChecked}
use Rattle.live_table.specs.declared.published.Published.{Published}
use Rattle.live_table.specs.Rule.{IsWhole, Follows, IsKept, Meets, GoesOn}
use Rattle.live_table.proofs.Prefixes.{prefix_more}
use Rattle.live_table.proofs.RuleSteps.{meets, follows_self}

-- nothing pending changes nothing
pub fold_none : {S O : Type 0} (f : S → O → S) (s : S) (xs : List O) → xs ≡ [] → fold f s xs ≡ s
fold_none f s xs none = ap (λ os. fold f s os) none

-- one pending change is applied
pub fold_one : {S O : Type 0} (f : S → O → S) (s : S) (x : O) (xs : List O) → xs ≡ x ∷ [] → fold f s xs ≡ f s x
fold_one f s x xs one = ap (λ os. fold f s os) one

-- a copy that is the published one may be published
pub republishes : (seat : ℕ) (v : Option Published) (x y : Published) → y ≡ x → TurnsAt IsKept seat v x y Meets
republishes seat v x y same = meets seat v x y (λ whole. subst IsWhole (sym same) whole)
    (subst (λ (z : Published). Follows x z) (sym same) (follows_self x))

-- a copy with one entry more may be published, with a front that has this entry more
pub publishes : (seat : ℕ) (v : Option Published) (x y : Published) (e : EntryValue) (f : FrontValue)
    → f ≡ record { book = x.front.book; journal = x.front.journal ++ e ∷ [] }
    → y ≡ record { table = with_entry x.table e; front = f } → TurnsAt IsKept seat v x y Meets
publishes seat v x y e f front is = meets seat v x y
    (λ whole. subst IsWhole (sym is)
    (ap (λ (g : FrontValue). g.journal) front ∙ ap (λ (h : List EntryValue). h ++ e ∷ []) whole))
    (subst (λ (z : Published). Follows x z) (sym is) (record {
      book = ap (λ (g : FrontValue). g.book) front;
      shape = refl;
      later = prefix_more x.table.journal (e ∷ []);
    }))

-- the change with an entry and a front that has this entry more goes on from the copy
pub change_goes_on : (x : Published) (t : TableValue) (f next again : FrontValue) (e ready : EntryValue) (c : ChangeValue)
    → x ≡ record { table = t; front = f } → next ≡ record { book = f.book; journal = f.journal ++ ready ∷ [] }
    → again ≡ next → ready ≡ e → c ≡ record { entry = e; front = again } → GoesOn x c
change_goes_on x t f next again e ready c shown more same value change =
    ap (λ (d : ChangeValue). d.front) change ∙ (same ∙ (more
    ∙ (ap {B = FrontValue} (λ (r : EntryValue). record { book = f.book; journal = f.journal ++ r ∷ [] })
    (value ∙ sym (ap (λ (d : ChangeValue). d.entry) change))
    ∙ ap {B = FrontValue} (λ (y : Published). record { book = y.front.book; journal = y.front.journal ++ c.entry ∷ [] })
    (sym shown))))

-- the copy with this change has the table with the entry, and the front
pub change_is_shown : (x y : Published) (t table : TableValue) (f next again : FrontValue) (e ready : EntryValue)
    (c : ChangeValue) → x ≡ record { table = t; front = f } → table ≡ with_entry t ready → again ≡ next → ready ≡ e
    → c ≡ record { entry = e; front = again }
    → y ≡ record { table = with_entry x.table c.entry; front = c.front } → y ≡ record { table = table; front = next }
change_is_shown x y t table f next again e ready c shown applied same value change is =
    is ∙ (ap {B = Published} (λ (z : Published). record { table = with_entry z.table c.entry; front = c.front }) shown
    ∙ (ap {B = Published} (λ (d : ChangeValue). record { table = with_entry t d.entry; front = d.front }) change
    ∙ (ap {B = Published} (λ (r : EntryValue). record { table = with_entry t r; front = again }) (sym value)
    ∙ (ap {B = Published} (λ (u : TableValue). record { table = u; front = again }) (sym applied)
    ∙ ap {B = Published} (λ (g : FrontValue). record { table = table; front = g }) same))))

-- what may come next was checked
pub following_is_checked : (g : GeometryValue) (h : List EntryValue) (slot : ℕ) (c : Change) → CanChange g h slot c
    → IsChecked c
following_is_checked g h slot (agreed net) can = tt
following_is_checked g h slot (installed net config) can = can.equal
following_is_checked g h slot evicted can = tt
