-- What a place sees when it meets a copy.
use Rattle.std.proofs.Common.{◌≡◌, ℕ, ◌≤◌, Bool, true, false, List, [], Option, None, Some, Result, Ok, Err, MatchResult, MatchOption, refl, sym, ap, ◌∙◌, subst, le_refl}
use mathlib.Core.List.{IsPrefix}
use Rattle.pch_io.specs.Outside.{Rose}
use Rattle.journal_defs.specs.Journals.{EntryValue}
use Rattle.journal_defs.specs.Legality.{Legal}
use Rattle.slot_core.specs.Values.{TableValue}
use Rattle.slot_core.specs.Tables.{IsLegal}
use Rattle.live_table.specs.Values.{shape_of, FrontValue, PlaceValue, ControlValue}
use Rattle.live_table.specs.Places.{Sees, Misses, IsNewAt}
use Rattle.live_table.specs.Stills.{seen_in}
use Rattle.live_table.specs.declared.published.Published.{Published}
use Rattle.live_table.specs.Rule.{IsWhole, IsLaterThan, IsAt, IsMet, IsLeft, shape_at}
use Rattle.live_table.proofs.Prefixes.{prefix_self, prefix_nil}
use Rattle.live_table.proofs.Copies.{shape_kept, at_later}

-- an answer whose facts follow from those of another
pub by_result : {X Y : Type 0} {P S : X → Type 0} {Q U : Y → Type 0} (r : Result X Y) → ((x : X) → P x → S x)
    → ((y : Y) → Q y → U y) → MatchResult r P Q → MatchResult r S U
by_result (Ok x) ok err facts = ok x facts
by_result (Err y) ok err facts = err y facts

-- the same of two facts
pub by_two : {X Y : Type 0} {P P' S : X → Type 0} {Q Q' U : Y → Type 0} (r : Result X Y)
    → ((x : X) → P x → P' x → S x) → ((y : Y) → Q y → Q' y → U y) → MatchResult r P Q → MatchResult r P' Q'
    → MatchResult r S U
by_two (Ok x) ok err first second = ok x first second
by_two (Err y) ok err first second = err y first second

-- what is seen of a table is a beginning of its journal
pub seen_begins : (entered : Bool) (t : TableValue) → IsPrefix (seen_in entered t) t.journal
seen_begins true t = prefix_self t.journal
seen_begins false t = prefix_nil t.journal

-- a place with one table sees it
pub still_sees : (entered : Bool) (t : TableValue) → IsLegal t
    → Sees (record { book = None; shape = shape_of t; seen = seen_in entered t; refusals = 0 })
    (record { book = None; shape = shape_of t; seen = t.journal; refusals = 0 })
still_sees entered t legal = record {
  stays = record { book = refl; shape = refl; counted = le_refl 0 };
  later = seen_begins entered t;
  legal = legal;
}

-- the place of a reader with this view, that has seen as much as the front
abbrev pub place_at : Option Published → FrontValue → ℕ → PlaceValue
place_at v f refusals = record { book = Some f.book; shape = shape_at v; seen = f.journal; refusals = refusals }

-- a place sees a whole copy that goes on from what it saw before
pub sees_copy : (v : Option Published) (y : Published) (f : FrontValue) (n : ℕ) → IsAt v f → IsLaterThan v y → IsWhole y
    → IsLegal y.table → Sees (place_at v f n) (place_at (Some y) y.front n)
sees_copy v y f n at since whole legal =
    let later = at_later v y f at since in
    record {
      stays = record { book = ap Some later.0; shape = shape_kept v y f at since; counted = le_refl n };
      later = subst (λ (h : List EntryValue). IsPrefix f.journal h) (sym whole) later.1;
      legal = subst (λ (h : List EntryValue). Legal y.table.geometry y.table.slots y.table.limit h) (sym whole) legal;
    }

-- a place that met a copy sees it
pub met_sees : (v w : Option Published) (f met : FrontValue) (n : ℕ) → IsAt v f → IsMet v w met
    → Sees (place_at v f n) (place_at w met n)
met_sees v w f met n at m =
    subst (λ (u : Option Published). Sees (place_at v f n) (place_at u met n)) (sym m.seen)
    (subst (λ (g : FrontValue). Sees (place_at v f n) (place_at (Some m.copy) g n)) (sym m.front)
    (sees_copy v m.copy f n at m.later m.whole m.legal))

-- a place that met a copy which it can't use is of the same shape
pub left_shape : (v w : Option Published) (f : FrontValue) → IsAt v f → IsLeft v w → shape_at w ≡ shape_at v
left_shape v None f at left = absurd (subst (λ (u : Option Published). IsAt u f) left at)
left_shape v (Some y) f at left = shape_kept v y f at left

-- a place that counts a refusal misses
pub left_misses : (v w : Option Published) (f : FrontValue) (n m : ℕ) → IsAt v f → IsLeft v w → Rose n m → n ≤ m
    → Misses (place_at v f n) (place_at w f m)
left_misses v w f n m at left rose counted = record {
  stays = record { book = refl; shape = left_shape v w f at left; counted = counted };
  same = refl;
  cause = rose;
}

-- and so does one whose view stayed
pub same_misses : (v w : Option Published) (f : FrontValue) (n m : ℕ) → w ≡ v → Rose n m → n ≤ m
    → Misses (place_at v f n) (place_at w f m)
same_misses v w f n m same rose counted = record {
  stays = record { book = refl; shape = ap shape_at same; counted = counted };
  same = refl;
  cause = rose;
}

-- what is known of an option that is there
pub of_some : {X : Type 0} (N : Type 0) (S : X → Type 0) (o : Option X) (x : X) → o ≡ Some x → MatchOption o N S → S x
of_some N S o x is facts = subst (λ p. MatchOption p N S) is facts

-- what is known of one that isn't
pub of_none : {X : Type 0} (N : Type 0) (S : X → Type 0) (o : Option X) → o ≡ None → MatchOption o N S → N
of_none N S o is facts = subst (λ p. MatchOption p N S) is facts

-- a place that met a copy and whose count of refusals stayed sees it
pub kept_sees : (v w : Option Published) (f met : FrontValue) (n m : ℕ) → m ≡ n → IsAt v f → IsMet v w met
    → Sees (place_at v f n) (place_at w met m)
kept_sees v w f met n m same at m' =
    subst (λ (k : ℕ). Sees (place_at v f n) (place_at w met k)) (sym same) (met_sees v w f met n at m')

-- a place that met nothing keeps its front, and counts a refusal
pub kept_misses : (v w : Option Published) (f kept : FrontValue) (n m : ℕ) → kept ≡ f → w ≡ v → Rose n m → n ≤ m
    → Misses (place_at v f n) (place_at w kept m)
kept_misses v w f kept n m same view rose counted =
    subst (λ (g : FrontValue). Misses (place_at v f n) (place_at w g m)) (sym same)
    (same_misses v w f n m view rose counted)

-- and so does a place that met a copy which it can't use
pub kept_leaves : (v w : Option Published) (f kept : FrontValue) (n m : ℕ) → kept ≡ f → IsAt v f → IsLeft v w → Rose n m
    → n ≤ m → Misses (place_at v f n) (place_at w kept m)
kept_leaves v w f kept n m same at left rose counted =
    subst (λ (g : FrontValue). Misses (place_at v f n) (place_at w g m)) (sym same)
    (left_misses v w f n m at left rose counted)

-- a place at the publisher without entries is new at it
pub is_new : (a b : ControlValue) (p : PlaceValue) → b ≡ a → a.table.journal ≡ []
    → p ≡ record { book = Some b.book; shape = shape_of b.table; seen = b.table.journal; refusals = 0 } → IsNewAt a p
is_new a b p same none is =
    let there = is ∙ ap {B = PlaceValue}
    (λ (c : ControlValue). record { book = Some c.book; shape = shape_of c.table; seen = c.table.journal; refusals = 0 })
    same in
    record {
      book = ap (λ (q : PlaceValue). q.book) there;
      shape = ap (λ (q : PlaceValue). q.shape) there;
      seen = ap (λ (q : PlaceValue). q.seen) there ∙ none;
    }
