-- The kinds of steps keep the rule of the published copies.
use Rattle.std.proofs.Common.{◌≡◌, ◌≢◌, ℕ, List, [], ◌∷◌, set, Option, None, Some, refl, sym, ◌∙◌, subst, ⊎_elim}
use mathlib.Core.List.{IsPrefix}
use mathlib.Core.Option.{some}
use lib.ListN.{get_elem?}
use Rattle.crossbeam_utils.specs.Register.{Admits, TurnsAt, Forks, Merges}
use Rattle.atomic_table.proofs.Lists.{at_set, at_snoc}
use Rattle.live_table.specs.declared.published.Published.{Published}
use Rattle.live_table.specs.Rule.{IsWhole, Follows, IsLaterThan, IsKept, Meets}
use Rattle.live_table.proofs.Prefixes.{prefix_self, prefix_trans}

-- a copy goes on from itself
pub follows_self : (x : Published) → Follows x x
follows_self x = record { book = refl; shape = refl; later = prefix_self x.table.journal }

-- who was seen before what a copy goes on from was seen before the copy
pub later_than : (v : Option Published) (x y : Published) → IsLaterThan v x → Follows x y → IsLaterThan v y
later_than None x y since follows = tt
later_than (Some s) x y since follows = record {
  book = follows.book ∙ since.book;
  shape = follows.shape ∙ since.shape;
  later = prefix_trans s.table.journal x.table.journal y.table.journal since.later follows.later;
}

-- a newcomer may come: it has seen no copy
pub admits : Admits IsKept None
admits x views kept = record {
  whole = kept.whole;
  begun = λ seat v at. ⊎_elim (kept.begun seat v) (λ (e : None ≡ v). subst (λ (u : Option Published). IsLaterThan u x) e tt)
      (at_snoc views None v seat at);
}

-- a party meets a copy that is whole and goes on from the published one, which it is from then on
pub meets : (seat : ℕ) (v : Option Published) (x y : Published) → (IsWhole x → IsWhole y) → Follows x y
    → TurnsAt IsKept seat v x y Meets
meets seat v x y whole follows views kept at = (
  Some y,
  record {
    whole = whole kept.whole;
    begun = λ j u e. ⊎_elim
        (λ (t : (j ≡ seat) × (Some y ≡ u)). subst (λ (w : Option Published). IsLaterThan w y) t.1 (follows_self y))
        (λ (t : (j ≢ seat) × (get_elem? views j ≡ some u)). later_than u x y (kept.begun j u t.1) follows)
        (at_set views seat j (Some y) u e);
  },
  (whole kept.whole, later_than v x y (kept.begun seat v at) follows, refl),
)

-- the rule says as much of all parties where one has seen another copy that is a beginning of the published one
set_begun : (seat : ℕ) (v : Option Published) (x : Published) (views : List (Option Published))
    → ((j : ℕ) (u : Option Published) → get_elem? views j ≡ some u → IsLaterThan u x) → IsLaterThan v x
    → (j : ℕ) (u : Option Published) → get_elem? (set views seat v) j ≡ some u → IsLaterThan u x
set_begun seat v x views begun since j u e = ⊎_elim
    (λ (t : (j ≡ seat) × (v ≡ u)). subst (λ (w : Option Published). IsLaterThan w x) t.1 since)
    (λ (t : (j ≢ seat) × (get_elem? views j ≡ some u)). begun j u t.1)
    (at_set views seat j v u e)

-- what one party has seen may be told
pub tells : (seat : ℕ) (v : Option Published) → Forks IsKept seat v v v
tells seat v x views kept at = record {
  whole = kept.whole;
  begun = λ j u e. ⊎_elim
      (λ (here : get_elem? (set views seat v) j ≡ some u). set_begun seat v x views kept.begun (kept.begun seat v at) j u here)
      (λ (same : v ≡ u). subst (λ (w : Option Published). IsLaterThan w x) same (kept.begun seat v at))
      (at_snoc (set views seat v) v u j e);
}

-- a party may learn what it is told
pub learns : (seat : ℕ) (v : Option Published) (other : ℕ) (w : Option Published) → Merges IsKept seat v other w w None
learns seat v other w x views kept at apart there =
    let told : IsLaterThan w x = ⊎_elim
    (λ (t : (other ≡ seat) × (w ≡ w)). absurd (apart t.0))
    (λ (t : (other ≢ seat) × (get_elem? views other ≡ some w)). kept.begun other w t.1)
    (at_set views seat other w w there) in
    record {
      whole = kept.whole;
      begun = set_begun other None x (set views seat w) (set_begun seat w x views kept.begun told) tt;
    }
