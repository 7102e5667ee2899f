-- One watch goes to another literal of its clause, or stays.
use Rattle.std.proofs.Common.{◌≡◌, ◌≢◌, ℕ, ◌/◌, ◌<◌, List, length, set, take, drop, Option, inl, inr, refl, sym, ap, ◌∙◌, subst, length-set, get_or-set_same, get_or-set_other, take-append-drop}
use Rattle.std.proofs.lemmas.Bool.{cases_eq}
use Rattle.clause_defs.specs.Literals.{Literal, negation}
use Rattle.clause_defs.specs.Clauses.{Lits, Has}
use Rattle.pch_base.proofs.SetLemmas.{Has-append}
use Rattle.sat_trail.specs.Watching.{no_literal, lit_at, other, lits_at, IsBound, AreWatches, IsWatched}
use Rattle.sat_trail.specs.Stages.{KeepsStages}
use Rattle.sat_trail.proofs.OtherLemmas.{other_other, other_ne}

-- what stands in the first n elements stands in the list
pub has_take : {X : Type 0} (n : ℕ) (xs : List X) (x : X) → Has (take n xs) x → Has xs x
has_take n xs x has = subst (λ ys. Has ys x) (take-append-drop n xs) ((Has-append (take n xs) (drop n xs) x).1 (inl has))

-- watch w has the literal m, and the others are as before
pub record IsMoved (watch later : Lits) (w : ℕ) (m : Literal) : Type 0 where
  pub size : length later ≡ length watch
  pub at : lit_at later w ≡ m
  pub others : (v : ℕ) → v ≢ w → lit_at later v ≡ lit_at watch v

-- where it was written
pub moved_set : (watch : Lits) (w : ℕ) (m : Literal) → w < length watch → IsMoved watch (set watch w m) w m
moved_set watch w m lt = record {
  size = length-set watch w m;
  at = get_or-set_same watch w m no_literal lt;
  others = λ v ne. get_or-set_other watch w v m no_literal ne;
}

-- where it stays
pub moved_same : (watch : Lits) (w : ℕ) (m : Literal) → lit_at watch w ≡ m → IsMoved watch watch w m
moved_same watch w m e = record { size = refl; at = e; others = λ v ne. refl }

module _ (clauses : List (Option Lits)) (loose : List ℕ) (watch later : Lits) (w : ℕ) (m : Literal) (moved : IsMoved watch later w m) where
  -- the watches are two literals of each clause, if m is another literal of its own
  module _ (watches : AreWatches clauses loose watch) (member : Has (lits_at clauses (w / 2)) m) (apart : m ≢ lit_at watch (other w)) where
    moved_members : (v : ℕ) → IsBound clauses loose v → Has (lits_at clauses (v / 2)) (lit_at later v)
    moved_members v bound = elim (cases_eq v w) [
      | inl e ↦ subst (λ u. Has (lits_at clauses (u / 2)) (lit_at later u)) (sym e) (subst (Has (lits_at clauses (w / 2))) (sym moved.at) member)
      | inr ne ↦ subst (Has (lits_at clauses (v / 2))) (sym (moved.others v ne)) (watches.members v bound)
    ]

    at_w : lit_at later w ≢ lit_at later (other w)
    at_w q = apart (sym moved.at ∙ q ∙ moved.others (other w) (other_ne w))

    moved_two : (v : ℕ) → IsBound clauses loose v → lit_at later v ≢ lit_at later (other v)
    moved_two v bound = elim (cases_eq v w) [
      | inl e ↦ subst (λ u. lit_at later u ≢ lit_at later (other u)) (sym e) at_w
      | inr ne ↦ elim (cases_eq (other v) w) [
        | inl f ↦ λ q. at_w (ap (lit_at later) (sym f) ∙ sym q ∙ ap (lit_at later) (sym (other_other v) ∙ ap other f))
        | inr ne2 ↦ λ q. watches.two v bound (sym (moved.others v ne) ∙ q ∙ moved.others (other v) ne2)
      ]
    ]

    pub moved_watches : AreWatches clauses loose later
    moved_watches = record { size = moved.size ∙ watches.size; members = moved_members; two = moved_two }

  -- What was watched stays so, if the old literal isn't true and the new one isn't false: the new one binds
  -- nothing, and the other watch bound nothing before.
  pub moved_watched : (t passed : Lits) → (Has passed (negation m) → ⊥) → (Has t (lit_at watch w) → ⊥)
      → IsWatched clauses loose watch t passed → IsWatched clauses loose later t passed
  moved_watched t passed open_still false_before watched v bound has = elim (cases_eq v w) [
    | inl e ↦ absurd (open_still (subst (λ l. Has passed (negation l)) (ap (lit_at later) e ∙ moved.at) has))
    | inr ne ↦
        let true_beside = watched v bound (subst (λ l. Has passed (negation l)) (moved.others v ne) has) in
        elim (cases_eq (other v) w) [
          | inl f ↦ absurd (false_before (subst (λ u. Has t (lit_at watch u)) f true_beside))
          | inr ne2 ↦ subst (Has t) (sym (moved.others (other v) ne2)) true_beside
        ]
  ]

  -- and so does every stage
  pub moved_stages : (t : Lits) → (Has t (negation m) → ⊥) → (Has t (lit_at watch w) → ⊥) → KeepsStages clauses loose watch later t
  moved_stages t open_still false_before n done watched =
      moved_watched (take n t) (take done t) (λ h. open_still (has_take done t (negation m) h))
      (λ h. false_before (has_take n t (lit_at watch w) h)) watched
