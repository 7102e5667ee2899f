-- Which clauses are satisfied where an assignment gives variables their bits.
use Rattle.std.proofs.Common.{◌≡◌, ℕ, zero, suc, ◌<◌, ◌≤◌, ◌==◌, inl, inr, Bool, true, false, not, ◌&&◌, if◌then◌else◌, List, [], ◌∷◌, ◌++◌, length, map, get_or, Some, refl, ap, subst, ◌∙◌, arith}
use Rattle.blif_defs.specs.declared.mark.Mark.{Mark}
use Rattle.blif_defs.specs.declared.mark.Mark.TheVariants.{Zero, One, Any}
use Rattle.clause_defs.specs.Literals.{Literal, negation}
use Rattle.clause_defs.specs.Clauses.{Lits, Has, IsTrueUnder, Satisfies}
use Rattle.fabric_defs.specs.Numbered.{list_of}
use Rattle.net_defs.specs.Evaluation.{allows, hits, bits_at}
use Rattle.miter_defs.specs.Numberings.{signal_variable}
use Rattle.miter_defs.specs.Miters.{literal, positive, negative, mark_literals, row_literals, hit_clauses, cover_clauses, difference_clauses}
use Rattle.miter_laws.specs.Extensions.{GivesBit}
use Rattle.miter_laws.proofs.Membership.{Has-append_left, Has-append_right, Has-map_of, list_of-has, Each, each_nil, each_cons, each_one, each_append, each_map, each_list_of}

-- the bit of a truth value
abbrev pub bit : Bool → ℕ
bit b = if b then 1 else 0

-- the sign of a literal that is true where its variable has this bit
pub true_literal : (a : List ℕ) (v b : ℕ) (sign : Bool) → GivesBit a v b → b ≡ bit sign → IsTrueUnder a (literal v sign)
true_literal a v b sign h e = h ∙ ap Some e

-- ---- the literals of a row

-- all literals of the list are true, or one isn't
abbrev pub Decided : List ℕ → Lits → Bool → Type 0
Decided a ls true = Each (IsTrueUnder a) ls
Decided a ls false = (l : Literal) × Has ls l × IsTrueUnder a (negation l)

-- two lists are true where both are
decided_append : (a : List ℕ) (p q : Lits) (g h : Bool) → Decided a p g → Decided a q h → Decided a (p ++ q) (g && h)
decided_append a p q true true x y = each_append (IsTrueUnder a) p q x y
decided_append a p q true false x y = (y.0, Has-append_right p q y.0 y.1, y.2)
decided_append a p q false h x y = (x.0, Has-append_left p q x.0 x.1, x.2)

-- what a mark asks is true exactly where it may stand over the bit
decided_mark : (a : List ℕ) (m : Mark) (s b : ℕ) → GivesBit a (signal_variable s) b → b ≤ 1
    → Decided a (mark_literals m s) (allows m b)
decided_mark a Zero s zero h le = each_one (IsTrueUnder a) (negative (signal_variable s)) h
decided_mark a Zero s (suc zero) h le = (negative (signal_variable s), inl refl, h)
decided_mark a Zero s (suc (suc n)) h le = absurd (omega arith)
decided_mark a One s zero h le = (positive (signal_variable s), inl refl, h)
decided_mark a One s (suc zero) h le = each_one (IsTrueUnder a) (positive (signal_variable s)) h
decided_mark a One s (suc (suc n)) h le = absurd (omega arith)
decided_mark a Any s b h le = each_nil (IsTrueUnder a)

-- the assignment gives the signal its bit, which is 0 or 1
pub record GivesSignal (a bits : List ℕ) (s : ℕ) : Type 0 where
  pub given : GivesBit a (signal_variable s) (get_or bits s 0)
  pub within : get_or bits s 0 ≤ 1

-- what a row asks is true exactly where it hits
pub decided_row : (a bits : List ℕ) (row : List Mark) (ss : List ℕ) → length row ≡ length ss
    → ((s : ℕ) → Has ss s → GivesSignal a bits s) → Decided a (row_literals row ss) (hits row (bits_at bits ss))
decided_row a bits [] ss e h = each_nil (IsTrueUnder a)
decided_row a bits (m ∷ ms) [] e h = absurd (omega arith)
decided_row a bits (m ∷ ms) (s ∷ ss) e h =
    let here = h s (inl refl) in
    decided_append a (mark_literals m s) (row_literals ms ss) (allows m (get_or bits s 0)) (hits ms (bits_at bits ss))
    (decided_mark a m s (get_or bits s 0) here.given here.within)
    (decided_row a bits ms ss (omega arith) (λ t has. h t (inr has)))

-- ---- the clauses of a row

-- where the variable says whether all that is asked is true, its clauses are satisfied
pub hit_clauses-hold : (a : List ℕ) (t : ℕ) (asked : Lits) (h : Bool) → GivesBit a t (bit h) → Decided a asked h
    → Each (Satisfies a) (hit_clauses t asked)
hit_clauses-hold a t asked true given all =
    each_append (Satisfies a) (map (λ l. negative t ∷ l ∷ []) asked) ((positive t ∷ map negation asked) ∷ [])
    (each_map (Satisfies a) (λ l. negative t ∷ l ∷ []) asked (λ l has. (l, inr (inl refl), all l has)))
    (each_one (Satisfies a) (positive t ∷ map negation asked) (positive t, inl refl, given))
hit_clauses-hold a t asked false given one =
    each_append (Satisfies a) (map (λ l. negative t ∷ l ∷ []) asked) ((positive t ∷ map negation asked) ∷ [])
    (each_map (Satisfies a) (λ l. negative t ∷ l ∷ []) asked (λ l has. (negative t, inl refl, given)))
    (each_one (Satisfies a) (positive t ∷ map negation asked)
    (negation one.0, inr (Has-map_of negation asked one.0 one.1), one.2))

-- ---- the clauses of a node

-- some of the n tests is true, or none is
abbrev pub SomeBelow : ℕ → (ℕ → Bool) → Bool → Type 0
SomeBelow n h true = (r : ℕ) × (r < n) × (h r ≡ true)
SomeBelow n h false = (r : ℕ) → r < n → h r ≡ false

-- the node is on exactly where some test is true
pub cover_clauses-hold : (a : List ℕ) (node n : ℕ) (on some : Bool) (f : ℕ → ℕ) (h : ℕ → Bool)
    → GivesBit a node (if some then bit on else bit (not on)) → ((r : ℕ) → r < n → GivesBit a (f r) (bit (h r)))
    → SomeBelow n h some → Each (Satisfies a) (cover_clauses node on (list_of n f))
cover_clauses-hold a node n on true f h given rows one =
    let hit : ℕ = f one.0 in
    each_cons (Satisfies a) (literal node (not on) ∷ map positive (list_of n f)) _ (
      positive hit,
      inr (Has-map_of positive (list_of n f) hit (list_of-has n f one.0 one.1)),
      true_literal a hit (bit (h one.0)) true (rows one.0 one.1) (ap bit one.2),
    )
    (each_map (Satisfies a) (λ v. literal node on ∷ negative v ∷ []) (list_of n f)
    (λ v has. (literal node on, inl refl, given)))
cover_clauses-hold a node n on false f h given rows none =
    each_cons (Satisfies a) (literal node (not on) ∷ map positive (list_of n f)) _
    (literal node (not on), inl refl, given)
    (each_map (Satisfies a) (λ v. literal node on ∷ negative v ∷ []) (list_of n f)
    (λ v has. (
      negative v,
      inr (inl refl),
      each_list_of (λ t. IsTrueUnder a (negative t)) n f
          (λ r lt. true_literal a (f r) (bit (h r)) false (rows r lt) (ap bit (none r lt))) v has,
    )))

-- ---- the clauses of a difference

-- what holds of the four clauses
pub each_difference : (P : Lits → Type 0) (d u v : ℕ)
    → P (negative d ∷ positive u ∷ positive v ∷ []) → P (negative d ∷ negative u ∷ negative v ∷ [])
    → P (positive d ∷ negative u ∷ positive v ∷ []) → P (positive d ∷ positive u ∷ negative v ∷ [])
    → Each P (difference_clauses d u v)
each_difference P d u v p q r s c (inl e) = subst P e p
each_difference P d u v p q r s c (inr (inl e)) = subst P e q
each_difference P d u v p q r s c (inr (inr (inl e))) = subst P e r
each_difference P d u v p q r s c (inr (inr (inr (inl e)))) = subst P e s
each_difference P d u v p q r s c (inr (inr (inr (inr none)))) = absurd none

-- 1 where the two bits aren't the same
abbrev pub difference : ℕ → ℕ → ℕ
difference p q = if p == q then 0 else 1

-- where the variable says whether the bits differ, its clauses are satisfied
pub difference_clauses-hold : (a : List ℕ) (d u v p q : ℕ) → GivesBit a d (difference p q) → GivesBit a u p → GivesBit a v q → p ≤ 1 → q ≤ 1
    → Each (Satisfies a) (difference_clauses d u v)
difference_clauses-hold a d u v (suc (suc n)) q given x y le lf = absurd (omega arith)
difference_clauses-hold a d u v zero (suc (suc n)) given x y le lf = absurd (omega arith)
difference_clauses-hold a d u v (suc zero) (suc (suc n)) given x y le lf = absurd (omega arith)
difference_clauses-hold a d u v zero zero given x y le lf =
    each_difference (Satisfies a) d u v (negative d, inl refl, given) (negative d, inl refl, given)
    (negative u, inr (inl refl), x) (negative v, inr (inr (inl refl)), y)
difference_clauses-hold a d u v zero (suc zero) given x y le lf =
    each_difference (Satisfies a) d u v (positive v, inr (inr (inl refl)), y) (negative u, inr (inl refl), x)
    (positive d, inl refl, given) (positive d, inl refl, given)
difference_clauses-hold a d u v (suc zero) zero given x y le lf =
    each_difference (Satisfies a) d u v (positive u, inr (inl refl), x) (negative v, inr (inr (inl refl)), y)
    (positive d, inl refl, given) (positive d, inl refl, given)
difference_clauses-hold a d u v (suc zero) (suc zero) given x y le lf =
    each_difference (Satisfies a) d u v (negative d, inl refl, given) (negative d, inl refl, given)
    (positive v, inr (inr (inl refl)), y) (positive u, inr (inl refl), x)
