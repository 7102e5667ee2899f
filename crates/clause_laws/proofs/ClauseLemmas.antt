-- Clauses as sets.
use Rattle.std.proofs.Common.{◌≡◌, ◌<◌, inl, inr, List, [], ◌∷◌, map, refl, sym, ap, arith}
use Rattle.clause_defs.specs.Literals.{Literal, code}
use Rattle.clause_defs.specs.Clauses.{Lits, Has, SameSet, IsOrdered}

-- a clause is the same set as itself
pub same_refl : (c : Lits) → SameSet c c
same_refl c l = (λ h. h, λ h. h)

-- a clause is the same set as one that is the same set as it
pub same_sym : (c d : Lits) → SameSet c d → SameSet d c
same_sym c d e l = ((e l).1, (e l).0)

-- clauses that are the same set as a third are the same set
pub same_trans : (c d e : Lits) → SameSet c d → SameSet d e → SameSet c e
same_trans c d e h k l = (λ x. (k l).0 ((h l).0 x), λ x. (h l).1 ((k l).1 x))

-- what a mapped list has comes from a member
pub Has-map : {X Y : Type 0} (g : X → Y) (xs : List X) (y : Y) → Has (map g xs) y → (x : X) × Has xs x × (g x ≡ y)
Has-map g [] y h = absurd h
Has-map g (x ∷ xs) y (inl e) = (x, inl refl, e)
Has-map g (x ∷ xs) y (inr h) = let r = Has-map g xs y h in (r.0, inr r.1, r.2)

-- the first literals of two ordered lists with the same literals
first_same : (l m : Literal) (ls ms : Lits) → IsOrdered (l ∷ ls) → IsOrdered (m ∷ ms) → SameSet (l ∷ ls) (m ∷ ms) → l ≡ m
first_same l m ls ms p q e =
    elim ((e l).0 (inl refl)) [
      | inl h ↦ sym h
      | inr h ↦ elim ((e m).1 (inl refl)) [ inl k ↦ k | inr k ↦ absurd (let below : code m < code l = q.0 l h in let above : code l < code m = p.0 m k in omega arith) ]
    ]

-- what the first list has behind its first literal, the second has there too
rest_within : (l m : Literal) (ls ms : Lits) → IsOrdered (l ∷ ls) → l ≡ m → SameSet (l ∷ ls) (m ∷ ms) → (x : Literal) → Has ls x → Has ms x
rest_within l m ls ms p same e x h =
    elim ((e x).0 (inr h)) [
      | inl k ↦ absurd (let below : code l < code x = p.0 x h in let equal : code m ≡ code x = ap code k in let first : code l ≡ code m = ap code same in omega arith)
      | inr k ↦ k
    ]

-- two ordered lists with the same literals are the same
pub same_ordered : (c d : Lits) → IsOrdered c → IsOrdered d → SameSet c d → c ≡ d
same_ordered [] [] p q e = refl
same_ordered [] (m ∷ ms) p q e = absurd ((e m).1 (inl refl))
same_ordered (l ∷ ls) [] p q e = absurd ((e l).0 (inl refl))
same_ordered (l ∷ ls) (m ∷ ms) p q e =
    let first : l ≡ m = first_same l m ls ms p q e in
    let rest : ls ≡ ms = same_ordered ls ms p.1 q.1 (λ x. (rest_within l m ls ms p first e x, rest_within m l ms ls q (sym first) (same_sym (l ∷ ls) (m ∷ ms) e) x)) in
    cc
