-- Literals that come each before the next are in their order.
use Rattle.std.proofs.Common.{◌≡◌, ℕ, ◌+◌, ◌≤◌, inl, inr, true, false, [], ◌∷◌, refl, sym, ap, ◌∙◌, arith}
use Rattle.std.proofs.lemmas.Bool.{cases_lt, lt-ltb, le-ltb}
use Rattle.clause_defs.specs.Literals.{Literal, code}
use Rattle.clause_defs.specs.Clauses.{Lits, Has, IsOrdered}
use Rattle.sat_text.specs.Climbing.{climbs_from}

-- of climbing literals the first is high enough, and the rest climbs from it
first_climbs : (n : ℕ) (l : Literal) (ls : Lits) → climbs_from n (l ∷ ls) ≡ true → (n ≤ code l) × (climbs_from (code l + 1) ls ≡ true)
first_climbs n l ls e = elim (cases_lt (code l) n) [
  | inl lt ↦ (let stops : climbs_from n (l ∷ ls) ≡ false = rw (lt-ltb (code l) n lt) refl in absurd (cc))
  | inr le ↦ (let on : climbs_from n (l ∷ ls) ≡ climbs_from (code l + 1) ls = rw (le-ltb (code l) n le) refl in (le, sym on ∙ e))
]

-- all climbing literals have a code of at least the number from which they climb
all_above : (n : ℕ) (ls : Lits) → climbs_from n ls ≡ true → (m : Literal) → Has ls m → n ≤ code m
all_above n [] e m h = absurd h
all_above n (l ∷ ls) e m h =
    let first = first_climbs n l ls e in
    let low : n ≤ code l = first.0 in
    elim h [
      | inl same ↦ (let equal : code l ≡ code m = ap code same in omega arith)
      | inr later ↦ (let above = all_above (code l + 1) ls first.1 m later in omega arith)
    ]

-- climbing literals are in their order, each once
pub climbing_is_ordered : (n : ℕ) (ls : Lits) → climbs_from n ls ≡ true → IsOrdered ls
climbing_is_ordered n [] e = tt
climbing_is_ordered n (l ∷ ls) e =
    let first = first_climbs n l ls e in
    (λ m h. (let above = all_above (code l + 1) ls first.1 m h in omega arith), climbing_is_ordered (code l + 1) ls first.1)
