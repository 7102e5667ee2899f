-- What a loop over a clause has seen of it.
use Rattle.std.proofs.Common.{◌≡◌, ◌≢◌, ℕ, zero, suc, ◌+◌, ◌<◌, ◌↔◌, ◌⊎◌, inl, inr, Bool, true, false, not, List, [], ◌∷◌, ◌++◌, length, get_or, take, refl, sym, ◌∙◌, ap, subst, arith, add-one}
use Rattle.clause_defs.specs.Literals.{Literal, negation, code}
use Rattle.clause_defs.specs.Clauses.{Lits, Has, IsOrdered}
use Rattle.clause_laws.proofs.LiteralLemmas.{literal_cases, negation-negation}

-- the first i + 1 elements are the first i and element i
Has-take_suc : {X : Type 0} (xs : List X) (i : ℕ) (x y : X) → i < length xs → x ≡ get_or xs i x
    → Has (take (suc i) xs) y ↔ (Has (take i xs) y ⊎ (x ≡ y))
Has-take_suc [] i x y lt e = absurd (omega arith)
Has-take_suc (z ∷ zs) zero x y lt e =
    (λ h. elim h [ inl k ↦ inr (e ∙ k) | inr k ↦ absurd k ], λ h. elim h [ inl k ↦ absurd k | inr k ↦ inl (sym e ∙ k) ])
Has-take_suc (z ∷ zs) (suc i) x y lt e =
    let rest = Has-take_suc zs i x y (omega arith) e in (
      λ h. elim h [
        | inl k ↦ inl (inl k)
        | inr k ↦ elim (rest.0 k) [ inl m ↦ inl (inr m) | inr m ↦ inr m ]
      ],
      λ h. elim h [
        | inl k ↦ elim k [ inl m ↦ inl m | inr m ↦ inr (rest.1 (inl m)) ]
        | inr k ↦ inr (rest.1 (inr k))
      ],
    )

-- one more element
pub Has-take_more : {X : Type 0} (xs : List X) (i : ℕ) (x y : X) → i < length xs → x ≡ get_or xs i x
    → Has (take (i + 1) xs) y ↔ (Has (take i xs) y ⊎ (x ≡ y))
Has-take_more xs i x y lt e = rw add-one (Has-take_suc xs i x y lt e)

-- what stands among the first elements stands in the list
pub Has-take : {X : Type 0} (xs : List X) (i : ℕ) (y : X) → Has (take i xs) y → Has xs y
Has-take xs zero y h = absurd h
Has-take [] (suc i) y h = absurd h
Has-take (z ∷ zs) (suc i) y (inl e) = inl e
Has-take (z ∷ zs) (suc i) y (inr h) = inr (Has-take zs i y h)

-- the element at a place of a list is one of the list
pub Has-get : {X : Type 0} (xs : List X) (i : ℕ) (x : X) → i < length xs → x ≡ get_or xs i x → Has xs x
Has-get [] i x lt e = absurd (omega arith)
Has-get (z ∷ zs) zero x lt e = inl (sym e)
Has-get (z ∷ zs) (suc i) x lt e = inr (Has-get zs i x (omega arith) e)

-- a literal stands in a clause or not
pub has_cases : (c : Lits) (l : Literal) → Has c l ⊎ (Has c l → ⊥)
has_cases [] l = inr (λ h. h)
has_cases (m ∷ ms) l =
    elim (literal_cases m l) [
      | inl e ↦ inl (inl e)
      | inr ne ↦ elim (has_cases ms l) [ inl h ↦ inl (inr h) | inr n ↦ inr (λ h. elim h [ inl e ↦ ne e | inr k ↦ n k ]) ]
    ]

-- an ordered clause has no literal twice
pub take-distinct : (c : Lits) (i : ℕ) (l : Literal) → IsOrdered c → i < length c → l ≡ get_or c i l → Has (take i c) l → ⊥
take-distinct [] i l o lt e h = absurd (omega arith)
take-distinct (m ∷ ms) zero l o lt e h = h
take-distinct (m ∷ ms) (suc i) l o lt e (inl same) =
    let later : code m < code l = o.0 l (Has-get ms i l (omega arith) e) in
    let equal : code m ≡ code l = ap code same in absurd (omega arith)
take-distinct (m ∷ ms) (suc i) l o lt e (inr h) = take-distinct ms i l o.1 (omega arith) e h

-- the negation of a negation, on either side
pub negation_swap : (l m : Literal) → negation l ≡ m → l ≡ negation m
negation_swap l m e = sym (negation-negation l) ∙ ap negation e

-- no literal is its own negation
pub not_own_negation : (l : Literal) → l ≢ negation l
not_own_negation l e = at_sign l.positive (ap (λ (m : Literal). m.positive) e)
  where
    at_sign : (b : Bool) → b ≢ not b
    at_sign true h = cc
    at_sign false h = cc

-- a list without members is empty
pub none_from : (c : Lits) → ((l : Literal) → Has c l → ⊥) → c ≡ []
none_from [] h = refl
none_from (l ∷ ls) h = absurd (h l (inl refl))

-- a member of a list with one more is an old one or the new one
pub Has-snoc : {X : Type 0} (xs : List X) (y x : X) → Has (xs ++ y ∷ []) x ↔ (Has xs x ⊎ (y ≡ x))
Has-snoc [] y x = (λ h. elim h [ inl e ↦ inr e | inr n ↦ absurd n ], λ h. elim h [ inl n ↦ absurd n | inr e ↦ inl e ])
Has-snoc (z ∷ zs) y x =
    let rest = Has-snoc zs y x in (
      λ h. elim h [ inl e ↦ inl (inl e) | inr k ↦ elim (rest.0 k) [ inl m ↦ inl (inr m) | inr m ↦ inr m ] ],
      λ h. elim h [ inl k ↦ elim k [ inl e ↦ inl e | inr m ↦ inr (rest.1 (inl m)) ] | inr e ↦ inr (rest.1 (inr e)) ],
    )

-- One more literal of a clause c is taken out of what is left of the clause s: before, r was left and o had what
-- was taken out.
module _ (s r o q c : Lits) (i : ℕ) (l : Literal) (lt : i < length c) (read : l ≡ get_or c i l)
    (left : (x : Literal) → Has r x ↔ (Has s x × (Has (take i c) x → ⊥))) where
  -- what is left without one more literal of a clause has none of those gone through
  pub left_more : (t : Lits) → ((x : Literal) → Has t x ↔ (Has r x × (x ≢ l)))
      → (x : Literal) → Has t x ↔ (Has s x × (Has (take (i + 1) c) x → ⊥))
  left_more t removed x =
      let more = Has-take_more c i l x lt read in (
        λ h. let k = (removed x).0 h in
            let j = (left x).0 k.0 in
            (j.0, λ n. elim (more.0 n) [ inl m ↦ j.1 m | inr e ↦ k.1 (sym e) ]),
        λ h. (removed x).1 ((left x).1 (h.0, λ n. h.1 (more.1 (inl n))), λ e. h.1 (more.1 (inr (sym e)))),
      )

  module _ (moved : (x : Literal) → Has o x ↔ (Has q x ⊎ (Has s x × Has (take i c) x))) where
    -- a literal that stands in the running clause is moved with those before it
    pub moved_more : Has r l → (x : Literal) → Has (o ++ l ∷ []) x ↔ (Has q x ⊎ (Has s x × Has (take (i + 1) c) x))
    moved_more there x =
        let more = Has-take_more c i l x lt read in (
          λ h. elim ((Has-snoc o l x).0 h) [
            | inl k ↦ elim ((moved x).0 k) [ inl m ↦ inl m | inr m ↦ inr (m.0, more.1 (inl m.1)) ]
            | inr e ↦ inr (subst (Has s) e ((left l).0 there).0, more.1 (inr e))
          ],
          λ h. (Has-snoc o l x).1 (elim h [
            | inl k ↦ inl ((moved x).1 (inl k))
            | inr k ↦ elim (more.0 k.1) [ inl m ↦ inl ((moved x).1 (inr (k.0, m))) | inr e ↦ inr e ]
          ]),
        )

    -- a literal that doesn't stand in the running clause leaves what was moved as it was
    pub moved_same : (Has r l → ⊥) → (x : Literal) → Has o x ↔ (Has q x ⊎ (Has s x × Has (take (i + 1) c) x))
    moved_same gone x =
        let more = Has-take_more c i l x lt read in (
          λ h. elim ((moved x).0 h) [ inl m ↦ inl m | inr m ↦ inr (m.0, more.1 (inl m.1)) ],
          λ h. (moved x).1 (elim h [
            | inl k ↦ inl k
            | inr k ↦ elim (more.0 k.1) [
              | inl m ↦ inr (k.0, m)
              | inr e ↦ elim (has_cases (take i c) x) [
                | inl m ↦ inr (k.0, m)
                | inr none ↦ absurd (gone (let R : Literal → Type 0 = λ y. Has r y in subst R (sym e) ((left x).1 (k.0, none))))
              ]
            ]
          ]),
        )

-- a list of length 0 is empty
pub no_length : {X : Type 0} (xs : List X) → length xs ≡ 0 → xs ≡ []
no_length [] e = refl
no_length (x ∷ xs) e = absurd (omega arith)
