-- The clause of a list of literals has these literals, each once and in their order.
use Rattle.std.proofs.Common.{◌≡◌, ℕ, ◌+◌, ◌*◌, ◌<◌, ◌≤◌, ◌↔◌, ◌⊎◌, inl, inr, Bool, true, false, if◌then◌else◌, nat_lt, [], ◌∷◌, length, refl, sym, ap, ◌∙◌, arith}
use Rattle.std.proofs.lemmas.Bool.{cases_order, lt-ltb, le-ltb, eq-eqb, ne_eqb}
use Rattle.clause_defs.specs.Literals.{Literal, code}
use Rattle.clause_defs.specs.Clauses.{Lits, Has, SameSet, IsOrdered, with_literal, clause_of}
use Rattle.clause_laws.proofs.ClauseLemmas.{same_ordered, same_sym, same_trans}

-- literals of the same variable and the same sign are the same
by_parts : (l m : Literal) → l.variable ≡ m.variable → l.positive ≡ m.positive → l ≡ m
by_parts l m e s = λ i. record { variable = e i; positive = s i }

-- twice a number and a bit tell the number and the bit
sign_same : (v w : ℕ) (a b : Bool) → 2 * v + (if a then 1 else 0) ≡ 2 * w + (if b then 1 else 0) → (v ≡ w) × (a ≡ b)
sign_same v w true true e = (omega arith, refl)
sign_same v w false false e = (omega arith, refl)
sign_same v w true false e = absurd (omega arith)
sign_same v w false true e = absurd (omega arith)

-- a literal is known by its number
pub same_code : (l m : Literal) → code l ≡ code m → l ≡ m
same_code l m e = let p = sign_same l.variable m.variable l.positive m.positive e in by_parts l m p.0 p.1

-- ---- where the new literal goes

-- a literal with a smaller code than the first one comes in front
with_literal-before : (l m : Literal) (ms : Lits) → code l < code m → with_literal l (m ∷ ms) ≡ l ∷ m ∷ ms
with_literal-before l m ms h = rw (lt-ltb (code l) (code m) h) refl

-- a literal with the first one's code is there already
with_literal-there : (l m : Literal) (ms : Lits) → code l ≡ code m → with_literal l (m ∷ ms) ≡ m ∷ ms
with_literal-there l m ms e =
    let not_below : nat_lt (code l) (code m) ≡ false = le-ltb (code l) (code m) (omega arith) in
    rw (not_below, eq-eqb (code l) (code m) e) refl

-- a literal with a greater code than the first one goes among the rest
with_literal-behind : (l m : Literal) (ms : Lits) → code m < code l → with_literal l (m ∷ ms) ≡ m ∷ with_literal l ms
with_literal-behind l m ms h =
    let not_below : nat_lt (code l) (code m) ≡ false = le-ltb (code l) (code m) (omega arith) in
    rw (not_below, ne_eqb (code l) (code m) (λ e. omega arith)) refl

-- ---- which literals there are then

-- a literal in front is one more
has_before : (l x : Literal) (c : Lits) → Has (l ∷ c) x ↔ ((l ≡ x) ⊎ Has c x)
has_before l x c = (λ h. h, λ h. h)

-- a literal that is the first one adds none
has_there : (l m x : Literal) (ms : Lits) → l ≡ m → Has (m ∷ ms) x ↔ ((l ≡ x) ⊎ Has (m ∷ ms) x)
has_there l m x ms e = (λ h. inr h, λ h. elim h [ inl k ↦ inl (sym e ∙ k) | inr k ↦ k ])

-- a literal among the rest is one more of the whole
has_behind : (l m x : Literal) (ms ns : Lits) → (Has ns x ↔ ((l ≡ x) ⊎ Has ms x)) → Has (m ∷ ns) x ↔ ((l ≡ x) ⊎ Has (m ∷ ms) x)
has_behind l m x ms ns h = (
  λ k. elim k [ inl e ↦ inr (inl e) | inr j ↦ elim (h.0 j) [ inl e ↦ inl e | inr i ↦ inr (inr i) ] ],
  λ k. elim k [ inl e ↦ inr (h.1 (inl e)) | inr j ↦ elim j [ inl e ↦ inl e | inr i ↦ inr (h.1 (inr i)) ] ],
)

-- the literals with one more are that one and those that were there
pub Has-with_literal : (l x : Literal) (c : Lits) → Has (with_literal l c) x ↔ ((l ≡ x) ⊎ Has c x)
Has-with_literal l x [] = has_before l x []
Has-with_literal l x (m ∷ ms) = elim (cases_order (code l) (code m)) [
  | inl e ↦ rw (with_literal-there l m ms e) (has_there l m x ms (same_code l m e))
  | inr h ↦ elim h [
    | inl k ↦ rw (with_literal-before l m ms k) (has_before l x (m ∷ ms))
    | inr k ↦ rw (with_literal-behind l m ms k) (has_behind l m x ms (with_literal l ms) (Has-with_literal l x ms))
  ]
]

-- ---- their order

-- a literal with a smaller code in front leaves the literals in their order
ordered_before : (l m : Literal) (ms : Lits) → code l < code m → IsOrdered (m ∷ ms) → IsOrdered (l ∷ m ∷ ms)
ordered_before l m ms h p = (
  λ x k. elim k [ inl e ↦ (let same : code m ≡ code x = ap code e in omega arith) | inr j ↦ (let above : code m < code x = p.0 x j in omega arith) ],
  p,
)

-- a literal with a greater code among the rest leaves the first one in front
ordered_behind : (l m : Literal) (ms : Lits) → code m < code l → IsOrdered (m ∷ ms) → IsOrdered (with_literal l ms) → IsOrdered (m ∷ with_literal l ms)
ordered_behind l m ms h p q = (
  λ x k. elim ((Has-with_literal l x ms).0 k) [ inl e ↦ (let same : code l ≡ code x = ap code e in omega arith) | inr j ↦ p.0 x j ],
  q,
)

-- literals in their order with one more are in their order
IsOrdered-with_literal : (l : Literal) (c : Lits) → IsOrdered c → IsOrdered (with_literal l c)
IsOrdered-with_literal l [] p = (λ x h. absurd h, tt)
IsOrdered-with_literal l (m ∷ ms) p = elim (cases_order (code l) (code m)) [
  | inl e ↦ rw (with_literal-there l m ms e) p
  | inr h ↦ elim h [
    | inl k ↦ rw (with_literal-before l m ms k) (ordered_before l m ms k p)
    | inr k ↦ rw (with_literal-behind l m ms k) (ordered_behind l m ms k p (IsOrdered-with_literal l ms p.1))
  ]
]

-- ---- the clause of a list

-- the clause of a list has its literals in their order
pub IsOrdered-clause_of : (ls : Lits) → IsOrdered (clause_of ls)
IsOrdered-clause_of [] = tt
IsOrdered-clause_of (l ∷ ls) = IsOrdered-with_literal l (clause_of ls) (IsOrdered-clause_of ls)

-- the clause of a list has the same literals as the list
pub SameSet-clause_of : (ls : Lits) → SameSet (clause_of ls) ls
SameSet-clause_of [] x = (λ h. h, λ h. h)
SameSet-clause_of (l ∷ ls) x =
    let one = Has-with_literal l x (clause_of ls) in
    let rest = SameSet-clause_of ls x in
    (λ h. elim (one.0 h) [ inl e ↦ inl e | inr k ↦ inr (rest.0 k) ], λ h. elim h [ inl e ↦ one.1 (inl e) | inr k ↦ one.1 (inr (rest.1 k)) ])

-- the ordered list with the same literals is the clause of the list
pub clause_of-ordered : (c ls : Lits) → IsOrdered c → SameSet c ls → c ≡ clause_of ls
clause_of-ordered c ls p e =
    same_ordered c (clause_of ls) p (IsOrdered-clause_of ls)
    (same_trans c ls (clause_of ls) e (same_sym (clause_of ls) ls (SameSet-clause_of ls)))

-- with one more literal there is at most one more
with_literal-length : (l : Literal) (c : Lits) → length (with_literal l c) ≤ length c + 1
with_literal-length l [] = omega arith
with_literal-length l (m ∷ ms) = elim (cases_order (code l) (code m)) [
  | inl e ↦ rw (with_literal-there l m ms e) (omega arith)
  | inr h ↦ elim h [
    | inl k ↦ rw (with_literal-before l m ms k) (omega arith)
    | inr k ↦ rw (with_literal-behind l m ms k) (let more = with_literal-length l ms in omega arith)
  ]
]

-- the clause of a list has no more literals than the list
pub clause_of-length : (ls : Lits) → length (clause_of ls) ≤ length ls
clause_of-length [] = omega arith
clause_of-length (l ∷ ls) = let one = with_literal-length l (clause_of ls) in let rest = clause_of-length ls in omega arith
