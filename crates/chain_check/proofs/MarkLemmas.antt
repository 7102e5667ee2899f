-- The literals whose numbers pass a test.
use Rattle.std.proofs.Common.{◌≡◌, ◌≢◌, ℕ, zero, suc, ◌+◌, ◌<◌, ◌≤◌, ◌↔◌, ◌⊎◌, inl, inr, Bool, true, false, List, [], ◌∷◌, length, get_or, set, refl, sym, ◌∙◌, ap, subst, arith, length-set, get_or-set_same, get_or-set_other}
use Rattle.std.proofs.lemmas.Bool.{cases_eq, true≢false}
use Rattle.clause_defs.specs.Literals.{Literal, code}
use Rattle.clause_defs.specs.Clauses.{Lits, Has, IsOrdered}
use Rattle.pch_base.specs.Lits.{literal_of}
use Rattle.pch_base.specs.LitCodes.{literal_of-code, code-literal_of, code_injective}
use Rattle.chain_check.specs.Marks.{with_literal, literals_where}

-- 1 for a literal that is taken, 0 for one that isn't
abbrev pub one_if : Bool → ℕ
one_if true = 1
one_if false = 0

-- a literal that was there still is with one more taken or not
Has-with_literal : (b : Bool) (l : Literal) (ls : Lits) (x : Literal) → Has ls x → Has (with_literal b l ls) x
Has-with_literal true l ls x h = inr h
Has-with_literal false l ls x h = h

-- a literal that is taken is there
Has-with_first : (b : Bool) (l : Literal) (ls : Lits) → b ≡ true → Has (with_literal b l ls) l
Has-with_first true l ls e = inl refl
Has-with_first false l ls e = cc

-- a literal that is there was taken or was there before
with_literal-cases : (b : Bool) (l : Literal) (ls : Lits) (x : Literal) → Has (with_literal b l ls) x → ((b ≡ true) × (l ≡ x)) ⊎ Has ls x
with_literal-cases true l ls x (inl h) = inl (refl, h)
with_literal-cases true l ls x (inr h) = inr h
with_literal-cases false l ls x h = inr h

-- one literal more if it is taken
length-with_literal : (b : Bool) (l : Literal) (ls : Lits) → length (with_literal b l ls) ≡ one_if b + length ls
length-with_literal true l ls = omega arith
length-with_literal false l ls = omega arith

-- a literal whose number passes is one of them
has_at : (test : ℕ → Bool) (at : ℕ) (ns : List ℕ) (x : Literal) (i : ℕ) → code x ≡ at + i → i < length ns
    → test (get_or ns i 0) ≡ true → Has (literals_where test at ns) x
has_at test at [] x i e lt h = absurd (omega arith)
has_at test at (n ∷ ns) x zero e lt h =
    let same : literal_of at ≡ x = ap literal_of (let f : at ≡ code x = omega arith in f) ∙ literal_of-code x in
    subst (λ (l : Literal). Has (with_literal (test n) (literal_of at) (literals_where test (at + 1) ns)) l) same
    (Has-with_first (test n) (literal_of at) (literals_where test (at + 1) ns) h)
has_at test at (n ∷ ns) x (suc i) e lt h =
    Has-with_literal (test n) (literal_of at) (literals_where test (at + 1) ns) x
    (has_at test (at + 1) ns x i (omega arith) (omega arith) h)

-- the place of one of them
abbrev Place : (ℕ → Bool) → ℕ → List ℕ → Literal → Type 0
Place test at ns x = (i : ℕ) × (code x ≡ at + i) × (i < length ns) × (test (get_or ns i 0) ≡ true)

-- a place found among the later numbers is one among all
place_later : (test : ℕ → Bool) (at n : ℕ) (ns : List ℕ) (x : Literal) → Place test (at + 1) ns x → Place test at (n ∷ ns) x
place_later test at n ns x p =
    let e : code x ≡ at + 1 + p.0 = p.1 in
    let lt : p.0 < length ns = p.2 in
    (suc p.0, omega arith, omega arith, p.3)

-- each literal that passes the test has a place whose number passes it
place_of : (test : ℕ → Bool) (at : ℕ) (ns : List ℕ) (x : Literal) → Has (literals_where test at ns) x → Place test at ns x
place_of test at [] x h = absurd h
place_of test at (n ∷ ns) x h =
    elim (with_literal-cases (test n) (literal_of at) (literals_where test (at + 1) ns) x h) [
      | inl p ↦ (0, (let e : code x ≡ at = sym (ap code p.1) ∙ code-literal_of at in omega arith), omega arith, p.0)
      | inr later ↦ place_later test at n ns x (place_of test (at + 1) ns x later)
    ]

-- the literals with a number that passes
pub Has-literals_where : (test : ℕ → Bool) (ns : List ℕ) (x : Literal)
    → Has (literals_where test 0 ns) x ↔ ((code x < length ns) × (test (get_or ns (code x) 0) ≡ true))
Has-literals_where test ns x = (
  λ h. let p = place_of test 0 ns x h in
      let e : code x ≡ p.0 = let f : code x ≡ 0 + p.0 = p.1 in omega arith in
      let lt : p.0 < length ns = p.2 in
      (omega arith, ap (λ i. test (get_or ns i 0)) e ∙ p.3),
  λ h. has_at test 0 ns x (code x) (omega arith) h.0 h.1,
)

-- a number that passes adds its literal
pub Has-set_passing : (test : ℕ → Bool) (ns : List ℕ) (l : Literal) (n : ℕ) → code l < length ns → test n ≡ true
    → (x : Literal) → Has (literals_where test 0 (set ns (code l) n)) x ↔ (Has (literals_where test 0 ns) x ⊎ (x ≡ l))
Has-set_passing test ns l n lt pass x =
    elim (cases_eq (code x) (code l)) [
      | inl e ↦ (
        λ h. inr (code_injective x l e),
        λ h. (Has-literals_where test (set ns (code l) n) x).1
            (let len = length-set ns (code l) n in omega arith, ap (λ i. test (get_or (set ns (code l) n) i 0)) e ∙ ap test (get_or-set_same ns (code l) n 0 lt) ∙ pass),
      )
      | inr ne ↦ (
        λ h. let p = (Has-literals_where test (set ns (code l) n) x).0 h in
            inl ((Has-literals_where test ns x).1 (let len = length-set ns (code l) n in let b = p.0 in omega arith, sym (ap test (get_or-set_other ns (code l) (code x) n 0 ne)) ∙ p.1)),
        λ h. elim h [
          | inl k ↦ let p = (Has-literals_where test ns x).0 k in
              (Has-literals_where test (set ns (code l) n) x).1 (let len = length-set ns (code l) n in let b = p.0 in omega arith, ap test (get_or-set_other ns (code l) (code x) n 0 ne) ∙ p.1)
          | inr k ↦ absurd (ne (ap code k))
        ],
      )
    ]

-- a number that doesn't pass takes its literal out
pub Has-set_failing : (test : ℕ → Bool) (ns : List ℕ) (l : Literal) (n : ℕ) → code l < length ns → test n ≡ false
    → (x : Literal) → Has (literals_where test 0 (set ns (code l) n)) x ↔ (Has (literals_where test 0 ns) x × (x ≢ l))
Has-set_failing test ns l n lt fail x =
    elim (cases_eq (code x) (code l)) [
      | inl e ↦ (
        λ h. absurd (let p = (Has-literals_where test (set ns (code l) n) x).0 h in
            true≢false (sym p.1 ∙ ap (λ i. test (get_or (set ns (code l) n) i 0)) e ∙ ap test (get_or-set_same ns (code l) n 0 lt) ∙ fail)),
        λ h. absurd (h.1 (code_injective x l e)),
      )
      | inr ne ↦ (
        λ h. let p = (Has-literals_where test (set ns (code l) n) x).0 h in
            ((Has-literals_where test ns x).1 (let len = length-set ns (code l) n in let b = p.0 in omega arith, sym (ap test (get_or-set_other ns (code l) (code x) n 0 ne)) ∙ p.1), λ k. ne (ap code k)),
        λ h. let p = (Has-literals_where test ns x).0 h.0 in
            (Has-literals_where test (set ns (code l) n) x).1 (let len = length-set ns (code l) n in let b = p.0 in omega arith, ap test (get_or-set_other ns (code l) (code x) n 0 ne) ∙ p.1),
      )
    ]

-- a write changes their count by the two numbers
pub length-literals_set : (test : ℕ → Bool) (at : ℕ) (ns : List ℕ) (i n : ℕ) → i < length ns
    → length (literals_where test at (set ns i n)) + one_if (test (get_or ns i 0))
    ≡ length (literals_where test at ns) + one_if (test n)
length-literals_set test at [] i n lt = absurd (omega arith)
length-literals_set test at (m ∷ ns) zero n lt =
    let rest = literals_where test (at + 1) ns in
    let a = length-with_literal (test n) (literal_of at) (literals_where test (at + 1) ns) in
    let b = length-with_literal (test m) (literal_of at) (literals_where test (at + 1) ns) in omega arith
length-literals_set test at (m ∷ ns) (suc i) n lt =
    let a = length-with_literal (test m) (literal_of at) (literals_where test (at + 1) (set ns i n)) in
    let b = length-with_literal (test m) (literal_of at) (literals_where test (at + 1) ns) in
    let c = length-literals_set test (at + 1) ns i n (omega arith) in omega arith

-- a write that the test doesn't tell from what stood there changes nothing
pub literals_where-set_same : (test : ℕ → Bool) (at : ℕ) (ns : List ℕ) (i n : ℕ) → test (get_or ns i 0) ≡ test n
    → literals_where test at (set ns i n) ≡ literals_where test at ns
literals_where-set_same test at [] i n e = refl
literals_where-set_same test at (m ∷ ns) zero n e = ap (λ b. with_literal b (literal_of at) (literals_where test (at + 1) ns)) (sym e)
literals_where-set_same test at (m ∷ ns) (suc i) n e =
    ap (λ ls. with_literal (test m) (literal_of at) ls) (literals_where-set_same test (at + 1) ns i n e)

-- where no number passes there are none
pub literals_where-none : (test : ℕ → Bool) (at : ℕ) (ns : List ℕ) → ((k : ℕ) → k < length ns → test (get_or ns k 0) ≡ false)
    → literals_where test at ns ≡ []
literals_where-none test at [] h = refl
literals_where-none test at (n ∷ ns) h =
    ap (λ b. with_literal b (literal_of at) (literals_where test (at + 1) ns)) (h 0 (omega arith))
    ∙ literals_where-none test (at + 1) ns (λ k lt. h (suc k) (omega arith))

-- there are at most as many as numbers
pub length-literals_le : (test : ℕ → Bool) (at : ℕ) (ns : List ℕ) → length (literals_where test at ns) ≤ length ns
length-literals_le test at [] = omega arith
length-literals_le test at (n ∷ ns) =
    let a = length-with_literal (test n) (literal_of at) (literals_where test (at + 1) ns) in
    let b = length-literals_le test (at + 1) ns in
    let c = at_most_one (test n) in omega arith
  where
    -- a literal counts one at most
    at_most_one : (b : Bool) → one_if b ≤ 1
    at_most_one true = omega arith
    at_most_one false = omega arith

-- of two tests of which one passes at most, the counts add up
pub length-literals_add : (t u both : ℕ → Bool) → ((n : ℕ) → one_if (both n) ≡ one_if (t n) + one_if (u n)) → (at : ℕ) (ns : List ℕ)
    → length (literals_where both at ns) ≡ length (literals_where t at ns) + length (literals_where u at ns)
length-literals_add t u both h at [] = omega arith
length-literals_add t u both h at (n ∷ ns) =
    let a = length-with_literal (t n) (literal_of at) (literals_where t (at + 1) ns) in
    let b = length-with_literal (u n) (literal_of at) (literals_where u (at + 1) ns) in
    let c = length-with_literal (both n) (literal_of at) (literals_where both (at + 1) ns) in
    let d = length-literals_add t u both h (at + 1) ns in
    let e = h n in omega arith

-- a literal taken in front of literals with greater codes leaves them in their order
ordered_if : (b : Bool) (l : Literal) (ls : Lits) → ((m : Literal) → Has ls m → code l < code m) → IsOrdered ls → IsOrdered (with_literal b l ls)
ordered_if true l ls above o = (above, o)
ordered_if false l ls above o = o

-- they are in their order
pub IsOrdered-literals_where : (test : ℕ → Bool) (at : ℕ) (ns : List ℕ) → IsOrdered (literals_where test at ns)
IsOrdered-literals_where test at [] = tt
IsOrdered-literals_where test at (n ∷ ns) =
    ordered_if (test n) (literal_of at) (literals_where test (at + 1) ns)
    (λ m h. let p = place_of test (at + 1) ns m h in let e : code m ≡ at + 1 + p.0 = p.1 in let own = code-literal_of at in omega arith)
    (IsOrdered-literals_where test (at + 1) ns)
