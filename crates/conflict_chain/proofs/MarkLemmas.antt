-- The literals of a running clause by their marks.
use Rattle.std.proofs.Common.{◌≡◌, ◌≢◌, ℕ, zero, suc, ◌+◌, ◌*◌, ◌<◌, ◌≤◌, ◌↔◌, ◌⊎◌, inl, inr, Bool, true, false, IsTrue, if◌then◌else◌, List, [], ◌∷◌, ◌++◌, length, get_or, take, set, replicate, refl, sym, ◌∙◌, ap, subst, arith, length-set, get_or-set_other, length-append}
use Rattle.std.proofs.lemmas.Bool.{cases_Bool}
use Rattle.std.proofs.lemmas.Bool.Decides.{nat_tests}
use Rattle.std.proofs.lemmas.List.{length-replicate, get_or_default}
use Rattle.clause_defs.specs.Literals.{Literal, code, negation, IsLiteral}
use Rattle.clause_defs.specs.Clauses.{Lits, Has, IsOrdered}
use Rattle.clause_defs.specs.declared.verdict.TheConstants.{MAX_VARIABLE}
use Rattle.clause_laws.proofs.LiteralLemmas.{literal_cases}
use Rattle.pch_base.specs.Lits.{literal_of}
use Rattle.chain_check.specs.Marks.{with_literal, literals_where}
use Rattle.chain_check.proofs.MarkLemmas.{one_if, Has-literals_where, Has-set_passing, Has-set_failing, length-literals_set, literals_where-none, length-literals_le, IsOrdered-literals_where}
use Rattle.trail_defs.specs.Assignments.{AreApart}
use Rattle.assignment.proofs.ApartLemmas.{same_variable, few_literals}
use Rattle.conflict_chain.specs.Kept.{is_running, is_present, IsKept}

-- there is a mark for each literal of the variables, behind the first two
pub code_within : (l : Literal) (variables : ℕ) → l.variable ≤ variables → code l < 2 * variables + 2
code_within l variables h = at_sign l.variable l.positive h
  where
    at_sign : (v : ℕ) (b : Bool) → v ≤ variables → 2 * v + (if b then 1 else 0) < 2 * variables + 2
    at_sign v true k = omega arith
    at_sign v false k = omega arith

-- no literal has one of the first two codes
pub code_low : (l : Literal) → IsLiteral l → 2 ≤ code l
code_low l h = at_sign l.variable l.positive h.0
  where
    at_sign : (v : ℕ) (b : Bool) → 1 ≤ v → 2 ≤ 2 * v + (if b then 1 else 0)
    at_sign v true k = omega arith
    at_sign v false k = omega arith

-- a mark in place of another
pub Has-set : (test : ℕ → Bool) (ns : List ℕ) (l : Literal) (n : ℕ) → code l < length ns → (x : Literal)
    → Has (literals_where test 0 (set ns (code l) n)) x ↔ ((Has (literals_where test 0 ns) x × (x ≢ l)) ⊎ (IsTrue (test n) × (x ≡ l)))
Has-set test ns l n lt x = elim (cases_Bool (test n)) [
  | inl pass ↦ let own = Has-set_passing test ns l n lt pass x in (
    λ h. elim (literal_cases x l) [
      | inl same ↦ inr (pass, same)
      | inr other ↦ elim (own.0 h) [ inl old ↦ inl (old, other) | inr same ↦ absurd (other same) ]
    ],
    λ h. own.1 (elim h [ inl old ↦ inl old.0 | inr new ↦ inr new.1 ]),
  )
  | inr fail ↦ let own = Has-set_failing test ns l n lt fail x in (
    λ h. inl (own.0 h),
    λ h. elim h [ inl old ↦ own.1 old | inr new ↦ absurd (let t : test n ≡ true = new.0 in cc) ],
  )
]

-- the marks with another one for a literal
pub kept_set : (variables : ℕ) (marks : List ℕ) (count room : ℕ) → IsKept variables marks count room → (l : Literal) (n after : ℕ)
    → l.variable ≤ variables → IsLiteral l → after + one_if (is_present (get_or marks (code l) 0)) ≡ count + one_if (is_present n)
    → IsKept variables (set marks (code l) n) after room
kept_set variables marks count room kept l n after within literal counts =
    let lt : code l < length marks = let size = kept.size in let w = code_within l variables within in omega arith in
    let low = code_low l literal in
    record {
      few = kept.few;
      size = length-set marks (code l) n ∙ kept.size;
      no_literal = get_or-set_other marks (code l) 0 n 0 (λ e. absurd (omega arith)) ∙ kept.no_literal;
      no_literal_either = get_or-set_other marks (code l) 1 n 0 (λ e. absurd (omega arith)) ∙ kept.no_literal_either;
      counted = let both = length-literals_set is_present 0 marks (code l) n lt in let was = kept.counted in omega arith;
      room_for_all = kept.room_for_all;
    }

-- one is counted where the mark that goes is counted
pub some_counted : (variables : ℕ) (marks : List ℕ) (count room : ℕ) → IsKept variables marks count room → (l : Literal)
    → l.variable ≤ variables → one_if (is_present (get_or marks (code l) 0)) ≤ count
some_counted variables marks count room kept l within =
    let lt : code l < length marks = let size = kept.size in let w = code_within l variables within in omega arith in
    let both = length-literals_set is_present 0 marks (code l) 0 lt in
    let was = kept.counted in omega arith

-- no more are counted than there are marks
pub few_counted : (variables : ℕ) (marks : List ℕ) (count room : ℕ) → IsKept variables marks count room → count ≤ length marks
few_counted variables marks count room kept =
    let most = length-literals_le is_present 0 marks in
    let was = kept.counted in omega arith

-- a zero stands at each place of a list of zeros
zero_at : (z n k : ℕ) → z ≡ 0 → get_or (replicate n z) k 0 ≡ 0
zero_at z zero k e = refl
zero_at z (suc n) zero e = e
zero_at z (suc n) (suc k) e = zero_at z n k e

-- zeros mark nothing
pub none_marked : (test : ℕ → Bool) (marks : List ℕ) (n : ℕ) → test 0 ≡ false → marks ≡ replicate n 0 → literals_where test 0 marks ≡ []
none_marked test marks n fail e =
    literals_where-none test 0 marks (λ k lt. ap test (ap (λ ms. get_or ms k 0) e ∙ zero_at 0 n k refl) ∙ fail)

-- zeros for all literals are right marks
pub kept_zeros : (variables room n : ℕ) (marks : List ℕ) → variables ≤ MAX_VARIABLE → marks ≡ replicate n 0 → n ≡ 2 * variables + 2
    → variables + 1 ≤ room → IsKept variables marks 0 room
kept_zeros variables room n marks few e size enough = record {
  few = few;
  size = ap length e ∙ length-replicate n 0 ∙ size;
  no_literal = ap (λ ms. get_or ms 0 0) e ∙ zero_at 0 n 0 refl;
  no_literal_either = ap (λ ms. get_or ms 1 0) e ∙ zero_at 0 n 1 refl;
  counted = sym (ap length (none_marked is_present marks n refl e));
  room_for_all = enough;
}

-- ---- the literals listed by their codes

-- one more mark
pub literals_where-more : (test : ℕ → Bool) (at : ℕ) (ns : List ℕ) (i : ℕ) → i < length ns
    → literals_where test at (take (suc i) ns) ≡ literals_where test at (take i ns) ++ with_literal (test (get_or ns i 0)) (literal_of (at + i)) []
literals_where-more test at [] i lt = absurd (omega arith)
literals_where-more test at (n ∷ ns) zero lt = ap (λ a. with_literal (test n) (literal_of a) []) (let e : at ≡ at + 0 = omega arith in e)
literals_where-more test at (n ∷ ns) (suc i) lt =
    ap (with_literal (test n) (literal_of at)) (literals_where-more test (at + 1) ns i (omega arith))
    ∙ first (test n) (literal_of at) (literals_where test (at + 1) (take i ns)) (with_literal (test (get_or ns i 0)) (literal_of (at + 1 + i)) [])
    ∙ ap (λ a. with_literal (test n) (literal_of at) (literals_where test (at + 1) (take i ns)) ++ with_literal (test (get_or ns i 0)) (literal_of a) []) (let e : at + 1 + i ≡ at + suc i = omega arith in e)
  where
    first : (b : Bool) (l : Literal) (ls ms : Lits) → with_literal b l (ls ++ ms) ≡ with_literal b l ls ++ ms
    first true l ls ms = refl
    first false l ls ms = refl

-- the first marks have no more literals than all
pub literals_where-few : (test : ℕ → Bool) (at : ℕ) (ns : List ℕ) (i : ℕ) → length (literals_where test at (take i ns)) ≤ length (literals_where test at ns)
literals_where-few test at [] zero = omega arith
literals_where-few test at [] (suc i) = omega arith
literals_where-few test at (n ∷ ns) zero = omega arith
literals_where-few test at (n ∷ ns) (suc i) = more (test n) (literal_of at) (literals_where test (at + 1) (take i ns)) (literals_where test (at + 1) ns) (literals_where-few test (at + 1) ns i)
  where
    more : (b : Bool) (l : Literal) (ls ms : Lits) → length ls ≤ length ms → length (with_literal b l ls) ≤ length (with_literal b l ms)
    more true l ls ms h = omega arith
    more false l ls ms h = h

-- a literal has a mark of the running clause just where it stands there
pub Has-mark : (test : ℕ → Bool) (ns : List ℕ) (l : Literal) (n : ℕ) → code l < length ns → n ≡ get_or ns (code l) n
    → IsTrue (test n) ↔ Has (literals_where test 0 ns) l
Has-mark test ns l n lt read =
    let own = Has-literals_where test ns l in
    let same : n ≡ get_or ns (code l) 0 = read ∙ sym (get_or_default ns (code l) 0 n lt) in (
      λ h. own.1 (lt, sym (ap test same) ∙ h),
      λ h. ap test same ∙ (own.0 h).1,
    )

-- a mark counts as the code says
pub one_if_is : (b : Bool) → one_if b ≡ (if b then 1 else 0)
one_if_is true = refl
one_if_is false = refl

-- the mark at a place
mark_at : (ns : List ℕ) (i n : ℕ) → i < length ns → n ≡ get_or ns i n → get_or ns i 0 ≡ n
mark_at ns i n lt read = get_or_default ns i 0 n lt ∙ sym read

-- a mark that isn't 0
running : (n : ℕ) → n ≢ 0 → is_running n ≡ true
running n some = grind (arith, nat_tests)

-- a list with nothing behind it
append-nil : (ls : Lits) → ls ++ [] ≡ ls
append-nil [] = refl
append-nil (l ∷ ls) = ap (λ xs. l ∷ xs) (append-nil ls)

last : (ns : List ℕ) (i : ℕ) → i < length ns
    → literals_where is_running 0 (take i ns) ++ with_literal (is_running (get_or ns i 0)) (literal_of i) [] ≡ literals_where is_running 0 (take (i + 1) ns)
last ns i lt =
    ap (λ a. literals_where is_running 0 (take i ns) ++ with_literal (is_running (get_or ns i 0)) (literal_of a) []) (let e : i ≡ 0 + i = omega arith in e)
    ∙ sym (literals_where-more is_running 0 ns i lt) ∙ ap (λ k. literals_where is_running 0 (take k ns)) (let e : suc i ≡ i + 1 = omega arith in e)

-- a code without a mark adds no literal
pub listed_pass : (ns : List ℕ) (i n : ℕ) (ls : Lits) → i < length ns → n ≡ get_or ns i n → n ≡ 0
    → ls ≡ literals_where is_running 0 (take i ns) → ls ≡ literals_where is_running 0 (take (i + 1) ns)
listed_pass ns i n ls lt read none so_far =
    let is : is_running (get_or ns i 0) ≡ false = ap is_running (mark_at ns i n lt read ∙ none) in
    so_far ∙ sym (append-nil (literals_where is_running 0 (take i ns)))
    ∙ ap (λ b. literals_where is_running 0 (take i ns) ++ with_literal b (literal_of i) []) (sym is)
    ∙ last ns i lt

-- a mark adds its literal
pub listed_more : (ns : List ℕ) (i n : ℕ) (ls : Lits) (l : Literal) → i < length ns → n ≡ get_or ns i n → n ≢ 0 → l ≡ literal_of i
    → ls ≡ literals_where is_running 0 (take i ns) → ls ++ l ∷ [] ≡ literals_where is_running 0 (take (i + 1) ns)
listed_more ns i n ls l lt read some same so_far =
    let is : is_running (get_or ns i 0) ≡ true = ap is_running (mark_at ns i n lt read) ∙ running n some in
    ap (λ (x : Literal). ls ++ x ∷ []) same ∙ ap (λ (xs : Lits). xs ++ literal_of i ∷ []) so_far
    ∙ ap (λ b. literals_where is_running 0 (take i ns) ++ with_literal b (literal_of i) []) (sym is)
    ∙ last ns i lt

-- and there is room for it
pub listed_room : (ns : List ℕ) (i n : ℕ) (ls : Lits) → i < length ns → n ≡ get_or ns i n → n ≢ 0
    → ls ≡ literals_where is_running 0 (take i ns) → length ls < length (literals_where is_running 0 ns)
listed_room ns i n ls lt read some so_far =
    let more = ap length (listed_more ns i n ls (literal_of i) lt read some refl so_far) in
    let few = literals_where-few is_running 0 ns (i + 1) in
    omega (arith, length-append ls (literal_of i ∷ []))

-- the first two codes have no marks
pub listed_none : (ns : List ℕ) (ls : Lits) → 2 ≤ length ns → get_or ns 0 0 ≡ 0 → get_or ns 1 0 ≡ 0 → ls ≡ []
    → ls ≡ literals_where is_running 0 (take 2 ns)
listed_none ns ls two first second none =
    listed_pass ns 1 0 ls (omega arith) (sym second) refl
    (listed_pass ns 0 0 ls (omega arith) (sym first) refl none)

-- one mark counts once at most
pub at_most_one : (b : Bool) → (if b then 1 else 0) ≤ 1
at_most_one true = omega arith
at_most_one false = omega arith

-- a mark written at a literal's place changes that literal alone
pub marks_set : (test : ℕ → Bool) (marks : List ℕ) (variables place n : ℕ) (l : Literal) (ls : Lits) → l.variable ≤ variables
    → length marks ≡ 2 * variables + 2 → place ≡ code l → literals_where test 0 marks ≡ ls
    → (x : Literal) → Has (literals_where test 0 (set marks place n)) x ↔ ((Has ls x × (x ≢ l)) ⊎ (IsTrue (test n) × (x ≡ l)))
marks_set test marks variables place n l ls within size at same x =
    let low = code_within l variables within in
    subst (λ p. Has (literals_where test 0 (set marks p n)) x ↔ ((Has ls x × (x ≢ l)) ⊎ (IsTrue (test n) × (x ≡ l)))) (sym at)
    (subst (λ (ks : Lits). Has (literals_where test 0 (set marks (code l) n)) x ↔ ((Has ks x × (x ≢ l)) ⊎ (IsTrue (test n) × (x ≡ l)))) same
    (Has-set test marks l n (omega arith) x))

-- ---- how many literals there are

-- literals in their order of which none stands with its negation have different variables
apart_ordered : (c : Lits) → IsOrdered c → ((l : Literal) → Has c l → Has c (negation l) → ⊥) → AreApart c
apart_ordered [] ordered consistent = tt
apart_ordered (l ∷ ls) ordered consistent = (
  λ m h same. elim (same_variable m l same) [
    | inl e ↦ let less = ordered.0 m h in let equal = ap code e in absurd (omega arith)
    | inr e ↦ consistent l (inl refl) (inr (subst (Has ls) e h))
  ],
  apart_ordered ls ordered.1 (λ m h k. consistent m (inr h) (inr k)),
)

-- a literal of the running clause is one of the variables
literal_marked : (variables : ℕ) (marks : List ℕ) (count room : ℕ) → IsKept variables marks count room → (l : Literal)
    → Has (literals_where is_running 0 marks) l → IsLiteral l × (l.variable ≤ variables)
literal_marked variables marks count room kept l h =
    let own = (Has-literals_where is_running marks l).0 h in
    let marked : is_running (get_or marks (code l) 0) ≡ true = own.1 in
    let not_first : code l ≢ 0 = λ e. (let f : is_running 0 ≡ true = sym (ap is_running (ap (λ k. get_or marks k 0) e ∙ kept.no_literal)) ∙ marked in cc) in
    let not_second : code l ≢ 1 = λ e. (let f : is_running 0 ≡ true = sym (ap is_running (ap (λ k. get_or marks k 0) e ∙ kept.no_literal_either)) ∙ marked in cc) in
    let size = kept.size in
    let few = kept.few in
    let lt = own.0 in
    let bounds = code_bounds l in
    let low = bounds.0 in
    let high = bounds.1 in
    ((omega arith, omega arith), omega arith)
  where
    code_bounds : (l : Literal) → (2 * l.variable ≤ code l) × (code l ≤ 2 * l.variable + 1)
    code_bounds l = at_sign l.variable l.positive
      where
        at_sign : (v : ℕ) (b : Bool) → (2 * v ≤ 2 * v + (if b then 1 else 0)) × (2 * v + (if b then 1 else 0) ≤ 2 * v + 1)
        at_sign v true = (omega arith, omega arith)
        at_sign v false = (omega arith, omega arith)

-- no more literals than variables
pub literals_few : (variables : ℕ) (marks : List ℕ) (count room : ℕ) → IsKept variables marks count room
    → ((l : Literal) → Has (literals_where is_running 0 marks) l → Has (literals_where is_running 0 marks) (negation l) → ⊥)
    → length (literals_where is_running 0 marks) ≤ variables
literals_few variables marks count room kept consistent =
    few_literals variables (literals_where is_running 0 marks) (record {
      literals = λ l h. literal_marked variables marks count room kept l h;
      apart = apart_ordered (literals_where is_running 0 marks) (IsOrdered-literals_where is_running 0 marks) consistent;
    })
