-- A trace with the sign in place of literals, clause by clause.
use Rattle.std.proofs.Common.{◌≡◌, ◌≢◌, ℕ, zero, suc, ◌+◌, ◌-◌, ◌<◌, ◌≤◌, nat_lt, ◌&&◌, ◌||◌, ◌==◌, not, Bool, true, false, if◌then◌else◌, inl, inr, List, [], ◌∷◌, ◌++◌, length, drop, slice_get, Option, Some, None, refl, sym, ap, ◌∙◌, arith, length-append, length-drop, add-one, ne_eqb}
use Rattle.std.proofs.lemmas.Bool.{lt-ltb, le-ltb, cases_lt}
use Rattle.clause_defs.specs.Clauses.{Lits}
use Rattle.clause_defs.specs.Traces.{Entry, IsCompactAt, literals_in, stated_of, antecedents_at, antecedents_of, index_at, index_of}
use Rattle.clause_defs.specs.Compaction.{has_antecedents, is_derived, any_derived, with_sign, compacted}
use Rattle.sat_values.specs.Copies.{copy_at}

-- ---- which clauses are derived

-- a test that passes in one case passes in either
either_true : (b : Bool) → b || true ≡ true
either_true true = refl
either_true false = refl

-- where no clause has antecedents, none is derived
none_derived : (t : List Entry) → ((k : ℕ) → antecedents_at t k ≡ []) → any_derived t ≡ false
none_derived [] none = refl
none_derived (e ∷ es) none = rw (none 0) (none_derived es (λ k. none (suc k)))

-- a list of antecedents that isn't empty names one
some_from : (ps : List ℕ) → ps ≢ [] → has_antecedents ps ≡ true
some_from [] some = absurd (some refl)
some_from (p ∷ ps) some = refl

-- where a clause has antecedents, one is derived
one_derived : (t : List Entry) (k : ℕ) → antecedents_at t k ≢ [] → any_derived t ≡ true
one_derived [] k some = absurd (some refl)
one_derived (e ∷ es) zero some = rw (some_from e.antecedents some) refl
one_derived (e ∷ es) (suc k) some = rw (one_derived es k some) (either_true (is_derived e))

-- element k behind the first n is element n + k
slice_get-drop : {X : Type 0} (n : ℕ) (xs : List X) (k : ℕ) → slice_get (drop n xs) k ≡ slice_get xs (n + k)
slice_get-drop zero xs k = ap (slice_get xs) (let e : k ≡ 0 + k = omega arith in e)
slice_get-drop (suc n) [] k = refl
slice_get-drop (suc n) (x ∷ xs) k = slice_get-drop n xs k ∙ ap (slice_get (x ∷ xs)) (let e : suc (n + k) ≡ suc n + k = omega arith in e)

-- where the last derived clause is number `last`
pub any_derived-drop : (t : List Entry) (last k : ℕ) → ((j : ℕ) → last ≤ j → antecedents_at t j ≡ [])
    → (0 < last → antecedents_at t (last - 1) ≢ []) → any_derived (drop k t) ≡ nat_lt k last
any_derived-drop t last k none some = elim (cases_lt k last) [
  | inl before ↦
      let at : k + (last - 1 - k) ≡ last - 1 = omega arith in
      one_derived (drop k t) (last - 1 - k) (λ e. some (omega arith)
      (ap (λ j. antecedents_at t j) (sym at) ∙ sym (ap antecedents_of (slice_get-drop k t (last - 1 - k))) ∙ e))
      ∙ sym (lt-ltb k last before)
  | inr past ↦
      none_derived (drop k t) (λ j. ap antecedents_of (slice_get-drop k t j) ∙ none (k + j) (omega arith))
      ∙ sym (le-ltb k last past)
]

-- ---- one clause

-- the clause that stands for e, where any says whether a later one is derived
abbrev shortened : Bool → Entry → Entry
shortened any e = if is_derived e && any then with_sign e else e

-- the clause that stands for the first of those that are left
abbrev of_first : Option Entry → Bool → List Entry → List Entry
of_first None any rest = rest
of_first (Some e) any rest = shortened any e ∷ rest

-- the compacted trace from clause k on is that clause, with the sign if it takes it, and the compacted rest
compacted-drop : (t : List Entry) (k : ℕ) → k < length t
    → compacted (drop k t) ≡ of_first (slice_get t k) (any_derived (drop (suc k) t)) (compacted (drop (suc k) t))
compacted-drop [] k lt = absurd (omega arith)
compacted-drop (f ∷ t) zero lt = refl
compacted-drop (f ∷ t) (suc k) lt = compacted-drop t k (omega arith)

-- a choice between two that are the same is either
if_same : {X : Type 0} (b : Bool) (x y z : X) → x ≡ z → y ≡ z → (if b then x else y) ≡ z
if_same true x y z e f = e
if_same false x y z e f = f

-- a clause that has the sign keeps it
signed : (o : Option Entry) (any : Bool) (rest : List Entry) → stated_of o ≡ None
    → of_first o any rest ≡ record { index = index_of o; stated = None; antecedents = antecedents_of o } ∷ rest
signed None any rest e = absurd (cc)
signed (Some e) any rest none =
    let own : e ≡ with_sign e = ap (λ s. record { index = e.index; stated = s; antecedents = e.antecedents }) none in
    ap (λ (f : Entry). f ∷ rest) (if_same (is_derived e && any) (with_sign e) e (with_sign e) refl own)

-- a derived clause before the last one gets it
gets_sign : (o : Option Entry) (rest : List Entry) → antecedents_of o ≢ []
    → of_first o true rest ≡ record { index = index_of o; stated = None; antecedents = antecedents_of o } ∷ rest
gets_sign None rest some = absurd (some refl)
gets_sign (Some e) rest some = rw (some_from e.antecedents some) refl

-- a test that fails in one case fails in both
both_false : (b : Bool) → b && false ≡ false
both_false true = refl
both_false false = refl

-- literals that are stated are those that stand there
stated_literals : (s : Option Lits) → (s ≡ None → ⊥) → s ≡ Some (literals_in s)
stated_literals None h = absurd (h refl)
stated_literals (Some c) h = refl

-- any other clause stays
stays_if : (e : Entry) (b : Bool) (rest : List Entry) → (e.stated ≡ None → ⊥) → b ≡ false
    → ((if b then with_sign e else e) ∷ rest) ≡ record { index = e.index; stated = Some (literals_in e.stated); antecedents = e.antecedents } ∷ rest
stays_if e b rest own f =
    rw f (ap (λ s. record { index = e.index; stated = s; antecedents = e.antecedents } ∷ rest) (stated_literals e.stated own))

-- a clause keeps its stated literals where no later one is derived
stays_last : (o : Option Entry) (rest : List Entry) → (o ≡ None → ⊥) → (stated_of o ≡ None → ⊥)
    → of_first o false rest ≡ record { index = index_of o; stated = Some (literals_in (stated_of o)); antecedents = antecedents_of o } ∷ rest
stays_last None rest there own = absurd (there refl)
stays_last (Some e) rest there own = stays_if e (is_derived e && false) rest own (both_false (is_derived e))

-- an original keeps its stated literals
stays_original : (o : Option Entry) (any : Bool) (rest : List Entry) → (o ≡ None → ⊥) → (stated_of o ≡ None → ⊥) → antecedents_of o ≡ []
    → of_first o any rest ≡ record { index = index_of o; stated = Some (literals_in (stated_of o)); antecedents = antecedents_of o } ∷ rest
stays_original None any rest there own none = absurd (there refl)
stays_original (Some e) any rest there own none =
    stays_if e (is_derived e && any) rest own (ap (λ ps. has_antecedents ps && any) none)

-- at a place before the end there is a clause
there_is : {X : Type 0} (xs : List X) (k : ℕ) → k < length xs → slice_get xs k ≡ None → ⊥
there_is [] k lt e = absurd (omega arith)
there_is (x ∷ xs) zero lt e = absurd (cc)
there_is (x ∷ xs) (suc k) lt e = there_is xs k (omega arith) e

-- a clause with the sign keeps it
pub compacted-signed : (t : List Entry) (k : ℕ) → k < length t → IsCompactAt t k
    → compacted (drop k t) ≡ copy_at t k true ∷ compacted (drop (k + 1) t)
compacted-signed t k lt sign =
    rw add-one (compacted-drop t k lt ∙ signed (slice_get t k) (any_derived (drop (suc k) t)) (compacted (drop (suc k) t)) sign)

-- a derived clause before the last derived one takes the sign
compacted-takes : (t : List Entry) (k last : ℕ) → k < length t → any_derived (drop (k + 1) t) ≡ nat_lt (k + 1) last → k < last - 1 → antecedents_at t k ≢ []
    → compacted (drop k t) ≡ copy_at t k true ∷ compacted (drop (k + 1) t)
compacted-takes t k last lt later before some =
    let any : any_derived (drop (k + 1) t) ≡ true = later ∙ lt-ltb (k + 1) last (omega arith) in
    let any' : any_derived (drop (suc k) t) ≡ true = rw add-one at any in
    rw add-one (compacted-drop t k lt ∙ ap (λ b. of_first (slice_get t k) b (compacted (drop (suc k) t))) any'
    ∙ gets_sign (slice_get t k) (compacted (drop (suc k) t)) some)

-- from the last derived clause on, stated literals stay
pub compacted-last : (t : List Entry) (k last : ℕ) → k < length t → any_derived (drop (k + 1) t) ≡ nat_lt (k + 1) last → last - 1 ≤ k → (IsCompactAt t k → ⊥)
    → compacted (drop k t) ≡ copy_at t k false ∷ compacted (drop (k + 1) t)
compacted-last t k last lt later past own =
    let any : any_derived (drop (k + 1) t) ≡ false = later ∙ le-ltb (k + 1) last (omega arith) in
    let any' : any_derived (drop (suc k) t) ≡ false = rw add-one at any in
    rw add-one (compacted-drop t k lt ∙ ap (λ b. of_first (slice_get t k) b (compacted (drop (suc k) t))) any'
    ∙ stays_last (slice_get t k) (compacted (drop (suc k) t)) (there_is t k lt) own)

-- an original's literals stay
compacted-original : (t : List Entry) (k : ℕ) → k < length t → antecedents_at t k ≡ [] → (IsCompactAt t k → ⊥)
    → compacted (drop k t) ≡ copy_at t k false ∷ compacted (drop (k + 1) t)
compacted-original t k lt none own =
    rw add-one (compacted-drop t k lt
    ∙ stays_original (slice_get t k) (any_derived (drop (suc k) t)) (compacted (drop (suc k) t)) (there_is t k lt) own none)

-- ---- the clauses so far

-- the sign in place of a clause's literals leaves the number of clauses as it was
length-shortened : (b : Bool) (e : Entry) (rest : List Entry) → length ((if b then with_sign e else e) ∷ rest) ≡ suc (length rest)
length-shortened b e rest = refl

-- a compacted trace has as many clauses
pub length-compacted : (t : List Entry) → length (compacted t) ≡ length t
length-compacted [] = refl
length-compacted (e ∷ es) = ap suc (length-compacted es)

-- a clause with the sign in place of its literals has the same index
index_shortened : (b : Bool) (e : Entry) → (if b then with_sign e else e).index ≡ e.index
index_shortened true e = refl
index_shortened false e = refl

-- a compacted trace has the same indices
pub index_at-compacted : (t : List Entry) (k : ℕ) → index_at (compacted t) k ≡ index_at t k
index_at-compacted [] k = refl
index_at-compacted (e ∷ es) zero = index_shortened (is_derived e && any_derived es) e
index_at-compacted (e ∷ es) (suc k) = index_at-compacted es k

-- the elements of the first list come first
slice_get-left : {X : Type 0} (xs ys : List X) (k : ℕ) → k < length xs → slice_get (xs ++ ys) k ≡ slice_get xs k
slice_get-left [] ys k lt = absurd (omega arith)
slice_get-left (x ∷ xs) ys zero lt = refl
slice_get-left (x ∷ xs) ys (suc k) lt = slice_get-left xs ys k (omega arith)

-- as many clauses were copied as came before those that are left
pub copied_so_far : (short t : List Entry) (k : ℕ) → k ≤ length t → short ++ compacted (drop k t) ≡ compacted t → length short ≡ k
copied_so_far short t k le e =
    let whole = ap length e in
    let left : length (compacted (drop k t)) ≡ length t - k = length-compacted (drop k t) ∙ length-drop k t in
    omega (arith, length-append short (compacted (drop k t)), length-compacted t)

-- the copies have the indices of the clauses
pub same_index_so_far : (short t : List Entry) (k j : ℕ) → short ++ compacted (drop k t) ≡ compacted t → j < length short → index_at short j ≡ index_at t j
same_index_so_far short t k j e lt =
    ap index_of (sym (slice_get-left short (compacted (drop k t)) j lt)) ∙ ap (λ u. index_at u j) e ∙ index_at-compacted t j

-- ---- whether there are antecedents

-- a clause that counts no antecedents has none
none_of : (ps : List ℕ) → true ≡ (length ps == 0) → ps ≡ []
none_of [] e = refl
none_of (p ∷ ps) e = let f = ne_eqb (length (p ∷ ps)) 0 (λ z. omega arith) in absurd (cc)

-- antecedents that aren't empty
pub some_of : (ps : List ℕ) → false ≡ (length ps == 0) → ps ≢ []
some_of [] e f = absurd (cc)
some_of (p ∷ ps) e f = absurd (cc)

-- the clause at a place before the last derived one gets the sign if it is derived
pub compacted-before : (t : List Entry) (k last : ℕ) (empty : Bool) → k < length t → any_derived (drop (k + 1) t) ≡ nat_lt (k + 1) last → k < last - 1
    → empty ≡ (length (antecedents_at t k) == 0) → (IsCompactAt t k → ⊥)
    → compacted (drop k t) ≡ copy_at t k (not empty) ∷ compacted (drop (k + 1) t)
compacted-before t k last true lt later before e own = compacted-original t k lt (none_of (antecedents_at t k) e) own
compacted-before t k last false lt later before e own = compacted-takes t k last lt later before (some_of (antecedents_at t k) e)
