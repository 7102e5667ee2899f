-- Traces as lists side by side.
use Rattle.std.proofs.Common.{◌≡◌, ℕ, zero, suc, ◌+◌, ◌-◌, ◌<◌, ◌≤◌, ◌↔◌, max, Bool, true, false, inl, inr, List, [], ◌∷◌, ◌++◌, length, map, get_or, take, drop, slice_get, Option, Some, None, option_map, refl, sym, ap, ◌∙◌, subst, arith, length-append, Result, Ok, Err, is_err, OnOk, OnErr, IsTrue}
use Rattle.std.proofs.lemmas.List.{take_at, drop_more, map-append}
use Rattle.std.proofs.lemmas.Option.{slice_get-map}
use Rattle.clause_defs.specs.declared.verdict.TheConstants.{MAX_CLAUSES}
use Rattle.clause_defs.specs.Literals.{Literal}
use Rattle.clause_defs.specs.Clauses.{Lits, Has}
use Rattle.clause_defs.specs.Traces.{Entry, IsTrace, IsCompactAt, literals_in, stated_of, stated_at, lits_at, antecedents_at, index_at}
use Rattle.sat_values.specs.TraceArrays.{stated_unless, entries_of, stated_lits, greatest_of, greatest_variable, AreTrace}
use Rattle.clause_laws.proofs.TraceLemmas.{CanFollow, IsTrace-push}

-- the entry that the columns hold in one place: index, sign, literals, antecedents
abbrev pub entry : ℕ → Bool → Lits → List ℕ → Entry
entry i sign l a = record { index = i; stated = stated_unless sign l; antecedents = a }

-- the signs behind the first one are those of the later clauses
behind_first : (signs : List Bool) (k : ℕ) → get_or (drop 1 signs) k false ≡ get_or signs (suc k) false
behind_first [] k = refl
behind_first (b ∷ bs) k = refl

-- there are as many entries as indices
pub length-entries_of : (is : List ℕ) (ls : List Lits) (ants : List (List ℕ)) (signs : List Bool) → length ls ≡ length is → length ants ≡ length is
    → length (entries_of is ls ants signs) ≡ length is
length-entries_of [] ls ants signs p q = refl
length-entries_of (i ∷ is) [] ants signs p q = absurd (omega arith)
length-entries_of (i ∷ is) (l ∷ ls) [] signs p q = absurd (omega arith)
length-entries_of (i ∷ is) (l ∷ ls) (a ∷ ants) signs p q = ap suc (length-entries_of is ls ants (drop 1 signs) (omega arith) (omega arith))

-- entry k has index k
pub index_at-entries_of : (is : List ℕ) (ls : List Lits) (ants : List (List ℕ)) (signs : List Bool) (k : ℕ) → length ls ≡ length is → length ants ≡ length is
    → k < length is → index_at (entries_of is ls ants signs) k ≡ get_or is k 0
index_at-entries_of [] ls ants signs k p q lt = absurd (omega arith)
index_at-entries_of (i ∷ is) [] ants signs k p q lt = absurd (omega arith)
index_at-entries_of (i ∷ is) (l ∷ ls) [] signs k p q lt = absurd (omega arith)
index_at-entries_of (i ∷ is) (l ∷ ls) (a ∷ ants) signs zero p q lt = refl
index_at-entries_of (i ∷ is) (l ∷ ls) (a ∷ ants) signs (suc k) p q lt = index_at-entries_of is ls ants (drop 1 signs) k (omega arith) (omega arith) (omega arith)

-- entry k has the antecedents at place k
pub antecedents_at-entries_of : (is : List ℕ) (ls : List Lits) (ants : List (List ℕ)) (signs : List Bool) (k : ℕ) (ps : List ℕ) → length ls ≡ length is → length ants ≡ length is
    → slice_get ants k ≡ Some ps → antecedents_at (entries_of is ls ants signs) k ≡ ps
antecedents_at-entries_of is ls [] signs k ps p q e = absurd (cc)
antecedents_at-entries_of [] ls (a ∷ ants) signs k ps p q e = absurd (omega arith)
antecedents_at-entries_of (i ∷ is) [] (a ∷ ants) signs k ps p q e = absurd (omega arith)
antecedents_at-entries_of (i ∷ is) (l ∷ ls) (a ∷ ants) signs zero ps p q e = cc
antecedents_at-entries_of (i ∷ is) (l ∷ ls) (a ∷ ants) signs (suc k) ps p q e = antecedents_at-entries_of is ls ants (drop 1 signs) k ps (omega arith) (omega arith) e

-- what is stated at a place
pub stated_at-entries_of : (is : List ℕ) (ls : List Lits) (ants : List (List ℕ)) (signs : List Bool) (k : ℕ) → length ls ≡ length is → length ants ≡ length is
    → k < length is → stated_at (entries_of is ls ants signs) k ≡ stated_unless (get_or signs k false) (get_or ls k [])
stated_at-entries_of [] ls ants signs k p q lt = absurd (omega arith)
stated_at-entries_of (i ∷ is) [] ants signs k p q lt = absurd (omega arith)
stated_at-entries_of (i ∷ is) (l ∷ ls) [] signs k p q lt = absurd (omega arith)
stated_at-entries_of (i ∷ is) (l ∷ ls) (a ∷ ants) signs zero p q lt = refl
stated_at-entries_of (i ∷ is) (l ∷ ls) (a ∷ ants) signs (suc k) p q lt =
    stated_at-entries_of is ls ants (drop 1 signs) k (omega arith) (omega arith) (omega arith)
    ∙ ap (λ b. stated_unless b (get_or ls k [])) (behind_first signs k)

-- the literals aren't stated just where the sign stands
none_at_sign : (b : Bool) (c : Lits) → IsTrue b ↔ (stated_unless b c ≡ None)
none_at_sign true c = (λ t. refl, λ e. refl)
none_at_sign false c = (λ f. absurd (cc), λ e. absurd (cc))

-- the sign stands where the list of signs says so
pub IsCompactAt-entries_of : (is : List ℕ) (ls : List Lits) (ants : List (List ℕ)) (signs : List Bool) (k : ℕ) → length ls ≡ length is → length ants ≡ length is
    → k < length is → IsTrue (get_or signs k false) ↔ IsCompactAt (entries_of is ls ants signs) k
IsCompactAt-entries_of is ls ants signs k p q lt =
    subst (λ (o : Option Lits). IsTrue (get_or signs k false) ↔ (o ≡ None)) (sym (stated_at-entries_of is ls ants signs k p q lt))
    (none_at_sign (get_or signs k false) (get_or ls k []))

-- the literals that are kept for a place are those that its entry states
lits_at_mapped : (o : Option Entry) (c : Lits) → option_map stated_lits o ≡ Some c → literals_in (stated_of o) ≡ c
lits_at_mapped None c e = absurd (cc)
lits_at_mapped (Some x) c e = cc

-- the literals that stand at a place of the stated ones
pub lits_at-stated : (t : List Entry) (ls : List Lits) (k : ℕ) (c : Lits) → ls ≡ map stated_lits t → slice_get ls k ≡ Some c → lits_at t k ≡ c
lits_at-stated t ls k c are e =
    lits_at_mapped (slice_get t k) c (sym (slice_get-map stated_lits t k) ∙ ap (λ (xs : List Lits). slice_get xs k) (sym are) ∙ e)

-- lists of signs that say the same of each clause
pub entries_of-same_signs : (is : List ℕ) (ls : List Lits) (ants : List (List ℕ)) (signs other : List Bool)
    → ((k : ℕ) → k < length is → get_or other k false ≡ get_or signs k false) → entries_of is ls ants other ≡ entries_of is ls ants signs
entries_of-same_signs [] ls ants signs other same = refl
entries_of-same_signs (i ∷ is) [] ants signs other same = refl
entries_of-same_signs (i ∷ is) (l ∷ ls) [] signs other same = refl
entries_of-same_signs (i ∷ is) (l ∷ ls) (a ∷ ants) signs other same =
    let rest = entries_of-same_signs is ls ants (drop 1 signs) (drop 1 other)
    (λ k lt. behind_first other k ∙ same (suc k) (omega arith) ∙ sym (behind_first signs k)) in
    let first = same 0 (omega arith) in
    ap (λ b. entry i b l a ∷ entries_of is ls ants (drop 1 other)) first ∙ ap (λ es. entry i (get_or signs 0 false) l a ∷ es) rest

-- one more in each column is one more entry
pub entries_of-push : (is : List ℕ) (ls : List Lits) (ants : List (List ℕ)) (signs : List Bool) (i : ℕ) (l : Lits) (a : List ℕ) → length ls ≡ length is → length ants ≡ length is
    → entries_of (is ++ i ∷ []) (ls ++ l ∷ []) (ants ++ a ∷ []) signs ≡ entries_of is ls ants signs ++ entry i (get_or signs (length is) false) l a ∷ []
entries_of-push [] [] [] signs i l a p q = refl
entries_of-push [] [] (b ∷ ants) signs i l a p q = absurd (omega arith)
entries_of-push [] (m ∷ ls) ants signs i l a p q = absurd (omega arith)
entries_of-push (j ∷ is) [] ants signs i l a p q = absurd (omega arith)
entries_of-push (j ∷ is) (m ∷ ls) [] signs i l a p q = absurd (omega arith)
entries_of-push (j ∷ is) (m ∷ ls) (b ∷ ants) signs i l a p q =
    ap (λ es. entry j (get_or signs 0 false) m b ∷ es)
    (entries_of-push is ls ants (drop 1 signs) i l a (omega arith) (omega arith)
    ∙ ap (λ s. entries_of is ls ants (drop 1 signs) ++ entry i s l a ∷ []) (behind_first signs (length is)))

-- ---- one more clause

-- with one more clause the greatest variable is the greater of the earlier one and the clause's
pub greatest_variable-push : (t : List Entry) (e : Entry) → greatest_variable (t ++ e ∷ []) ≡ max (greatest_variable t) (greatest_of (stated_lits e))
greatest_variable-push [] e = omega arith
greatest_variable-push (f ∷ t) e = omega (arith, greatest_variable-push t e)

-- the lists of a trace, and those with one more clause, of which `sign` says whether it has the sign
pub record Grows (is later : List ℕ) (ls more : List Lits) (ants further : List (List ℕ)) (signs longer : List Bool) (g greatest : ℕ)
    (i : ℕ) (sign : Bool) (l : Lits) (a : List ℕ) : Type 0 where
  pub before : AreTrace is ls ants signs g
  pub follows : CanFollow (entries_of is ls ants signs) (entry i sign l a)
  pub few : length ls < MAX_CLAUSES
  pub later_is : later ≡ is ++ i ∷ []
  pub more_is : more ≡ ls ++ l ∷ []
  pub further_is : further ≡ ants ++ a ∷ []
  pub same_signs : (k : ℕ) → k < length is → get_or longer k false ≡ get_or signs k false
  pub sign_is : get_or longer (length is) false ≡ sign
  pub few_signs : length longer ≤ length is + 1
  pub lits_are : l ≡ stated_lits (entry i sign l a)
  pub greatest_is : greatest ≡ max g (greatest_of l)

-- the entries of the longer lists
pub entries_of-grown : {is later : List ℕ} {ls more : List Lits} {ants further : List (List ℕ)} {signs longer : List Bool} {g greatest i : ℕ} {sign : Bool} {l : Lits} {a : List ℕ}
    → Grows is later ls more ants further signs longer g greatest i sign l a
    → entries_of later more further longer ≡ entries_of is ls ants signs ++ entry i sign l a ∷ []
entries_of-grown {is} {later} {ls} {more} {ants} {further} {signs} {longer} {g} {greatest} {i} {sign} {l} {a} h =
    ap (λ xs. entries_of xs more further longer) h.later_is ∙ ap (λ xs. entries_of (is ++ i ∷ []) xs further longer) h.more_is
    ∙ ap (λ xs. entries_of (is ++ i ∷ []) (ls ++ l ∷ []) xs longer) h.further_is
    ∙ entries_of-push is ls ants longer i l a h.before.as_many_lits h.before.as_many_antecedents
    ∙ ap (λ es. es ++ entry i (get_or longer (length is) false) l a ∷ []) (entries_of-same_signs is ls ants signs longer h.same_signs)
    ∙ ap (λ b. entries_of is ls ants signs ++ entry i b l a ∷ []) h.sign_is

-- the longer lists are those of a trace
pub AreTrace-grown : {is later : List ℕ} {ls more : List Lits} {ants further : List (List ℕ)} {signs longer : List Bool} {g greatest i : ℕ} {sign : Bool} {l : Lits} {a : List ℕ}
    → Grows is later ls more ants further signs longer g greatest i sign l a
    → AreTrace later more further longer greatest
AreTrace-grown {is} {later} {ls} {more} {ants} {further} {signs} {longer} {g} {greatest} {i} {sign} {l} {a} h =
    let grown = entries_of-grown h in
    let p = h.before.as_many_lits in
    let q = h.before.as_many_antecedents in
    let few = h.few in
    let few_signs = h.few_signs in
    let more_indices : length later ≡ length is + 1 = ap length h.later_is ∙ length-append is (i ∷ []) in
    let more_lits : length more ≡ length ls + 1 = ap length h.more_is ∙ length-append ls (l ∷ []) in
    let more_antecedents : length further ≡ length ants + 1 = ap length h.further_is ∙ length-append ants (a ∷ []) in
    let lits_are : ls ++ l ∷ [] ≡ map stated_lits (entries_of is ls ants signs) ++ stated_lits (entry i sign l a) ∷ [] =
    ap (λ xs. xs ++ l ∷ []) h.before.lits_are ∙ ap (λ x. map stated_lits (entries_of is ls ants signs) ++ x ∷ []) h.lits_are in
    record {
      as_many_lits = omega arith;
      as_many_antecedents = omega arith;
      few_signs = omega arith;
      trace = subst IsTrace (sym grown) (IsTrace-push (entries_of is ls ants signs) (entry i sign l a) h.before.trace h.follows);
      lits_are = h.more_is ∙ lits_are ∙ sym (map-append stated_lits (entries_of is ls ants signs) (entry i sign l a ∷ [])) ∙ ap (map stated_lits) (sym grown);
      greatest_is = h.greatest_is ∙ ap (λ n. max n (greatest_of l)) h.before.greatest_is
          ∙ ap (λ c. max (greatest_variable (entries_of is ls ants signs)) (greatest_of c)) h.lits_are
          ∙ sym (greatest_variable-push (entries_of is ls ants signs) (entry i sign l a)) ∙ ap greatest_variable (sym grown);
      few = omega arith;
    }

-- the lists of a trace with other signs that say the same of each clause
pub AreTrace-same_signs : (is : List ℕ) (ls : List Lits) (ants : List (List ℕ)) (signs other : List Bool) (g : ℕ)
    → ((k : ℕ) → k < length is → get_or other k false ≡ get_or signs k false) → length other ≤ length is
    → AreTrace is ls ants signs g → AreTrace is ls ants other g
AreTrace-same_signs is ls ants signs other g same few h =
    let e = sym (entries_of-same_signs is ls ants signs other same) in
    record {
      as_many_lits = h.as_many_lits;
      as_many_antecedents = h.as_many_antecedents;
      few_signs = few;
      trace = subst IsTrace e h.trace;
      lits_are = h.lits_are ∙ ap (map stated_lits) e;
      greatest_is = h.greatest_is ∙ ap greatest_variable e;
      few = h.few;
    }

-- a clause that was taken away again
pub take-pushed : {X : Type 0} (xs ys zs : List X) (x : X) → ys ≡ xs ++ x ∷ [] → zs ≡ take (length ys - 1) ys → zs ≡ xs
take-pushed xs ys zs x e f =
    let longer : length ys ≡ length xs + 1 = ap length e ∙ length-append xs (x ∷ []) in
    let n : length ys - 1 ≡ length xs = omega arith in
    f ∙ ap (λ k. take k ys) n ∙ ap (take (length xs)) e ∙ take_at xs (x ∷ []) (length xs) refl

-- ---- the greatest variable

-- no literal of a clause has a greater variable than its greatest
greatest_of-within : (c : Lits) (l : Literal) → Has c l → l.variable ≤ greatest_of c
greatest_of-within [] l h = absurd h
greatest_of-within (m ∷ ms) l (inl e) = let same : m.variable ≡ l.variable = ap (λ (x : Literal). x.variable) e in omega arith
greatest_of-within (m ∷ ms) l (inr h) = omega (arith, greatest_of-within ms l h)

-- no stated literal of the trace has a greater variable than its greatest
pub greatest_variable-within : (t : List Entry) (k : ℕ) (l : Literal) → Has (lits_at t k) l → l.variable ≤ greatest_variable t
greatest_variable-within [] k l h = absurd h
greatest_variable-within (e ∷ es) zero l h = omega (arith, greatest_of-within (stated_lits e) l h)
greatest_variable-within (e ∷ es) (suc k) l h = omega (arith, greatest_variable-within es k l h)

-- the greatest variable from place i on
pub greatest_of-drop : (c : Lits) (i : ℕ) (l : Literal) → i < length c → l ≡ get_or c i l
    → greatest_of (drop i c) ≡ max l.variable (greatest_of (drop (i + 1) c))
greatest_of-drop c i l lt e =
    ap greatest_of (drop_more c i l lt)
    ∙ ap (λ (m : Literal). max m.variable (greatest_of (drop (i + 1) c))) (sym e)

-- what holds of an answer that is no error
pub ok_of : {T E : Type 0} (r : Result T E) (P : Type 0) → is_err r ≡ false → OnOk r P → P
ok_of (Ok x) P e h = h
ok_of (Err x) P e h = absurd (cc)

-- what holds anyway holds of an error
pub on_err : {T E : Type 0} (r : Result T E) (P : Type 0) → P → OnErr r P
on_err (Ok x) P h = tt
on_err (Err e) P h = h
