-- Derived clauses as two lists side by side.
use Rattle.std.proofs.Common.{◌≡◌, ℕ, zero, suc, ◌+◌, ◌-◌, ◌*◌, ◌<◌, ◌≤◌, inl, inr, Bool, true, false, if◌then◌else◌, List, [], ◌∷◌, ◌++◌, length, map, get_or, sum_by, slice_get, Option, Some, None, IfNone, refl, sym, ◌∙◌, ap, subst, arith, length-append}
use Rattle.std.proofs.lemmas.Bool.{cases_lt}
use Rattle.std.proofs.lemmas.List.{get_or-map, get_or_past}
use Rattle.std.proofs.lemmas.List.Sums.{sum_by-cons}
use Rattle.std.proofs.lemmas.Option.{get_or_from_slice_get, slice_get-get_or, slice_get_within}
use Rattle.clause_defs.specs.Literals.{Literal, code, IsLiteral}
use Rattle.clause_defs.specs.Clauses.{Lits, Has, SameSet, IsOrdered, IsClause}
use Rattle.clause_defs.specs.Formulas.{Formula}
use Rattle.clause_defs.specs.declared.verdict.TheConstants.{MAX_VARIABLE}
use Rattle.clause_laws.proofs.ClauseLemmas.{same_refl, same_ordered}
use Rattle.pch_base.proofs.SetLemmas.{Has-append}
use Rattle.flat_lists.specs.Flat.{Flat, total}
use Rattle.clause_index.specs.Index.{Indexed}
use Rattle.sat_values.proofs.ClauseLemmas.{Has-slice_get}
use Rattle.clause_defs.specs.Resolution.{Resolves}
use Rattle.log_defs.specs.Logs.{Derived, lits_of, derived_at, clause_with, words_of, Words, LogOk, LogValue, IsIndexOf, HasDerived, IsLog, clause_of_log}
use Rattle.log_defs.specs.Deriving.{IsNew, IsTaken}
use Rattle.log_laws.proofs.LogLemmas.{clause_with-derived, LogOk-push}
use Rattle.proof_log.specs.Kept.{derived_of, AreSideBySide, HaveRoom, IsKept, HasPlace}

-- clauses side by side with their antecedents are as many derived clauses
pub length-derived_of : (cs : List Lits) (ants : List (List ℕ)) → length ants ≡ length cs → length (derived_of cs ants) ≡ length cs
length-derived_of [] ants e = refl
length-derived_of (c ∷ cs) [] e = absurd (omega arith)
length-derived_of (c ∷ cs) (a ∷ ants) e = ap suc (length-derived_of cs ants (omega arith))

-- what stands at a place of both
pub derived_there : (cs : List Lits) (ants : List (List ℕ)) (k : ℕ) (c : Lits) (a : List ℕ) → slice_get cs k ≡ Some c → slice_get ants k ≡ Some a
    → slice_get (derived_of cs ants) k ≡ Some (record { lits = c; antecedents = a })
derived_there [] ants k c a e f = absurd (cc)
derived_there (b ∷ bs) [] k c a e f = absurd (cc)
derived_there (b ∷ bs) (x ∷ xs) zero c a e f = cc
derived_there (b ∷ bs) (x ∷ xs) (suc k) c a e f = derived_there bs xs k c a e f

-- the same, where something stands there
pub derived_at-there : (cs : List Lits) (ants : List (List ℕ)) (k : ℕ) (c : Lits) (a : List ℕ) → slice_get cs k ≡ Some c → slice_get ants k ≡ Some a
    → derived_at (derived_of cs ants) k ≡ record { lits = c; antecedents = a }
derived_at-there cs ants k c a e f = get_or_from_slice_get (derived_of cs ants) k _ _ (derived_there cs ants k c a e f)

-- the derived clause at a place has the literals that stand there
pub lits_at-derived_of : (cs : List Lits) (ants : List (List ℕ)) (k : ℕ) (c : Lits) → length ants ≡ length cs → slice_get cs k ≡ Some c
    → (derived_at (derived_of cs ants) k).lits ≡ c
lits_at-derived_of cs ants k c e f =
    let lt = slice_get_within cs k c f in
    ap (λ (d : Derived). d.lits) (derived_at-there cs ants k c (get_or ants k []) f (slice_get-get_or ants k [] (omega arith)))

-- one more of both
pub derived_of-more : (cs : List Lits) (ants : List (List ℕ)) (c : Lits) (a : List ℕ) → length ants ≡ length cs
    → derived_of (cs ++ c ∷ []) (ants ++ a ∷ []) ≡ derived_of cs ants ++ record { lits = c; antecedents = a } ∷ []
derived_of-more [] [] c a e = refl
derived_of-more [] (x ∷ xs) c a e = absurd (omega arith)
derived_of-more (b ∷ bs) [] c a e = absurd (omega arith)
derived_of-more (b ∷ bs) (x ∷ xs) c a e = ap (λ ds. record { lits = b; antecedents = x } ∷ ds) (derived_of-more bs xs c a (omega arith))

-- the words of derived clauses: three for each, and one for each literal and antecedent
pub Words-derived_of : (cs : List Lits) (ants : List (List ℕ)) → length ants ≡ length cs
    → Words (derived_of cs ants) ≡ 3 * length cs + total cs + total ants
Words-derived_of [] [] e = refl
Words-derived_of [] (x ∷ xs) e = absurd (omega arith)
Words-derived_of (b ∷ bs) [] e = absurd (omega arith)
Words-derived_of (b ∷ bs) (x ∷ xs) e =
    let d : Derived = record { lits = b; antecedents = x } in
    omega (arith, Words-derived_of bs xs (omega arith), sum_by-cons words_of d (derived_of bs xs), sum_by-cons length b bs, sum_by-cons length x xs)

-- the words with one more clause
pub Words-more : (ds : List Derived) (d : Derived) → Words (ds ++ d ∷ []) ≡ Words ds + words_of d
Words-more [] d = omega (arith, sum_by-cons words_of d [])
Words-more (e ∷ es) d = omega (arith, Words-more es d, sum_by-cons words_of e (es ++ d ∷ []), sum_by-cons words_of e es)

-- ---- how many literals a clause has

-- literals in their order, with codes between two numbers
pub ordered_length : (c : Lits) (low high : ℕ) → IsOrdered c → low ≤ high → ((l : Literal) → Has c l → (low < code l) × (code l ≤ high)) → length c + low ≤ high
ordered_length [] low high o le h = omega arith
ordered_length (l ∷ ls) low high o le h =
    let first = h l (inl refl) in
    let a = first.0 in
    let b = first.1 in
    let rest = ordered_length ls (code l) high o.1 b (λ m i. (o.0 m i, (h m (inr i)).1)) in
    omega arith

-- the code of a literal is greater than 1, and at most the greatest one of the last variable
code_range : (v : ℕ) (b : ℕ) → b ≤ 1 → 1 ≤ v → v ≤ MAX_VARIABLE → (1 < 2 * v + b) × (2 * v + b ≤ 2 * MAX_VARIABLE + 1)
code_range v b small low high = (omega arith, omega arith)

-- the sign of a literal is a bit of its code
sign_bit : (b : Bool) → (if b then 1 else 0) ≤ 1
sign_bit true = omega arith
sign_bit false = omega arith

-- no clause has more literals than there are
pub few_literals : (c : Lits) → IsOrdered c → ((l : Literal) → Has c l → IsLiteral l) → length c ≤ 2 * MAX_VARIABLE
few_literals c o h =
    let most = ordered_length c 1 (2 * MAX_VARIABLE + 1) o (omega arith)
    (λ l i. let is = h l i in code_range l.variable (if l.positive then 1 else 0) (sign_bit l.positive) is.0 is.1) in
    omega arith

-- ---- logs

-- a derived clause is one of the clauses
Has-derived_of : (cs : List Lits) (ants : List (List ℕ)) (d : Derived) → Has (derived_of cs ants) d → Has cs d.lits
Has-derived_of [] ants d h = absurd h
Has-derived_of (c ∷ cs) [] d h = absurd h
Has-derived_of (c ∷ cs) (a ∷ ants) d (inl e) = inl (ap (λ (x : Derived). x.lits) e)
Has-derived_of (c ∷ cs) (a ∷ ants) d (inr h) = inr (Has-derived_of cs ants d h)

-- the log that these arrays are
abbrev pub log_of : Formula → Indexed → Flat ℕ → ℕ → LogValue
log_of originals clauses ants budget = record { originals = originals; derived = derived_of clauses.clauses ants.lists; budget = budget }

module _ (originals : Formula) (clauses : Indexed) (ants : Flat ℕ) (budget used : ℕ) (kept : IsKept originals clauses ants budget used) where
  -- the log has as many derived clauses as clauses are kept
  many : length (derived_of clauses.clauses ants.lists) ≡ length clauses.clauses
  many = length-derived_of clauses.clauses ants.lists kept.log.as_many

  -- and it keeps what every log does
  pub is_log : IsLog (log_of originals clauses ants budget)
  is_log = record {
    ok = kept.log.ok;
    clauses = λ d h. kept.log.clauses_are d.lits (Has-derived_of clauses.clauses ants.lists d h);
    within_budget = let e = kept.used_is in let le = kept.within_budget in omega arith;
    few = kept.few;
  }

  -- an index is at most the number of all clauses
  pub index_within : (index : ℕ) → IsIndexOf (log_of originals clauses ants budget) index → index ≤ length originals.clauses + length clauses.clauses
  index_within index h = let high = h.high in omega (arith, many)

  -- the clause with an index behind those of the formula
  pub clause_there : (c : Lits) (k index : ℕ) → slice_get clauses.clauses k ≡ Some c → index ≡ length originals.clauses + k + 1
      → clause_of_log (log_of originals clauses ants budget) index ≡ c
  clause_there c k index here e =
      let lt = slice_get_within clauses.clauses k c here in
      clause_with-derived originals.clauses (derived_of clauses.clauses ants.lists) index k e (omega (arith, many))
      ∙ lits_at-derived_of clauses.clauses ants.lists k c kept.log.as_many here

  -- the index of a clause that stands in the arrays
  pub has_derived : (c : Lits) (k index : ℕ) → slice_get clauses.clauses k ≡ Some c → index ≡ length originals.clauses + k + 1
      → HasDerived (log_of originals clauses ants budget) c index
  has_derived c k index here e =
      let lt = slice_get_within clauses.clauses k c here in
      record {
        behind_originals = omega arith;
        within = omega (arith, many);
        same = subst (λ d. SameSet d c) (sym (clause_there c k index here e)) (same_refl c);
      }

  -- a clause that doesn't stand in the arrays is none of the derived ones
  pub is_new : (c : Lits) → IsOrdered c → ((k : ℕ) → slice_get clauses.clauses k ≡ Some c → ⊥) → IsNew (log_of originals clauses ants budget) c
  is_new c ordered none index h =
      let low = h.behind_originals in
      let high = h.within in
      let k = index - length originals.clauses - 1 in
      let lt : k < length clauses.clauses = omega (arith, many) in
      let d = get_or clauses.clauses k [] in
      let here : slice_get clauses.clauses k ≡ Some d = slice_get-get_or clauses.clauses k [] lt in
      let own = clause_with-derived originals.clauses (derived_of clauses.clauses ants.lists) index k (omega arith) (omega (arith, many)) ∙ lits_at-derived_of clauses.clauses ants.lists k d kept.log.as_many here in
      let same : SameSet d c = subst (λ x. SameSet x c) own h.same in
      none k (here ∙ ap Some (same_ordered d c (kept.log.clauses_are d (Has-slice_get clauses.clauses k d here)).ordered ordered same))

  -- there is room for a clause that fits what is left of the budget
  pub has_place : (d : Derived) → words_of d ≤ budget - used → HasPlace originals clauses ants d
  has_place d fits =
      let words = Words-derived_of clauses.clauses ants.lists kept.log.as_many in
      let used_is = kept.used_is in
      let within = kept.within_budget in
      let few = kept.few in
      let as_many = kept.log.as_many in
      let clause_room = kept.room.clause_room in
      let literal_room = kept.room.literal_room in
      let list_room = kept.room.list_room in
      let item_room = kept.room.item_room in
      record {
        next_clause = omega arith;
        literals = omega arith;
        few_literals = omega arith;
        next_list = omega arith;
        few_lists = omega arith;
        items = omega arith;
        few_items = omega arith;
        index = omega arith;
      }

  -- no derived clause is the set of a new one
  none_same : (c : Lits) → IsNew (log_of originals clauses ants budget) c → (k : ℕ) → k < length (derived_of clauses.clauses ants.lists)
      → SameSet (derived_at (derived_of clauses.clauses ants.lists) k).lits c → ⊥
  none_same c new k lt same = new (length originals.clauses + k + 1) (record {
    behind_originals = omega arith;
    within = omega arith;
    same = subst (λ d. SameSet d c) (sym (clause_with-derived originals.clauses (derived_of clauses.clauses ants.lists) (length originals.clauses + k + 1) k refl lt)) same;
  })

  -- the arrays with one more clause
  pub kept_push : (c : Lits) (a : List ℕ) (more : Indexed) (longer : Flat ℕ) (need : ℕ) → IsClause c
      → ((index : ℕ) → Has a index → IsIndexOf (log_of originals clauses ants budget) index)
      → Resolves (map (clause_of_log (log_of originals clauses ants budget)) a) c
      → IsNew (log_of originals clauses ants budget) c
      → need ≡ words_of (record { lits = c; antecedents = a }) → need ≤ budget - used
      → more.clauses ≡ clauses.clauses ++ c ∷ [] → more.clause_room ≡ clauses.clause_room → clauses.literal_room ≤ more.literal_room
      → longer.lists ≡ ants.lists ++ a ∷ [] → longer.list_room ≡ ants.list_room → ants.item_room ≤ longer.item_room
      → IsKept originals more longer budget (used + need)
  kept_push c a more longer need clause indices resolves new need_is fits e same_clauses more_literals f same_lists more_items =
      let d : Derived = record { lits = c; antecedents = a } in
      let ds = derived_of clauses.clauses ants.lists in
      let derived_is : derived_of more.clauses longer.lists ≡ ds ++ d ∷ [] =
      ap (λ cs. derived_of cs longer.lists) e ∙ ap (derived_of (clauses.clauses ++ c ∷ [])) f ∙ derived_of-more clauses.clauses ants.lists c a kept.log.as_many in
      let ok : LogOk originals.clauses (ds ++ d ∷ []) =
      LogOk-push originals.clauses ds d kept.log.ok (λ i h. ((indices i h).low, (indices i h).high)) resolves (none_same c new) in
      let longer_clauses : length more.clauses ≡ length clauses.clauses + 1 = ap length e ∙ length-append clauses.clauses (c ∷ []) in
      let longer_lists : length longer.lists ≡ length ants.lists + 1 = ap length f ∙ length-append ants.lists (a ∷ []) in
      let place = has_place d (omega arith) in
      let words = Words-more ds d in
      let within = kept.within_budget in
      let used_is = kept.used_is in
      let as_many = kept.log.as_many in
      record {
        log = record {
          as_many = omega arith;
          ok = subst (LogOk originals.clauses) (sym derived_is) ok;
          clauses_are = λ b h. elim ((Has-append clauses.clauses (c ∷ []) b).0 (subst (λ cs. Has cs b) e h)) [
            | inl old ↦ kept.log.clauses_are b old
            | inr last ↦ elim last [ inl same ↦ subst IsClause same clause | inr none ↦ absurd none ]
          ];
          few = let index = place.index in omega arith;
        };
        used_is = let all : Words (derived_of more.clauses longer.lists) ≡ Words (ds ++ d ∷ []) = ap Words derived_is in omega arith;
        within_budget = omega arith;
        few = kept.few;
        room = record {
          clause_room = let r = kept.room.clause_room in omega arith;
          literal_room = let r = kept.room.literal_room in omega arith;
          list_room = let r = kept.room.list_room in omega arith;
          item_room = let r = kept.room.item_room in omega arith;
        };
      }

  -- the log takes the clause
  pub taken : (c : Lits) (a : List ℕ) (more : Indexed) (longer : Flat ℕ) (index : ℕ) → IsNew (log_of originals clauses ants budget) c
      → words_of (record { lits = c; antecedents = a }) ≤ budget - used → index ≡ length originals.clauses + length more.clauses
      → more.clauses ≡ clauses.clauses ++ c ∷ [] → longer.lists ≡ ants.lists ++ a ∷ []
      → IsTaken (log_of originals clauses ants budget) (record { lits = c; antecedents = a }) index (log_of originals more longer budget)
  taken c a more longer index new fits index_is e f =
      let derived_is : derived_of more.clauses longer.lists ≡ derived_of clauses.clauses ants.lists ++ record { lits = c; antecedents = a } ∷ [] =
      ap (λ cs. derived_of cs longer.lists) e ∙ ap (derived_of (clauses.clauses ++ c ∷ [])) f ∙ derived_of-more clauses.clauses ants.lists c a kept.log.as_many in
      let longer_clauses : length more.clauses ≡ length clauses.clauses + 1 = ap length e ∙ length-append clauses.clauses (c ∷ []) in
      record {
        is_new = new;
        fits = let within = kept.within_budget in let used_is = kept.used_is in omega arith;
        next = omega (arith, many);
        appended = ap (λ ds. record { originals = originals; derived = ds; budget = budget }) derived_is;
      }

-- what holds where nothing was found
pub if_none : {X : Type 0} (o : Option X) (P : Type 0) → P → IfNone o P
if_none None P h = h
if_none (Some x) P h = tt
