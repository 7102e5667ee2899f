-- From what is known of the clauses before a place to the fault of the clause there.
use Rattle.std.proofs.Common.{◌≡◌, ◌≢◌, ℕ, zero, suc, ◌+◌, ◌*◌, ◌<◌, ◌≤◌, inl, inr, Bool, true, false, if◌then◌else◌, List, [], ◌∷◌, length, get_or, map, set, Option, Some, None, Result, Ok, Err, refl, sym, ◌∙◌, ap, subst, arith, add-one, get_or-set_same, get_or-set_other}
use Rattle.std.proofs.lemmas.Bool.{cases_order, cases_eq, le-ltb, lt-ltb}
use Rattle.clause_defs.specs.Literals.{Literal, code}
use Rattle.clause_defs.specs.Clauses.{Lits, Has, SameSet, IsOrdered, WithinVariables}
use Rattle.clause_defs.specs.Resolution.{Resolves}
use Rattle.clause_defs.specs.Traces.{Entry, IsCompactAt, literals_in, stated_at, lits_at, antecedents_at, index_at, AntecedentsAreEarlier}
use Rattle.clause_defs.specs.TraceClauses.{LitsOf, antecedent_lits, all_given, given_with, given_by, computed_size, computed_before}
use Rattle.clause_defs.specs.Verdicts.{ChainFault, derived_fault_of, DerivedFault, FaultWith, ClauseFault}
use Rattle.clause_defs.specs.declared.verdict.ChainError.{ChainError}
use Rattle.clause_defs.specs.declared.verdict.Verdict.{Verdict}
use Rattle.clause_laws.proofs.ClauseLemmas.{same_refl}
use Rattle.clause_laws.proofs.Resolvents.{resolves-chain_of}
use Rattle.clause_laws.proofs.TraceLits.{map_same, lits_stated, lits_given}
use Rattle.chain_check.specs.Known.{stated_else, literals_at, antecedents_known, AreLiteralsOf, AreOver, IsKnownBefore, sign_count, signs_before}
use Rattle.chain_check.proofs.EndLemmas.{AllSame, fault_err, fault_ok, fault_other, fault_among, resolves_among}

-- an ordered clause over so many variables has at most twice as many literals
ordered_length : (c : Lits) (low high : ℕ) → low ≤ high → IsOrdered c → ((l : Literal) → Has c l → (low ≤ code l) × (code l < high))
    → length c + low ≤ high
ordered_length [] low high le o within = omega arith
ordered_length (l ∷ ls) low high le o within =
    let own = within l (inl refl) in
    let rest = ordered_length ls (code l + 1) high (omega (arith, own.1)) o.1 (λ m h. let above : code l < code m = o.0 m h in let k = within m (inr h) in (omega arith, k.1)) in
    omega (arith, own.0)

-- the codes of literals over so many variables begin at 2 and end before twice as many and 2
code_range : (l : Literal) (variables : ℕ) → 1 ≤ l.variable → l.variable ≤ variables → (2 ≤ code l) × (code l < 2 * variables + 2)
code_range l variables low high = at_sign l.variable l.positive low high
  where
    at_sign : (v : ℕ) (b : Bool) → 1 ≤ v → v ≤ variables → (2 ≤ 2 * v + (if b then 1 else 0)) × (2 * v + (if b then 1 else 0) < 2 * variables + 2)
    at_sign v true low high = (omega arith, omega arith)
    at_sign v false low high = (omega arith, omega arith)

-- a clause has at most twice as many literals as there are variables
pub over_length : (c : Lits) (variables : ℕ) → IsOrdered c → AreOver variables c → length c ≤ 2 * variables
over_length c variables o over =
    let all = ordered_length c 2 (2 * variables + 2) (omega arith) o (λ l h. let k = over l h in code_range l variables k.0 k.1) in
    omega arith

-- the literals of each antecedent are known, so all are given
known_given : (g : ℕ → Lits) (h : ℕ → Option Lits) (ps : List ℕ) → ((p : ℕ) → Has ps p → AreLiteralsOf (h p) (g p))
    → (cs : List Lits) × (all_given (map h ps) ≡ Some cs) × AllSame (map g ps) cs
known_given g h [] known = ([], refl, tt)
known_given g h (p ∷ ps) known =
    let rest = known_given g h ps (λ q i. known q (inr i)) in
    first (h p) refl rest (known p (inl refl))
  where
    first : (o : Option Lits) → h p ≡ o → ((cs : List Lits) × (all_given (map h ps) ≡ Some cs) × AllSame (map g ps) cs)
        → AreLiteralsOf o (g p) → (cs : List Lits) × (all_given (map h (p ∷ ps)) ≡ Some cs) × AllSame (map g (p ∷ ps)) cs
    first None e rest are = absurd are
    first (Some c) e rest are = (
      c ∷ rest.0,
      ap (λ o. given_with o (all_given (map h ps))) e ∙ ap (given_with (Some c)) rest.1,
      (are.0, rest.2),
    )

-- what is left to say of a derived clause, from the end of its chain
with_antecedents : (f : List Lits) (t : List Entry) (w k : ℕ) (ps : List ℕ) (found : Option Verdict) → ps ≢ []
    → DerivedFault t w k (antecedent_lits t k) found → FaultWith f t w k ps found
with_antecedents f t w k [] found ne h = absurd (ne refl)
with_antecedents f t w k (p ∷ ps) found ne h = h

module _ (f : List Lits) (t : List Entry) (w k variables : ℕ) (computed : List Lits) (earlier : AntecedentsAreEarlier t)
    (known : IsKnownBefore t variables computed k) where
  -- the antecedents of the clause have literals, the ones that are taken for theirs
  given : (cs : List Lits) × (antecedent_lits t k ≡ Some cs) × AllSame (antecedents_known t computed k) cs
  given = known_given (literals_at t computed) (LitsOf t) (antecedents_at t k) (λ p i. known.literals p (earlier k p i))

  module _ (derived : antecedents_at t k ≢ []) where
    -- the fault of the chain through the known literals is the clause's
    fault_from : (stated : Option Lits) (end : Result (Unit {0}) ChainError) → stated_at t k ≡ stated
        → ChainFault (index_at t k) stated (antecedents_known t computed k) end
        → ClauseFault f t w k (derived_fault_of t w k stated end)
    fault_from stated end e h =
        with_antecedents f t w k (antecedents_at t k) (derived_fault_of t w k stated end) derived
        (subst (λ o. DerivedFault t w k o (derived_fault_of t w k stated end)) (sym given.1) (
          end,
          fault_among (index_at t k) (stated_at t k) (antecedents_known t computed k) given.0 end given.2
              (subst (λ s. ChainFault (index_at t k) s (antecedents_known t computed k) end) (sym e) h),
          ap (λ s. derived_fault_of t w k s end) (sym e),
        ))

    -- the fault of a clause with stated literals
    pub stated_fault : (end : Result (Unit {0}) ChainError) → (c : Lits) → stated_at t k ≡ Some c
        → ChainFault (index_at t k) (Some c) (antecedents_known t computed k) end
        → ClauseFault f t w k (derived_fault_of t w k (Some c) end)
    stated_fault end c e h = fault_from (Some c) end e h

    -- a faulty step, whatever is stated
    pub step_fault : (e : ChainError) → ChainFault (index_at t k) None (antecedents_known t computed k) (Err e)
        → ClauseFault f t w k (Some (Verdict.Chain e))
    step_fault e h = by_stated (stated_at t k) refl
      where
        -- a faulty step is the clause's fault, whether its literals are stated or not
        by_stated : (stated : Option Lits) → stated_at t k ≡ stated → ClauseFault f t w k (Some (Verdict.Chain e))
        by_stated None s = fault_from None (Err e) s h
        by_stated (Some c) s = fault_from (Some c) (Err e) s (fault_err (index_at t k) c (antecedents_known t computed k) e h)

    module _ (s : Lits) (chain : Resolves (antecedents_known t computed k) s) where
      -- the chain comes to the stated clause
      pub stated_right : (c : Lits) → stated_at t k ≡ Some c → SameSet s c → ClauseFault f t w k None
      stated_right c e same =
          fault_from (Some c) (Ok tt) e (fault_ok (index_at t k) c (antecedents_known t computed k) s chain same)

      -- or to another
      pub stated_other : (c : Lits) → stated_at t k ≡ Some c → (SameSet s c → ⊥) → ClauseFault f t w k (Some (Verdict.Chain (ChainError.Other (index_at t k))))
      stated_other c e other =
          fault_from (Some c) (Err (ChainError.Other (index_at t k))) e
          (fault_other (index_at t k) c (antecedents_known t computed k) s chain other)

      module _ (ordered : IsOrdered s) (sign : IsCompactAt t k) where
        -- the clause that the chain comes to is the clause of the trace
        pub lits_computed : LitsOf t k ≡ Some s
        lits_computed =
            lits_given t k earlier sign ∙ ap given_by given.1
            ∙ resolves-chain_of given.0 s (resolves_among (antecedents_known t computed k) given.0 s given.2 chain) ordered

        -- so many literals there are with it
        pub computed_more : computed_before t (suc k) ≡ computed_before t k + length s
        computed_more =
            ap (λ o. computed_before t k + computed_size o (LitsOf t k)) sign
            ∙ ap (λ o. computed_before t k + computed_size None o) lits_computed

        module _ (ends : ChainFault (index_at t k) None (antecedents_known t computed k) (Ok tt)) where
          -- a computed clause that has room has no fault
          pub sign_right : computed_before t k + length s ≤ w → ClauseFault f t w k None
          sign_right narrow =
              subst (ClauseFault f t w k) (ap (λ b. if b then Some (Verdict.TooWide (index_at t k)) else None) (le-ltb w (computed_before t (k + 1)) (let more : computed_before t (k + 1) ≡ computed_before t k + length s = rw add-one computed_more in omega arith)))
              (fault_from None (Ok tt) sign ends)

          -- a computed clause that has no room is one too many
          pub sign_wide : w < computed_before t k + length s → ClauseFault f t w k (Some (Verdict.TooWide (index_at t k)))
          sign_wide wide =
              subst (ClauseFault f t w k) (ap (λ b. if b then Some (Verdict.TooWide (index_at t k)) else None) (lt-ltb w (computed_before t (k + 1)) (let more : computed_before t (k + 1) ≡ computed_before t k + length s = rw add-one computed_more in omega arith)))
              (fault_from None (Ok tt) sign ends)

-- ---- one more known clause

-- where no literals were computed, those of a clause are the stated ones
stated_last : (stated : Lits) (computed : Lits) → computed ≡ [] → stated_else stated computed ≡ stated
stated_last [] computed e = e
stated_last (l ∷ ls) computed e = refl

module _ (t : List Entry) (variables : ℕ) (computed : List Lits) (k : ℕ) (known : IsKnownBefore t variables computed k) where
  -- with a clause that is stated, one clause more is known
  pub known_stated : (c : Lits) → stated_at t k ≡ Some c → get_or computed k [] ≡ [] → IsKnownBefore t variables computed (suc k)
  known_stated c e none = record {
    literals = λ p lt. elim (cases_order p k) [
      | inl at ↦ subst (λ q. AreLiteralsOf (LitsOf t q) (literals_at t computed q)) (sym at) here
      | inr other ↦ elim other [ inl below ↦ known.literals p below | inr above ↦ absurd (omega arith) ]
    ];
    over = known.over;
  }
    where
      -- the stated literals are the ones that are taken
      same : literals_at t computed k ≡ c
      same = stated_last (lits_at t k) (get_or computed k []) none ∙ ap literals_in e

      -- they are those of the clause
      here : AreLiteralsOf (LitsOf t k) (literals_at t computed k)
      here = subst (λ o. AreLiteralsOf o (literals_at t computed k)) (sym (lits_stated t k c e))
          (subst (λ ls. SameSet ls c × (length ls ≡ length c)) (sym same) (same_refl c, refl))

  module _ (ls s : Lits) (lits : LitsOf t k ≡ Some s) (same : SameSet ls s) (long : length ls ≡ length s) (over : AreOver variables ls)
      (sign : IsCompactAt t k) (place : k < length computed) where
    -- the literals that are put in a clause's place change no other clause's
    other_place : (p : ℕ) → (p ≡ k → ⊥) → literals_at t (set computed k ls) p ≡ literals_at t computed p
    other_place p ne = ap (stated_else (lits_at t p)) (get_or-set_other computed k p ls [] ne)

    -- the literals that are put in a clause's place are taken for it
    own_place : literals_at t (set computed k ls) k ≡ ls
    own_place = ap (λ o. stated_else (literals_in o) (get_or (set computed k ls) k [])) sign ∙ get_or-set_same computed k ls [] place

    -- with a clause that was computed, one clause more is known
    pub known_computed : IsKnownBefore t variables (set computed k ls) (suc k)
    known_computed = record {
      literals = λ p lt. elim (cases_order p k) [
        | inl at ↦ subst (λ q. AreLiteralsOf (LitsOf t q) (literals_at t (set computed k ls) q)) (sym at)
            (subst (λ o. AreLiteralsOf o (literals_at t (set computed k ls) k)) (sym lits)
            (subst (λ ms. SameSet ms s × (length ms ≡ length s)) (sym own_place) (same, long)))
        | inr other ↦ elim other [
          | inl below ↦ subst (AreLiteralsOf (LitsOf t p)) (sym (other_place p (λ e. omega arith))) (known.literals p below)
          | inr above ↦ absurd (omega arith)
        ]
      ];
      over = λ p. elim (cases_eq p k) [
        | inl at ↦ subst (λ q. AreOver variables (literals_at t (set computed k ls) q)) (sym at) (subst (AreOver variables) (sym own_place) over)
        | inr ne ↦ subst (AreOver variables) (sym (other_place p ne)) (known.over p)
      ];
    }

-- nothing is computed before the first place
pub known_nothing : (t : List Entry) (variables : ℕ) (computed : List Lits) → ((p : ℕ) → get_or computed p [] ≡ [])
    → ((p : ℕ) → AreOver variables (lits_at t p)) → IsKnownBefore t variables computed 0
known_nothing t variables computed none over = record {
  literals = λ p lt. absurd (omega arith);
  over = λ p. subst (AreOver variables) (sym (stated_last (lits_at t p) (get_or computed p []) (none p))) (over p);
}

-- ---- how many literals are computed

module _ (t : List Entry) (k : ℕ) where
  -- a clause with the sign counts one
  pub signs_sign : IsCompactAt t k → signs_before t (suc k) ≡ signs_before t k + 1
  signs_sign e = ap (λ o. signs_before t k + sign_count o) e

  -- a clause with stated literals counts none
  pub signs_stated : (c : Lits) → stated_at t k ≡ Some c → signs_before t (suc k) ≡ signs_before t k
  signs_stated c e = ap (λ o. signs_before t k + sign_count o) e ∙ omega arith

  -- a clause with stated literals counts no computed literals
  pub computed_stated : (c : Lits) → stated_at t k ≡ Some c → computed_before t (suc k) ≡ computed_before t k
  computed_stated c e = ap (λ o. computed_before t k + computed_size o (LitsOf t k)) e ∙ omega arith

-- before a later place there are no fewer clauses with the sign
pub signs-mono : (t : List Entry) (k n : ℕ) → k ≤ n → signs_before t k ≤ signs_before t n
signs-mono t k zero le = let e : k ≡ 0 = omega arith in rw e (omega arith)
signs-mono t k (suc n) le = elim (cases_order k (suc n)) [
  | inl e ↦ rw e (omega arith)
  | inr other ↦ elim other [
    | inl below ↦ let rest = signs-mono t k n (omega arith) in omega arith
    | inr above ↦ absurd (omega arith)
  ]
]

-- without computed clauses the stated ones are known
pub literals_stated : (t : List Entry) (p : ℕ) → literals_at t [] p ≡ lits_at t p
literals_stated t p = stated_last (lits_at t p) (get_or [] p []) (none p)
  where
    none : (p : ℕ) → get_or {A = Lits} [] p [] ≡ []
    none zero = refl
    none (suc p) = refl

-- where no literals were computed, those of the antecedents are the stated ones
pub antecedents_stated : (t : List Entry) (k : ℕ) → antecedents_known t [] k ≡ map (lits_at t) (antecedents_at t k)
antecedents_stated t k = map_same (literals_at t []) (lits_at t) (antecedents_at t k) (λ p i. literals_stated t p)

-- what is stated, where something is
pub there : (stated : Option Lits) → (stated ≡ None → ⊥) → stated ≡ Some (literals_in stated)
there None h = absurd (h refl)
there (Some c) h = refl

-- how the chain of a stated clause ends over stated clauses
pub end_stated : (t : List Entry) (k : ℕ) → stated_at t k ≢ None → (end : Result (Unit {0}) ChainError)
    → ChainFault (index_at t k) (Some (lits_at t k)) (antecedents_known t [] k) end
    → ChainFault (index_at t k) (stated_at t k) (map (lits_at t) (antecedents_at t k)) end
end_stated t k some end h =
    subst (λ o. ChainFault (index_at t k) o (map (lits_at t) (antecedents_at t k)) end) (sym (there (stated_at t k) some))
    (subst (λ cs. ChainFault (index_at t k) (Some (lits_at t k)) cs end) (antecedents_stated t k) h)

-- fewer clauses are known too
pub known_earlier : (t : List Entry) (variables : ℕ) (computed : List Lits) (k n : ℕ) → k ≤ n → IsKnownBefore t variables computed n → IsKnownBefore t variables computed k
known_earlier t variables computed k n le known = record { literals = λ p lt. known.literals p (omega arith); over = known.over }

-- where the literals that are known are over the variables, the stated ones are
within_else : (variables : ℕ) (stated computed : Lits) → AreOver variables (stated_else stated computed) → WithinVariables variables stated
within_else variables [] computed over l h = absurd h
within_else variables (m ∷ ms) computed over l h = (over l h).1

-- the stated literals are over the variables too
pub within_stated : (t : List Entry) (variables : ℕ) (computed : List Lits) (k n : ℕ) → IsKnownBefore t variables computed n → WithinVariables variables (lits_at t k)
within_stated t variables computed k n known = within_else variables (lits_at t k) (get_or computed k []) (known.over k)
