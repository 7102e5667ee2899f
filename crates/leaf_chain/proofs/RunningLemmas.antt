-- The running clause of a chain, from variable to variable.
use Rattle.std.proofs.Common.{◌≡◌, ◌≢◌, ℕ, zero, suc, ◌+◌, ◌*◌, ◌<◌, ◌≤◌, ◌↔◌, ◌⊎◌, inl, inr, Bool, true, false, List, [], ◌∷◌, ◌++◌, length, map, get_or, take, refl, sym, ◌∙◌, ap, subst, arith, length-append}
use Rattle.std.proofs.lemmas.List.{map-append, take_all, get_or_default}
use Rattle.clause_defs.specs.Literals.{Literal, code}
use Rattle.clause_defs.specs.Clauses.{Lits, Has, SameSet, IsOrdered}
use Rattle.clause_defs.specs.Resolution.{Step, Resolves}
use Rattle.chain_check.proofs.ClauseLists.{Has-take_more, Has-take, Has-snoc}
use Rattle.log_defs.specs.Logs.{LogValue, IsIndexOf, all_clauses, clause_of_log}
use Rattle.log_laws.proofs.ChainGrowth.{resolves_more}
use Rattle.leaf_defs.specs.Evaluated.{Evaluated, true_literal, false_literal, IsFalseAmong, IsReason, IsEvaluated, variable_at}
use Rattle.leaf_chain.specs.Marks.{marked, IsMarked, HasVariable, AreMarksAmong, IsRunning, IsCollected}
use Rattle.clause_laws.proofs.LiteralLemmas.{literal_cases}
use Rattle.log_laws.proofs.TraceOfLemmas.{Has-get_or}
use Rattle.leaf_chain.proofs.PlaceLemmas.{fewer}
use Rattle.leaf_chain.proofs.MarkLemmas.{step_marked, marks_known, marked_clause, marked_among, marked-Has, Has-marked_of}

-- a member of a list of numbers stands at a place
place_in : (xs : List ℕ) (x : ℕ) → Has xs x → (i : ℕ) × (i < length xs) × (get_or xs i 0 ≡ x)
place_in [] x h = absurd h
place_in (y ∷ ys) x (inl e) = (0, omega arith, e)
place_in (y ∷ ys) x (inr h) = let rest = place_in ys x h in (suc rest.0, let lt = rest.1 in omega arith, rest.2)

-- a member of the first n stands below n
pub place_in_take : (xs : List ℕ) (n : ℕ) (x : ℕ) → Has (take n xs) x → (i : ℕ) × (i < n) × (i < length xs) × (get_or xs i 0 ≡ x)
place_in_take xs zero x h = absurd h
place_in_take [] (suc n) x h = absurd h
place_in_take (y ∷ ys) (suc n) x (inl e) = (0, omega arith, omega arith, e)
place_in_take (y ∷ ys) (suc n) x (inr h) = let rest = place_in_take ys n x h in (suc rest.0, (let lt = rest.1 in omega arith), (let lt = rest.2 in omega arith), rest.3)

-- a variable isn't among those before it
pub not_before : (order : List ℕ) (i : ℕ) → ((j k : ℕ) → j < k → k < length order → variable_at order j ≢ variable_at order k) → i < length order
    → Has (take i order) (variable_at order i) → ⊥
not_before order i distinct lt h = let at = place_in_take order i (variable_at order i) h in distinct at.0 i at.1 lt at.3

-- the first i + 1 are the first i and one more
pub among_more : (order : List ℕ) (i u : ℕ) → i < length order → Has (take (i + 1) order) u → Has (take i order) u ⊎ (u ≡ variable_at order i)
among_more order i u lt h =
    elim ((Has-take_more order i (variable_at order i) u lt (get_or_default order i 0 (variable_at order i) lt)).0 h) [
      | inl before ↦ inl before
      | inr e ↦ inr (sym e)
    ]

-- a chain with one more clause
resolves_with : (log : LogValue) (ants : List ℕ) (index : ℕ) (r s : Lits) → Resolves (map (clause_of_log log) ants) r
    → Step r (clause_of_log log index) s → Resolves (map (clause_of_log log) (ants ++ index ∷ [])) s
resolves_with log ants index r s h step =
    subst (λ cs. Resolves cs s) (sym (map-append (clause_of_log log) ants (index ∷ []))) (resolves_more (map (clause_of_log log) ants) r (clause_of_log log index) s h step)

-- a false clause begins the chain
pub running_start : (e : Evaluated) (log : LogValue) (start : ℕ) (marks : List Bool) → IsIndexOf log start
    → IsFalseAmong e.values e.order (clause_of_log log start) → length marks ≡ length e.values
    → ((v : ℕ) → IsMarked marks v ↔ HasVariable (clause_of_log log start) v)
    → IsRunning e log marks (start ∷ []) (length e.order)
running_start e log start marks index all_false many marks_are = record {
  resolves = marked_clause e.values marks e.order (clause_of_log log start) many all_false marks_are;
  known = λ v m. subst (λ known. Has known v) (sym (take_all (length e.order) e.order (omega arith))) (marked_among e.values marks e.order (clause_of_log log start) all_false marks_are v m);
  indices_are = λ i h. elim h [ inl same ↦ subst (IsIndexOf log) same index | inr none ↦ absurd none ];
  few = omega arith;
  all_variables = many;
}

-- a variable that isn't marked is passed over
pub running_pass : (e : Evaluated) (log : LogValue) (marks : List Bool) (ants : List ℕ) (i : ℕ) → IsRunning e log marks ants (i + 1) → i < length e.order
    → (IsMarked marks (variable_at e.order i) → ⊥) → IsRunning e log marks ants i
running_pass e log marks ants i h lt none = record {
  resolves = h.resolves;
  known = λ u m. elim (among_more e.order i u lt (h.known u m)) [ inl before ↦ before | inr same ↦ absurd (none (subst (IsMarked marks) same m)) ];
  indices_are = h.indices_are;
  few = let few = h.few in omega arith;
  all_variables = h.all_variables;
}

-- a marked one is resolved away with its reason
pub running_resolved : (e : Evaluated) (log : LogValue) (before after : List Bool) (ants : List ℕ) (i index : ℕ)
    → IsEvaluated (all_clauses log.originals.clauses log.derived) e → IsRunning e log before ants (i + 1) → e.chosen ≤ i → i < length e.order
    → IsMarked before (variable_at e.order i) → IsIndexOf log index
    → IsReason e.values (take i e.order) (variable_at e.order i) (clause_of_log log index) → length after ≡ length e.values
    → ((u : ℕ) → IsMarked after u ↔ ((IsMarked before u ⊎ HasVariable (clause_of_log log index) u) × (u ≢ variable_at e.order i)))
    → IsRunning e log after (ants ++ index ∷ []) i
running_resolved e log before after ants i index evaluated h derived lt there known reason many marks =
    let v = variable_at e.order i in
    let fresh = not_before e.order i evaluated.distinct lt in
    record {
      resolves =
          resolves_with log ants index (marked before e.values) (marked after e.values) h.resolves
          (step_marked e.values before after (take i e.order) v (clause_of_log log index) h.all_variables many fresh reason there marks);
      known =
          marks_known e.values before after (take i e.order) v (clause_of_log log index) h.all_variables many fresh reason there marks
          (λ u m. among_more e.order i u lt (h.known u m));
      indices_are = λ n here. elim ((Has-snoc ants index n).0 here) [ inl old ↦ h.indices_are n old | inr same ↦ subst (IsIndexOf log) same known ];
      few = let few = h.few in omega (arith, length-append ants (index ∷ []));
      all_variables = many;
    }

-- ---- the literals of the running clause, one after another

-- the number of a literal is twice its variable, or one more
code_of : (v : ℕ) (b : Bool) → (2 * v ≤ code (record { variable = v; positive = b })) × (code (record { variable = v; positive = b }) ≤ 2 * v + 1)
code_of v true = (omega arith, omega arith)
code_of v false = (omega arith, omega arith)

-- a literal of a lower variable comes before
code_less : (l m : Literal) → l.variable < m.variable → code l < code m
code_less l m lt = let a = (code_of l.variable l.positive).1 in let b = (code_of m.variable m.positive).0 in omega arith

-- literals in their order with a later one behind them
IsOrdered-snoc : (c : Lits) (l : Literal) → IsOrdered c → ((m : Literal) → Has c m → code m < code l) → IsOrdered (c ++ l ∷ [])
IsOrdered-snoc [] l ordered lower = (λ m h. absurd h, tt)
IsOrdered-snoc (k ∷ ks) l ordered lower = (
  λ m h. elim ((Has-snoc ks l m).0 h) [ inl old ↦ ordered.0 m old | inr same ↦ subst (λ x. code k < code x) same (lower k (inl refl)) ],
  IsOrdered-snoc ks l ordered.1 (λ m h. lower m (inr h)),
)

-- nothing was collected yet
pub collected_none : (e : Evaluated) (marks : List Bool) → IsCollected e marks 0 []
collected_none e marks = record {
  ordered = tt;
  from_marks = λ l h. absurd h;
  all_marks = λ v m h. absurd h;
  no_more = omega arith;
}

-- one more variable, which isn't marked
pub collected_pass : (e : Evaluated) (marks : List Bool) (i : ℕ) (c : Lits) → IsCollected e marks i c → i < length e.order
    → (IsMarked marks (variable_at e.order i) → ⊥) → IsCollected e marks (i + 1) c
collected_pass e marks i c h lt none = record {
  ordered = h.ordered;
  from_marks = λ l here. let own = h.from_marks l here in (own.0, own.1, (Has-take_more e.order i (variable_at e.order i) l.variable lt (get_or_default e.order i 0 (variable_at e.order i) lt)).1 (inl own.2));
  all_marks = λ v m known. elim (among_more e.order i v lt known) [
    | inl before ↦ h.all_marks v m before
    | inr same ↦ absurd (none (subst (IsMarked marks) same m))
  ];
  no_more = let few = h.no_more in omega arith;
}

-- one more variable, which is marked
pub collected_more : (e : Evaluated) (marks : List Bool) (i : ℕ) (c : Lits) → IsCollected e marks i c → i < length e.order
    → IsMarked marks (variable_at e.order i) → ((u : ℕ) → Has (take i e.order) u → u < variable_at e.order i)
    → IsCollected e marks (i + 1) (c ++ false_literal e.values (variable_at e.order i) ∷ [])
collected_more e marks i c h lt there lower =
    let v = variable_at e.order i in
    let l = false_literal e.values v in
    let more : (u : ℕ) → Has (take (i + 1) e.order) u ↔ (Has (take i e.order) u ⊎ (v ≡ u)) =
    λ u. Has-take_more e.order i v u lt (get_or_default e.order i 0 v lt) in
    record {
      ordered = IsOrdered-snoc c l h.ordered (λ m here. code_less m l (lower m.variable (h.from_marks m here).2));
      from_marks = λ m here. elim ((Has-snoc c l m).0 here) [
        | inl old ↦ let own = h.from_marks m old in (own.0, own.1, (more m.variable).1 (inl own.2))
        | inr same ↦
            let variable : v ≡ m.variable = ap (λ (x : Literal). x.variable) same in (
              subst (IsMarked marks) variable there,
              sym same ∙ ap (false_literal e.values) variable,
              (more m.variable).1 (inr variable),
            )
      ];
      all_marks = λ u m known. (Has-snoc c l (false_literal e.values u)).1 (elim (among_more e.order i u lt known) [
        | inl before ↦ inl (h.all_marks u m before)
        | inr same ↦ inr (ap (false_literal e.values) (sym same))
      ]);
      no_more = let few = h.no_more in omega (arith, length-append c (l ∷ []));
    }

-- all marks collected are the running clause
pub collected_all : (e : Evaluated) (marks : List Bool) (n : ℕ) (c : Lits) → IsCollected e marks n c → AreMarksAmong marks (take n e.order)
    → length marks ≡ length e.values → SameSet (marked marks e.values) c
collected_all e marks n c h among many l = (
  λ here. let own = marked-Has marks e.values l here in subst (Has c) (sym own.1) (h.all_marks l.variable own.0 (among l.variable own.0)),
  λ here. let own = h.from_marks l here in Has-marked_of marks e.values l many own.0 own.1,
)

-- ---- an evaluation

-- there are fewer variables in the order than places
pub evaluated_few : (f : List Lits) (e : Evaluated) → IsEvaluated f e → 1 ≤ length e.values → length e.order < length e.values
evaluated_few f e h some = fewer e.order (length e.values) some h.distinct h.within

-- the variables of a reason are within the places
pub reason_variables : (f : List Lits) (e : Evaluated) (i : ℕ) (c : Lits) → IsEvaluated f e → i < length e.order
    → IsReason e.values (take i e.order) (variable_at e.order i) c → (l : Literal) → Has c l → l.variable < length e.values
reason_variables f e i c h lt reason l here =
    elim (literal_cases l (true_literal e.values (variable_at e.order i))) [
      | inl same ↦
          let own = (h.within (variable_at e.order i) (Has-get_or e.order i 0 lt)).1 in
          let variable = ap (λ (x : Literal). x.variable) same in omega arith
      | inr other ↦ (h.within l.variable (Has-take e.order i l.variable (reason.others l here other).1)).1
    ]

-- a variable that isn't marked
pub unmarked : (marks : List Bool) (v : ℕ) (b : Bool) → v < length marks → b ≡ get_or marks v b → b ≡ false → IsMarked marks v → ⊥
unmarked marks v b lt read none m = let e : true ≡ false = sym m ∙ get_or_default marks v false b lt ∙ sym read ∙ none in cc

-- the variables before a chosen one are lower
pub lower_before : (order : List ℕ) (n i u : ℕ) → ((j k : ℕ) → j < k → k < n → variable_at order j < variable_at order k) → i < n
    → Has (take i order) u → u < variable_at order i
lower_before order n i u ordered lt h =
    let at = place_in_take order i u h in
    let less = ordered at.0 i at.1 lt in
    let same = at.3 in omega arith
