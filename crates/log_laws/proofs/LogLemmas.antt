-- Logs with one more derived clause.
use Rattle.std.proofs.Common.{◌≡◌, ℕ, ◌+◌, ◌-◌, ◌<◌, ◌≤◌, inl, inr, List, [], ◌∷◌, ◌++◌, length, map, get_or, refl, sym, ◌∙◌, ap, subst, arith, length-append}
use Rattle.std.proofs.lemmas.Bool.{cases_lt}
use Rattle.std.proofs.lemmas.List.{append_assoc, append-nil, length-map, map-append, get_or-map, get_or_past, get_or_append_left, get_or-append_right}
use Rattle.std.proofs.Math.Seq.{get_or-append_seam}
use Rattle.clause_defs.specs.Clauses.{Lits, Has, SameSet}
use Rattle.clause_defs.specs.Resolution.{Resolves}
use Rattle.clause_laws.proofs.TraceLits.{map_same}
use Rattle.log_defs.specs.Logs.{Derived, lits_of, derived_at, all_clauses, clause_with, LogOk, LogValue, IsIndexOf, Extends, clause_of_log}

-- no clause, which is read past the end
abbrev nothing : Derived
nothing = record { lits = []; antecedents = [] }

-- more clauses behind a derived clause leave it where it is
pub derived_at-before : (ds es : List Derived) (k : ℕ) → k < length ds → derived_at (ds ++ es) k ≡ derived_at ds k
derived_at-before ds es k lt = get_or_append_left ds es nothing k lt

-- a clause that is put behind the derived ones is the last of them
pub derived_at-last : (ds : List Derived) (d : Derived) (k : ℕ) → k ≡ length ds → derived_at (ds ++ d ∷ []) k ≡ d
derived_at-last ds d k e = ap (derived_at (ds ++ d ∷ [])) e ∙ get_or-append_seam ds d [] nothing

-- the clauses are as many as those of the formula and the derived ones together
pub length-all_clauses : (f : List Lits) (ds : List Derived) → length (all_clauses f ds) ≡ length f + length ds
length-all_clauses f ds = length-append f (map lits_of ds) ∙ ap (λ n. length f + n) (length-map ds lits_of)

-- where more clauses are derived, they come behind all that were there
all_clauses-more : (f : List Lits) (ds es : List Derived) → all_clauses f (ds ++ es) ≡ all_clauses f ds ++ map lits_of es
all_clauses-more f ds es = ap (λ cs. f ++ cs) (map-append lits_of ds es) ∙ sym (append_assoc f (map lits_of ds) (map lits_of es))

-- a clause keeps its index where more are derived
pub clause_with-before : (f : List Lits) (ds es : List Derived) (i : ℕ) → 1 ≤ i → i ≤ length f + length ds
    → clause_with f (ds ++ es) i ≡ clause_with f ds i
clause_with-before f ds es i low high =
    ap (λ cs. get_or cs (i - 1) []) (all_clauses-more f ds es)
    ∙ get_or_append_left (all_clauses f ds) (map lits_of es) [] (i - 1) (omega (arith, length-all_clauses f ds))

-- the first indices are those of the formula's clauses
pub clause_with-original : (f : List Lits) (ds : List Derived) (i : ℕ) → 1 ≤ i → i ≤ length f → clause_with f ds i ≡ get_or f (i - 1) []
clause_with-original f ds i low high = get_or_append_left f (map lits_of ds) [] (i - 1) (omega arith)

-- the next ones are those of the derived clauses
pub clause_with-derived : (f : List Lits) (ds : List Derived) (i k : ℕ) → i ≡ length f + k + 1 → k < length ds
    → clause_with f ds i ≡ (derived_at ds k).lits
clause_with-derived f ds i k e lt =
    get_or-append_right f (map lits_of ds) (length f) (i - 1) [] refl (omega arith)
    ∙ ap (λ n. get_or (map lits_of ds) n []) (let at : i - 1 - length f ≡ k = omega arith in at)
    ∙ get_or-map lits_of ds k nothing [] lt

-- the antecedents of the new clause are clauses of the log
abbrev pub AreIndices : List Lits → List Derived → List ℕ → Type 0
AreIndices f ds is = (i : ℕ) → Has is i → (1 ≤ i) × (i ≤ length f + length ds)

-- the clauses with these indices stay
pub clauses_stay : (f : List Lits) (ds es : List Derived) (is : List ℕ) → AreIndices f ds is
    → map (clause_with f (ds ++ es)) is ≡ map (clause_with f ds) is
clauses_stay f ds es is within =
    map_same (clause_with f (ds ++ es)) (clause_with f ds) is
    (λ i h. let range = within i h in clause_with-before f ds es i range.0 range.1)

-- the antecedents of a clause of the log are clauses before it
own_indices : (f : List Lits) (ds : List Derived) → LogOk f ds → (k : ℕ) → k < length ds → AreIndices f ds (derived_at ds k).antecedents
own_indices f ds ok k lt i h = let range = ok.earlier k i h in (range.0, let high = range.1 in omega arith)

-- a clause still follows from its antecedents where more clauses are derived
resolves_there : (f : List Lits) (ds es : List Derived) (d : Derived) → AreIndices f ds d.antecedents
    → Resolves (map (clause_with f ds) d.antecedents) d.lits → Resolves (map (clause_with f (ds ++ es)) d.antecedents) d.lits
resolves_there f ds es d within h = subst (λ cs. Resolves cs d.lits) (sym (clauses_stay f ds es d.antecedents within)) h

-- a log with one more clause, which resolves and is no derived clause yet
module _ (f : List Lits) (ds : List Derived) (d : Derived) (ok : LogOk f ds) (within : AreIndices f ds d.antecedents)
    (resolves : Resolves (map (clause_with f ds) d.antecedents) d.lits)
    (is_new : (k : ℕ) → k < length ds → SameSet (derived_at ds k).lits d.lits → ⊥) where
  -- there is one derived clause more
  longer : length (ds ++ d ∷ []) ≡ length ds + 1
  longer = length-append ds (d ∷ [])

  -- each clause is an old one or the new one
  each : (P : ℕ → Derived → Type 0) → ((k : ℕ) → k < length ds → P k (derived_at ds k)) → P (length ds) d
      → (k : ℕ) → k < length (ds ++ d ∷ []) → P k (derived_at (ds ++ d ∷ []) k)
  each P old last k lt = elim (cases_lt k (length ds)) [
    | inl before ↦ subst (P k) (sym (derived_at-before ds (d ∷ []) k before)) (old k before)
    | inr past ↦
        let at : k ≡ length ds = omega (arith, longer) in
        subst (λ n. P n (derived_at (ds ++ d ∷ []) k)) (sym at) (subst (P (length ds)) (sym (derived_at-last ds d k at)) last)
  ]

  -- the antecedents of each derived clause, old or new, are clauses before it
  earlier_after : (k i : ℕ) → Has (derived_at (ds ++ d ∷ []) k).antecedents i → (1 ≤ i) × (i ≤ length f + k)
  earlier_after k = elim (cases_lt k (length (ds ++ d ∷ []))) [
    | inl lt ↦ each (λ n e. (i : ℕ) → Has e.antecedents i → (1 ≤ i) × (i ≤ length f + n)) (λ n below. ok.earlier n) within k lt
    | inr past ↦ λ i h. absurd (subst (λ (e : Derived). Has e.antecedents i) (get_or_past (ds ++ d ∷ []) k nothing past) h)
  ]

  -- no two derived clauses are the same, the new one among them
  distinct_after : (j k : ℕ) → j < k → k < length (ds ++ d ∷ []) → SameSet (derived_at (ds ++ d ∷ []) j).lits (derived_at (ds ++ d ∷ []) k).lits → ⊥
  distinct_after j k lt within_k =
      each (λ n e. (i : ℕ) → i < n → SameSet (derived_at (ds ++ d ∷ []) i).lits e.lits → ⊥)
      (λ n below i less. subst (λ (e : Derived). SameSet e.lits (derived_at ds n).lits → ⊥) (sym (derived_at-before ds (d ∷ []) i (omega arith))) (ok.distinct i n less below))
      (λ i less. subst (λ (e : Derived). SameSet e.lits d.lits → ⊥) (sym (derived_at-before ds (d ∷ []) i less)) (is_new i less))
      k within_k j lt

  -- so what holds of a log holds with the new clause, too
  pub LogOk-push : LogOk f (ds ++ d ∷ [])
  LogOk-push = record {
    earlier = earlier_after;
    resolves =
        each (λ n e. Resolves (map (clause_with f (ds ++ d ∷ [])) e.antecedents) e.lits)
        (λ n below. resolves_there f ds (d ∷ []) (derived_at ds n) (own_indices f ds ok n below) (ok.resolves n below))
        (resolves_there f ds (d ∷ []) d within resolves);
    distinct = distinct_after;
  }

-- the log without derived clauses
pub LogOk-empty : (f : List Lits) → LogOk f []
LogOk-empty f = record {
  earlier = λ k i h. absurd (subst (λ (e : Derived). Has e.antecedents i) (get_or_past [] k nothing (omega arith)) h);
  resolves = λ k lt. absurd (omega arith);
  distinct = λ j k less lt. absurd (omega arith);
}

-- ---- later logs

-- an index of a log is one of each later log
pub index_stays : (before after : LogValue) (i : ℕ) → Extends before after → IsIndexOf before i → IsIndexOf after i
index_stays before after i ext h = record {
  low = h.low;
  high =
      let high = h.high in
      let same = ap (λ (g : List Lits). length g) (ap (λ f. f.clauses) ext.originals) in
      let longer = ap (λ (ds : List Derived). length ds) ext.derived in
      omega (arith, same, longer, length-append before.derived ext.more);
}

-- and the later log has the same clause there
pub clause_stays : (before after : LogValue) (i : ℕ) → Extends before after → IsIndexOf before i
    → clause_of_log after i ≡ clause_of_log before i
clause_stays before after i ext h =
    ap (λ f. clause_with f.clauses after.derived i) ext.originals
    ∙ ap (λ ds. clause_with before.originals.clauses ds i) ext.derived
    ∙ clause_with-before before.originals.clauses before.derived ext.more i h.low h.high

-- a log is a later one of itself
pub extends_refl : (l : LogValue) → Extends l l
extends_refl l = record { originals = refl; budget = refl; more = []; derived = sym (append-nil l.derived) }

-- a later log of a later log is one
pub extends_trans : (l m n : LogValue) → Extends l m → Extends m n → Extends l n
extends_trans l m n first second = record {
  originals = second.originals ∙ first.originals;
  budget = second.budget ∙ first.budget;
  more = first.more ++ second.more;
  derived = second.derived ∙ ap (λ ds. ds ++ second.more) first.derived ∙ append_assoc l.derived first.more second.more;
}
