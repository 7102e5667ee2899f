-- The trail of a search has clauses of the log as its reasons.
use Rattle.std.proofs.Common.{◌≡◌, ℕ, zero, suc, ◌<◌, ◌≤◌, List, length, take, get_or, Option, Some, None, inl, inr, sym, subst, arith}
use Rattle.std.proofs.lemmas.Bool.{cases_eq, cases_lt}
use Rattle.std.proofs.lemmas.List.{get_or_past}
use Rattle.clause_defs.specs.Literals.{Literal}
use Rattle.clause_defs.specs.Clauses.{Lits, Has, WithinVariables}
use Rattle.log_defs.specs.Logs.{LogValue, IsIndexOf, clause_of_log}
use Rattle.trail_defs.specs.Assignments.{IsAssignmentOf, Implies}
use Rattle.trail_defs.specs.Trails.{Assigned, clause_at, reason_of, IsTrail}
use Rattle.conflict_analysis.specs.Analyses.{IsReasoned}
use Rattle.conflict_analysis.proofs.EndLemmas.{has_place}
use Rattle.conflict_analysis.proofs.WalkLemmas.{at_same}
use Rattle.search_defs.specs.Solving.{Solving, Knows, IsSolving}

-- the number of a live clause is one of those that there are
pub number_within : (cs : List (Option Lits)) (k : ℕ) (c : Lits) → clause_at cs k ≡ Some c → (1 ≤ k) × (k ≤ length cs)
number_within cs zero c e = absurd (cc)
number_within cs (suc k) c e = elim (cases_lt k (length cs)) [
  | inl lt ↦ (omega arith, omega arith)
  | inr past ↦ absurd (let none = get_or_past cs k None past in cc)
]

-- the trail is one whose reasons are clauses of the log
pub trail_reasoned : (log : LogValue) (t : Assigned) (indices : List ℕ) → IsTrail t → Knows log t indices
    → t.variables < length t.levels → t.variables < length t.reasons → IsReasoned log t.present t.lits t.levels t.reasons indices
trail_reasoned log t indices known knows level_size reason_size =
    let over = knows.over in
    record {
      assignment = subst (λ v. IsAssignmentOf v t.lits) over known.assignment;
      level_size = omega arith;
      reason_size = omega arith;
      numbers = λ l h.
          let at = has_place t.lits l h in
          let size = knows.size in
          elim (cases_eq (reason_of t l) 0) [
            | inl e ↦ omega arith
            | inr ne ↦
                let reason = known.implied at.0 l at.1 ne in
                let high = (number_within t.clauses (reason_of t l) reason.0 reason.1).1 in omega arith
          ];
      implied = λ i l at some.
          let reason = known.implied i l at some in
          let own = knows.known (reason_of t l) reason.0 reason.1 in
          record {
            index_is = own.0;
            implies = λ m at_m.
                subst (λ (x : Literal). Implies (take i t.lits) (clause_of_log log (get_or indices (reason_of t l) 0)) x)
                (sym (at_same t.lits i l m at at_m))
                (subst (λ (d : Lits). Implies (take i t.lits) d l) (sym own.1) reason.2);
          };
      decided = λ i l m at none h. known.decided i l m at none h;
      no_decision = λ l h root. known.no_decision l h root;
      rising = λ i l m at h. known.rising i l m at h;
      top = λ l h. known.top l h;
    }

-- no clause of the log has a variable more
pub clause_within : (log : LogValue) (s : Solving) → IsSolving log s → IsTrail s.trail → (index : ℕ) → IsIndexOf log index
    → WithinVariables log.originals.variables (clause_of_log log index)
clause_within log s solving known index there = elim (solving.live index there) [
  | inl forgotten ↦ forgotten.within_variables
  | inr live ↦
      let own = solving.knows.known live.0 live.1 live.2 in
      let is : clause_of_log log index ≡ live.1 = subst (λ i. clause_of_log log i ≡ live.1) live.3 own.1 in
      let within = (known.clauses live.0 live.1 live.2).1 in
      subst (WithinVariables log.originals.variables) (sym is) (subst (λ v. WithinVariables v live.1) solving.knows.over within)
]
