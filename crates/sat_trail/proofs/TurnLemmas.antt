-- The watches of a literal are turned into list 0, and at the end none is left there.
use Rattle.std.proofs.Common.{◌≡◌, ◌≢◌, ℕ, ◌<◌, ◌≤◌, List, [], length, set, Option, inl, inr, sym, ap, ◌∙◌, subst, arith, length-set, get_or-set_same, get_or-set_other}
use Rattle.std.proofs.lemmas.Bool.{cases_eq}
use Rattle.clause_defs.specs.Literals.{Literal, code}
use Rattle.clause_defs.specs.Clauses.{Lits, Has}
use Rattle.pch_base.specs.LitCodes.{code_injective}
use Rattle.link_lists.specs.Linked.{list_at}
use Rattle.sat_trail.specs.Watching.{lit_at, IsBound, AreListed, AreVisited, AreAnswered}

module _ (clauses : List (Option Lits)) (loose : List ℕ) (watch t : Lits) (lists turned : List (List ℕ)) (x : Literal)
    (listed : AreListed clauses loose watch lists) (high : 2 ≤ code x) (inside : code x < length lists)
    (is : turned ≡ set (set lists 0 (list_at lists (code x))) (code x) []) where
  at_x : list_at turned (code x) ≡ []
  at_x = ap (λ ls. list_at ls (code x)) is
      ∙ get_or-set_same (set lists 0 (list_at lists (code x))) (code x) [] [] (let a = length-set lists 0 (list_at lists (code x)) in omega arith)

  at_0 : list_at turned 0 ≡ list_at lists (code x)
  at_0 = ap (λ ls. list_at ls 0) is
      ∙ get_or-set_other (set lists 0 (list_at lists (code x))) (code x) 0 [] [] (λ e. absurd (omega arith))
      ∙ get_or-set_same lists 0 (list_at lists (code x)) [] (omega arith)

  at_other : (k : ℕ) → k ≢ code x → k ≢ 0 → list_at turned k ≡ list_at lists k
  at_other k nx n0 = ap (λ ls. list_at ls k) is
      ∙ get_or-set_other (set lists 0 (list_at lists (code x))) (code x) k [] [] nx
      ∙ get_or-set_other lists 0 k (list_at lists (code x)) [] n0

  module _ (codes : (v : ℕ) → IsBound clauses loose v → 2 ≤ code (lit_at watch v)) where
    -- all are to be visited
    pub turned_visited : AreVisited clauses loose watch turned x
    turned_visited = record {
      there = λ v bound. elim (cases_eq (code (lit_at watch v)) (code x)) [
        | inl e ↦ inr (subst (λ ws. Has ws v) (sym at_0) (subst (λ k. Has (list_at lists k) v) e (listed.there v bound)))
        | inr ne ↦ inl (subst (λ ws. Has ws v) (sym (at_other (code (lit_at watch v)) ne (λ z. let a = codes v bound in absurd (omega arith)))) (listed.there v bound))
      ];
      only = λ k v two has. elim (cases_eq k (code x)) [
        | inl e ↦ let none : Has [] v = subst (λ ws. Has ws v) at_x (subst (λ j. Has (list_at turned j) v) e has) in absurd none
        | inr ne ↦ listed.only k v two (subst (λ ws. Has ws v) (at_other k ne (λ z. absurd (omega arith))) has)
      ];
      loose_are = λ v.
          let same = at_other 1 (λ e. absurd (omega arith)) (λ z. absurd (omega arith)) in
          (λ h. (listed.loose_are v).0 (subst (λ ws. Has ws v) same h), λ h. subst (λ ws. Has ws v) (sym same) ((listed.loose_are v).1 h));
      even = listed.even;
      left = λ v has.
          let was = listed.only (code x) v high (subst (λ ws. Has ws v) at_0 has) in
          (was.0, code_injective (lit_at watch v) x was.1);
    }

  -- list 1 stays
  pub turned_one : list_at turned 1 ≡ list_at lists 1
  turned_one = at_other 1 (λ e. absurd (omega arith)) (λ z. absurd (omega arith))

  -- and none has come back
  pub turned_answered : AreAnswered watch turned t x
  turned_answered w has = let none : Has [] w = subst (λ ws. Has ws w) at_x has in absurd none

-- where none is left to visit, each stands in its list
pub visited_end : (clauses : List (Option Lits)) (loose : List ℕ) (watch : Lits) (lists : List (List ℕ)) (x : Literal) → AreVisited clauses loose watch lists x
    → list_at lists 0 ≡ [] → AreListed clauses loose watch lists
visited_end clauses loose watch lists x visited empty = record {
  there = λ v bound. elim (visited.there v bound) [
    | inl listed ↦ listed
    | inr pending ↦ let none : Has [] v = subst (λ ws. Has ws v) empty pending in absurd none
  ];
  only = visited.only;
  loose_are = visited.loose_are;
  even = visited.even;
  left = empty;
}
