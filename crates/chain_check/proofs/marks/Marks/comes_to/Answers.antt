use Rattle.std.proofs.Common.{◌≡◌, [], inl, inr, sym, subst, ◌∙◌, take, arith}
use Rattle.std.proofs.lemmas.Bool.{true≢false}
use Rattle.std.proofs.lemmas.List.{take_all}
use Rattle.clause_defs.specs.Clauses.{Has, Lits}
use Rattle.chain_check.proofs.ClauseLists.{Has-take_more, Has-get, has_cases, take-distinct, none_from}
use Rattle.chain_check.proofs.marks.Marks.comes_to.Goals as goal

-- each literal of the clause is over the marks' variables
pub remove-requires-clause-within : goal.remove-requires-clause-within
remove-requires-clause-within c =
    let there = Has-get c.args.c.now c.loop-l.l-index c.l-item.result c.loop-l-test.true c.l-item.is in
    let within = c.requires.within c.l-item.result there in
    let same = c.loop-l.invariant.variables in omega arith

-- a literal of the clause that isn't in the running clause makes them differ
pub returns-then-not-remove-clause-same : goal.returns-then-not-remove-clause-same
returns-then-not-remove-clause-same c =
    let l = c.l-item.result in
    let there = Has-get c.args.c.now c.loop-l.l-index l c.loop-l-test.true c.l-item.is in
    let apart = take-distinct c.args.c.now c.loop-l.l-index l c.requires.ordered c.loop-l-test.true c.l-item.is in (
      λ e. absurd (true≢false (sym e)),
      λ same. sym c.if-not-remove.true ∙ c.remove.ensures.found.1 ((c.loop-l.invariant.rest l).1 ((same l).1 there, apart)),
    )

-- taking out one more literal leaves the others
pub loop-l-preserved : goal.loop-l-preserved
loop-l-preserved c =
    let l = c.l-item.result in
    let stood = (c.loop-l.invariant.rest l).0 (c.remove.ensures.found.0 c.if-not-remove.false) in
    record {
      variables = c.remove.ensures.variables ∙ c.loop-l.invariant.variables;
      fresh = c.remove.ensures.fresh;
      rest = λ x. let more = Has-take_more c.args.c.now c.loop-l.l-index l x c.loop-l-test.true c.l-item.is in (
        λ h. let k = (c.remove.ensures.running x).0 h in let o = (c.loop-l.invariant.rest x).0 k.0 in
            (o.0, λ t. elim (more.0 t) [ inl s ↦ o.1 s | inr e ↦ k.1 (sym e) ]),
        λ h. (c.remove.ensures.running x).1 ((c.loop-l.invariant.rest x).1 (h.0, λ t. h.1 (more.1 (inl t))), λ e. h.1 (more.1 (inr (sym e)))),
      );
      taken = λ x h. elim ((Has-take_more c.args.c.now c.loop-l.l-index l x c.loop-l-test.true c.l-item.is).0 h) [
        | inl k ↦ c.loop-l.invariant.taken x k
        | inr e ↦ subst (Has c.args.self.now.running) e stood.0
      ];
    }

-- where nothing is left, both clauses are the same set
pub returns-clause-same : goal.returns-clause-same
returns-clause-same c =
    let whole : take c.loop-l.l-index c.args.c.now ≡ c.args.c.now = take_all c.loop-l.l-index c.args.c.now c.loop-l-test.false in (
      λ e x. let none = c.is_empty.ensures.0 e in (
        λ h. elim (has_cases c.args.c.now x) [
          | inl k ↦ k
          | inr n ↦ absurd (let left : Has [] x = subst (λ (r : Lits). Has r x) none ((c.loop-l.invariant.rest x).1 (h, λ t. n (subst (λ (r : Lits). Has r x) whole t))) in left)
        ],
        λ h. c.loop-l.invariant.taken x (subst (λ (r : Lits). Has r x) (sym whole) h),
      ),
      λ same. c.is_empty.ensures.1 (none_from c.loop-l.self.running (λ x h. let o = (c.loop-l.invariant.rest x).0 h in
          o.1 (subst (λ (r : Lits). Has r x) (sym whole) ((same x).0 o.0)))),
    )
