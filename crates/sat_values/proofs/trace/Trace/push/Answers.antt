use Rattle.std.proofs.Common.{◌++◌, ◌∷◌, [], false, refl, sym, ap, ◌∙◌, subst, arith}
use Rattle.std.proofs.lemmas.List.{get_or_past}
use Rattle.clause_laws.proofs.TraceLemmas.{CanFollow}
use Rattle.sat_values.proofs.TraceLemmas.{entry, Grows, AreTrace-grown, entries_of-grown}
use Rattle.sat_values.proofs.trace.Trace.push.Goals as goal

-- the lists grow by the clause that is pushed, which is stated and has no sign
grows : (c : goal.After-self-1)
    → Grows c.self.inside.columns.indices.items c.push.new.self.indices.items c.self.inside.columns.lits.lists c.push.new.self.lits.lists
    c.self.inside.columns.antecedents.lists c.push.new.self.antecedents.lists c.self.inside.signs.items c.self.inside.signs.items
    c.self.inside.greatest c.greatest_with-greatest.result c.args.index false c.args.lits.now c.args.antecedents.now
grows c =
    let follows : CanFollow c.args.self.now (entry c.args.index false c.args.lits.now c.args.antecedents.now) = record {
      low = c.requires.low;
      high = c.requires.high;
      other = c.requires.other;
      clause = record { literals = c.greatest_with-greatest.ensures.literals; ordered = c.requires.ordered };
      derived = λ e. absurd (cc);
      earlier = c.requires.earlier;
    } in
    let few_signs = c.self.invariant.few_signs in
    record {
      before = c.self.invariant;
      follows = subst (λ t. CanFollow t (entry c.args.index false c.args.lits.now c.args.antecedents.now)) (sym c.self.view_is) follows;
      few = (c.in_ok-push.ensures {u = tt}).few;
      later_is = (c.in_ok-push.ensures {u = tt}).indices;
      more_is = (c.in_ok-push.ensures {u = tt}).lits;
      further_is = (c.in_ok-push.ensures {u = tt}).antecedents;
      same_signs = λ k lt. refl;
      sign_is = get_or_past c.self.inside.signs.items _ false few_signs;
      few_signs = omega arith;
      lits_are = refl;
      greatest_is = c.greatest_with-greatest.ensures.greatest;
    }

-- the columns with one more in each are a trace's
pub invariant_of-self-2 : goal.invariant_of-self-2
invariant_of-self-2 c = AreTrace-grown (grows c)

-- one more in each column is one more entry
pub returns-clause-ok : goal.returns-clause-ok
returns-clause-ok c =
    entries_of-grown (grows c) ∙ ap (λ t. t ++ entry c.args.index false c.args.lits.now c.args.antecedents.now ∷ []) c.self.view_is
