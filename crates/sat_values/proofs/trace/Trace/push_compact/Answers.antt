use Rattle.std.proofs.Common.{◌≡◌, ℕ, ◌++◌, ◌∷◌, [], List, Bool, true, false, length, get_or, refl, sym, ap, ◌∙◌, subst, arith, length-append}
use Rattle.std.proofs.lemmas.List.{get_or_append_left}
use Rattle.std.proofs.Math.Seq.{get_or-append_seam}
use Rattle.clause_defs.specs.Clauses.{Lits}
use Rattle.sat_values.specs.TraceArrays.{entries_of}
use Rattle.clause_laws.proofs.TraceLemmas.{CanFollow}
use Rattle.sat_values.proofs.TraceLemmas.{entry, Grows, AreTrace-grown, entries_of-grown, AreTrace-same_signs, entries_of-same_signs, on_err}
use Rattle.sat_values.proofs.trace.Trace.push_compact.Goals as goal

-- signs that were filled up say the same
pub invariant_of-self : goal.invariant_of-self
invariant_of-self c =
    let counted : c.len.result ≡ length c.self.inside.columns.indices.items = c.len.ensures ∙ c.self.inside.columns.indices.ok.0 in
    let within = c.fill.ensures.within in
    AreTrace-same_signs c.self.inside.columns.indices.items c.self.inside.columns.lits.lists c.self.inside.columns.antecedents.lists c.self.inside.signs.items c.fill.new.signs.items c.self.inside.greatest
    (λ k lt. c.fill.ensures.same k) (omega arith) c.self.invariant

-- without memory for the signs the trace is as before
pub returns-in_err-fill-clause-err : goal.returns-in_err-fill-clause-err
returns-in_err-fill-clause-err c = on_err c.from_residual.result _ (
    entries_of-same_signs c.self.inside.columns.indices.items c.self.inside.columns.lits.lists c.self.inside.columns.antecedents.lists c.self.inside.signs.items c.fill.new.signs.items (λ k lt. c.fill.ensures.same k) ∙ c.self.view_is)

-- without memory for the columns they are a trace's as before
pub invariant_of-self-in_err-push : goal.invariant_of-self-in_err-push
invariant_of-self-in_err-push c =
    let kept = c.in_err-push.ensures {u = tt} in
    let counted : c.len.result ≡ length c.self.inside.columns.indices.items = c.len.ensures ∙ c.self.inside.columns.indices.ok.0 in
    let within = c.fill.ensures.within in
    rw (kept.same_indices, kept.same_lits, kept.same_antecedents)
    (AreTrace-same_signs c.self.inside.columns.indices.items c.self.inside.columns.lits.lists c.self.inside.columns.antecedents.lists c.self.inside.signs.items c.fill.new.signs.items c.self.inside.greatest
    (λ k lt. c.fill.ensures.same k) (omega arith) c.self.invariant)

-- without memory for the columns the trace is as before
pub returns-in_err-push-clause-err : goal.returns-in_err-push-clause-err
returns-in_err-push-clause-err c =
    let kept = c.in_err-push.ensures {u = tt} in
    on_err c.from_residual-in_err-push.result _ (
    ap (λ xs. entries_of xs c.push.new.self.lits.lists c.push.new.self.antecedents.lists c.fill.new.signs.items) kept.same_indices
    ∙ ap (λ (xs : List Lits). entries_of c.self.inside.columns.indices.items xs c.push.new.self.antecedents.lists c.fill.new.signs.items) kept.same_lits
    ∙ ap (λ (xs : List (List ℕ)). entries_of c.self.inside.columns.indices.items c.self.inside.columns.lits.lists xs c.fill.new.signs.items) kept.same_antecedents
    ∙ entries_of-same_signs c.self.inside.columns.indices.items c.self.inside.columns.lits.lists c.self.inside.columns.antecedents.lists c.self.inside.signs.items c.fill.new.signs.items (λ k lt. c.fill.ensures.same k) ∙ c.self.view_is)

-- the lists grow by the clause that is pushed, which has the sign in the place of its literals
grows : (c : goal.After-push_reserved)
    → Grows c.self.inside.columns.indices.items c.push.new.self.indices.items c.self.inside.columns.lits.lists c.push.new.self.lits.lists
    c.self.inside.columns.antecedents.lists c.push.new.self.antecedents.lists c.self.inside.signs.items c.push_reserved.new.self.items
    c.self.inside.greatest c.self.inside.greatest c.args.index true [] c.args.antecedents.now
grows c =
    let follows : CanFollow c.args.self.now (entry c.args.index true [] c.args.antecedents.now) = record {
      low = c.requires.low;
      high = c.requires.high;
      other = c.requires.other;
      clause = record { literals = λ l h. absurd h; ordered = tt };
      derived = λ e. c.requires.derived;
      earlier = c.requires.earlier;
    } in
    let filled : length c.fill.new.signs.items ≡ length c.self.inside.columns.indices.items =
    (c.in_ok-fill.ensures {u = tt}).filled ∙ c.len.ensures ∙ c.self.inside.columns.indices.ok.0 in
    let longer : c.push_reserved.new.self.items ≡ c.fill.new.signs.items ++ true ∷ [] = c.push_reserved.ensures.items in
    record {
      before = c.self.invariant;
      follows = subst (λ t. CanFollow t (entry c.args.index true [] c.args.antecedents.now)) (sym c.self.view_is) follows;
      few = (c.in_ok-push.ensures {u = tt}).few;
      later_is = (c.in_ok-push.ensures {u = tt}).indices;
      more_is = (c.in_ok-push.ensures {u = tt}).lits;
      further_is = (c.in_ok-push.ensures {u = tt}).antecedents;
      same_signs = λ k lt. ap (λ (xs : List Bool). get_or xs k false) longer
          ∙ get_or_append_left c.fill.new.signs.items (true ∷ []) false k (omega arith) ∙ c.fill.ensures.same k;
      sign_is = ap (λ n. get_or c.push_reserved.new.self.items n false) (sym filled)
          ∙ ap (λ (xs : List Bool). get_or xs (length c.fill.new.signs.items) false) longer
          ∙ get_or-append_seam c.fill.new.signs.items true [] false;
      few_signs = let n = ap length longer ∙ length-append c.fill.new.signs.items (true ∷ []) in omega arith;
      lits_are = refl;
      greatest_is = omega arith;
    }

-- the columns with one more in each are a trace's
pub invariant_of-self-2 : goal.invariant_of-self-2
invariant_of-self-2 c = AreTrace-grown (grows c)

-- one more in each column, with the sign, is one more entry
pub returns-clause-ok : goal.returns-clause-ok
returns-clause-ok c =
    entries_of-grown (grows c) ∙ ap (λ t. t ++ entry c.args.index true [] c.args.antecedents.now ∷ []) c.self.view_is
