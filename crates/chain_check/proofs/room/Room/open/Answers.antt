use Rattle.std.proofs.Common.{◌≡◌, ◌*◌, [], length, min, sym, ◌∙◌, ap, subst, arith}
use Rattle.std.proofs.lemmas.List.{length-replicate}
use Rattle.clause_defs.specs.Clauses.{Lits}
use Rattle.chain_check.specs.Known.{AreOver, signs_before}
use Rattle.clause_defs.specs.Traces.{lits_at}
use Rattle.chain_check.proofs.RoomLemmas.{over_all, sign_within, sign_counted}
use Rattle.chain_check.proofs.room.Room.open.Goals as goal
use Rattle.chain_check.proofs.room.Room.open.Goals.{then-signs-gt0, else-signs-gt0}

-- the room is enough for the trace
pub returns-clause-room : goal.returns-clause-room
returns-clause-room c =
    let variables = c.in_ok-new.ensures {u = tt} in
    let made = c.in_ok-new-2.ensures {u = tt} in
    let is = c.signs-signs.ensures.trace in
    record {
      short = c.ranges.limit.fits;
      covered = λ p. subst (λ v. AreOver v (lits_at c.args.t.now p)) (sym variables) (over_all c.args.t.now c.greatest_variable-variables.result is c.greatest_variable-variables.ensures.within p);
      places = λ p sign.
          let within = sign_within c.args.t.now p sign in
          let counted = sign_counted c.args.t.now p sign in
          let all = c.signs-signs.ensures.signs in
          let long = ap length made.clauses in
          let replicated = length-replicate {A = Lits} c.if-signs-gt0.places [] in
          elim c.if-signs-gt0.branch [
            | then-signs-gt0 w ↦ (let len = w.len-places.ensures.len in let is_len = w.places-is in omega arith)
            | else-signs-gt0 w ↦ absurd (let none = w.if-signs-gt0 in omega arith)
          ];
      clause = let exact = (c.in_ok-with_capacity.ensures {u = tt}).exact in omega arith;
      computed =
          let most : min c.args.limit (2 * c.in_ok-new.field-0.variables * signs_before c.args.t.now (length c.args.t.now)) ≡ c.in_ok-new-2.field-0.room =
          ap (λ v. min c.args.limit (2 * v * signs_before c.args.t.now (length c.args.t.now))) variables
          ∙ ap (λ n. min c.args.limit (2 * c.greatest_variable-variables.result * n)) (sym c.signs-signs.ensures.signs)
          ∙ sym c.most_literals.ensures ∙ sym made.room in
          omega arith;
    }
