use Rattle.std.proofs.Common.{◌≡◌, ℕ, ◌<◌, ◌≤◌, ◌-◌, ◌∙◌, length, get_or, Option, None, Result, Ok, sym, ap, subst, arith}
use Rattle.std.specs.List.{range_with_len, AllZip}
use Rattle.std.proofs.lemmas.Slice.Zip.{AllZip-long}
use Rattle.std.proofs.lemmas.List.FromFn.{length-range_with_len}
use Rattle.rayon.specs.Numbers.{nat_range}
use Rattle.rayon.proofs.ToStd.{nat_range-All}
use Rattle.pch_base.specs.declared.memory.NoMemory.{NoMemory}
use Rattle.clause_defs.specs.declared.verdict.Verdict.{Verdict}
use Rattle.par_check.specs.Pieces.{IsPiece, ArePieces}
use Rattle.par_check.proofs.PieceLemmas.{first_begin, pieces_zip, pieces_first, piece_faulty, piece_right, pieces_right}
use Rattle.chain_check.specs.Known.{IsKnownBefore}
use Rattle.chain_check.specs.Rooms.{SignsAreRight}
use Rattle.par_check.proofs.pieces.first_of_pieces.Goals as goal

-- each piece may be checked
pub collect-requires-clause-ready : goal.collect-requires-clause-ready
collect-requires-clause-ready g c κs h =
    let ends = c.into_par_iter.ensures in
    let needs = c.requires in
    let t = c.args.t.now in
    let room = c.args.room.now in
    let inside = nat_range-All (λ i. (i < c.args.pieces) × (c.args.end ≤ length t) × IsKnownBefore t room.marks.variables room.computed.clauses c.args.end
    × SignsAreRight t room.limit c.args.end) 0 c.args.pieces (λ i low high. (high, needs.within, needs.known, needs.right)) in
    rw (c.map.ensures.base, c.map.ensures.f, c.with_min_len.ensures.base, ends.0, ends.1) (λ k d lt. (inside k d lt, λ y p. tt))

-- each answer is that of its piece
pub loop-result-init : goal.loop-result-init
loop-result-init g c =
    let f = c.args.f.now.clauses in
    let t = c.args.t.now in
    let w = c.args.room.now.limit in
    let n = c.args.end in
    let pieces = c.args.pieces in
    let ends = c.into_par_iter.ensures in
    let h = c.in_ok-found.ensures {u = tt} in
    let numbers = rw (c.map.ensures.base, c.with_min_len.ensures.base) at h.1.1 in
    let each = rw c.map.ensures.f at h.1.2 in
    let whole : pieces - 0 ≡ pieces = omega arith in
    let places = numbers ∙ (λ i. nat_range (ends.0 i) (ends.1 i)) ∙ ap (range_with_len 0) whole in
    let items = c.as_slice-result-items.ensures.value ∙ h.2 in
    let R : ℕ → Result (Option Verdict) NoMemory → Type 0 = λ p r. IsPiece f t w n pieces p r in
    let zipped = subst (λ xs. AllZip R xs h.0) places each in
    record {
      right = λ k low high. absurd (let none = first_begin n pieces in omega arith);
      rest = subst (ArePieces f t w n pieces 0) (sym items) (pieces_zip f t w n pieces R (λ p r x. x) 0 pieces h.0 zipped);
      all = ap length items ∙ AllZip-long R (range_with_len 0 pieces) h.0 zipped ∙ length-range_with_len 0 pieces;
    }

-- the first piece with a fault has the first fault
pub returns-in-Some : goal.returns-in-Some
returns-in-Some g c =
    let f = c.args.f.now.clauses in
    let t = c.args.t.now in
    let w = c.args.room.now.limit in
    let rs = c.as_slice-result-items.result.now in
    let p = c.loop-result.result-index in
    let all = c.loop-result.invariant.all in
    let own = pieces_first f t w c.args.end c.args.pieces rs p (Ok None) c.loop-result-test.true c.loop-result.invariant.rest in
    piece_faulty f t w c.args.end c.args.pieces p (get_or rs p (Ok None)) c.in-Some.fault (let lt = c.loop-result-test.true in omega arith) c.loop-result.invariant.right own.0 (c.in_ok-fault.was {u = tt} ∙ ap Ok c.in-Some.is)

-- one more piece has no fault
pub loop-result-preserved : goal.loop-result-preserved
loop-result-preserved g c =
    let f = c.args.f.now.clauses in
    let t = c.args.t.now in
    let w = c.args.room.now.limit in
    let rs = c.as_slice-result-items.result.now in
    let p = c.loop-result.result-index in
    let own = pieces_first f t w c.args.end c.args.pieces rs p (Ok None) c.loop-result-test.true c.loop-result.invariant.rest in
    record {
      right = piece_right f t w c.args.end c.args.pieces p (get_or rs p (Ok None)) c.loop-result.invariant.right own.0 (c.in_ok-fault.was {u = tt} ∙ ap Ok c.in_default.is);
      rest = own.1;
      all = c.loop-result.invariant.all;
    }

-- where no piece has a fault, no clause has one
pub returns : goal.returns
returns g c =
    let all = c.loop-result.invariant.all in
    let far = c.loop-result-test.false in
    let near = c.loop-result.auto.result-index-end in
    pieces_right c.args.f.now.clauses c.args.t.now c.args.room.now.limit c.args.end c.args.pieces c.loop-result.result-index (omega arith) (let some = c.requires.some in omega arith) c.loop-result.invariant.right
