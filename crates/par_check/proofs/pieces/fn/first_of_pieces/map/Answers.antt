use Rattle.std.proofs.Common.{arith}
use Rattle.chain_check.proofs.KnownLemmas.{known_earlier}
use Rattle.par_check.proofs.PieceLemmas.{begins_in_order}
use Rattle.par_check.proofs.pieces.fn.first_of_pieces.map.Goals as goal

pub check_piece-requires : goal.check_piece-requires
check_piece-requires c =
    let order = begins_in_order c.captures.end c.captures.pieces c.args.p (let some = c.requires.0 in omega arith) in
    let here = c.piece_begin.ensures.begin in
    let next = c.piece_begin-2.ensures.begin in
    let within = c.piece_begin-2.ensures.within in
    let needs = c.requires in
    record {
      order = omega arith;
      within = let far = needs.1 in omega arith;
      known = known_earlier _ _ _ _ _ within needs.2;
      right = λ k lt. needs.3 k (omega arith);
    }
