use Rattle.std.proofs.Common.{◌≡◌, Err, length, sym, subst, ap, ◌∙◌}
use Rattle.fabric_defs.specs.Bits.{IsBits}
use Rattle.miter_cnf.specs.Circuits.{Circuits}
use Rattle.tree_refute.specs.Branches.{BranchEnds, room_below}
use Rattle.pch_base.specs.BitLists.{bits_of}
use Rattle.tree_refute.proofs.BranchLemmas.{root_refuted, root_ends, zero_bits}
use Rattle.tree_refute.proofs.refute.tree.Goals as goal

pub branch-index-requires-clause-bits : goal.branch-index-requires-clause-bits
branch-index-requires-clause-bits c =
    let n = ap (λ (u : Circuits). length u.net.inputs) c.in_ok-search.ensures in
    let count : c.inputs.result ≡ length c.in_ok-search.search.net.inputs = c.inputs.ensures.count ∙ sym n in
    subst (IsBits (length c.in_ok-search.search.net.inputs)) (sym (c.new-2.ensures ∙ ap (λ m. bits_of m 0) count)) (zero_bits (length c.in_ok-search.search.net.inputs))

pub returns-in_Ok-index-clause-ends : goal.returns-in_Ok-index-clause-ends
returns-in_Ok-index-clause-ends c = root_refuted c.in_ok-search.search c.new-2.result c.args.log.now c.branch-index.new.log c.in_Ok-index.index c.in_Ok-index.ensures.ends

pub returns-clause-ends : goal.returns-clause-ends
returns-clause-ends c =
    let t : Circuits = record { net = c.args.net.now; cells = c.in_ok-cells.cells } in
    root_ends t c.args.config.now c.new-2.result c.args.log.now c.branch-index.new.log c.in_Err-index.end c.geometry-geometry.ensures.known c.in_ok-cells.ensures
    (record { originals = c.requires.miter c.in_ok-cells.cells c.in_ok-cells.ensures })
    (subst (λ (u : Circuits). BranchEnds u c.new-2.result 0 (room_below u 0) c.args.log.now (Err c.in_Err-index.end) c.branch-index.new.log) c.in_ok-search.ensures c.in_Err-index.ensures.ends)
