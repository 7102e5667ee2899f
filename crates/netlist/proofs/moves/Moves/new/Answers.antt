use Rattle.std.proofs.Common.{arith}
use Rattle.netlist.proofs.MoveLemmas.{IsInverse-put}
use Rattle.netlist.proofs.moves.Moves.new.Goals as goal

-- where each place was put at its own, the new places are the inverse
pub returns : goal.returns
returns c =
    IsInverse-put c.args.places.now c.loop-i.new_places.items c.loop-i.i c.requires.each c.loop-i.invariant.as_many c.loop-i.invariant.put (omega arith)
