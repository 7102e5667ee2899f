use Rattle.std.proofs.Common.{ap, arith}
use Rattle.std.proofs.lemmas.Bool.Decides.{nat_tests}
use Rattle.chain_check.specs.Marks.{Marked}
use Rattle.chain_check.proofs.KeptLemmas.{Has-running}
use Rattle.chain_check.proofs.marks.Marks.holds.Goals as goal

-- the literal stands in the running clause where its number is from the chain
pub returns : goal.returns
returns c =
    let m = c.self.inside in
    let size = ap (λ (v : Marked). v.variables) c.self.view_is in
    let told = Has-running m.variables m.numbers.items m.first m.current m.count c.self.invariant
    c.args.self.now.running c.args.self.now.fresh
    (ap (λ (v : Marked). v.running) c.self.view_is) (ap (λ (v : Marked). v.fresh) c.self.view_is)
    c.args.l (omega arith) c.code.result c.index.result.now c.code.ensures.code c.index.ensures in
    let same = c.from-number.ensures in
    grind (arith, nat_tests, told, c.contains.ensures)
