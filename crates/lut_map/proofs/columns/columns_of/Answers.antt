use Rattle.std.proofs.Common.{ℕ, ◌<◌, List, length, All, sym, subst, arith}
use Rattle.std.proofs.lemmas.Result.{IfOk-weaker}
use Rattle.std.specs.Prelude.{Vec}
use Rattle.std.specs.declared.alloc.Global.{Global}
use Rattle.map_defs.specs.Columns.{AreColumns}
use Rattle.lut_map.specs.Search.{only_cells}
use Rattle.lut_map.proofs.SearchLemmas.{search-ends}
use Rattle.lut_map.proofs.columns.columns_of.Goals as goal

pub returns-clause-columns : goal.returns-clause-columns
returns-clause-columns c =
    let s = c.loop-k.search in
    let ends = search-ends c.args.cells.now s.states.items s.stack.items c.requires c.loop-k.invariant.sound c.loop-k.invariant.empty
    (λ k lt. c.loop-k.invariant.met k (omega (arith, c.len-k-end.ensures))) in
    IfOk-weaker c.into_columns.result _ _
    (λ (v : Vec ℕ Global) e. let P : List ℕ → Type 0 = λ l. AreColumns (only_cells c.args.cells.now) l in subst P (sym e) ends.0)
    c.into_columns.ensures

pub returns-clause-small : goal.returns-clause-small
returns-clause-small c =
    let s = c.loop-k.search in
    let ends = search-ends c.args.cells.now s.states.items s.stack.items c.requires c.loop-k.invariant.sound c.loop-k.invariant.empty
    (λ k lt. c.loop-k.invariant.met k (omega (arith, c.len-k-end.ensures))) in
    IfOk-weaker c.into_columns.result _ _
    (λ (v : Vec ℕ Global) e. let P : List ℕ → Type 0 = λ l. All (λ column. column < length c.args.cells.now) l in subst P (sym e) ends.1)
    c.into_columns.ensures
