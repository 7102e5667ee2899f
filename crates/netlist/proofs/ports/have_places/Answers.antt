use Rattle.std.proofs.Common.{◌≡◌, [], All, Contains, is_some, true, not, ap, subst, sym, ◌∙◌, arith}
use Rattle.std.proofs.lemmas.List.Elements.{All-more}
use Rattle.std.proofs.lemmas.Option.{slice_get_within, get_or_from_slice_get}
use Rattle.std.proofs.lemmas.List.{take_all}
use Rattle.netlist.specs.Index.{found}
use Rattle.netlist.specs.Partners.{port_names}
use Rattle.netlist.proofs.BuildLemmas.{name_there}
use Rattle.netlist.proofs.ports.have_places.Goals as goal

-- one name more is among the names, since the index finds it
pub loop-i-preserved : goal.loop-i-preserved
loop-i-preserved c =
    let names = port_names c.args.names.now in
    let wanted = port_names c.args.wanted.now in
    let i = c.loop-i.i in
    let name = c.name.result.now in
    let there : is_some (found c.in_ok-index.index name) ≡ true =
    ap is_some (sym c.find.ensures) ∙ c.is_none.ensures ∙ ap not c.if-is_none.false in
    All-more (Contains names) wanted i [] (slice_get_within wanted i name c.name.ensures) c.loop-i.invariant
    (subst (Contains names) (sym (get_or_from_slice_get wanted i name [] c.name.ensures))
    (name_there c.in_ok-index.index names name c.in_ok-index.ensures there))

-- so all are, where none is left
pub returns : goal.returns
returns c =
    let names = port_names c.args.names.now in
    let wanted = port_names c.args.wanted.now in
    subst (All (Contains names)) (take_all c.loop-i.i wanted (omega arith)) c.loop-i.invariant
