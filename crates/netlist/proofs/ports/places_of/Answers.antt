use Rattle.std.proofs.Common.{◌≡◌, [], take, Some, None, refl, sym, rules}
use Rattle.std.proofs.lemmas.Option.{slice_get_within, get_or_from_slice_get}
use Rattle.net_laws.proofs.PlaceLemmas.{All-standing}
use Rattle.netlist.specs.Index.{found}
use Rattle.netlist.specs.Partners.{port_names}
use Rattle.netlist.proofs.BuildLemmas.{name_found, name_missing, first_missing}
use Rattle.netlist.proofs.PartnerLemmas.{StandAt-more}
use Rattle.netlist.proofs.ports.places_of.Goals as goal

-- a name that the index doesn't find is the first missing one
pub returns-in_default : goal.returns-in_default
returns-in_default c =
    let names = port_names c.args.names.now in
    let wanted = port_names c.args.wanted.now in
    let i = c.loop-i.i in
    let name = c.name.result.now in
    let missing : found c.in_ok-index.index name ≡ None = search rules in (
      refl,
      first_missing names wanted i name (All-standing names c.loop-i.places.items (take i wanted) c.loop-i.invariant)
          (slice_get_within wanted i name c.name.ensures) (sym (get_or_from_slice_get wanted i name [] c.name.ensures))
          (name_missing c.in_ok-index.index names name c.in_ok-index.ensures missing),
    )

-- the place that is found is that of the name
pub loop-i-preserved : goal.loop-i-preserved
loop-i-preserved c =
    let names = port_names c.args.names.now in
    let wanted = port_names c.args.wanted.now in
    let name = c.name.result.now in
    let there : found c.in_ok-index.index name ≡ Some c.in-Some.place = search rules in
    rw c.in_ok-push.ensures.items
    (StandAt-more names wanted c.loop-i.places.items c.loop-i.i c.in-Some.place name c.name.ensures c.loop-i.invariant
    (name_found c.in_ok-index.index names name c.in-Some.place c.in_ok-index.ensures there))
