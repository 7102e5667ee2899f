use Rattle.std.proofs.Common.{◌≡◌, length, map, Some, refl, sym, subst, ◌∙◌}
use Rattle.std.specs.List.{slice_get}
use Rattle.std.specs.Str.{IsUtf8}
use Rattle.std.proofs.lemmas.List.Elements.{All-get_or}
use Rattle.std.proofs.lemmas.Option.{slice_get_read}
use Rattle.script_defs.specs.declared.command.FileUse.{FileUse}
use Rattle.run_actors.specs.Loading.{contents_of}
use Rattle.session_load.specs.Usable.{IsOfSize, FileCause}
use Rattle.session_load.proofs.Usables.{completes-next, stops-next, stops-here, completes-all, usable-loaded}
use Rattle.session_load.proofs.files.load_files.Goals as goal

-- the name of the next file is a text, as all names are
pub load_next-requires-clause-name : goal.load_next-requires-clause-name
load_next-requires-clause-name g c =
    subst (λ (u : FileUse). IsUtf8 u.name) (sym c.index-uses-i.is)
    (All-get_or (λ (u : FileUse). IsUtf8 u.name) c.args.uses.now c.loop-i.i c.index-uses-i.result c.loop-i-test.true
    c.requires.names)

-- the files before this one can be used, and the store didn't fail until it was loaded
pub returns-in-Err-clause-fault : goal.returns-in-Err-clause-fault
returns-in-Err-clause-fault g c =
    let uses = c.args.uses.now in
    let found : slice_get uses c.loop-i.i ≡ Some c.index-uses-i.result =
    slice_get_read uses (length uses) c.loop-i.i c.index-uses-i.result refl c.loop-i-test.true c.index-uses-i.is in
    stops-here (g.S.Store.files c.args.store.now) (g.S.Store.faults c.args.store.now)
    (g.S.Store.faults c.load_next.new.store) c.loop-i.used c.loop-i.i uses c.index-uses-i.result c.in-Err.fault found
    c.loop-i.invariant.stops
    (subst (λ n. FileCause (g.S.Store.files c.args.store.now) n (g.S.Store.faults c.load_next.new.store) c.loop-i.used c.index-uses-i.result c.in-Err.fault)
    c.loop-i.invariant.calm
    (subst (λ t. FileCause t (g.S.Store.faults c.loop-i.store) (g.S.Store.faults c.load_next.new.store) c.loop-i.used c.index-uses-i.result c.in-Err.fault)
    c.loop-i.invariant.told c.in-Err.ensures.cause))

-- one file more can be used
pub loop-i-preserved : goal.loop-i-preserved
loop-i-preserved g c =
    let uses = c.args.uses.now in
    let told = g.S.Store.files c.args.store.now in
    let found : slice_get uses c.loop-i.i ≡ Some c.index-uses-i.result =
    slice_get_read uses (length uses) c.loop-i.i c.index-uses-i.result refl c.loop-i-test.true c.index-uses-i.is in
    let usable = c.in-Ok.ensures.usable in
    let sized : IsOfSize told c.loop-i.used c.index-uses-i.result (contents_of usable.0) c.in-Ok.size =
    subst (λ t. IsOfSize t c.loop-i.used c.index-uses-i.result (contents_of usable.0) c.in-Ok.size)
    c.loop-i.invariant.told usable.1 in
    record {
      told = c.load_next.ensures.files ∙ c.loop-i.invariant.told;
      calm = c.in-Ok.ensures.calm ∙ c.loop-i.invariant.calm;
      within = c.in-Ok.ensures.within;
      usable = completes-next told c.loop-i.used c.in-Ok.size c.loop-i.i uses c.index-uses-i.result c.loop-i.files.items
          usable.0 found sized c.loop-i.invariant.usable c.load_next.new.files.items usable.2;
      stops = stops-next told c.loop-i.used c.in-Ok.size c.loop-i.i uses c.index-uses-i.result (contents_of usable.0)
          found sized c.loop-i.invariant.stops;
    }

-- no file is left
pub returns-clause-usable : goal.returns-clause-usable
returns-clause-usable g c =
    completes-all (g.S.Store.files c.args.store.now) c.loop-i.used c.loop-i.i c.args.uses.now c.loop-i.files.items
    c.loop-i-test.false c.loop-i.invariant.usable

-- what can be used is loaded as what it is used as
pub returns-clause-kinds : goal.returns-clause-kinds
returns-clause-kinds g c =
    usable-loaded (g.S.Store.files c.args.store.now) 0 c.args.uses.now (map contents_of c.loop-i.files.items)
    (completes-all (g.S.Store.files c.args.store.now) c.loop-i.used c.loop-i.i c.args.uses.now c.loop-i.files.items
    c.loop-i-test.false c.loop-i.invariant.usable)
