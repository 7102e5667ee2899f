use Rattle.std.proofs.Common.{◌<◌, length, map, refl, sym, ◌∙◌, arith}
use Rattle.std.proofs.lemmas.List.{length-map}
use Rattle.std.proofs.lemmas.Option.{slice_get_read}
use Rattle.std.proofs.lemmas.Slice.Zip.{AllZip-long}
use Rattle.script_defs.specs.declared.command.FileUse.{FileUse}
use Rattle.run_actors.specs.Loading.{contents_of, IsOfKind}
use Rattle.run_actors.proofs.Files.{kind-at, loaded-more, loaded-whole}
use Rattle.run_actors.proofs.loaded.are_loaded.Goals as goal

-- lists of different lengths don't match each other
pub returns-then-uses-files : goal.returns-then-uses-files
returns-then-uses-files c = (
  λ wrong. grind (arith, wrong),
  λ loaded.
      absurd (omega (
        arith,
        c.if-uses-files.true,
        length-map c.args.files.now contents_of,
        AllZip-long (λ (u : FileUse) d. IsOfKind u.kind d) c.args.uses.now (map contents_of c.args.files.now) loaded,
      )),
)

-- one file of another kind is enough for no
pub returns-then-not-is_of_kind : goal.returns-then-not-is_of_kind
returns-then-not-is_of_kind c =
    let in_files : c.loop-i.i < length c.args.files.now = omega (arith, c.loop-i-test.true, c.if-uses-files.false) in (
      λ wrong. grind (arith, wrong),
      λ loaded.
          sym c.if-not-is_of_kind.true
          ∙ c.is_of_kind.ensures.1
          (kind-at c.args.uses.now c.args.files.now c.loop-i.i c.index-uses-i.result c.index-files-i.result loaded
          (slice_get_read c.args.uses.now (length c.args.uses.now) c.loop-i.i c.index-uses-i.result refl
          c.loop-i-test.true c.index-uses-i.is)
          (slice_get_read c.args.files.now (length c.args.files.now) c.loop-i.i c.index-files-i.result refl in_files
          c.index-files-i.is)),
    )

-- all places were looked at
pub returns : goal.returns
returns c = (
  λ _. loaded-whole c.args.uses.now c.args.files.now c.loop-i.i c.loop-i-test.false
      (omega (arith, c.loop-i-test.false, c.if-uses-files.false)) c.loop-i.invariant,
  λ _. refl,
)

-- one file more is of its kind
pub loop-i-preserved : goal.loop-i-preserved
loop-i-preserved c =
    let in_files : c.loop-i.i < length c.args.files.now = omega (arith, c.loop-i-test.true, c.if-uses-files.false) in
    loaded-more c.args.uses.now c.args.files.now c.loop-i.i c.index-uses-i.result c.index-files-i.result
    (slice_get_read c.args.uses.now (length c.args.uses.now) c.loop-i.i c.index-uses-i.result refl c.loop-i-test.true
    c.index-uses-i.is)
    (slice_get_read c.args.files.now (length c.args.files.now) c.loop-i.i c.index-files-i.result refl in_files
    c.index-files-i.is)
    c.loop-i.invariant (c.is_of_kind.ensures.0 c.if-not-is_of_kind.false)
