use Rattle.std.proofs.Common.{◌≡◌, ℕ, List, [], ◌∷◌, ◌++◌, length, sym, ap, subst, ◌∙◌}
use Rattle.script_defs.specs.declared.command.FileUse.{FileUse}
use Rattle.script_defs.specs.declared.command.Kind.TheVariants.{Spec, Bundle}
use Rattle.run_script.specs.Files.{use_of, found, HasPlaces}
use Rattle.run_script.proofs.Places.{more_places}
use Rattle.run_script.proofs.files.FileTable.add.Goals as goal

-- both maps have the places of the files with the new one
pub returns-clause-indexed : goal.returns-clause-indexed
returns-clause-indexed c =
    let old = c.args.self.now in
    let new = c.put.new.self in
    let files = old.list.items in
    let name = c.args.name.now in
    let more : new.list.items ≡ files ++ use_of c.args.kind name ∷ [] =
    ap (λ l. l.items) c.in_ok-put.ensures.list ∙ c.in_ok-push.ensures.items
    ∙ ap (λ (n : List ℕ). files ++ use_of c.args.kind n ∷ []) c.in_ok-from_bytes.ensures in
    let counted : c.len-number.result ≡ length files = c.len-number.ensures ∙ old.list.ok.0 in
    record {
      specs = subst (λ (fs : List FileUse). HasPlaces Spec new.specs fs) (sym more)
          (more_places Spec c.args.kind (found old.specs) (found new.specs) files name c.len-number.result counted c.requires.fresh
          c.in_ok-put.ensures.specs c.requires.indexed.specs);
      bundles = subst (λ (fs : List FileUse). HasPlaces Bundle new.bundles fs) (sym more)
          (more_places Bundle c.args.kind (found old.bundles) (found new.bundles) files name c.len-number.result counted c.requires.fresh
          c.in_ok-put.ensures.bundles c.requires.indexed.bundles);
    }
