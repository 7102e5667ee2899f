use Rattle.std.proofs.Common.{Some}
use Rattle.std.proofs.lemmas.Map.Text.{btree_map_updates_str}
use Rattle.run_script.proofs.files.FileTable.put.Goals as goal

-- the map of specifications has the name
pub returns-in_ok-insert-in-Spec-clause-specs : goal.returns-in_ok-insert-in-Spec-clause-specs
returns-in_ok-insert-in-Spec-clause-specs c =
    rw c.in-Spec.is (btree_map_updates_str c.args.name.now c.args.self.now.specs c.insert.new.self (Some c.args.number) c.in_ok-insert-in-Spec.ensures.updates)

-- the map of bundles has the name
pub returns-in_ok-insert-in-Bundle-clause-bundles : goal.returns-in_ok-insert-in-Bundle-clause-bundles
returns-in_ok-insert-in-Bundle-clause-bundles c =
    rw c.in-Bundle.is (btree_map_updates_str c.args.name.now c.args.self.now.bundles c.insert-in-Bundle.new.self (Some c.args.number) c.in_ok-insert-in-Bundle.ensures.updates)
