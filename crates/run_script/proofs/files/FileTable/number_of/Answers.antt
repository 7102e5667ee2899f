use Rattle.std.proofs.Common.{sym, ◌∙◌}
use Rattle.run_script.specs.Files.{use_of}
use Rattle.run_script.proofs.Places.{next_number}
use Rattle.run_script.proofs.files.FileTable.number_of.Goals as goal

-- a file that wasn't mentioned has the next number
pub returns-in-None-clause-number : goal.returns-in-None-clause-number
returns-in-None-clause-number c =
    next_number c.args.self.now.list.items (use_of c.args.kind c.args.name.now) c.add.result (sym c.in-None.is ∙ c.find.ensures) c.add.ensures.number
