use Rattle.pch_io.proofs.FilesLemmas.{set_saves, append_saves}
use Rattle.std.proofs.Common.{rules, arith}
use Rattle.pch_io.proofs.named_files.NamedFiles.put.Goals as goal

pub returns-then-place-len-clause-ok : goal.returns-then-place-len-clause-ok
returns-then-place-len-clause-ok c =
    set_saves c.self.inside.entries.items _ _ (c.in_ok-stored.stored, c.in_ok-to_vec.field-0) _ _
    c.self.view_is c.place-place.ensures (omega arith) (search rules) (search rules)

pub returns-in_ok-push-clause-ok : goal.returns-in_ok-push-clause-ok
returns-in_ok-push-clause-ok c =
    rw c.in_ok-push.ensures.items
    (append_saves c.self.inside.entries.items _ _ (c.in_ok-stored.stored, c.in_ok-to_vec.field-0) _ _
    c.self.view_is c.place-place.ensures (omega arith) (search rules) (search rules))
