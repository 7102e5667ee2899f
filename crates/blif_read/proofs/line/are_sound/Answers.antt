use Rattle.std.proofs.Common.{sym, ◌∙◌}
use Rattle.std.proofs.lemmas.List.Folds.{list_all-map, list_all_at}
use Rattle.blif_defs.specs.Words.{is_sound}
use Rattle.blif_read.proofs.line.are_sound.Goals as goal

-- one word with a strange byte is enough
pub returns-then-not-is_sound : goal.returns-then-not-is_sound
returns-then-not-is_sound c =
    sym (list_all-map is_sound (λ w. w.now) c.args.list.now
    ∙ list_all_at (λ w. is_sound w.now) c.args.list.now c.loop-word.word-index _ c.loop-word-test.true (sym (c.if-not-is_sound.ensures {u = tt})))
