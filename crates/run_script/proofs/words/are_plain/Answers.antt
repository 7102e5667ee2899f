use Rattle.std.proofs.Common.{sym, ◌∙◌}
use Rattle.std.proofs.lemmas.List.Folds.{list_all-map, list_all_at}
use Rattle.script_defs.specs.Lines.{is_plain}
use Rattle.run_script.proofs.words.are_plain.Goals as goal

-- a word that isn't plain was found
pub returns-then-not-is_plain : goal.returns-then-not-is_plain
returns-then-not-is_plain c =
    sym (list_all-map is_plain (λ w. w.now) c.args.list.now
    ∙ list_all_at (λ w. is_plain w.now) c.args.list.now c.loop-word.word-index _ c.loop-word-test.true (sym (c.if-not-is_plain.ensures {u = tt})))
