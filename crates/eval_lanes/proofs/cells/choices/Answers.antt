use Rattle.std.proofs.Common.{◌≡◌, ℕ, [], ◌∷◌, get_or, refl, ap, ◌∙◌}
use Rattle.eval_lanes.specs.Levels.{mux}
use Rattle.eval_lanes.proofs.LevelLemmas.{choice_bit}
use Rattle.eval_lanes.proofs.cells.choices.Goals as goal

pub returns-clause-bits : goal.returns-clause-bits
returns-clause-bits g c = λ q i j q_lt i_lt j_lt.
    let word = g.W.Block.word in
    let off : ℕ = word c.splat-off.result i in
    let on : ℕ = word c.splat-on.result i in
    let pin : ℕ = word c.args.pin i in
    let negated : word c.mux.result i ≡ mux 0 18446744073709551615 pin =
    c.mux.ensures i i_lt ∙ ap (λ m. mux m on pin) (c.splat-off.ensures i i_lt) ∙ ap (λ m. mux 0 m pin) (c.splat-on.ensures i i_lt) in
    choice_bit (λ q. get_or (off ∷ word c.mux.result i ∷ pin ∷ on ∷ []) q 0) pin j j_lt
    (c.splat-off.ensures i i_lt) negated refl (c.splat-on.ensures i i_lt) q q_lt
