use Rattle.std.proofs.Common.{◌≡◌, sym, ap, ◌∙◌}
use Rattle.std.specs.List.{list_any}
use Rattle.pch_base.proofs.SetLemmas.{same_code, list_any-Has}
use Rattle.pch_base.proofs.clause.Clause.has.Goals as goal

-- a literal is found by its code where it is one of the clause
pub returns : goal.returns
returns c =
    let seen : c.deref.result.now ≡ c.args.self.now = c.deref.ensures.value ∙ c.self.view_is in
    let e : c.contains.result ≡ list_any (λ z. same_code z c.args.l) c.args.self.now =
    c.contains.ensures.value ∙ ap (list_any (λ z. same_code z c.args.l)) seen in
    let k = list_any-Has c.args.l c.args.self.now in
    (λ h. k.0 (sym e ∙ h), λ h. e ∙ k.1 h)
