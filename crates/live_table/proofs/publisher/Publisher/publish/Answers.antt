use Rattle.std.proofs.Common.{◌≡◌, List, [], ◌∷◌, ◌++◌, drop, sym, ap, ◌∙◌}
use Rattle.live_table.specs.Values.{ChangeValue}
use Rattle.live_table.specs.Histories.{head_of}
use Rattle.live_table.proofs.Publications.{change_goes_on, change_is_shown}
use Rattle.live_table.proofs.publisher.Publisher.publish.Goals as goal

-- one change is pending, since none was before, and it goes on from the published copy
pub replace_with-requires : goal.replace_with-requires
replace_with-requires g c =
    let append = c.in_ok-append.ensures {u = tt} in
    let idle = c.self.invariant.4 (ap (λ v. v.broken) c.self.view_is ∙ c.requires.sound) in (
      c.new-change.result,
      append.pending ∙ ap (λ (l : List ChangeValue). l ++ c.new-change.result ∷ []) idle,
      change_goes_on _ _ _ _ _ _ _ _ (ap (λ d. d.shown.value) append.desk ∙ c.self.invariant.2) c.in-Some.ensures
          c.again.ensures (c.in_ok-ready.ensures {u = tt}) c.new-change.ensures,
    )

-- the published copy has the table with the entry, and its front
pub invariant_of-self-2 : goal.invariant_of-self-2
invariant_of-self-2 g c =
    let append = c.in_ok-append.ensures {u = tt} in
    let idle = c.self.invariant.4 (ap (λ v. v.broken) c.self.view_is ∙ c.requires.sound) in
    let shown = c.in_ok-replace_with.ensures in (
      c.self.invariant.0 ∙ ap head_of (sym (ap (λ f. f.book) c.in-Some.ensures)),
      ap (λ f. f.journal) c.in-Some.ensures
          ∙ (ap (λ h. h ++ c.in_ok-ready.ready ∷ []) c.self.invariant.1 ∙ sym (ap (λ t. t.journal) c.apply.ensures)),
      change_is_shown _ _ _ _ _ _ _ _ _ _ (ap (λ d. d.shown.value) append.desk ∙ c.self.invariant.2) c.apply.ensures
          c.again.ensures (c.in_ok-ready.ensures {u = tt}) c.new-change.ensures
          (shown.0 c.new-change.result
          (append.pending ∙ ap (λ (l : List ChangeValue). l ++ c.new-change.result ∷ []) idle)),
      shown.2,
      λ _. shown.1,
    )
