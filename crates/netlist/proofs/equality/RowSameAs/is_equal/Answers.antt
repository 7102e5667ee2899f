use Rattle.std.proofs.Common.{◌≡◌, subst, rules, List}
use Rattle.std.specs.Bool.{Decides}
use Rattle.std.proofs.lemmas.Slice.Eq.{slice_eq-Decides}
use Rattle.blif_defs.specs.declared.mark.Mark.{Mark}
use Rattle.netlist.proofs.equality.RowSameAs.is_equal.Goals as goal

-- rows are the same where their marks are
pub returns : goal.returns
returns c =
    let P : List Mark → Type 0 = λ a. Decides c.eq.result (a ≡ c.args.other.now) in
    let Q : List Mark → Type 0 = λ b. Decides c.eq.result (c.marks.result.now ≡ b) in
    subst P c.marks.ensures (subst Q c.marks-2.ensures (slice_eq-Decides (λ a b. search rules) c.marks.result.now c.marks-2.result.now c.eq.result c.eq.ensures))
