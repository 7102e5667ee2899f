use Rattle.std.proofs.Common.{◌≡◌, ℕ, ◌<◌, List, [], length, take, get_or, Some, None, inr, refl, sym, ◌∙◌, subst, arith, rules}
use Rattle.std.proofs.lemmas.List.{get_or_read}
use Rattle.net_defs.specs.Names.{IsFirstMissing}
use Rattle.net_defs.specs.Networks.{Output}
use Rattle.net_defs.specs.NetOf.{signal_names, IsNameOf, IsOutputOf}
use Rattle.netlist.specs.Index.{found}
use Rattle.net_laws.proofs.NetworkLemmas.{outputs_driven}
use Rattle.netlist.proofs.BuildLemmas.{name_found, name_missing, first_missing}
use Rattle.netlist.proofs.ZipLemmas.{all_zip-more}
use Rattle.netlist.proofs.from_blif.outputs_of.Goals as goal

-- an output whose name the index doesn't find is the first undriven one
pub returns-in_default : goal.returns-in_default
returns-in_default c = λ b h same.
    let names = signal_names b in
    let wanted = c.args.names.now in
    let i = c.loop-o.o in
    let lt : i < length wanted = omega arith in
    let at : c.bytes.result.now ≡ get_or wanted i [] = c.bytes.ensures ∙ get_or_read wanted i c.index-names-o.result lt c.index-names-o.is [] in
    let missing : found c.args.index.now c.bytes.result.now ≡ None = search rules in
    let P : List (List ℕ) → Type 0 = λ l. IsFirstMissing names l i in
    inr (
      i,
      refl,
      subst P (sym same)
          (first_missing names wanted i c.bytes.result.now (outputs_driven b (take i wanted) c.loop-o.outputs.items (c.loop-o.invariant b h)) lt at
          (name_missing c.args.index.now names c.bytes.result.now h missing)),
    )

-- the output has the name, and the signal that is found under it
pub loop-o-preserved : goal.loop-o-preserved
loop-o-preserved c = λ b h.
    let wanted = c.args.names.now in
    let i = c.loop-o.o in
    let lt : i < length wanted = omega arith in
    let item = c.index-names-o.result in
    let at_item : item ≡ get_or wanted i [] = get_or_read wanted i item lt c.index-names-o.is [] in
    let at : c.bytes.result.now ≡ get_or wanted i [] = c.bytes.ensures ∙ at_item in
    let there : found c.args.index.now c.bytes.result.now ≡ Some c.in-Some.signal = search rules in
    let P : List ℕ → Type 0 = λ q. IsNameOf b q c.in-Some.signal in
    let made : Output = record { name = c.in_ok-copy_of_name.field-0; signal = c.in-Some.signal } in
    let is_output : IsOutputOf b (get_or wanted i []) made = record {
      name = c.in_ok-copy_of_name.ensures ∙ at_item;
      signal = subst P at (name_found c.args.index.now (signal_names b) c.bytes.result.now c.in-Some.signal h there);
    } in
    rw c.in_ok-push.ensures.items
    (all_zip-more (IsOutputOf b) wanted c.loop-o.outputs.items i [] made lt (c.loop-o.invariant b h) is_output)
