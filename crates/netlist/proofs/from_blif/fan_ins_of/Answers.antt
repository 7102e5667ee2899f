use Rattle.std.proofs.Common.{◌≡◌, ℕ, ◌<◌, List, [], length, take, get_or, Some, None, Contains, inr, refl, ◌∙◌, subst, arith, rules}
use Rattle.std.proofs.lemmas.List.{get_or_read}
use Rattle.net_defs.specs.NetOf.{signal_names, IsNameOf}
use Rattle.netlist.specs.Index.{found}
use Rattle.net_laws.proofs.PlaceLemmas.{zip_all_left, Contains-standing}
use Rattle.netlist.proofs.BuildLemmas.{name_found, name_missing, first_missing}
use Rattle.netlist.proofs.ZipLemmas.{all_zip-more}
use Rattle.netlist.proofs.from_blif.fan_ins_of.Goals as goal

-- a pin whose name the index doesn't find is the first undriven one
pub returns-in_default : goal.returns-in_default
returns-in_default c = λ b h.
    let names = signal_names b in
    let ins = c.args.ins.now in
    let i = c.loop-pin.pin in
    let lt : i < length ins = omega arith in
    let at : c.bytes.result.now ≡ get_or ins i [] = c.bytes.ensures ∙ get_or_read ins i c.index-ins-pin.result lt c.index-ins-pin.is [] in
    let missing : found c.args.index.now c.bytes.result.now ≡ None = search rules in
    inr (
      i,
      refl,
      first_missing names ins i c.bytes.result.now
          (zip_all_left (IsNameOf b) (Contains names) (take i ins) c.loop-pin.signals.items (λ name s. Contains-standing names s name) (c.loop-pin.invariant b h) 0) lt at
          (name_missing c.args.index.now names c.bytes.result.now h missing),
    )

-- the signal that is found is the one with the pin's name
pub loop-pin-preserved : goal.loop-pin-preserved
loop-pin-preserved c = λ b h.
    let ins = c.args.ins.now in
    let i = c.loop-pin.pin in
    let lt : i < length ins = omega arith in
    let at : c.bytes.result.now ≡ get_or ins i [] = c.bytes.ensures ∙ get_or_read ins i c.index-ins-pin.result lt c.index-ins-pin.is [] in
    let there : found c.args.index.now c.bytes.result.now ≡ Some c.in-Some.signal = search rules in
    let P : List ℕ → Type 0 = λ q. IsNameOf b q c.in-Some.signal in
    rw c.in_ok-push.ensures.items
    (all_zip-more (IsNameOf b) ins c.loop-pin.signals.items i [] c.in-Some.signal lt (c.loop-pin.invariant b h)
    (subst P at (name_found c.args.index.now (signal_names b) c.bytes.result.now c.in-Some.signal h there)))
