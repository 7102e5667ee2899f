use Rattle.std.proofs.Common.{◌≡◌, ◌<◌, true, length, rules, sym, ◌∙◌, arith}
use Rattle.std.proofs.lemmas.List.{get_or_read}
use Rattle.lut_map.specs.declared.columns.State.TheVariants.{New}
use Rattle.lut_map.specs.Search.{state_at, is_new}
use Rattle.lut_map.proofs.SearchLemmas.{new-test, search-begins}
use Rattle.lut_map.proofs.columns.Search.find.Goals as goal

pub loop-last-init : goal.loop-last-init
loop-last-init c =
    let s = c.args.self.now in
    let root = c.args.root in
    let within : root < length s.states.items = omega (arith, c.requires.sound.count, c.requires.within) in
    let test : is_new c.index.result.now ≡ true = search rules in
    let fresh : state_at s.states.items root ≡ New =
    sym (get_or_read s.states.items root c.index.result.now within c.index.ensures New) ∙ new-test c.index.result.now test in
    let b = search-begins c.args.cells.now s.states.items c.open.new.self.states.items s.stack.items c.open.new.self.stack.items root
    c.requires.sound c.requires.empty c.requires.within fresh c.in_ok-open.ensures.states c.in_ok-open.ensures.stack in
    record { sound = b.sound; stay = b.stay; met = b.met }
