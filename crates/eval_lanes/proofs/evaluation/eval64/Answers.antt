use Rattle.std.proofs.Common.{◌≡◌, ℕ, List, length, map, get_or, ap, sym, ◌∙◌, arith}
use Rattle.std.specs.Int.{bit_at}
use Rattle.std.proofs.Math.ListN.{get_or-map}
use Rattle.fabric_defs.specs.Geometries.{GeometryValue, cell_count}
use Rattle.fabric_defs.specs.Configurations.{output_word}
use Rattle.fabric_defs.specs.Wirings.{channel, tapped_bit}
use Rattle.fabric_laws.proofs.NumberedLemmas.{list_of_elements}
use Rattle.fabric_laws.proofs.LimitLemmas.{track_word-le}
use Rattle.fabric_laws.proofs.WiringLemmas.{wiring, wiring_is_wired}
use Rattle.fabric.proofs.PinLemmas.{listed_at, tapped_at}
use Rattle.lanes_defs.specs.Lanes.{lane}
use Rattle.eval_lanes.proofs.LaneLemmas.{lane_at, length-lane}
use Rattle.eval_lanes.proofs.PlaceLemmas.{inputs_have, seen_wired}
use Rattle.eval_lanes.proofs.evaluation.eval64.Goals as goal

-- a list of single words as blocks
same_words : (words : List ℕ) (p : ℕ) → get_or (map (λ b. b) words) p 0 ≡ get_or words p 0
same_words words p = get_or-map (λ b. b) words p 0

pub returns-clause-lanes : goal.returns-clause-lanes
returns-clause-lanes c = λ j j_lt.
    let config = c.args.k.now in
    let geo = config.geometry in
    let inputs : List ℕ = c.args.inputs.now in
    let tracks = c.sweep.new.tracks in
    let values = c.sweep.new.values in
    let words : List ℕ = map (λ b. b) values in
    let out = c.loop-pad.out in
    let pads = c.output_pads-pads.ensures in
    let w = wiring config (lane inputs j) in
    let wired = wiring_is_wired config (lane inputs j) (λ column t lt within. track_word-le config column t c.sweep.ensures.known lt within) in
    let all : c.i.result ≡ geo.input_pads = c.i.ensures.value ∙ ap (λ (g : GeometryValue). g.input_pads) c.geometry.ensures.value in
    let have = c.sweep.ensures.cells 0 (lane inputs) (omega arith)
    (inputs_have config inputs (map (λ b. b) c.put_inputs.new.values)
    (λ p le. same_words c.put_inputs.new.values p ∙ c.put_inputs.ensures.words p (omega (arith, all)))) in
    let long : length (lane out j) ≡ geo.output_pads = length-lane out j ∙ c.loop-pad.invariant.places ∙ c.requires.out in (
      w,
      wired,
      list_of_elements geo.output_pads (λ pad. tapped_bit (channel w geo.columns) (output_word config pad)) (lane out j) 0 long
          (λ pad lt. let word : ℕ = get_or c.output_pads-pads.result.now pad 0 in
          let place : ℕ = get_or tracks word 0 in
          lane_at out j pad
          ∙ ap (λ b. bit_at b j) (c.loop-pad.invariant.done pad (omega (arith, pads.count)) ∙ sym (same_words values place))
          ∙ sym (lane_at words j place)
          ∙ seen_wired config (lane inputs) words tracks geo.columns (cell_count geo) j word w c.sweep.ensures.channel (omega arith) have j_lt wired
          ∙ tapped_at (channel w geo.columns) word
          ∙ ap (tapped_bit (channel w geo.columns)) (listed_at geo.output_pads (output_word config) _ pad pads.value lt)),
    )
