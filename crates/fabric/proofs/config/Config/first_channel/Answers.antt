use Rattle.std.proofs.Common.{ap, sym, ◌∙◌, length, arith}
use Rattle.std.proofs.lemmas.List.{length-take-le}
use Rattle.fabric_defs.specs.Geometries.{GeometryValue}
use Rattle.fabric_laws.proofs.PartLemmas.{first_words-within}
use Rattle.fabric.proofs.PartReads.{first_read, first_within}
use Rattle.fabric.proofs.config.Config.first_channel.Goals as goal

-- there are words for all tracks
pub slice_bounds-result-end : goal.slice_bounds-result-end
slice_bounds-result-end c =
    let width = c.t-count.ensures.value ∙ ap (λ (g : GeometryValue). g.tracks) c.geometry.ensures.value in
    sym (length-take-le _ _ (omega (arith, width, first_words-within c.args.self.now c.geometry.ensures.known, ap length c.words-words.ensures.value)))

-- the first words are those of channel 0
pub returns-clause-value : goal.returns-clause-value
returns-clause-value c =
    let width = c.t-count.ensures.value ∙ ap (λ (g : GeometryValue). g.tracks) c.geometry.ensures.value in
    first_read c.args.self.now _ _ c.geometry.ensures.known c.words-words.ensures.value width

-- one for each track
pub returns-clause-count : goal.returns-clause-count
returns-clause-count c =
    let width = c.t-count.ensures.value ∙ ap (λ (g : GeometryValue). g.tracks) c.geometry.ensures.value in
    length-take-le _ _ (omega (arith, width, first_words-within c.args.self.now c.geometry.ensures.known, ap length c.words-words.ensures.value)) ∙ width

-- and each takes an input pad or none
pub returns-clause-within : goal.returns-clause-within
returns-clause-within c =
    let width = c.t-count.ensures.value ∙ ap (λ (g : GeometryValue). g.tracks) c.geometry.ensures.value in
    first_within c.args.self.now _ _ c.geometry.ensures.known c.words-words.ensures.value width
