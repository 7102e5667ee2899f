use Rattle.std.proofs.Common.{◌*◌, List, Bool, length, take, sym, ap, ◌∙◌, arith}
use Rattle.std.specs.List.{count_by}
use Rattle.std.proofs.lemmas.List.{take_all}
use Rattle.fabric_defs.specs.Geometries.{table_bits}
use Rattle.miter_places.proofs.SizeLemmas.{cells_size}
use Rattle.miter_places.proofs.places.clauses_of_cells.Goals as goal

pub returns : goal.returns
returns c = λ net.
    let cells = c.args.cells.now in
    let known = c.cone.ensures.known in
    let flags = known.cone.count in
    let many = known.cells.count in
    let inside = c.count_flags.ensures.count ∙ ap (λ (bs : List Bool). count_by (λ b. b) bs) c.cone.ensures.value in
    let all = ap (λ (bs : List Bool). count_by (λ b. b) bs) (take_all (length cells.cells) cells.cone (omega arith)) in
    let size = c.table_bits.ensures.bits ∙ ap (λ g. table_bits g) c.geometry.ensures.value in
    ap (λ n. n * c.table_bits.result) (inside ∙ sym all) ∙ ap (λ n. count_by (λ (b : Bool). b) (take (length cells.cells) cells.cone) * n) size
    ∙ sym (cells_size net cells (length cells.cells) (omega arith))
