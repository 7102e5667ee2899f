use Rattle.std.proofs.Common.{◌<◌, ◌≤◌, List, length, map, sym, ap, subst, ◌∙◌, arith}
use Rattle.std.proofs.lemmas.List.{get_or-map, length-map}
use Rattle.std.proofs.lemmas.List.Elements.{All-from_recursion}
use Rattle.std.proofs.lemmas.Result.{err_from_is_err_and}
use Rattle.std.specs.List.{AllByRecursion}
use Rattle.blif_read.specs.Views.{cover_of, blif_of}
use Rattle.blif_defs.specs.Values.{CoverValue, IsCover}
use Rattle.blif_defs.specs.declared.mark.TheConstants.{MAX_PORTS}
use Rattle.blif_read.specs.declared.cover.Cover.{Cover}
use Rattle.netlist.proofs.NetworkLemmas.{NetworkOf-nodes, NetworkOf-outputs}
use Rattle.netlist.proofs.from_blif.network_of.Goals as goal

-- a cover of a design has few inputs
pub nodes_of-requires-clause-short : goal.nodes_of-requires-clause-short
nodes_of-requires-clause-short c = λ k d lt.
    let covers = c.as_slice.result.now in
    let Pl : List Cover → Type 0 = λ l. AllByRecursion IsCover (map cover_of l) in
    let all = All-from_recursion IsCover (map cover_of covers) (subst Pl (sym c.as_slice.ensures) c.requires.covers) in
    let P : CoverValue → Type 0 = λ x. length x.ins ≤ MAX_PORTS in
    let lt2 : k < length (map cover_of covers) = omega (arith, length-map covers cover_of) in
    subst P (get_or-map cover_of covers k d (cover_of d) lt) (all k (cover_of d) lt2).within

-- the first undriven pin is the fault of the design
pub returns-in_err-nodes : goal.returns-in_err-nodes
returns-in_err-nodes c = λ h.
    let b = blif_of c.args.b.now in
    let p = err_from_is_err_and c.from_residual.result c.from_residual.ensures.1 in
    rw (p.1, p.2) (NetworkOf-nodes b c.in_err-nodes.field-0.0 (c.in_err-nodes.ensures b h (ap (map cover_of) (sym c.as_slice.ensures))))

-- so is the first undriven output, where all nodes are built
pub returns-in_err-outputs : goal.returns-in_err-outputs
returns-in_err-outputs c = λ h.
    let b = blif_of c.args.b.now in
    let p = err_from_is_err_and c.from_residual-in_err-outputs.result c.from_residual-in_err-outputs.ensures.1 in
    rw (p.1, p.2)
    (NetworkOf-outputs b c.in_ok-nodes.nodes.items c.in_err-outputs.field-0.0
    (c.in_ok-nodes.ensures b h (ap (map cover_of) (sym c.as_slice.ensures)))
    (c.in_err-outputs.ensures b h (sym c.as_slice-2.ensures)))

-- inputs, nodes and outputs make up the network of the design
pub returns : goal.returns
returns c = λ h.
    let b = blif_of c.args.b.now in
    record {
      inputs = c.in_ok-inputs.ensures ∙ c.as_slice-3.ensures;
      nodes = c.in_ok-nodes.ensures b h (ap (map cover_of) (sym c.as_slice.ensures));
      outputs = c.in_ok-outputs.ensures b h (sym c.as_slice-2.ensures);
    }
