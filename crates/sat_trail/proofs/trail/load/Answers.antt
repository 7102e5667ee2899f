use Rattle.std.proofs.Common.{◌≡◌, ◌⊎◌, ◌+◌, ◌-◌, ◌*◌, ◌<◌, ◌≤◌, [], ◌∷◌, length, set, get_or, slice_get, Some, refl, sym, ap, ◌∙◌, arith, length-set}
use Rattle.std.proofs.lemmas.Option.{get_or_from_slice_get}
use Rattle.pch_region.specs.Blocks.{words_of, blocks_of}
use Rattle.link_lists.specs.Linked.{list_at}
use Rattle.sat_trail.proofs.LoadLemmas.{loading_more, lists_more}
use Rattle.sat_trail.proofs.PutLemmas.{held_of, fact_of, next_is, names_more, never_full}
use Rattle.sat_trail.proofs.trail.load.Goals as goal

-- one more clause is put
pub loop-k-preserved : goal.loop-k-preserved
loop-k-preserved c =
    let k = c.loop-k.k in
    let cs = c.args.set.now.clauses in
    let blocks = length c.args.region.now.held in
    let held = c.loop-k.region.held in
    let lits = c.clause.result.now in
    let invariant = c.loop-k.invariant in
    let lt : k < c.args.count = c.loop-k-test.true in
    let in_set : k < length cs = let a = c.requires.count in omega arith in
    let in_blocks : k < blocks = let a = c.requires.blocks in omega arith in
    let at : k + 1 - 1 ≡ k = omega arith in
    let is : lits ≡ get_or cs k [] = sym (get_or_from_slice_get cs k lits [] (ap (slice_get cs) (sym at) ∙ c.clause.ensures.lits)) in
    let words : c.loop-k.region.words ≡ c.args.region.now.words = invariant.words in
    let fits : (c.loop-k.region.words < words_of held + length lits) ⊎ (length held ≤ blocks_of held) → ⊥ =
    never_full cs blocks k c.args.count c.loop-k.region.words held lits invariant.loading is lt c.requires.blocks c.requires.count (let a = c.requires.words in omega arith) in
    let next = next_is blocks k c.args.region.now.unused c.loop-k.region.unused c.requires.names in_blocks invariant.names in
    let put = held_of c.put.result c.loop-k.region.unused held c.put.new.self.held lits _ c.put.ensures.name c.put.ensures.put c.put.ensures.full fits in
    record {
      loading = loading_more cs blocks k held invariant.loading in_set in_blocks lits is c.put.new.self.held (put ∙ ap (λ n. set held n (Some lits)) next);
      names = fact_of c.put.result _ _ c.put.ensures.unused c.put.ensures.full fits
          ∙ names_more blocks k c.args.region.now.unused c.loop-k.region.unused c.requires.names in_blocks invariant.names;
      words = c.put.ensures.words ∙ invariant.words;
      watch = invariant.watch;
      size = c.push.ensures.size ∙ invariant.size;
      lists = lists_more k (2 * k) c.loop-k.watches.links.lists c.push.new.self.lists invariant.lists refl c.push.ensures.lists;
      many_lists = ap length c.push.ensures.lists ∙ length-set c.loop-k.watches.links.lists 1 (2 * k ∷ list_at c.loop-k.watches.links.lists 1) ∙ invariant.many_lists;
    }
