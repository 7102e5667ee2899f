use Rattle.std.proofs.Common.{◌≡◌, ◌++◌, take, vec_capacity}
use Rattle.flat_lists.proofs.lists.append.Given as goal

-- the items so far of the list stand behind those that were there
abbrev pub invariant-loop-item : goal.invariant-loop-item
invariant-loop-item g l = record {
  items : l.items.items ≡ l.initial.items.items ++ take l.item-index l.list;
  room : vec_capacity l.items ≡ vec_capacity l.initial.items;
}
