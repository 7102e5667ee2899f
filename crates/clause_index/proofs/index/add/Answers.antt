use Rattle.std.proofs.Common.{sym, subst, vec_capacity}
use Rattle.clause_index.specs.Slots.{StandsInSlot}
use Rattle.clause_index.proofs.RunLemmas.{clause_at_is}
use Rattle.clause_index.proofs.IndexLemmas.{IsIndex-slot, IsIndex-run}
use Rattle.clause_index.proofs.index.add.Goals as goal

-- a clause whose group is full stands in a run
pub returns-then-not-add : goal.returns-then-not-add
returns-then-not-add c = record {
  index = IsIndex-run c.args.clauses.now.lists c.args.slots.now.groups c.args.slots.now.tags.items c.args.slots.now.numbers.items
      c.add.new.self.groups c.add.new.self.tags.items c.add.new.self.numbers.items c.args.runs.now.runs c.add-then-not-add.new.self.runs
      (vec_capacity c.args.runs.now.run) (vec_capacity c.args.runs.now.merged) (vec_capacity c.add-then-not-add.new.self.run) (vec_capacity c.add-then-not-add.new.self.merged)
      c.args.room c.args.k c.requires.index c.requires.room
      (record { slots = c.add.ensures.slots; kept = c.add.ensures.kept })
      (record {
        runs_are = c.add-then-not-add.ensures.runs;
        few = c.add-then-not-add.ensures.few;
        numbers = c.add-then-not-add.ensures.numbers;
        room = c.add-then-not-add.ensures.room;
        kept = c.add-then-not-add.ensures.kept;
      })
      c.add-then-not-add.ensures.added;
}

-- a clause whose group has room stands in a slot
pub returns-else-not-add : goal.returns-else-not-add
returns-else-not-add c = record {
  index = IsIndex-slot c.args.clauses.now.lists c.args.slots.now.groups c.args.slots.now.tags.items c.args.slots.now.numbers.items
      c.add.new.self.groups c.add.new.self.tags.items c.add.new.self.numbers.items c.args.runs.now.runs
      (vec_capacity c.args.runs.now.run) (vec_capacity c.args.runs.now.merged) c.args.room c.args.k c.requires.index c.requires.room
      (record { slots = c.add.ensures.slots; kept = c.add.ensures.kept })
      (subst (λ d. StandsInSlot c.add.new.self.groups c.add.new.self.tags.items c.add.new.self.numbers.items d c.args.k)
      (sym (clause_at_is c.args.clauses.now.lists c.args.k c.get.result.now c.get.ensures.list)) (c.add.ensures.added c.if-not-add.false));
}
