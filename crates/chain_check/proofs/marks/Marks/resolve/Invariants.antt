use Rattle.std.proofs.Common.{◌≡◌, ◌≤◌, false, length, take}
use Rattle.chain_check.specs.Steps.{IsPivot, AddsToStep, RepeatsNone}
use Rattle.chain_check.proofs.marks.Marks.resolve.Given as goal

-- the step's new literals and its pivot are those of the antecedent's literals so far
abbrev pub invariant-loop-l : goal.invariant-loop-l
invariant-loop-l l = record {
  variables : l.self.variables ≡ l.initial.self.variables;
  running : l.self.running ≡ l.initial.self.running;
  left : l.self.left ≡ l.initial.self.left;
  fresh : AddsToStep l.initial.self.running (take l.l-index l.c) l.self.fresh;
  counted : l.added ≡ length l.self.fresh;
  small : l.added ≤ l.l-index;
  repeats : l.repeats ≡ false → RepeatsNone l.initial.self.running (take l.l-index l.c);
  pivot : IsPivot l.initial.self.running (take l.l-index l.c) l.pivot;
}
