use Rattle.std.proofs.Common.{◌≡◌, drop, codes}
use Rattle.pch_lines.specs.DemoLines.{and_numbers}
use Rattle.pch_lines.proofs.demo_lines.ones_line.Given as goal

abbrev pub invariant-loop-count : goal.invariant-loop-count
invariant-loop-count l = and_numbers l.text.items (drop l.count-index l.ones) ≡ and_numbers (codes "ones") l.ones
