use Rattle.std.proofs.Common.{◌≡◌, ◌*◌, ◌^◌, ◌<◌, drop}
use Rattle.fabric_defs.specs.declared.limits.TheConstants.{WORD_BITS}
use Rattle.fabric_defs.specs.Configurations.{number_behind}
use Rattle.fabric.proofs.config.number_of.Given as goal

-- the number so far and the words that are left make up the whole
abbrev pub invariant-loop-word : goal.invariant-loop-word
invariant-loop-word l = record {
  value : number_behind l.number (drop l.word-index l.words) ≡ number_behind 0 l.words;
  below : l.number < 2 ^ (WORD_BITS * l.word-index);
}
