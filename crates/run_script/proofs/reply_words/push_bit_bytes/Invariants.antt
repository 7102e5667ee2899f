use Rattle.std.proofs.Common.{◌≡◌, ◌++◌, ◌+◌, map, take}
use Rattle.run_script.proofs.reply_words.push_bit_bytes.Given as goal

-- the bytes of the bits so far
abbrev pub invariant-loop-i : goal.invariant-loop-i
invariant-loop-i l = l.out.items ≡ l.fn.out.items ++ map (λ b. 48 + b) (take l.i l.bits)
