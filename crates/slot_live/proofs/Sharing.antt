-- Shares of a ledger.
use Rattle.std.proofs.Common.{◌≡◌, ℕ, ap, ◌∙◌}
use Rattle.core.specs.declared.ledger.Share.{Share}

-- two shares with the same parts and amounts are the same
pub same_share : {L : Type 0} (s t : Share L) → s.parts ≡ t.parts → s.amount ≡ t.amount → s ≡ t
same_share {L = L} s t parts amount =
    ap {B = Share L} (λ (m : ℕ). record s { parts = m }) parts
    ∙ ap {B = Share L} (λ (n : ℕ). record t { amount = n }) amount
