-- The specifications of a session.
use Rattle.std.specs.Prelude.{ℕ, List}
use Rattle.net_defs.specs.Networks.{Network}
use Rattle.net_defs.specs.Nets.{IsNet}
use Rattle.session_defs.specs.Files.{Contents, DescribesNet}

-- each specification describes a network within the limits, whose nodes the inputs determine
abbrev pub DescribeNets : List Contents → Type 0
DescribeNets files = (file : ℕ) (net : Network) → DescribesNet files file net → IsNet net
