-- What the files of a session hold: of a specification the network that it describes, of a bundle its bytes.
use Rattle.std.specs.Prelude.{◌≡◌, ℕ, List, slice_get, Some}
use Rattle.net_defs.specs.Networks.{Network}

-- the contents of a file
pub data Contents : Type 0 where
  -- the text of a specification that describes this network
  specification : Network → Contents
  -- the bytes of a delivered bundle
  delivery : List ℕ → Contents

-- the file with this number, counted from 0, describes this network
abbrev pub DescribesNet : List Contents → ℕ → Network → Type 0
DescribesNet files file net = slice_get files file ≡ Some (specification net)

-- the file with this number, counted from 0, is a bundle of these bytes
abbrev pub IsDelivery : List Contents → ℕ → List ℕ → Type 0
IsDelivery files file bytes = slice_get files file ≡ Some (delivery bytes)
