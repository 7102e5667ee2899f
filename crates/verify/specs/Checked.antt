-- What contracts see of a net and a configuration that were found equal.
use Rattle.net_defs.specs.Networks.{Network}
use Rattle.fabric_defs.specs.Configurations.{ConfigValue}

-- a network and a configuration that were judged together
pub record Checked : Type 0 where
  pub net : Network
  pub config : ConfigValue
