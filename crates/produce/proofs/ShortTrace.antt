-- The text of the log of a miter is short enough to be read.
use Rattle.std.proofs.Common.{◌≤◌, arith}
use Rattle.net_defs.specs.Networks.{Network}
use Rattle.net_defs.specs.Nets.{IsNet}
use Rattle.fabric_defs.specs.Configurations.{ConfigValue, IsConfig}
use Rattle.cell_laws.proofs.CellsExistence.{cells_exist}
use Rattle.log_defs.specs.Logs.{LogValue, IsLog, Extends}
use Rattle.miter_size.specs.declared.limits.TheConstants.{MAX_BUDGET}
use Rattle.miter_size.specs.Sizes.{HasShortTrace}
use Rattle.miter_size.proofs.TraceLengths.{short-trace}
use Rattle.produce.specs.Endings.{IsOverMiter}
use Rattle.produce.proofs.EndLemmas.{grown_miter}

-- the words of the miter and of a log within the budget are few
pub short_trace : (spec : Network) (config : ConfigValue) (log : LogValue) → IsNet spec → IsConfig config → IsOverMiter spec config log
    → IsLog log → log.budget ≤ MAX_BUDGET → HasShortTrace log
short_trace spec config log net is_config over is_log within =
    let cells = cells_exist config is_config in
    short-trace spec config log (record {
      is_net = net;
      is_config = is_config;
      cells = cells.0;
      are_cells = cells.1;
      is_log = is_log;
      over_miter = over cells.0 cells.1;
      few_words = omega (arith, is_log.within_budget, within);
    })

-- so is that of a log that grew
pub short_grown : (spec : Network) (config : ConfigValue) (before after : LogValue) → IsNet spec → IsConfig config → IsOverMiter spec config before
    → Extends before after → IsLog after → before.budget ≤ MAX_BUDGET → HasShortTrace after
short_grown spec config before after net is_config over more is_log within =
    short_trace spec config after net is_config (grown_miter spec config before after more over) is_log (omega (arith, more.budget, within))
