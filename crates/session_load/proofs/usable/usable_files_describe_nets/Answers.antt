use Rattle.session_load.proofs.UsableNets.{usable-nets}
use Rattle.session_load.proofs.usable.usable_files_describe_nets.Goals as goal

-- a specification that can be used was read from a text, and what a text specifies is a net
pub returns : goal.returns
returns c = usable-nets
