-- What a reader has read so far.
use Rattle.std.specs.Prelude.{◌≤◌, length}
use Rattle.script_defs.specs.declared.command.Command.{Command}
use Rattle.script_defs.specs.declared.limits.TheConstants.{MAX_COMMANDS}
use Rattle.script_defs.specs.Commands as commands
use Rattle.script_defs.specs.Reading as reading
use Rattle.run_script.specs.declared.head.Head.{Head}
use Rattle.run_script.specs.declared.head.Head.TheVariants.{Nothing, Fabric, Slots, Limit, Whole}
use Rattle.run_script.specs.declared.said.Said.{Said}
use Rattle.run_script.specs.declared.said.Said.TheVariants.{Plain, Named}
use Rattle.run_script.specs.declared.reader.Reader.{Reader}
use Rattle.run_script.specs.Files.{IsIndexed}

-- the lines in front of the lanes, as their plain value
abbrev pub head_of : Head → reading.Head
head_of Nothing = reading.nothing
head_of (Fabric g) = reading.to_fabric g
head_of (Slots g s) = reading.to_slots g s
head_of (Limit g s l) = reading.to_limit g s l
head_of (Whole g s l w) = reading.whole g s l w

-- a command that names no file, as what a line says
abbrev pub plain_said : Command → commands.Said
plain_said c = commands.plain c

-- what a line says, as its plain value
abbrev pub said_of : Said → commands.Said
said_of (Plain command) = commands.plain command
said_of (Named kind slot name) = commands.named kind slot name.now

-- what a reader has read, as its plain record
abbrev pub draft_of : Reader → reading.Draft
draft_of r = record {
  head = head_of r.head;
  files = r.files.list.items;
  lanes = r.lanes.items;
  current = r.current;
  commands = r.commands;
}

-- the files are looked up by their names, each was named by a command, and there are not too many commands
pub record IsKept (r : Reader) : Type 0 where
  pub indexed : IsIndexed r.files
  pub named : length r.files.list.items ≤ r.commands
  pub few : r.commands ≤ MAX_COMMANDS
