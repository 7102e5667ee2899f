-- Signals as their names.
use Rattle.std.specs.Prelude.{ℕ, List}
use Rattle.demo_texts.specs.declared.covers.Signal.{Signal}
use Rattle.demo_texts.specs.Names.{name_of}

-- the name of a signal
abbrev pub signal_name : Signal → List ℕ
signal_name signal = name_of signal.letter signal.number
