-- The numbers that the program ends with.
use Rattle.std.specs.Prelude.{ℕ}
use Rattle.stateful_play_edge.specs.declared.status.Status.{Status}
use Rattle.stateful_play_edge.specs.declared.status.Status.TheVariants.{Done, Usage, Script, Halted}
use Rattle.stateful_play_edge.specs.declared.status.Status.TheVariants.{ReadFault, WriteFault, NoMemory}

abbrev pub number_of : Status → ℕ
number_of Done = 0
number_of Usage = 1
number_of (Script line) = 2
number_of (Halted at) = 3
number_of ReadFault = 4
number_of WriteFault = 5
number_of NoMemory = 6
