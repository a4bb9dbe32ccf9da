-- The numbers and lines of a network's faults.
use Rattle.std.specs.Prelude.{ℕ, Option, Some, None}
use Rattle.net_check.specs.declared.fault.NetFault.{NetFault}
use Rattle.net_check.specs.declared.fault.NetFault.TheVariants.{NoMemory, TwiceNamed, UnknownName, TwoProducers}
use Rattle.net_check.specs.declared.fault.NetFault.TheVariants.{TwoConsumers, LoopWithoutGet, Limit, NoProducer}
use Rattle.net_check.specs.declared.fault.NetFault.TheVariants.{NoConsumer, MissingInput}

abbrev pub number_of : NetFault → ℕ
number_of NoMemory = 1
number_of (TwiceNamed line) = 10
number_of (UnknownName line) = 11
number_of (TwoProducers line) = 12
number_of (TwoConsumers line) = 13
number_of (LoopWithoutGet line) = 14
number_of (Limit line) = 15
number_of (NoProducer line) = 16
number_of (NoConsumer line) = 17
number_of MissingInput = 18

abbrev pub line_of : NetFault → Option ℕ
line_of NoMemory = None
line_of (TwiceNamed line) = Some line
line_of (UnknownName line) = Some line
line_of (TwoProducers line) = Some line
line_of (TwoConsumers line) = Some line
line_of (LoopWithoutGet line) = Some line
line_of (Limit line) = Some line
line_of (NoProducer line) = Some line
line_of (NoConsumer line) = Some line
line_of MissingInput = None
