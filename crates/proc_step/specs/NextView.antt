-- What a process does next, as the program says it.
use Rattle.kahn_net.specs.Common.{Next, Gets, Puts, NoNext}
use Rattle.kahn_net.specs.NextActs.{Begins}
use Rattle.proc_step.specs.declared.next.NextAct.{NextAct}
use Rattle.proc_step.specs.declared.next.NextAct.TheVariants.{Begin, Get, Put, Nothing}

abbrev pub next_view : NextAct → Next
next_view Begin = Begins
next_view (Get channel) = Gets channel
next_view (Put channel) = Puts channel
next_view Nothing = NoNext
