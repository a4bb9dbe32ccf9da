use Rattle.std.proofs.Common.{take}
use Rattle.std.specs.List.{AllZip}
use Rattle.clap.specs.Walk.{texts}
use Rattle.stream_words.specs.Asked.{IsSource}
use Rattle.stream_words.proofs.sources.sources_of.Given as goal

abbrev pub invariant-loop-value : goal.invariant-loop-value
invariant-loop-value l = AllZip IsSource (take l.value-index (texts l.values)) l.sources.items
