use Rattle.std.proofs.Common.{◌≡◌, ℤ, List, map, take}
use Rattle.std.specs.List.{AllByRecursion}
use Rattle.std.specs.Prelude.{string_bytes}
use Rattle.station.specs.declared.output.Output.{Output}
use Rattle.folder_status.specs.Files.{OnlyReads}
use Rattle.folder_status.specs.Kept.{IsFileOf}
use Rattle.folder_status.specs.declared.kept.KeptOutput.{KeptOutput}
use Rattle.folder_status.proofs.reading.read_outputs.Given as goal

-- the files of those outputs were read that were looked at, and nothing else was asked
abbrev pub invariant-loop-output : goal.invariant-loop-output
invariant-loop-output g l = record {
  asked : OnlyReads (string_bytes l.folder) (g.H.Host.asked l.fn.host) (g.H.Host.asked l.host);
  listed : map (λ (output : KeptOutput). output.channel) l.kept.items
      ≡ map (λ (output : Output (List ℤ)). output.channel) (take l.output-index l.outputs);
  held : AllByRecursion (IsFileOf (string_bytes l.folder) l.names (g.H.Host.asked l.host)) l.kept.items;
}
