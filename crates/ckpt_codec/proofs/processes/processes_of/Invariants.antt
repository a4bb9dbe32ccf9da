use Rattle.std.proofs.Common.{◌≡◌, ◌-◌, option_copied}
use Rattle.ckpt_codec.specs.Reading.{so_many, process_like, past_process, processes_at}
use Rattle.ckpt_codec.specs.RecordText.{processes_in}
use Rattle.ckpt_codec.proofs.Loop.{behind}
use Rattle.ckpt_codec.proofs.processes.processes_of.Given as goal

abbrev pub invariant-loop-place : goal.invariant-loop-place
invariant-loop-place l =
    behind l.processes.items
    (so_many (process_like (processes_in (option_copied l.like))) past_process (l.count - l.place) (l.place, l.least)
    l.rest) ≡ processes_at (processes_in (option_copied l.like)) l.count l.bytes
