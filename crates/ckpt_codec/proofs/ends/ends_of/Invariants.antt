use Rattle.std.proofs.Common.{◌≡◌, ◌-◌, option_copied}
use Rattle.ckpt_codec.specs.Reading.{so_many, end_like, past_end, ends_at}
use Rattle.ckpt_codec.specs.RecordText.{ends_in}
use Rattle.ckpt_codec.proofs.Loop.{behind}
use Rattle.ckpt_codec.proofs.Ordered.{AreOrdered}
use Rattle.ckpt_codec.proofs.ends.ends_of.Given as goal

abbrev pub invariant-loop-place : goal.invariant-loop-place
invariant-loop-place l =
    (behind l.ends.items
    (so_many (end_like (ends_in (option_copied l.like))) past_end (l.count - l.place) (l.place, l.least) l.rest)
    ≡ ends_at (ends_in (option_copied l.like)) l.count l.bytes)
    × AreOrdered (ends_in (option_copied l.like)) l.ends.items l.place l.least
