-- The same event, made twice of one world: where no device and no outlet fails, it comes out the same.
use Rattle.std.specs.Prelude.{◌≡◌, Bool, List}
use Rattle.ckpt_codec.specs.Common.{RecordView}
use Rattle.protocol.specs.World.EventView.{EventView}
use Rattle.protocol.specs.World.ReplyView.{ReplyView}
use Rattle.protocol.specs.declared.reply.Reply.TheVariants as reply
use Rattle.protocol.specs.World.Steps.{IsStep, WorldView}

-- an answer which tells that no device and no outlet failed
abbrev pub NothingFailed : ReplyView → Type 0
NothingFailed reply.Down = ⊥
NothingFailed reply.OutletFailed = ⊥
NothingFailed answer = Unit {0}

-- Two steps by one event from one world, over cells with the same room, in which nothing failed: they are answered the
-- same, and lead to the same world. So an event that was refused for want of memory, which leaves the world as it was,
-- comes to what it would have come to at first.
abbrev pub StepsAgree : Type 0
StepsAgree =
    (fits : List (RecordView → Bool)) (event : EventView) (world : WorldView) (answer other : ReplyView)
    (one two : WorldView) → IsStep fits event world answer one → IsStep fits event world other two
    → NothingFailed answer → NothingFailed other
    → (answer ≡ other) × (one ≡ two)
