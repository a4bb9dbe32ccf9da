-- Answers as data.
use Rattle.std.specs.Prelude.{Option, Some, None, Result, Ok, Err}
use Rattle.std.specs.declared.alloc.Global.{Global}
use Rattle.std.specs.declared.sync.Arc.{Arc}
use Rattle.protocol.specs.Node.Common.{Job}
use Rattle.protocol.specs.World.Common.{ReplyView}
use Rattle.protocol.specs.World.ReplyView.{reply_by}
use Rattle.protocol.specs.declared.reply.Leaving.{Leaving}
use Rattle.protocol.specs.declared.reply.Reply.{Reply as AnyReply}
pub use Rattle.node.specs.Memory.{shared_view}

-- what a world answers
abbrev pub Reply : Type 0
Reply = AnyReply (Arc Job Global) Leaving

-- a `Reply` without pointers
abbrev pub reply_view : Reply → ReplyView
reply_view answer = reply_by shared_view (λ item. item) answer

-- an answer, or none where memory was missing
abbrev pub answer_view : {E : Type 0} → Result Reply E → Option ReplyView
answer_view (Ok answer) = Some (reply_view answer)
answer_view (Err e) = None
