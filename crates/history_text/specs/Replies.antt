-- The words of an answer.
use Rattle.std.specs.Prelude.{ℕ, ◌+◌, List, ◌++◌, codes}
use Rattle.std.specs.Fmt.{decimal}
use Rattle.protocol.specs.Node.Plans.{refusal_number}
use Rattle.protocol.specs.declared.reply.Reply.TheVariants as reply
use Rattle.replay.specs.Replies.{KeptReply}

-- of an item that left, of the one so many places behind
abbrev pub reply_text : ℕ → KeptReply → List ℕ
reply_text later reply.Delivered = codes "delivered"
reply_text later reply.Dropped = codes "dropped"
reply_text later (reply.Granted job) = codes "granted"
reply_text later reply.Installed = codes "installed"
reply_text later reply.Discarded = codes "discarded"
reply_text later reply.Sent = codes "sent"
reply_text later reply.Started = codes "started"
reply_text later reply.Decided = codes "decided"
reply_text later (reply.Refused refusal) = codes "refused " ++ decimal (refusal_number refusal)
reply_text later (reply.Released left) =
    codes "released " ++ decimal left.output ++ codes " " ++ decimal (left.number + later)
reply_text later reply.OutletFailed = codes "outlet failed"
reply_text later reply.Crashed = codes "crashed"
reply_text later reply.Recovered = codes "recovered"
reply_text later reply.InDoubt = codes "in doubt"
reply_text later reply.Down = codes "down"
reply_text later reply.Acted = codes "acted"
reply_text later reply.Idled = codes "idled"
reply_text later reply.NotDue = codes "not due"
