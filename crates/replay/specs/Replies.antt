-- Answers as they are kept.
use Rattle.protocol.specs.World.Common.{ReplyView}
use Rattle.protocol.specs.World.ReplyView.{reply_by}
use Rattle.protocol.specs.declared.reply.Leaving.{Leaving}
use Rattle.protocol.specs.declared.reply.Reply.{Reply}

abbrev pub KeptReply : Type 0
KeptReply = Reply Unit Leaving

-- of a grant without its job
abbrev pub kept_reply : ReplyView → KeptReply
kept_reply answer = reply_by (λ job. tt) (λ left. left) answer
