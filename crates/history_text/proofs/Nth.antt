-- What an event that was made several times was answered, one time after another.
use Rattle.std.proofs.Common.{◌≡◌, refl, ap, ℕ, ◌+◌, ◌++◌, Bool, true, false, if◌then◌else◌, arith}
use Rattle.std.specs.Prelude.{codes}
use Rattle.std.specs.Fmt.{decimal}
use Rattle.protocol.specs.declared.reply.Reply.TheVariants as reply
use Rattle.replay.specs.Replies.{KeptReply}
use Rattle.run_log.specs.Lines.{nth_answer}
use Rattle.history_text.specs.Replies.{reply_text}

-- the words of the answer so many places behind one
pub nth_words : (rises : Bool) (n : ℕ) (first : KeptReply)
    → reply_text (if rises then n else 0) first ≡ reply_text 0 (nth_answer rises n first)
nth_words false n first = refl
nth_words true n reply.Delivered = refl
nth_words true n reply.Dropped = refl
nth_words true n (reply.Granted job) = refl
nth_words true n reply.Installed = refl
nth_words true n reply.Discarded = refl
nth_words true n reply.Sent = refl
nth_words true n reply.Started = refl
nth_words true n reply.Decided = refl
nth_words true n (reply.Refused refusal) = refl
nth_words true n (reply.Released left) =
    let same : left.number + n ≡ left.number + n + 0 = omega arith in
    ap (λ (m : ℕ). codes "released " ++ decimal left.output ++ codes " " ++ decimal m) same
nth_words true n reply.OutletFailed = refl
nth_words true n reply.Crashed = refl
nth_words true n reply.Recovered = refl
nth_words true n reply.InDoubt = refl
nth_words true n reply.Down = refl
nth_words true n reply.Acted = refl
nth_words true n reply.Idled = refl
nth_words true n reply.NotDue = refl
