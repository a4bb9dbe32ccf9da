-- The words of an event, which are those of failure scripts where these have any.
use Rattle.std.specs.Prelude.{ℕ, List, ◌++◌, codes}
use Rattle.std.specs.Fmt.{decimal}
use Rattle.protocol.specs.World.Common.{node_in}
use Rattle.protocol.specs.declared.event.Deed.{Deed}
use Rattle.protocol.specs.declared.event.Deed.TheVariants as deed
use Rattle.protocol.specs.declared.event.NetworkAct.{NetworkAct}
use Rattle.protocol.specs.declared.event.NetworkAct.TheVariants as act
use Rattle.protocol.specs.declared.event.PlainEvent.{PlainEvent}
use Rattle.protocol.specs.declared.event.PlainEvent.TheVariants as plain
use Rattle.replay.specs.Replay.{KeptEventView, Plainly, OfJob}
use Rattle.replay.specs.declared.kept.ArmedCrash.{ArmedCrash}
use Rattle.replay.specs.declared.kept.RunEvent.{RunEvent}
use Rattle.replay.specs.declared.kept.RunEvent.TheVariants as run
use Rattle.wire.specs.declared.rule.Change.{Change}
use Rattle.wire.specs.declared.rule.Change.TheVariants.{Lose, Repeat, Delay}
use Rattle.wire.specs.declared.rule.Rule.{Rule}
use Rattle.history_text.specs.declared.event.EventWords.{EventWords}
use Rattle.history_text.specs.declared.event.EventWords.TheVariants as words

-- what node k does, or what is done to it
abbrev pub deed_text : ℕ → Deed → List ℕ
deed_text k (deed.Deliver place) = codes "deliver " ++ decimal k ++ codes " at " ++ decimal place
deed_text k deed.Grant = codes "grant " ++ decimal k
deed_text k deed.Send = codes "send " ++ decimal k
deed_text k deed.Start = codes "start " ++ decimal k
deed_text k deed.Decide = codes "decide " ++ decimal k
deed_text k (deed.Crash fill rounds) =
    codes "crash " ++ decimal k ++ codes " now " ++ decimal fill ++ codes " " ++ decimal rounds
deed_text k deed.Recover = codes "recover " ++ decimal k
deed_text k (deed.Arm fault rounds) =
    codes "crash " ++ decimal k ++ codes " device " ++ decimal fault.call ++ codes " " ++ decimal fault.fill
    ++ codes " " ++ decimal rounds
deed_text k deed.Idle = codes "idle " ++ decimal k

-- which packet is lost, repeated or late, and for how many rounds
abbrev pub changed_text : ℕ → ℕ → ℕ → Change → List ℕ
changed_text from to nth Lose = codes "lose " ++ decimal from ++ codes " " ++ decimal to ++ codes " " ++ decimal nth
changed_text from to nth Repeat =
    codes "repeat " ++ decimal from ++ codes " " ++ decimal to ++ codes " " ++ decimal nth
changed_text from to nth (Delay rounds) =
    codes "delay " ++ decimal from ++ codes " " ++ decimal to ++ codes " " ++ decimal nth ++ codes " " ++ decimal rounds

abbrev pub rule_text : Rule → List ℕ
rule_text rule = changed_text rule.from rule.to rule.nth rule.change

-- what the network does to the packet at a place of those in flight to node k; one that is armed looks at no place
abbrev pub act_text : ℕ → ℕ → NetworkAct → List ℕ
act_text k place act.Lose = codes "lose " ++ decimal k ++ codes " at " ++ decimal place
act_text k place act.Repeat = codes "repeat " ++ decimal k ++ codes " at " ++ decimal place
act_text k place (act.Delay rounds) =
    codes "delay " ++ decimal k ++ codes " at " ++ decimal place ++ codes " " ++ decimal rounds
act_text k place (act.ArmPacket from nth change) = changed_text from k nth change

abbrev pub plain_text : PlainEvent → List ℕ
plain_text (plain.ByNode k deed) = deed_text k deed
plain_text (plain.Release k) = codes "release " ++ decimal k
plain_text (plain.ByNetwork k place act) = act_text k place act

-- a crash at the end of a delivery is armed
abbrev pub crash_text : ArmedCrash → List ℕ
crash_text crash =
    codes "crash " ++ decimal crash.node ++ codes " delivery " ++ decimal crash.delivery ++ codes " "
    ++ decimal crash.fill ++ codes " " ++ decimal crash.rounds

abbrev pub run_text : RunEvent → List ℕ
run_text (run.World event) = plain_text event
run_text (run.ArmCrash crash) = crash_text crash

-- a turn comes back to this node, of this process
abbrev pub install_text : ℕ → ℕ → List ℕ
install_text node process = codes "install " ++ decimal node ++ codes " " ++ decimal process

-- an event as a history keeps it
abbrev pub event_text : KeptEventView → List ℕ
event_text (Plainly event) = run_text event
event_text (OfJob job) = install_text (node_in job.code) job.process

-- what the code keeps of one until its line is written
abbrev pub words_text : EventWords → List ℕ
words_text (words.Plain event) = run_text event
words_text (words.Install node process) = install_text node process
