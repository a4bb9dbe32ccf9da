-- Laws of what an image says was put: as many items as its producer's acts put.
use Rattle.std.proofs.Common.{◌≡◌, ℕ, true, ℤ, length, Some, refl, sym, ap, ◌∙◌}
use Rattle.std.specs.Prelude.{slice_get, List, IsTrue}
use Rattle.protocol.specs.Node.Common.{Network, sent_on, Channel, Process, LogState, ImageView, log_at, log_of}
use Rattle.protocol.specs.Node.Common.{sent_in, sent_of, is_logging, acts_of, ImageStands, IsLaidOut, has_process}
use Rattle.protocol.specs.Node.Common.{End, Receives, Sends, Both}
use Rattle.protocol_laws.specs.Node.InnerLaws.{end_there, producer_on, logs_there}
use Rattle.protocol_laws.specs.Node.ReleaseLaws.{log_stands}

log_in : (end : End) → is_logging end ≡ true → (log : LogState) × (log_at (Some end) ≡ Some log)
log_in (Receives received) has = absurd (cc)
log_in (Sends log) has = (log, refl)
log_in (Both received log) has = (log, refl)

-- the log of a channel on which a process of the node puts is there
pub log_there : (net : Network) (home : ℕ) (image : ImageView) (c p : ℕ) (channel : Channel) → IsLaidOut net home image
    → slice_get net.channels c ≡ Some channel → channel.producer ≡ Process p → IsTrue (has_process net home p)
    → (log : LogState) × (log_of image c ≡ Some log)
log_there net home image c p channel laid is from here =
    let of = end_there net home image c channel laid is (producer_on net home p channel from here) in
    let log = log_in of.end (logs_there net home p channel of.end from here of.role) in
    (log.0, ap log_at of.there ∙ log.1)

-- and counts what the process has put
pub sent_stands : (net : Network) (home : ℕ) (histories : List (List ℤ)) (made : ℕ → ℕ) (image : ImageView) (c p : ℕ)
    (channel : Channel) → ImageStands net histories made image → IsLaidOut net home image
    → slice_get net.channels c ≡ Some channel → channel.producer ≡ Process p → IsTrue (has_process net home p)
    → sent_of image c ≡ length (sent_on c (acts_of net histories made p))
sent_stands net home histories made image c p channel stands laid is from here =
    let log = log_there net home image c p channel laid is from here in
    ap sent_in log.1 ∙ sym (log_stands net histories made image c p channel log.0 stands is from log.1).count
