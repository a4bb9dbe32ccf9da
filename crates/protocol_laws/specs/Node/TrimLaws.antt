-- Laws of a trimmed image: what is kept of an image is kept, and a node has come as far.
use Rattle.std.proofs.Common.{◌≡◌, ◌≢◌, ◌⊎◌, inl, inr, ℕ, zero, suc, ◌+◌, ◌≤◌, Bool, true, false, eqb, cond, ℤ, List}
use Rattle.std.proofs.Common.{[], ◌∷◌, Some, option_map, refl, ◌∙◌, arith}
use Rattle.std.specs.Prelude.{slice_get, slice_index, find}
use Rattle.protocol.specs.Node.Common.{Network, Channel, Process, LogState, ImageView, JobView, RunningNode}
use Rattle.protocol.specs.Node.Common.{received_of, log_at, sent_of, end_of, base_of, log_share, items_from, room_from}
use Rattle.protocol.specs.Node.Common.{trimmed_log, trimmed_image, port_on, ImageStands, IsLaidOut, LinksAreLaidOut}
use Rattle.protocol.specs.Node.Common.{CountsAreWithin, LogsAreWithin, IsJobOf, IsBehind, SavedEnd, End, Receives}
use Rattle.protocol.specs.Node.Common.{Sends, Both}
use Rattle.protocol.specs.Node.Trimming.{with_current}
use Rattle.protocol.specs.Node.Sharing.{full_share}
use Rattle.protocol.specs.Node.Granting.{room_in, room_of}
use Rattle.record.specs.Changes.{trimmed_end, trimmed_saved}
use Rattle.protocol_laws.specs.Node.CountLaws.{sends_within}
use Rattle.protocol_laws.specs.Node.LogLaws.{trimmed_end_stays, trimmed_is_log_of, base_at, base_after}
use Rattle.protocol_laws.specs.Node.ImageLaws.{map_got, map_keeps, end_at, end_of_changed, found_is}
use Rattle.protocol_laws.specs.Node.InnerLaws.{output_apart}
use Rattle.protocol_laws.specs.Node.InstallLaws.{job_here}
use Rattle.protocol_laws.specs.Node.SharingLaws.{share_kept}
use Rattle.protocol.specs.declared.links.Inbox.{Inbox}

-- Ends

-- the log of a trimmed end is one of before, trimmed or not
log_before : (position : ℕ) (trims : Bool) (end : End) (log : LogState)
    → log_at (Some (cond trims (trimmed_end position end) end)) ≡ Some log
    → (before : LogState) × (log_at (Some end) ≡ Some before) × ((before ≡ log) ⊎ (trimmed_log position before ≡ log))
log_before position false end log h = (log, h, inl refl)
log_before position true (Receives received) log h = absurd (cc)
log_before position true (Sends before) log h = (before, refl, inr (cc))
log_before position true (Both received before) log h = (before, refl, inr (cc))

-- there is no less room in a trimmed log
more_room : (share position : ℕ) (log : LogState)
    → room_in share (Some log) ≤ room_in share (Some (trimmed_log position log))
more_room share position log =
    let stays = trimmed_end_stays position log in omega (arith, stays.0, stays.1)

-- Images

pub end_of_trimmed : (c position : ℕ) (image : ImageView) (d : ℕ)
    → end_of (trimmed_image c position image) d
    ≡ option_map (λ (s : SavedEnd). (trimmed_saved c position s).end)
    (find (λ (s : SavedEnd). eqb s.channel d) image.ends)
end_of_trimmed c position image d =
    end_of_changed image (trimmed_image c position image) d (trimmed_saved c position) (λ s. refl) refl

-- as many items were received from each channel, and as many put
pub received_trimmed : (c position : ℕ) (image : ImageView) (d : ℕ)
    → received_of (trimmed_image c position image) d ≡ received_of image d
received_trimmed c position image d = grind (arith, end_of_trimmed c position image d)

pub sent_trimmed : (c position : ℕ) (image : ImageView) (d : ℕ)
    → sent_of (trimmed_image c position image) d ≡ sent_of image d
sent_trimmed c position image d = grind (arith, end_of_trimmed c position image d, trimmed_end_stays position)

-- where a log of this channel begins, it is no later than the position, if it wasn't before
pub base_trimmed : (c position : ℕ) (image : ImageView) (d : ℕ) → base_of image d ≤ position
    → base_of (trimmed_image c position image) d ≤ position
base_trimmed c position image d h = grind (arith, end_of_trimmed c position image d, base_at position)

-- so a log that lets go of items takes back nothing that was received or put
pub behind_trimmed : (c position : ℕ) (image : ImageView) → IsBehind image (trimmed_image c position image)
behind_trimmed c position image = record {
  received = λ d. omega (arith, received_trimmed c position image d);
  base = λ d. grind (arith, end_of_trimmed c position image d, base_after position);
  sent = λ d. omega (arith, sent_trimmed c position image d);
}

-- as many ends have a log
share_trimmed : (c position : ℕ) (image : ImageView) → log_share (trimmed_image c position image) ≡ log_share image
share_trimmed c position image =
    share_kept image (trimmed_image c position image) (trimmed_saved c position)
    (λ s. grind arith) refl

pub room_trimmed : (c position : ℕ) (image : ImageView) (d : ℕ)
    → room_of (log_share image) image d
    ≤ room_of (log_share (trimmed_image c position image)) (trimmed_image c position image) d
room_trimmed c position image d =
    rw (share_trimmed c position image)
    (grind (arith, end_of_trimmed c position image d, more_room (log_share image) position))

pub laid_out_trimmed : (net : Network) (home c position : ℕ) (image : ImageView) → IsLaidOut net home image
    → IsLaidOut net home (trimmed_image c position image)
laid_out_trimmed net home c position image laid = record {
  processes = laid.processes;
  ends = map_keeps (λ (s : SavedEnd). s.channel) (trimmed_saved c position) image.ends (λ s. refl) ∙ laid.ends;
  roles = λ k saved channel is on. (
      let old = map_got (trimmed_saved c position) image.ends k saved is in
      grind (arith, laid.roles k old.0 channel old.1));
}

-- an inbox begins where it began
pub links_trimmed : (net : Network) (home c position : ℕ) (node : RunningNode) → LinksAreLaidOut net home node
    → LinksAreLaidOut net home (with_current (trimmed_image c position node.current) node)
links_trimmed net home c position node links = record {
  incoming = links.incoming;
  outgoing = links.outgoing;
  inboxes = λ k inbox is. (
      let sound = links.inboxes k inbox is in
      record {
        begins = rw (received_trimmed c position node.current inbox.channel) sound.begins;
        next = sound.next;
        count = sound.count;
        last = sound.last;
        epoch = sound.epoch;
      });
  restored = links.restored;
}

-- what was received is as much as before; where the log is of a channel that goes elsewhere, no count is any other
-- what was received is as much as before; where the log is of a channel that goes elsewhere, no count is any other
pub counts_trimmed : (net : Network) (home : ℕ) (inputs : List (List ℤ)) (c position : ℕ) (channel : Channel)
    (image : ImageView) → IsLaidOut net home image → slice_get net.channels c ≡ Some channel
    → port_on net home channel.consumer ≡ false
    → CountsAreWithin net inputs image → CountsAreWithin net inputs (trimmed_image c position image)
counts_trimmed net home inputs c position channel image laid on away counts k saved is =
    let old = map_got (trimmed_saved c position) image.ends k saved is in
    let apart : (received : ℕ) (log : LogState) → old.0.channel ≡ c → ¬ (old.0.end ≡ Both received log) =
    (λ received log here both. output_apart net home image c received channel log laid on away
    (rw (← here, end_at net home image k old.0 laid old.1, both) refl)) in
    rw (← old.2) (grind (arith, sends_within net inputs old.0.channel, apart, counts k old.0 old.1))

pub logs_trimmed : (c position : ℕ) (image : ImageView) → LogsAreWithin image
    → LogsAreWithin (trimmed_image c position image)
logs_trimmed c position image logs k saved log is at_end =
    let old = map_got (trimmed_saved c position) image.ends k saved is in
    let before = log_before position (eqb old.0.channel c) old.0.end log (rw (← old.2) at at_end) in
    let within = logs k old.0 before.0 old.1 before.1 in
    let stays = trimmed_end_stays position before.0 in
    rw (share_trimmed c position image) (record { count = grind (arith, before.2); last = grind (arith, before.2) })

-- Jobs

-- what a process has at hand of each channel, where no log from which it gets was trimmed
items_same : (inputs : List (List ℤ)) (image later : ImageView) (inboxes : List Inbox) (process number : ℕ)
    (channels : List Channel)
    → ((k : ℕ) (channel : Channel) → slice_get channels k ≡ Some channel → channel.consumer ≡ Process process
    → end_of later (number + k) ≡ end_of image (number + k))
    → items_from inputs later inboxes process number channels ≡ items_from inputs image inboxes process number channels
items_same inputs image later inboxes process number [] same = refl
items_same inputs image later inboxes process number (x ∷ channels) same =
    let here : x.consumer ≡ Process process → end_of later number ≡ end_of image number =
    (λ to. (let sum : number ≡ number + 0 = omega arith in rw sum (same 0 x refl to))) in
    let rest =
    items_same inputs image later inboxes process (suc number) channels
    (λ k channel is to. (let sum : suc number + k ≡ number + suc k = omega arith in rw sum (same (suc k) channel is to))) in
    grind (arith, here, rest)

room_grows : (share later_share : ℕ → ℕ) (image later : ImageView) (process number : ℕ) (channels : List Channel) (d : ℕ)
    → ((d : ℕ) → room_of (share d) image d ≤ room_of (later_share d) later d)
    → slice_index (room_from share image process number channels) d
    ≤ slice_index (room_from later_share later process number channels) d
room_grows share later_share image later process number [] d more = omega arith
room_grows share later_share image later process number (x ∷ channels) zero more = grind (arith, more number)
room_grows share later_share image later process number (x ∷ channels) (suc d) more =
    room_grows share later_share image later process (suc number) channels d more

-- no end but that of the channel is trimmed
pub end_elsewhere : (c position : ℕ) (image : ImageView) (d : ℕ) → d ≢ c
    → end_of (trimmed_image c position image) d ≡ end_of image d
end_elsewhere c position image d apart =
    grind (arith, end_of_trimmed c position image d, found_is (λ (x : SavedEnd). x.channel) image.ends d)

-- the job that is out stays one of an image whose log of a channel was trimmed that goes elsewhere: there is no less
-- room
pub job_trimmed : (net : Network) (home : ℕ) (inputs : List (List ℤ)) (c position : ℕ) (channel : Channel)
    (image : ImageView) (inboxes : List Inbox) (job : JobView) → IsLaidOut net home image
    → slice_get net.channels c ≡ Some channel → port_on net home channel.consumer ≡ false
    → IsJobOf net inputs image inboxes job → IsJobOf net inputs (trimmed_image c position image) inboxes job
job_trimmed net home inputs c position channel image inboxes job laid on away of = record {
  process = of.process;
  code = of.code;
  items = λ d.
      rw (items_same inputs image (trimmed_image c position image) inboxes job.process 0 net.channels same) (of.items d);
  room = λ d. (
      let more =
      room_grows (full_share image) (full_share (trimmed_image c position image)) image (trimmed_image c position image)
      job.process 0 net.channels d (room_trimmed c position image) in
      omega (arith, of.room d, more));
}
  where
    same : (k : ℕ) (other : Channel) → slice_get net.channels k ≡ Some other → other.consumer ≡ Process job.process
        → end_of (trimmed_image c position image) (0 + k) ≡ end_of image (0 + k)
    same k other is goes = end_elsewhere c position image (0 + k) (λ e. (
        let place : k ≡ c = omega (arith, e) in
        let one : other ≡ channel = cc in
        let here = job_here net home inputs image inboxes job laid of in
        let on_it : port_on net home channel.consumer ≡ true = rw (← one, goes) here in
        absurd (cc)))

-- How far a node has come

pub image_trimmed : (net : Network) (histories : List (List ℤ)) (made : ℕ → ℕ) (c position : ℕ) (image : ImageView)
    → ImageStands net histories made image → ImageStands net histories made (trimmed_image c position image)
image_trimmed net histories made c position image stands = record {
  processes = stands.processes;
  ends = λ k saved channel is on. (
      let old = map_got (trimmed_saved c position) image.ends k saved is in
      let number : old.0.channel ≡ saved.channel = cc (old.2) in
      let before = stands.ends k old.0 channel old.1 (rw number on) in
      rw (← old.2) (record {
        received = λ p to counting. grind (arith, before.received p to);
        retained = λ p log from has. (
            let was = log_before position (eqb old.0.channel c) old.0.end log has in
            let is_log = before.retained p was.0 from was.1 in
            grind (arith, was.2, is_log, trimmed_is_log_of position was.0 _ is_log));
      }));
}
