-- Laws of a turn that fits: what it takes is there, what it puts has room, and what is kept of an image is kept by it.
use Rattle.std.proofs.Common.{◌≡◌, ℕ, zero, suc, ◌+◌, ◌≤◌, eqb, cond, ℤ, List, [], ◌∷◌, length, take, drop, map, Option}
use Rattle.std.proofs.Common.{Some, None, option_map, refl, ap, ◌∙◌, arith}
use Rattle.std.specs.Prelude.{slice_get, slice_index, find}
use Rattle.std.proofs.lemmas.List.{length-append, length-take, length-drop, get_or_past}
use Rattle.std.proofs.lemmas.Option.{slice_get_cases, get_or_from_slice_get}
use Rattle.protocol.specs.Node.Common.{history_of, Fits, Code, Network, Standing, approximation, Channel, Port, Outside}
use Rattle.protocol.specs.Node.Common.{Process, LogState, IsInLog, log_end, items_since, SavedProcessView, ImageView}
use Rattle.protocol.specs.Node.Common.{role_of, JobView, RunningNode, received_of, received_at, log_at, sent_in, end_of}
use Rattle.protocol.specs.Node.Common.{base_of, log_share, first_log, inbox_log, is_process, next_in_log, next_items}
use Rattle.protocol.specs.Node.Common.{room_from, log_with, trimmed_log, taken_from, put_on, saved_pushed}
use Rattle.protocol.specs.Node.Common.{saved_counted, moved, installed, ImageTakes, IsBehind, port_on, role_by}
use Rattle.protocol.specs.Node.Common.{ImageStands, HasReached, IsLaidOut, CountIsWithin, CountsAreWithin}
use Rattle.protocol.specs.Node.Common.{LogsAreWithin, InboxIsSound, IsJobOf, SavedEnd, End, Receives, Sends, Both}
use Rattle.protocol.specs.Node.Common.{MAX_COUNT}
use Rattle.proc_step.specs.Turns.{IsTurn}
use Rattle.proc_step.specs.TurnLaws.{sent_fits, taken_fits}
use Rattle.protocol.specs.Node.Sharing.{IsWithinShare, full_share}
use Rattle.protocol.specs.Node.Granting.{items_by, room_in, room_of}
use Rattle.ckpt_codec.specs.Common.{pushed, counted, LogTakes}
use Rattle.protocol.specs.Node.Reached.{IsTurnOf}
use Rattle.protocol_laws.specs.Node.ImageLaws.{channel_of_entry, received_is, log_is, map_got, map_keeps, map_twice}
use Rattle.protocol_laws.specs.Node.ImageLaws.{end_of_changed}
use Rattle.protocol_laws.specs.Node.CountLaws.{count_limit, receives_within, sends_within, both_within}
use Rattle.kahn_net.specs.Laws.Prefixes.{prefix_length}
use Rattle.protocol_laws.specs.Node.LiftLaws.{IsAtHand}
use Rattle.protocol_laws.specs.Node.LinkLaws.{inbox_of}
use Rattle.protocol_laws.specs.Node.LogLaws.{trimmed_end_stays, base_after, in_trimmed}
use Rattle.protocol_laws.specs.Node.ReachedLaws.{items_of_channel}
use Rattle.protocol_laws.specs.Node.SharingLaws.{share_within, share_kept}
use Rattle.protocol_laws.specs.Node.InstallLaws.{turn_of_job, job_has_code, log_then}
use Rattle.protocol.specs.declared.links.Inbox.{Inbox}
use Rattle.protocol.specs.declared.limits.TheConstants.{MAX_JOB_ITEMS}
use Rattle.record.specs.Common.{MAX_LOG_ITEMS}

-- What a turn takes

-- no more is at hand than is left
input_left : (input : List ℤ) (received : ℕ) → received ≤ length input
    → received + length (take MAX_JOB_ITEMS (drop received input)) ≤ length input
input_left input received within = simp (length-take, length-drop) (omega arith)

pub log_left : (received : ℕ) (log : LogState) → IsInLog log received
    → received + length (take MAX_JOB_ITEMS (items_since log received)) ≤ log_end log
log_left received log within = simp (length-take, length-drop) (omega arith)

few_taken : (items : List ℤ) → length (take MAX_JOB_ITEMS items) ≤ MAX_JOB_ITEMS
few_taken items = simp length-take (omega arith)

module _ (net : Network) (home : ℕ) (inputs : List (List ℤ)) (image : ImageView) (inboxes : List Inbox) (c : ℕ)
    (begin : (k : ℕ) (inbox : Inbox) → slice_get inboxes k ≡ Some inbox → InboxIsSound image inbox) where
  -- of a channel from another node no more is at hand than its inbox has
  inbox_left : (received : ℕ) → received_of image c ≡ received → received ≤ MAX_COUNT
      → received + length (next_in_log received (inbox_log inboxes c)) ≤ MAX_COUNT
  inbox_left received same within = at (inbox_log inboxes c) refl
    where
      at : (o : Option LogState) → inbox_log inboxes c ≡ o → received + length (next_in_log received o) ≤ MAX_COUNT
      at None has = omega arith
      at (Some log) has =
          let of = inbox_of inboxes c log has in
          let sound = begin of.at of.inbox of.there in
          let begins : log.base ≡ received = cc (sound.begins) in
          let end : log_end log ≤ MAX_COUNT = rw of.is_log at sound.last in
          omega (arith, log_left received log (record { from_base = omega arith; to_end = omega arith }))

  -- and of no channel more than its end may count
  left_by_end : (channel : Channel) (end : End) (producer consumer : Port) → received_of image c ≡ received_at (Some end)
      → slice_get net.channels c ≡ Some channel → channel.producer ≡ producer → CountIsWithin net inputs c end
      → role_of end ≡ role_by (port_on net home producer) (port_on net home consumer)
      → received_at (Some end)
      + length
      (items_by inputs c producer (received_at (Some end)) (first_log (log_at (Some end)) (inbox_log inboxes c)))
      ≤ count_limit inputs c producer end
  left_by_end channel (Receives received) Outside consumer same on from within role =
      input_left (history_of inputs c) received (within.of_input channel received on from refl)
  left_by_end channel (Receives received) (Process q) consumer same on from within role =
      inbox_left received same (within.of_link channel q received on from refl)
  left_by_end channel (Sends log) Outside consumer same on from within role =
      omega (arith, few_taken (drop 0 (history_of inputs c)))
  left_by_end channel (Sends log) (Process q) consumer same on from within role = omega (arith, few_taken (items_since log 0))
  left_by_end channel (Both received log) Outside consumer same on from within role = absurd cc
  left_by_end channel (Both received log) (Process q) consumer same on from within role =
      log_left received log (within.in_log received log refl)

-- what a turn takes from a channel was at hand
pub taken_at_hand : (net : Network) (inputs : List (List ℤ)) (n : ℕ) (made : ℕ → ℕ) (image : ImageView)
    (inboxes : List Inbox) (job : JobView) (code : Code) (after : Standing) (taken : List ℕ) (sent : List (List ℤ))
    → ImageStands net (approximation net inputs n) made image
    → IsAtHand net inputs (approximation net inputs n) made image inboxes job.process
    → IsJobOf net inputs image inboxes job
    → slice_get net.codes job.process ≡ Some code → IsTurn code job.standing job.items job.room after taken sent
    → (c : ℕ) (channel : Channel) → slice_get net.channels c ≡ Some channel
    → taken_from net.channels job.process taken c ≤ length (next_items inputs image inboxes c channel.producer)
taken_at_hand net inputs n made image inboxes job code after taken sent stands hand of there turn c channel on =
    let done = turn_of_job net inputs n made image inboxes job code after taken sent stands hand of there turn in
    let few = taken_fits code _ (made job.process) job.items job.room after taken sent done c in
    let given = prefix_length _ _ (of.items c) in
    grind (arith, on, few, given, items_of_channel net inputs image inboxes job.process c channel on)

-- so it is there
pub taken_is_there : (net : Network) (home : ℕ) (inputs : List (List ℤ)) (n : ℕ) (made : ℕ → ℕ) (image : ImageView)
    (inboxes : List Inbox) (job : JobView) (code : Code) (after : Standing) (taken : List ℕ) (sent : List (List ℤ))
    → ImageStands net (approximation net inputs n) made image → IsLaidOut net home image
    → IsAtHand net inputs (approximation net inputs n) made image inboxes job.process
    → CountsAreWithin net inputs image
    → ((k : ℕ) (inbox : Inbox) → slice_get inboxes k ≡ Some inbox → InboxIsSound image inbox)
    → IsJobOf net inputs image inboxes job
    → slice_get net.codes job.process ≡ Some code → IsTurn code job.standing job.items job.room after taken sent
    → (k : ℕ) (saved : SavedEnd) (channel : Channel) → slice_get image.ends k ≡ Some saved
    → slice_get net.channels saved.channel ≡ Some channel
    → received_at (Some (saved.end)) + taken_from net.channels job.process taken saved.channel
    ≤ count_limit inputs saved.channel channel.producer saved.end
taken_is_there net home inputs n made image inboxes job code after taken sent stands laid hand counts begin of there
    turn k saved channel is on =
    let few =
    taken_at_hand net inputs n made image inboxes job code after taken sent stands hand of there turn saved.channel
    channel on in
    let same = received_is net home image k saved laid is in
    let same_log = log_is net home image k saved laid is in
    let left =
    left_by_end net home inputs image inboxes saved.channel begin channel saved.end channel.producer channel.consumer
    same on refl (counts k saved is) (laid.roles k saved channel is on) in
    omega (arith, rw (same, same_log) at few, left)

-- What a turn puts

-- the room of a channel on which the process puts, and none on any other
pub room_from-at : (share : ℕ → ℕ) (image : ImageView) (process number : ℕ) (channels : List Channel) (c : ℕ)
    (channel : Channel)
    → slice_get channels c ≡ Some channel
    → slice_index (room_from share image process number channels) c
    ≡ cond (is_process process channel.producer) (room_of (share (number + c)) image (number + c)) 0
room_from-at share image process number [] c channel is = absurd cc
room_from-at share image process number (x ∷ channels) zero channel is = grind arith
room_from-at share image process number (x ∷ channels) (suc c) channel is =
    grind (arith, room_from-at share image process (suc number) channels c channel is)

-- what a turn puts on a channel has room in its log
pub put_has_room : (net : Network) (inputs : List (List ℤ)) (n : ℕ) (made : ℕ → ℕ) (image : ImageView)
    (inboxes : List Inbox) (job : JobView) (code : Code) (after : Standing) (taken : List ℕ) (sent : List (List ℤ))
    → ImageStands net (approximation net inputs n) made image
    → IsAtHand net inputs (approximation net inputs n) made image inboxes job.process
    → IsJobOf net inputs image inboxes job → slice_get net.codes job.process ≡ Some code
    → IsTurn code job.standing job.items job.room after taken sent → (c : ℕ)
    → length (put_on net.channels job.process sent c) ≤ room_of (log_share image) image c
put_has_room net inputs n made image inboxes job code after taken sent stands hand of there turn c =
    let done = turn_of_job net inputs n made image inboxes job code after taken sent stands hand of there turn in
    let few = sent_fits code _ (made job.process) job.items job.room after taken sent done c in
    let room = room_from-at (full_share image) image job.process 0 net.channels c in
    grind (arith, slice_get_cases net.channels c, few, of.room c, room)

-- a log with what it has room for is within its share
log_with_room : (share : ℕ) (log : LogState) (items : List ℤ) → IsWithinShare share log
    → length items ≤ room_in share (Some log) → IsWithinShare share (log_with items log)
log_with_room share log items within room = record {
  count = simp length-append (omega arith);
  last = simp length-append (omega arith);
}

-- what has room in a log fits it
takes_room : (share : ℕ) (o : Option LogState) (items : List ℤ) → share ≤ MAX_LOG_ITEMS
    → ((log : LogState) → o ≡ Some log → IsWithinShare share log) → length items ≤ room_in share o
    → LogTakes (length items) o
takes_room share None items below within room = tt
takes_room share (Some log) items below within room =
    let then_within = log_with_room share log items (within log refl) room in grind (arith, length-append)

-- the lists that fit are no longer than a count goes
history_is_counted : (net : Network) (inputs : List (List ℤ)) (c : ℕ) → Fits net inputs
    → length (history_of inputs c) ≤ MAX_COUNT
history_is_counted net inputs c fits = grind (arith, fits.few c, slice_get_cases inputs c, get_or_from_slice_get, get_or_past)

-- the turn fits the image: no count and no log comes past its limit
pub image_takes_turn : (net : Network) (home : ℕ) (inputs : List (List ℤ)) (n : ℕ) (made : ℕ → ℕ) (image : ImageView)
    (inboxes : List Inbox) (job : JobView) (code : Code) (after : Standing) (taken : List ℕ) (sent : List (List ℤ))
    → ImageStands net (approximation net inputs n) made image → IsLaidOut net home image
    → IsAtHand net inputs (approximation net inputs n) made image inboxes job.process
    → CountsAreWithin net inputs image → LogsAreWithin image
    → ((k : ℕ) (inbox : Inbox) → slice_get inboxes k ≡ Some inbox → InboxIsSound image inbox) → Fits net inputs
    → IsJobOf net inputs image inboxes job → slice_get net.codes job.process ≡ Some code
    → IsTurn code job.standing job.items job.room after taken sent
    → ImageTakes net.channels job.process taken sent image
image_takes_turn net home inputs n made image inboxes job code after taken sent stands laid hand counts logs begin fits
    of there turn k saved is = record {
      received =
          let channel = channel_of_entry net home image k saved laid is in
          let sum =
          taken_is_there net home inputs n made image inboxes job code after taken sent stands laid hand counts begin
          of there turn k saved channel.0 is channel.1 in
          grind (arith, sum, history_is_counted net inputs saved.channel fits, λ (log : LogState). logs k saved log is);
      put =
          let room =
          put_has_room net inputs n made image inboxes job code after taken sent stands hand of there turn
          saved.channel in
          let share = share_within image in
          takes_room (log_share image) (log_at (Some (saved.end))) _ (omega (arith, share)) (λ log. logs k saved log is)
          (rw (log_is net home image k saved laid is) at room);
    }

-- What a turn keeps

-- each end after the turn is one of before, with what the turn put and took
pub end_before : (channels : List Channel) (process : ℕ) (after : Standing) (taken : List ℕ) (sent : List (List ℤ))
    (image : ImageView) (k : ℕ) (saved : SavedEnd)
    → slice_get (installed channels process after taken sent image).ends k ≡ Some saved
    → (old : SavedEnd) × (slice_get image.ends k ≡ Some old)
    × (saved_counted channels process taken (saved_pushed channels process sent old) ≡ saved)
end_before channels process after taken sent image k saved is =
    let mid =
    map_got (saved_counted channels process taken) (map (saved_pushed channels process sent) image.ends) k saved
    is in
    let old = map_got (saved_pushed channels process sent) image.ends k mid.0 mid.1 in
    (old.0, old.1, ap (saved_counted channels process taken) old.2 ∙ mid.2)

moved_keeps : (process : ℕ) (standing : Standing) (xs : List SavedProcessView)
    → map (λ (s : SavedProcessView). s.number) (moved process standing xs) ≡ map (λ (s : SavedProcessView). s.number) xs
moved_keeps process standing [] = refl
moved_keeps process standing (y ∷ xs) = grind (arith, moved_keeps process standing xs)

pub laid_out_installed : (net : Network) (home process : ℕ) (after : Standing) (taken : List ℕ) (sent : List (List ℤ))
    (image : ImageView)
    → IsLaidOut net home image → IsLaidOut net home (installed net.channels process after taken sent image)
laid_out_installed net home process after taken sent image laid = record {
  processes = moved_keeps process after image.processes ∙ laid.processes;
  ends =
      map_keeps (λ (s : SavedEnd). s.channel) (saved_counted net.channels process taken)
      (map (saved_pushed net.channels process sent) image.ends) (λ s. refl)
      ∙ (map_keeps (λ (s : SavedEnd). s.channel) (saved_pushed net.channels process sent) image.ends (λ s. refl)
      ∙ laid.ends);
  roles = λ k saved channel is on. (
      let old = end_before net.channels process after taken sent image k saved is in
      grind (arith, laid.roles k old.0 channel old.1));
}

-- a count that goes no further than its limit is within what there is
counted_within : (net : Network) (inputs : List (List ℤ)) (c : ℕ) (channel : Channel) (end : End) (items : List ℤ)
    (count : ℕ) → slice_get net.channels c ≡ Some channel → CountIsWithin net inputs c end
    → received_at (Some end) + count ≤ count_limit inputs c channel.producer end
    → CountIsWithin net inputs c (counted count (pushed items end))
counted_within net inputs c channel (Receives received) items count on within few =
    receives_within net inputs c (received + count) (λ other is. let same : channel ≡ other = cc in grind arith)
counted_within net inputs c channel (Sends log) items count on within few =
    sends_within net inputs c (log_with items log)
counted_within net inputs c channel (Both received log) items count on within few =
    let low = (within.in_log received log refl).from_base in
    both_within net inputs c (received + count) (trimmed_log (received + count) (log_with items log))
    (in_trimmed (received + count) (log_with items log)
    (record { from_base = omega arith; to_end = simp length-append (omega arith) }))

pub counts_after_turn : (net : Network) (home : ℕ) (inputs : List (List ℤ)) (n : ℕ) (made : ℕ → ℕ) (image : ImageView)
    (inboxes : List Inbox) (job : JobView) (code : Code) (after : Standing) (taken : List ℕ) (sent : List (List ℤ))
    → ImageStands net (approximation net inputs n) made image → IsLaidOut net home image
    → IsAtHand net inputs (approximation net inputs n) made image inboxes job.process
    → CountsAreWithin net inputs image
    → ((k : ℕ) (inbox : Inbox) → slice_get inboxes k ≡ Some inbox → InboxIsSound image inbox)
    → IsJobOf net inputs image inboxes job
    → slice_get net.codes job.process ≡ Some code → IsTurn code job.standing job.items job.room after taken sent
    → CountsAreWithin net inputs (installed net.channels job.process after taken sent image)
counts_after_turn net home inputs n made image inboxes job code after taken sent stands laid hand counts begin of there
    turn k saved is =
    let old = end_before net.channels job.process after taken sent image k saved is in
    let channel = channel_of_entry net home image k old.0 laid old.1 in
    let sum =
    taken_is_there net home inputs n made image inboxes job code after taken sent stands laid hand counts begin of
    there turn k old.0 channel.0 old.1 channel.1 in
    rw (← old.2)
    (counted_within net inputs old.0.channel channel.0 old.0.end (put_on net.channels job.process sent old.0.channel)
    (taken_from net.channels job.process taken old.0.channel) channel.1 (counts k old.0 old.1) sum)

-- as many ends have a log as before
share_installed : (channels : List Channel) (process : ℕ) (after : Standing) (taken : List ℕ) (sent : List (List ℤ))
    (image : ImageView)
    → log_share (installed channels process after taken sent image) ≡ log_share image
share_installed channels process after taken sent image =
    share_kept image (installed channels process after taken sent image)
    (λ (s : SavedEnd). saved_counted channels process taken (saved_pushed channels process sent s))
    (λ s. grind arith)
    (map_twice (saved_pushed channels process sent) (saved_counted channels process taken) image.ends)

pub end_installed : (channels : List Channel) (process : ℕ) (after : Standing) (taken : List ℕ) (sent : List (List ℤ))
    (image : ImageView) (c : ℕ)
    → end_of (installed channels process after taken sent image) c
    ≡ option_map
    (λ (s : SavedEnd). (saved_counted channels process taken (saved_pushed channels process sent s)).end)
    (find (λ (s : SavedEnd). eqb s.channel c) image.ends)
end_installed channels process after taken sent image c =
    end_of_changed image (installed channels process after taken sent image) c
    (λ (s : SavedEnd). saved_counted channels process taken (saved_pushed channels process sent s)) (λ s. refl)
    (map_twice (saved_pushed channels process sent) (saved_counted channels process taken) image.ends)

-- a log begins no earlier
base_later : (channels : List Channel) (process : ℕ) (after : Standing) (taken : List ℕ) (sent : List (List ℤ))
    (image : ImageView) (c : ℕ)
    → base_of image c ≤ base_of (installed channels process after taken sent image) c
base_later channels process after taken sent image c =
    grind (arith, end_installed channels process after taken sent image c, base_after)

-- and that of a channel that goes elsewhere where it began
pub base_installed : (channels : List Channel) (process : ℕ) (after : Standing) (taken : List ℕ) (sent : List (List ℤ))
    (image : ImageView) (c : ℕ)
    → ((received : ℕ) (log : LogState) → ¬ (end_of image c ≡ Some (Both received log)))
    → base_of (installed channels process after taken sent image) c ≡ base_of image c
base_installed channels process after taken sent image c apart =
    grind (arith, end_installed channels process after taken sent image c, apart)

more_sent : (end : End) (items : List ℤ) (count : ℕ)
    → sent_in (log_at (Some end)) ≤ sent_in (log_at (Some (counted count (pushed items end))))
more_sent (Receives received) items count = omega arith
more_sent (Sends log) items count = simp length-append (omega arith)
more_sent (Both received log) items count =
    let stays = trimmed_end_stays (received + count) (log_with items log) in
    omega (arith, length-append log.items items, stays.0)

-- a turn takes back nothing that was received or put
pub behind_installed : (channels : List Channel) (process : ℕ) (after : Standing) (taken : List ℕ)
    (sent : List (List ℤ)) (image : ImageView) → IsBehind image (installed channels process after taken sent image)
behind_installed channels process after taken sent image = record {
  received = λ c. grind (arith, end_installed channels process after taken sent image c);
  base = base_later channels process after taken sent image;
  sent = λ c. grind (arith, end_installed channels process after taken sent image c, more_sent);
}

-- Nodes

-- a turn on the job that was out fits what the node has now
pub turn_fits : (net : Network) (home : ℕ) (inputs : List (List ℤ)) (node : RunningNode) (job : JobView)
    (after : Standing) (taken : List ℕ) (sent : List (List ℤ))
    → (reached : HasReached net inputs node) → IsLaidOut net home node.current
    → IsAtHand net inputs (approximation net inputs reached.n) reached.current_acts node.current node.inboxes
    job.process → CountsAreWithin net inputs node.current → LogsAreWithin node.current
    → ((k : ℕ) (inbox : Inbox) → slice_get node.inboxes k ≡ Some inbox → InboxIsSound node.current inbox)
    → Fits net inputs → IsJobOf net inputs node.current node.inboxes job → IsTurnOf net job after taken sent
    → ImageTakes net.channels job.process taken sent node.current
turn_fits net home inputs node job after taken sent reached laid hand counts logs begin fits of turn =
    let code = job_has_code net home inputs node.current node.inboxes job laid of in
    image_takes_turn net home inputs reached.n reached.current_acts node.current node.inboxes job code.0 after taken
    sent reached.current laid hand counts logs begin fits of code.1 (turn code.0 code.1)

-- and then no more was received than there is
pub counts_installed : (net : Network) (home : ℕ) (inputs : List (List ℤ)) (node : RunningNode) (job : JobView)
    (after : Standing) (taken : List ℕ) (sent : List (List ℤ))
    → (reached : HasReached net inputs node) → IsLaidOut net home node.current
    → IsAtHand net inputs (approximation net inputs reached.n) reached.current_acts node.current node.inboxes
    job.process → CountsAreWithin net inputs node.current
    → ((k : ℕ) (inbox : Inbox) → slice_get node.inboxes k ≡ Some inbox → InboxIsSound node.current inbox)
    → IsJobOf net inputs node.current node.inboxes job → IsTurnOf net job after taken sent
    → CountsAreWithin net inputs (installed net.channels job.process after taken sent node.current)
counts_installed net home inputs node job after taken sent reached laid hand counts begin of turn =
    let code = job_has_code net home inputs node.current node.inboxes job laid of in
    counts_after_turn net home inputs reached.n reached.current_acts node.current node.inboxes job code.0 after taken
    sent reached.current laid hand counts begin of code.1 (turn code.0 code.1)

-- and each log is within its share
pub logs_installed : (net : Network) (home : ℕ) (inputs : List (List ℤ)) (node : RunningNode) (job : JobView)
    (after : Standing) (taken : List ℕ) (sent : List (List ℤ))
    → (reached : HasReached net inputs node) → IsLaidOut net home node.current
    → IsAtHand net inputs (approximation net inputs reached.n) reached.current_acts node.current node.inboxes
    job.process → LogsAreWithin node.current
    → IsJobOf net inputs node.current node.inboxes job → IsTurnOf net job after taken sent
    → LogsAreWithin (installed net.channels job.process after taken sent node.current)
logs_installed net home inputs node job after taken sent reached laid hand logs of turn k saved log is at_end =
    let code = job_has_code net home inputs node.current node.inboxes job laid of in
    let old = end_before net.channels job.process after taken sent node.current k saved is in
    let put : List ℤ = put_on net.channels job.process sent old.0.channel in
    let before = log_then old.0.end put (taken_from net.channels job.process taken old.0.channel) log
    (rw (← old.2) at at_end) in
    let room =
    put_has_room net inputs reached.n reached.current_acts node.current node.inboxes job code.0 after taken sent
    reached.current hand of code.1 (turn code.0 code.1) old.0.channel in
    let found = log_is net home node.current k old.0 laid old.1 ∙ before.2 in
    let within = log_with_room (log_share node.current) before.0 put (logs k old.0 before.0 old.1 before.2)
    (rw found at room) in
    let stays = trimmed_end_stays before.1 (log_with put before.0) in
    rw (share_installed net.channels job.process after taken sent node.current)
    (record { count = grind (arith, before.3); last = grind (arith, before.3) })
