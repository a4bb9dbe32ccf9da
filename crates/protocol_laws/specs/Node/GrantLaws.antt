-- Laws of a job that is granted: it is of where its process stands.
use Rattle.std.proofs.Common.{◌≡◌, ℕ, zero, suc, ◌-◌, ◌≤◌, Bool, true, false, cond, ℤ, List, [], ◌∷◌, length, Option}
use Rattle.std.proofs.Common.{Some, None, refl, subst, arith}
use Rattle.std.proofs.Math.Nat.{min-le_left, min-le_right, le-min}
use Rattle.std.specs.Prelude.{min, slice_get, slice_index, ◌&&◌, ◌==◌}
use Rattle.protocol.specs.Node.Common.{history_of, Network, SavedProcessView, ImageView, JobView, RunningNode}
use Rattle.protocol.specs.Node.Common.{is_process, items_from, room_from, log_share, LogState, log_end, log_of}
use Rattle.protocol.specs.Node.Common.{Channel, MAX_COUNT, may_grant, next_job, IsLaidOut, IsJobOf, has_process}
use Rattle.kahn_net.specs.Laws.Prefixes.{prefix_refl}
use Rattle.turns.specs.Turns.{next_in_turn}
use Rattle.protocol.specs.Node.Granting.{room_in, room_of, job_for}
use Rattle.protocol.specs.Node.Sharing.{full_share, retained_share}
use Rattle.protocol.specs.declared.limits.TheConstants.{MAX_JOB_ITEMS}
use Rattle.protocol.specs.Node.Choosing.{is_ready, ready_processes, process_at, next_process, job_of}
use Rattle.protocol_laws.specs.Node.ImageLaws.{find_within}
use Rattle.protocol_laws.specs.Node.NumberedLaws.{where_find}
use Rattle.protocol.specs.declared.links.Inbox.{Inbox}

-- the process that is next is one of the image
pub next_within : (net : Network) (inputs : List (List ℤ)) (share : ℕ → ℕ) (image : ImageView) (inboxes : List Inbox)
    (last : Option ℕ) (saved : SavedProcessView) → next_process net inputs share image inboxes last ≡ Some saved
    → (k : ℕ) × (slice_get image.processes k ≡ Some saved)
next_within net inputs share image inboxes last saved h =
    at (next_in_turn last (ready_processes net inputs share image inboxes)) h
  where
    at : (number : Option ℕ) → process_at net inputs share image inboxes number ≡ Some saved
        → (k : ℕ) × (slice_get image.processes k ≡ Some saved)
    at None e = absurd (cc)
    at (Some number) e =
        find_within (λ (s : SavedProcessView). (s.number == number) && is_ready net inputs share image inboxes s)
        image.processes saved e

-- Where each log has places up to a smaller share, none has more places.
pub fewer_places : (fewer share : ℕ) (log : Option LogState) → fewer ≤ share → room_in fewer log ≤ room_in share log
fewer_places fewer share None few = omega arith
fewer_places fewer share (Some log) few =
    let numbers = MAX_COUNT - log_end log in
    let places = min (fewer - length log.items) numbers in
    let first = min-le_left MAX_JOB_ITEMS places in
    let all = min-le_right MAX_JOB_ITEMS places in
    let items = min-le_left (fewer - length log.items) numbers in
    let last = min-le_right (fewer - length log.items) numbers in
    let in_items : min MAX_JOB_ITEMS places ≤ share - length log.items = omega (arith, all, items, few) in
    let in_numbers : min MAX_JOB_ITEMS places ≤ numbers = omega (arith, all, last) in
    le-min first (le-min in_items in_numbers)

-- and no channel has more room
less_room : (fewer share : ℕ → ℕ) (image : ImageView) (process number : ℕ) (channels : List Channel) (c : ℕ)
    → ((d : ℕ) → fewer d ≤ share d)
    → slice_index (room_from fewer image process number channels) c
    ≤ slice_index (room_from share image process number channels) c
less_room fewer share image process number [] c few = omega arith
less_room fewer share image process number (x ∷ channels) zero few = at (is_process process x.producer)
  where
    at : (b : Bool) → cond b (room_of (fewer number) image number) 0 ≤ cond b (room_of (share number) image number) 0
    at true = fewer_places (fewer number) (share number) (log_of image number) (few number)
    at false = omega arith
less_room fewer share image process number (x ∷ channels) (suc c) few =
    less_room fewer share image process (suc number) channels c few

-- a job made from an entry of an image is of that image, where each log has places up to no more than its share
pub job_of_entry : (share : ℕ → ℕ) (net : Network) (home : ℕ) (inputs : List (List ℤ)) (image : ImageView)
    (inboxes : List Inbox)
    (k : ℕ) (saved : SavedProcessView) (version : ℕ) → ((c : ℕ) → share c ≤ log_share image) → IsLaidOut net home image
    → slice_get image.processes k ≡ Some saved
    → IsJobOf net inputs image inboxes (job_for share net inputs image inboxes saved.number saved.standing version)
job_of_entry share net home inputs image inboxes k saved version few laid is = record {
  process =
      where_find (λ (s : SavedProcessView). s.number) (has_process net home) 0 (length net.codes) image.processes k
      saved laid.processes is;
  code = refl;
  items = λ c. prefix_refl (history_of (items_from inputs image inboxes saved.number 0 net.channels) c);
  room = λ c. less_room share (full_share image) image saved.number 0 net.channels c few;
}

-- the job that a node grants is of where its process stands now
pub job_granted : (net : Network) (home : ℕ) (inputs : List (List ℤ)) (rooms : List ℕ) (node : RunningNode) (job : JobView)
    → IsLaidOut net home node.current → next_job net inputs rooms node ≡ Some job
    → IsJobOf net inputs node.current node.inboxes job
job_granted net home inputs rooms node job laid h = by_leave (may_grant node) h
  where
    share : ℕ → ℕ
    share = retained_share rooms node.current

    by_process : (o : Option SavedProcessView) → next_process net inputs share node.current node.inboxes node.last ≡ o
        → job_of net inputs share node o ≡ Some job → IsJobOf net inputs node.current node.inboxes job
    by_process None next e = absurd (cc)
    by_process (Some saved) next e =
        let there = next_within net inputs share node.current node.inboxes node.last saved next in
        let same : job_for share net inputs node.current node.inboxes saved.number saved.standing node.version ≡ job =
        cc in
        subst (IsJobOf net inputs node.current node.inboxes) same
        (job_of_entry share net home inputs node.current node.inboxes there.0 saved node.version
        (λ c. min-le_right (slice_index rooms c) (log_share node.current)) laid there.1)

    by_leave : (b : Bool)
        → cond b (job_of net inputs share node (next_process net inputs share node.current node.inboxes node.last)) None
        ≡ Some job
        → IsJobOf net inputs node.current node.inboxes job
    by_leave true e = by_process (next_process net inputs share node.current node.inboxes node.last) refl e
    by_leave false e = absurd (cc)
