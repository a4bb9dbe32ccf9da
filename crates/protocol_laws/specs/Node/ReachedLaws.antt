-- Laws of how far a node has come: what a process has at hand of each channel, and what it got there.
use Rattle.std.proofs.Common.{◌≡◌, ℕ, zero, suc, ◌+◌, true, cond, ℤ, List, [], ◌∷◌, length, Some, refl, sym, ap, ◌∙◌}
use Rattle.std.proofs.Common.{arith}
use Rattle.std.specs.Prelude.{slice_get, IsTrue}
use Rattle.protocol.specs.Node.Common.{history_of, Network, got_on, approximation, Channel, Port, Outside, Process}
use Rattle.protocol.specs.Node.Common.{ImageView, received_at, received_of, is_process, next_items, items_from}
use Rattle.protocol.specs.Node.Common.{has_process, acts_of, is_counting, ImageStands, IsLaidOut, End}
use Rattle.kahn_net.specs.Approximations.{next_history}
use Rattle.kahn_net.specs.Laws.Approximations.{next_histories-at}
use Rattle.protocol_laws.specs.Node.InnerLaws.{end_there, consumer_on, counts_there}
use Rattle.protocol.specs.declared.links.Inbox.{Inbox}

-- an input is the same in each approximation
pub input_stays : (net : Network) (inputs : List (List ℤ)) (n c : ℕ) (channel : Channel)
    → slice_get net.channels c ≡ Some channel → channel.producer ≡ Outside
    → history_of (approximation net inputs n) c ≡ history_of inputs c
input_stays net inputs zero c channel is from = refl
input_stays net inputs (suc n) c channel is from =
    next_histories-at net inputs (approximation net inputs n) c channel is
    ∙ ap (λ (port : Port). next_history net.codes inputs (approximation net inputs n) c port) from

-- what is at hand of a channel
abbrev pub items_at_hand : List (List ℤ) → ImageView → List Inbox → ℕ → ℕ → Channel → List ℤ
items_at_hand inputs image inboxes process number channel =
    cond (is_process process channel.consumer) (next_items inputs image inboxes number channel.producer) []

pub items_from-at : (inputs : List (List ℤ)) (image : ImageView) (inboxes : List Inbox) (process number : ℕ)
    (channels : List Channel) (c : ℕ) (channel : Channel) → slice_get channels c ≡ Some channel
    → history_of (items_from inputs image inboxes process number channels) c
    ≡ items_at_hand inputs image inboxes process (number + c) channel
items_from-at inputs image inboxes process number [] c channel is = absurd (cc)
items_from-at inputs image inboxes process number (x ∷ channels) zero channel is =
    let same : x ≡ channel = cc in
    let here : number ≡ number + 0 = omega arith in
    ap (λ (y : Channel). items_at_hand inputs image inboxes process number y) same
    ∙ ap (λ (n : ℕ). items_at_hand inputs image inboxes process n channel) here
items_from-at inputs image inboxes process number (x ∷ channels) (suc c) channel is =
    let there : suc number + c ≡ number + suc c = omega arith in
    items_from-at inputs image inboxes process (suc number) channels c channel is
    ∙ ap (λ (n : ℕ). items_at_hand inputs image inboxes process n channel) there

pub length-items_from : (inputs : List (List ℤ)) (image : ImageView) (inboxes : List Inbox) (process number : ℕ)
    (channels : List Channel) → length (items_from inputs image inboxes process number channels) ≡ length channels
length-items_from inputs image inboxes process number [] = refl
length-items_from inputs image inboxes process number (x ∷ channels) =
    ap suc (length-items_from inputs image inboxes process (suc number) channels)

pub items_of_channel : (net : Network) (inputs : List (List ℤ)) (image : ImageView) (inboxes : List Inbox)
    (process c : ℕ) (channel : Channel) → slice_get net.channels c ≡ Some channel
    → history_of (items_from inputs image inboxes process 0 net.channels) c
    ≡ items_at_hand inputs image inboxes process c channel
items_of_channel net inputs image inboxes process c channel is =
    let sum : 0 + c ≡ c = omega arith in
    items_from-at inputs image inboxes process 0 net.channels c channel is
    ∙ ap (λ (n : ℕ). items_at_hand inputs image inboxes process n channel) sum

-- where the image's count is that of the items that a process of its node got
pub received_stands : (net : Network) (home : ℕ) (histories : List (List ℤ)) (made : ℕ → ℕ) (image : ImageView)
    (c p : ℕ) (channel : Channel) → ImageStands net histories made image → IsLaidOut net home image
    → slice_get net.channels c ≡ Some channel → channel.consumer ≡ Process p → IsTrue (has_process net home p)
    → received_of image c ≡ length (got_on c (acts_of net histories made p))
received_stands net home histories made image c p channel stands laid is to here =
    let of = end_there net home image c channel laid is (consumer_on net home p channel to here) in
    let end = stands.ends of.at of.saved channel of.entry (ap (slice_get net.channels) of.is_channel ∙ is) in
    let counting : is_counting of.saved.end ≡ true =
    ap is_counting of.is_end ∙ counts_there net home p channel of.end to here of.role in
    ap received_at of.there
    ∙ (ap (λ (e : End). received_at (Some e)) (sym of.is_end)
    ∙ (end.received p to counting ∙ ap (λ (n : ℕ). length (got_on n (acts_of net histories made p))) of.is_channel))
