-- Laws of images as a store takes them: what a node has of a valid network may be written, and is of one shape wherever
-- its processes stand.
use Rattle.std.proofs.Common.{◌≡◌, ℕ, zero, suc, ◌+◌, ◌^◌, ◌<◌, ◌≤◌, Bool, ℤ, List, [], ◌∷◌, length, map, Some, None}
use Rattle.std.proofs.Common.{refl, sym, ◌∙◌, arith}
use Rattle.std.specs.Prelude.{slice_get, ◌&&◌, nat_lt, nat_le, replicate}
use Rattle.std.proofs.lemmas.Bool.{le-leb}
use Rattle.std.proofs.lemmas.List.{length-replicate, get_or_past}
use Rattle.std.proofs.lemmas.List.Elements.{All-nil, All-cons, All-append}
use Rattle.std.proofs.lemmas.Option.{slice_get_cases, get_or_from_slice_get}
use Rattle.protocol.specs.Node.Common.{history_of, Code, Network, IsValid, Standing, StandsAt, At, approximation}
use Rattle.protocol.specs.Node.Common.{Channel, MAX_COUNT, MAX_NODES, MAX_CHANNELS, LogState, IsInLog, log_end}
use Rattle.protocol.specs.Node.Common.{SavedProcessView, ImageView, log_at, SavedEnd, End, Receives, Sends, Both}
use Rattle.protocol.specs.Node.Common.{variables_of, role_of, IsRecord, MAX_DECISIONS, numbers_where, has_process}
use Rattle.protocol.specs.Node.Common.{has_end, ImageStands, IsLaidOut, CountIsWithin, CountsAreWithin, LogsAreWithin}
use Rattle.protocol.specs.Node.Common.{opening_image, opening_record}
use Rattle.kahn_net.specs.Fits.{AreCounted}
use Rattle.record.specs.Common.{NotBegun, Done, MAX_TIMES, MAX_REPEATS, MAX_LOG_ITEMS}
use Rattle.ckpt_codec.specs.Common.{MAX_PROCESSES, MAX_VARIABLES, Field, IsAllowed, AreAllowed, at_most, count}
use Rattle.ckpt_codec.specs.Common.{image_fields}
use Rattle.retained.specs.LogState.{IsWithinLimits}
use Rattle.ckpt_codec.specs.RecordText.{any, remaining, item, flag, between, mode_fields, process_fields}
use Rattle.ckpt_codec.specs.RecordText.{processes_fields, retained_count, end_fields, saved_end_fields, ends_fields}
use Rattle.ckpt_codec.specs.RecordText.{version_field}
use Rattle.ckpt_codec.specs.declared.version.TheConstants.{VERSION}
use Rattle.ckpt_codec.specs.ItemLaws.{item_allowed}
use Rattle.ckpt_store.specs.Shapes.{HasShapeOf}
use Rattle.ckpt_store.specs.Spelling.{IsLike}
use Rattle.ckpt_store.proofs.Parts.{whole}
use Rattle.ckpt_store.proofs.Alike.{like_of}
use Rattle.protocol_laws.specs.Node.OpeningLaws.{reached_opening, laid_out_opening, counts_opening, logs_opening}
use Rattle.protocol_laws.specs.Node.ImageLaws.{channel_of_entry}
use Rattle.protocol_laws.specs.Node.NumberedLaws.{where_mark, where_count}
use Rattle.protocol_laws.specs.Node.SharingLaws.{share_within}
use Rattle.protocol_laws.specs.Node.VariableLaws.{variables_stay}
use Rattle.protocol_laws.specs.Node.SiteLaws.{site_of_standing, site_short}
use Rattle.protocol_laws.specs.Node.RepeatLaws.{AreFew, HasFewPasses, passes_few}

-- ---- fields of one kind

one_field : (field : Field) → IsAllowed field → AreAllowed (field ∷ [])
one_field field is = All-cons IsAllowed field [] is (All-nil IsAllowed)

items_allowed : (zs : List ℤ) → AreAllowed (map item zs)
items_allowed [] = All-nil IsAllowed
items_allowed (z ∷ zs) = All-cons IsAllowed _ _ (item_allowed z) (items_allowed zs)

count_allowed : (n : ℕ) → n ≤ MAX_COUNT → IsAllowed (count n)
count_allowed n le = (omega arith, le-leb n MAX_COUNT le)

-- a number of a list, ascending from the least that is left
number_allowed : (width least limit n : ℕ) → limit ≤ 256 ^ width → least ≤ n → n < limit
    → IsAllowed (between width least limit n)
number_allowed width least limit n small above below = (omega arith, grind arith)

limited_allowed : (width limit n : ℕ) → limit < 256 ^ width → n ≤ limit → IsAllowed (at_most width limit n)
limited_allowed width limit n small le = (omega arith, le-leb n limit le)

-- ---- processes

-- a point takes 4 bytes, and no more passes remain there than may be written
abbrev pub HasShortSite : Standing → Type 0
HasShortSite (NotBegun vars) = Unit {0}
HasShortSite (At point vars) = (point.site < 256 ^ 4) × HasFewPasses point.left
HasShortSite (Done vars) = Unit {0}

-- what may be written of a process
pub record IsShortStanding (standing : Standing) : Type 0 where
  pub site : HasShortSite standing
  pub variables : length (variables_of standing) ≤ MAX_VARIABLES

passes_allowed : (left : List ℕ) → AreFew left → AreAllowed (map remaining left)
passes_allowed [] few = All-nil IsAllowed
passes_allowed (k ∷ left) few =
    All-cons IsAllowed _ _ (number_allowed 2 1 (suc MAX_TIMES) k (omega arith) few.0 (omega (arith, few.1)))
    (passes_allowed left few.2)

mode_allowed : (standing : Standing) → HasShortSite standing → AreAllowed (mode_fields standing)
mode_allowed (NotBegun vars) short = one_field (at_most 1 2 0) (omega arith, refl)
mode_allowed (At point vars) short =
    let mode : IsAllowed (at_most 1 2 1) = (omega arith, refl) in
    let site : IsAllowed (any 4 point.site) = (short.0, refl) in
    let depth = limited_allowed 1 MAX_REPEATS (length point.left) (omega arith) short.1.count in
    search (All-cons IsAllowed, mode, site, depth, passes_allowed point.left short.1.each)
mode_allowed (Done vars) short = one_field (at_most 1 2 2) (omega arith, refl)

process_allowed : (least : ℕ) (p : SavedProcessView) → least ≤ p.number → p.number < MAX_PROCESSES
    → IsShortStanding p.standing → AreAllowed (process_fields None least p)
process_allowed least p above below short =
    let number = number_allowed 1 least MAX_PROCESSES p.number (omega arith) above below in
    let many = limited_allowed 1 MAX_VARIABLES (length (variables_of p.standing)) (omega arith) short.variables in
    let mode = mode_allowed p.standing short.site in
    search (All-cons IsAllowed, All-append IsAllowed, number, mode, many, items_allowed)

-- ---- ends

-- what may be written of an end
abbrev pub IsShortEnd : End → Type 0
IsShortEnd (Receives received) = received ≤ MAX_COUNT
IsShortEnd (Sends log) = IsWithinLimits log
IsShortEnd (Both received log) = IsWithinLimits log × IsInLog log received

retained_allowed : (base from n : ℕ) → n ≤ MAX_LOG_ITEMS → base + n ≤ MAX_COUNT → from ≤ base + n
    → IsAllowed (retained_count base from n)
retained_allowed base from n few last above = (omega arith, grind arith)

log_allowed : (limit from : ℕ) (log : LogState) → limit ≤ MAX_COUNT → log.base ≤ limit → from ≤ log_end log
    → IsWithinLimits log
    → AreAllowed (at_most 8 limit log.base ∷ retained_count log.base from (length log.items) ∷ map item log.items)
log_allowed limit from log small below above within =
    let base : IsAllowed (at_most 8 limit log.base) = (omega arith, le-leb log.base limit below) in
    let many = retained_allowed log.base from (length log.items) within.count within.last above in
    search (All-cons IsAllowed, base, many, items_allowed)

end_allowed : (end : End) → IsShortEnd end → AreAllowed (end_fields end)
end_allowed (Receives received) short = one_field _ (count_allowed received short)
end_allowed (Sends log) short = log_allowed MAX_COUNT 0 log (omega arith) (omega arith) (omega arith) short
end_allowed (Both received log) short =
    let within = short.0 in
    let in_log = short.1 in
    let few : received ≤ MAX_COUNT = omega arith in
    let rest = log_allowed received received log few in_log.from_base in_log.to_end within in
    search (All-cons IsAllowed, count_allowed received few, rest)

role_short : (end : End) → role_of end ≤ 2
role_short end = grind arith

saved_end_allowed : (least : ℕ) (e : SavedEnd) → least ≤ e.channel → e.channel < MAX_CHANNELS → IsShortEnd e.end
    → AreAllowed (saved_end_fields None least e)
saved_end_allowed least e above below short =
    let number = number_allowed 2 least MAX_CHANNELS e.channel (omega arith) above below in
    let role = limited_allowed 1 2 (role_of e.end) (omega arith) (role_short e.end) in
    search (All-cons IsAllowed, number, role, end_allowed e.end short)

-- ---- entries whose numbers ascend

-- The fields of a list of entries may be written. What it takes is that those of one entry may stand before others.
module _ {A : Type 0} (number : A → ℕ) (limit : ℕ) (IsShort : A → Type 0) (fields : ℕ → List A → List Field)
    (none : (least : ℕ) → AreAllowed (fields least []))
    (one : (least : ℕ) (x : A) (xs : List A) → least ≤ number x → number x < limit → IsShort x
    → AreAllowed (fields (suc (number x)) xs) → AreAllowed (fields least (x ∷ xs))) where
  entries_allowed : (test : ℕ → Bool) (first count least : ℕ) (xs : List A) → map number xs ≡ numbers_where test first count
      → least ≤ first → first + count ≤ limit → ((k : ℕ) (x : A) → slice_get xs k ≡ Some x → IsShort x)
      → AreAllowed (fields least xs)
  entries_allowed test first count least [] numbers low few short = none least
  entries_allowed test first zero least (x ∷ xs) numbers low few short = absurd cc
  entries_allowed test first (suc count) least (x ∷ xs) numbers low few short =
      let own = short 0 x refl in
      grind (
        arith,
        own,
        entries_allowed test (suc first) count least (x ∷ xs),
        one least x xs,
        entries_allowed test (suc first) count (suc (number x)) xs,
        λ (k : ℕ) (y : A). short (suc k) y,
      )

-- ---- images

-- the code of a process of an image
pub code_of_entry : (net : Network) (home : ℕ) (image : ImageView) (k : ℕ) (saved : SavedProcessView)
    → IsLaidOut net home image → slice_get image.processes k ≡ Some saved
    → (code : Code) × (slice_get net.codes saved.number ≡ Some code)
code_of_entry net home image k saved laid is =
    let mark =
    where_mark (λ (s : SavedProcessView). s.number) (has_process net home) 0 (length net.codes) image.processes k saved
    laid.processes is in
    grind (arith, slice_get_cases net.codes saved.number, mark)

site_written : (net : Network) (p : ℕ) (code : Code) (inputs : List (List ℤ)) (m : ℕ) (standing : Standing)
    → IsValid net → slice_get net.codes p ≡ Some code → StandsAt code inputs m standing → HasShortSite standing
site_written net p code inputs m (NotBegun vars) valid here stands = tt
site_written net p code inputs m (At point vars) valid here stands = (
  site_short net p code point valid here (site_of_standing code inputs m (At point vars) stands),
  passes_few net p code inputs m point vars valid here stands,
)
site_written net p code inputs m (Done vars) valid here stands = tt

-- each process of an image that stands there may be written
pub standing_short : (net : Network) (home : ℕ) (histories : List (List ℤ)) (made : ℕ → ℕ) (image : ImageView)
    → IsValid net → IsLaidOut net home image → ImageStands net histories made image
    → (k : ℕ) (saved : SavedProcessView) → slice_get image.processes k ≡ Some saved → IsShortStanding saved.standing
standing_short net home histories made image valid laid stands k saved is =
    let code = code_of_entry net home image k saved laid is in
    let here = stands.processes k saved code.0 is code.1 in
    let same = variables_stay code.0 histories (made saved.number) saved.standing here in
    let few = (valid.codes saved.number code.0 code.1).variables in
    record {
      site = site_written net saved.number code.0 histories (made saved.number) saved.standing valid code.1 here;
      variables = omega (arith, same, few);
    }

-- no input is longer than the greatest count
input_short : (inputs : List (List ℤ)) (c : ℕ) → AreCounted inputs → length (history_of inputs c) ≤ MAX_COUNT
input_short inputs c short = grind (arith, short c, slice_get_cases inputs c, get_or_from_slice_get, get_or_past)

-- each end may be written
end_short : (net : Network) (home : ℕ) (inputs : List (List ℤ)) (image : ImageView) → AreCounted inputs
    → IsLaidOut net home image → CountsAreWithin net inputs image → LogsAreWithin image → (k : ℕ) (saved : SavedEnd)
    → slice_get image.ends k ≡ Some saved → IsShortEnd saved.end
end_short net home inputs image short laid counts logs k saved is =
    at saved.end (counts k saved is) (λ log has. limits log has)
  where
    channel : (channel : Channel) × (slice_get net.channels saved.channel ≡ Some channel)
    channel = channel_of_entry net home image k saved laid is

    limits : (log : LogState) → log_at (Some (saved.end)) ≡ Some log → IsWithinLimits log
    limits log has =
        let within = logs k saved log is has in
        let share = share_within image in
        record { count = omega arith; last = within.last }

    at : (end : End) → CountIsWithin net inputs saved.channel end
        → ((log : LogState) → log_at (Some end) ≡ Some log → IsWithinLimits log) → IsShortEnd end
    at (Receives received) within of = grind (
      arith,
      input_short inputs saved.channel short,
      within.of_input channel.0 received channel.1,
      λ (q : ℕ). within.of_link channel.0 q received channel.1,
    )
    at (Sends log) within of = of log refl
    at (Both received log) within of = (of log refl, within.in_log received log refl)

-- What a node has of a valid network may be written alone.
pub image_allowed : (net : Network) (home : ℕ) (inputs histories : List (List ℤ)) (made : ℕ → ℕ) (image : ImageView)
    → IsValid net → AreCounted inputs → IsLaidOut net home image → ImageStands net histories made image
    → CountsAreWithin net inputs image → LogsAreWithin image → AreAllowed (image_fields None image)
image_allowed net home inputs histories made image valid short laid stands counts logs =
    let processes =
    where_count (λ (s : SavedProcessView). s.number) (has_process net home) 0 (length net.codes) image.processes
    laid.processes in
    let ends =
    where_count (λ (s : SavedEnd). s.channel) (has_end net home) 0 (length net.channels) image.ends laid.ends in
    let one = limited_allowed 1 MAX_PROCESSES (length image.processes) (omega arith) (omega arith) in
    let other = limited_allowed 2 MAX_CHANNELS (length image.ends) (omega arith) (omega arith) in
    let first =
    entries_allowed (λ (p : SavedProcessView). p.number) MAX_PROCESSES (λ (p : SavedProcessView). IsShortStanding p.standing)
    (processes_fields None) (λ least. All-nil IsAllowed)
    (λ least p ps above below short rest. All-append IsAllowed (process_fields None least p) _
    (process_allowed least p above below short) rest)
    (has_process net home) 0 (length net.codes) 0 image.processes laid.processes (omega arith) (omega arith)
    (standing_short net home histories made image valid laid stands) in
    let second =
    entries_allowed (λ (e : SavedEnd). e.channel) MAX_CHANNELS (λ (e : SavedEnd). IsShortEnd e.end) (ends_fields None)
    (λ least. All-nil IsAllowed)
    (λ least e es above below short rest. All-append IsAllowed (saved_end_fields None least e) _
    (saved_end_allowed least e above below short) rest)
    (has_end net home) 0 (length net.channels) 0 image.ends laid.ends (omega arith) (omega arith)
    (end_short net home inputs image short laid counts logs) in
    search (All-append IsAllowed, All-cons IsAllowed, one, first, other, second)

-- ---- shapes

-- Two lists have the same numbers, and entries of one number agree. Then the lists agree.
same_maps : {A : Type 0} (number f : A → ℕ) (xs ys : List A) → map number xs ≡ map number ys
    → ((k : ℕ) (x y : A) → slice_get xs k ≡ Some x → slice_get ys k ≡ Some y → number x ≡ number y → f x ≡ f y)
    → map f xs ≡ map f ys
same_maps number f [] [] same each = refl
same_maps number f [] (y ∷ ys) same each = absurd cc
same_maps number f (x ∷ xs) [] same each = absurd cc
same_maps number f (x ∷ xs) (y ∷ ys) same each =
    let rest = same_maps number f xs ys (cc) (λ k. each (suc k)) in rw (each 0 x y refl refl (cc), rest) refl

-- two images of a node have the same shape, wherever their processes stand
pub same_shape : (net : Network) (home : ℕ) (histories later : List (List ℤ)) (made come : ℕ → ℕ)
    (permanent image : ImageView)
    → IsLaidOut net home permanent → ImageStands net histories made permanent → IsLaidOut net home image
    → ImageStands net later come image → HasShapeOf permanent image
same_shape net home histories later made come permanent image first stands second goes = record {
  numbers = numbers;
  variables =
      same_maps (λ (p : SavedProcessView). p.number) (λ (p : SavedProcessView). length (variables_of p.standing))
      image.processes permanent.processes numbers variables;
  channels = channels;
  roles =
      same_maps (λ (e : SavedEnd). e.channel) (λ (e : SavedEnd). role_of e.end) image.ends permanent.ends channels roles;
}
  where
    numbers : map (λ (p : SavedProcessView). p.number) image.processes
        ≡ map (λ (p : SavedProcessView). p.number) permanent.processes
    numbers = second.processes ∙ sym first.processes

    channels : map (λ (e : SavedEnd). e.channel) image.ends ≡ map (λ (e : SavedEnd). e.channel) permanent.ends
    channels = second.ends ∙ sym first.ends

    -- a process has as many variables as its code
    variables : (k : ℕ) (p q : SavedProcessView) → slice_get image.processes k ≡ Some p
        → slice_get permanent.processes k ≡ Some q → p.number ≡ q.number
        → length (variables_of p.standing) ≡ length (variables_of q.standing)
    variables k p q is there number =
        let code = code_of_entry net home image k p second is in
        variables_stay code.0 later (come p.number) p.standing (goes.processes k p code.0 is code.1)
        ∙ sym (variables_stay code.0 histories (made q.number) q.standing
        (stands.processes k q code.0 there (rw (← number) code.1)))

    -- an end has the role that the node has at its channel
    roles : (k : ℕ) (e f : SavedEnd) → slice_get image.ends k ≡ Some e → slice_get permanent.ends k ≡ Some f
        → e.channel ≡ f.channel → role_of e.end ≡ role_of f.end
    roles k e f is there number =
        let channel = channel_of_entry net home image k e second is in
        second.roles k e channel.0 is channel.1
        ∙ sym (first.roles k f channel.0 there (rw (← number) channel.1))

-- So one that may be written alone may be written beside another.
pub image_like : (net : Network) (home : ℕ) (inputs histories later : List (List ℤ)) (made come : ℕ → ℕ)
    (permanent image : ImageView)
    → IsValid net → AreCounted inputs → IsLaidOut net home permanent → ImageStands net histories made permanent
    → IsLaidOut net home image → ImageStands net later come image
    → CountsAreWithin net inputs image → LogsAreWithin image → IsLike permanent image
image_like net home inputs histories later made come permanent image valid short first stands second goes counts logs =
    like_of permanent image (image_allowed net home inputs later come image valid short second goes counts logs)
    (same_shape net home histories later made come permanent image first stands second goes)

-- ---- before the first event

-- the image of a node before its first event may be written
pub opening_image_allowed : (net : Network) (home : ℕ) → IsValid net
    → AreAllowed (image_fields None (opening_image net home))
opening_image_allowed net home valid =
    let reached = reached_opening net [] 0 home in
    image_allowed net home [] (approximation net [] reached.n) reached.permanent_acts (opening_image net home) valid
    (λ c items is. absurd (cc)) (laid_out_opening net home) reached.permanent
    (counts_opening net home []) (logs_opening net home)

entries_opening : (nodes : ℕ) → AreAllowed (map count (replicate nodes 0))
entries_opening zero = All-nil IsAllowed
entries_opening (suc nodes) = All-cons IsAllowed (count 0) _ (omega arith, refl) (entries_opening nodes)

-- and so is its record
pub opening_allowed : (net : Network) (nodes number : ℕ) → IsValid net → number < nodes → nodes ≤ MAX_NODES
    → IsRecord (opening_record net nodes number)
opening_allowed net nodes number valid below few =
    let highest : List ℕ = replicate nodes 0 in
    let many : length highest ≡ nodes = length-replicate nodes 0 in
    let version : IsAllowed (version_field VERSION) = (omega arith, refl) in
    let own : IsAllowed (any 1 number) = (omega arith, refl) in
    let last : Field =
    record { width = 1; allows = λ v. nat_lt number v && nat_le v MAX_NODES; value = length highest } in
    let lengths : IsAllowed last = (omega arith, grind arith) in
    whole (opening_record net nodes number) (record {
      head = search (All-cons IsAllowed, All-nil IsAllowed, version, own, count_allowed 0 (omega arith), lengths);
      entries = entries_opening nodes;
      decisions = one_field (at_most 1 MAX_DECISIONS 0) (omega arith, refl);
      permanent = opening_image_allowed net number valid;
      tentative = one_field (flag 0) (omega arith, refl);
    })
