-- What a network means grows with its inputs.
use Rattle.std.proofs.Common.{◌≡◌, ◌⊎◌, inl, inr, ℕ, zero, suc, ◌<◌, ◌≤◌, ℤ, List, [], length, get_or, Option, Some}
use Rattle.std.proofs.Common.{None, refl, arith}
use Rattle.std.specs.Prelude.{slice_get}
use Rattle.std.proofs.Math.Logic.{∥∥₁_map}
use Rattle.std.proofs.lemmas.Option.{slice_get_cases}
use Rattle.kahn_net.specs.Approximations.{next_histories, next_history, output_at}
use Rattle.kahn_net.specs.Common.{Belongs}
use Rattle.kahn_net.specs.Laws.Approximations.{below_solutions, next_histories-at, next_histories_past}
use Rattle.kahn_net.specs.Laws.Prefixes.{prefix_along, prefix_item, prefix_length, prefix_nil, prefix_refl}
use Rattle.kahn_net.specs.Laws.Prefixes.{prefix_trans, prefixes_trans}
use Rattle.kahn_net.specs.Laws.Streams.{monotone}
use Rattle.kahn_net.specs.Streams.{ArePrefixes}
use Rattle.protocol.specs.Node.Common.{approximation, Channel, Code, history_of, IsPrefix, IsValid, Network, Outside}
use Rattle.protocol.specs.Node.Common.{Port, Process}
use Rattle.growing.specs.Laws.{ApproximationsAreMonotone, BelongsStays, ReachesStays, SolutionsGrow, StreamsStay}

module _ (net : Network) (valid : IsValid net) where
  -- a process makes the same of more, and then more
  output_grows : (p : ℕ) (small big : List (List ℤ)) (c : ℕ) → ArePrefixes small big
      → IsPrefix (output_at (slice_get net.codes p) small c) (output_at (slice_get net.codes p) big c)
  output_grows p small big c more = at (slice_get net.codes p) refl
    where
      at : (o : Option Code) → slice_get net.codes p ≡ o → IsPrefix (output_at o small c) (output_at o big c)
      at None is = prefix_refl []
      at (Some code) is = monotone code small big c (valid.codes p code is).passes more

  module _ (before after small big : List (List ℤ)) (longer : ArePrefixes before after) (more : ArePrefixes small big)
    where
      -- and so does each producer, be it the outside or a process
      producer_grows : (c : ℕ) (port : Port)
          → IsPrefix (next_history net.codes before small c port) (next_history net.codes after big c port)
      producer_grows c Outside = longer.at c
      producer_grows c (Process p) = output_grows p small big c more

      -- One step of the equations. `next_histories_grow` of `kahn_net` is the case where both have the same inputs.
      step_grows : ArePrefixes (next_histories net before small) (next_histories net after big)
      step_grows = record { at = λ c. at c (slice_get_cases net.channels c).1 }
        where
          at : (c : ℕ)
              → ((x : Channel) × (c < length net.channels) × (slice_get net.channels c ≡ Some x)
              × (get_or net.channels c x ≡ x)) ⊎ ((length net.channels ≤ c) × (slice_get net.channels c ≡ None))
              → IsPrefix (history_of (next_histories net before small) c) (history_of (next_histories net after big) c)
          at c (inl here) =
              prefix_along _ _ _ _ (next_histories-at net before small c here.0 here.2)
              (next_histories-at net after big c here.0 here.2) (producer_grows c here.0.producer)
          at c (inr past) = prefix_nil _ _ (next_histories_past net before small c past.0)

pub approximations_are_monotone : ApproximationsAreMonotone
approximations_are_monotone net before after zero valid longer = longer
approximations_are_monotone net before after (suc n) valid longer =
    step_grows net valid before after (approximation net before n) (approximation net after n) longer
    (approximations_are_monotone net before after n valid longer)

pub solutions_grow : SolutionsGrow
solutions_grow net before after histories n valid later solution =
    prefixes_trans (approximation net before n) (approximation net after n) histories
    (approximations_are_monotone net before after n valid later.longer)
    (below_solutions net valid after later.fits n histories solution)

module _ (net : Network) (before after : List (List ℤ)) (valid : IsValid net) (longer : ArePrefixes before after) where
  -- one channel's history in the n-th approximation
  pub history_grows : (n c : ℕ)
      → IsPrefix (history_of (approximation net before n) c) (history_of (approximation net after n) c)
  history_grows n = (approximations_are_monotone net before after n valid longer).at

  pub belongs_there : (c k : ℕ) (v : ℤ) → Belongs net before c k v → Belongs net after c k v
  belongs_there c k v belongs =
      record { n = belongs.n; is = prefix_item _ _ k v (history_grows belongs.n c) belongs.is }

pub streams_stay : StreamsStay
streams_stay net before after channel items valid longer stream =
    ∥∥₁_map stream (λ s. (s.0, prefix_trans items _ _ s.1 (history_grows net before after valid longer s.0 channel)))

pub belongs_stays : BelongsStays
belongs_stays net before after channel place item valid longer =
    belongs_there net before after valid longer channel place item

pub reaches_stays : ReachesStays
reaches_stays net before after channel number valid longer reaches =
    ∥∥₁_map reaches (λ r. (
      r.0,
      (let more = prefix_length _ _ (history_grows net before after valid longer r.0 channel) in
          let few = r.1 in
          omega (arith, few, more)),
    ))
