-- What the files of a folder hold, beside what the processes put that were run again.
use Rattle.std.proofs.Common.{◌≡◌, ◌⊎◌, inl, inr, ℕ, ◌≤◌, ◌<◌, ℤ, List, length, map, take, drop, min, get_or, zero, suc, [], ◌∷◌, None, Bool, true, Some, refl, sym, ap, ◌∙◌, arith, subst}
use Rattle.std.specs.Prelude.{slice_get}
use Rattle.std.proofs.Math.Logic.{∥∥₁_elim, ∥∥₁_map, ∥∥₁_prop}
use Rattle.std.proofs.Props.{props}
use Rattle.std.proofs.lemmas.Bool.{cases_lt}
use Rattle.std.proofs.lemmas.List.{length-take, take-append-drop, take_all}
use Rattle.std.proofs.lemmas.Option.{slice_get_cases, slice_get_within}
use Rattle.kahn_net.specs.Approximations.{approximation, IsReached}
use Rattle.kahn_net.specs.Fits.{Fits}
use Rattle.kahn_net.specs.Laws.Prefixes.{prefix_length, prefix_of, prefix_trans}
use Rattle.kahn_net.specs.Streams.{history_of, IsPrefix}
use Rattle.kahn_net.specs.Syntax.{Network}
use Rattle.kahn_net.specs.Valid.{IsValid}
use Rattle.kahn_net.specs.declared.program.Channel.{Channel}
use Rattle.kahn_net.specs.declared.program.Port.{Port}
use Rattle.kahn_net.specs.declared.program.Port.TheVariants.{Outside, Process}
use Rattle.protocol.specs.World.Common.{output_channels}
use Rattle.protocol.specs.World.Released.{IsStreamOf}
use Rattle.protocol_laws.specs.World.OutputLaws.{channel_there, map_at}
use Rattle.rerun.specs.Places.{AreMeant, IsPlace}
use Rattle.rerun.specs.Resting.{IsAll}
use Rattle.rerun.specs.Tables.{log_on, TableView}
use Rattle.resuming.specs.CatchingUp.{HasTakenAll, HaveTakenAll}
use Rattle.retained.specs.LogState.{log_end}
use Rattle.station.specs.OutputView.{output_view, outputs_view}
use Rattle.station.specs.declared.output.Output.{Output}
use Rattle.folder_status.specs.Endings.{are_compared, AreAll, AreRight, AreSame, AreStreams, BeginAlike, compared_at, HasOther, IsMissed, IsRight, IsShortAt, IsWrongAt}
use Rattle.folder_status.specs.Kept.{items_of, kept_streams}
use Rattle.folder_status.specs.declared.kept.KeptOutput.{KeptOutput}
use Rattle.folder_status.proofs.Histories.{begin_alike, none_longer, rests_there, whole_there}

-- what an outlet in memory took is its list
abbrev pub as_taken : List ℤ → List ℤ
as_taken items = items

-- how many items of a file were compared is the number of its place
counted_at : (kept : List KeptOutput) (outputs : List (Output (List ℤ))) (place count : ℕ) (one : KeptOutput)
    → slice_get kept place ≡ Some one → slice_get (are_compared kept outputs) place ≡ Some count
    → (output : Output (List ℤ)) × (slice_get outputs place ≡ Some output) × (count ≡ compared_at one output)
counted_at [] outputs place count one here is = absurd cc
counted_at (x ∷ kept) [] place count one here is = absurd cc
counted_at (x ∷ kept) (output ∷ outputs) zero count one here is =
    let first : x ≡ one = cc in
    let same : compared_at x output ≡ count = cc in
    (output, refl, sym same ∙ ap (λ (k : KeptOutput). compared_at k output) first)
counted_at (x ∷ kept) (output ∷ outputs) (suc place) count one here is = counted_at kept outputs place count one here is

module _ (net : Network) (valid : IsValid net) (inputs : List (List ℤ)) (fits : Fits net inputs) (t : TableView)
    (kept : List KeptOutput) (outputs : List (Output (List ℤ)))
    (kept_listed : map (λ (one : KeptOutput). one.channel) kept ≡ output_channels 0 net.channels)
    (listed : map (λ (output : Output (List ℤ)). output.channel) outputs ≡ output_channels 0 net.channels)
    (taken : HaveTakenAll net inputs t (outputs_view as_taken outputs)) where
  kept_channel : (place : ℕ) (one : KeptOutput) → slice_get kept place ≡ Some one
      → slice_get (output_channels 0 net.channels) place ≡ Some one.channel
  kept_channel place one here = ap (λ (l : List ℕ). slice_get l place) (sym kept_listed) ∙ map_at (λ (one : KeptOutput). one.channel) kept place one here

  -- what stands at one place is of one channel
  one_channel : (place : ℕ) (one : KeptOutput) (output : Output (List ℤ)) → slice_get kept place ≡ Some one
      → slice_get outputs place ≡ Some output → one.channel ≡ output.channel
  one_channel place one output here there =
      let a = kept_channel place one here in
      let b = ap (λ (l : List ℕ). slice_get l place) (sym listed) ∙ map_at (λ (output : Output (List ℤ)). output.channel) outputs place output there in
      cc

  -- on which a process puts
  made_by : (c : ℕ) (channel : Channel) (port : Port) → slice_get net.channels c ≡ Some channel → channel.consumer ≡ Outside
      → channel.producer ≡ port → (p : ℕ) × (channel.producer ≡ Process p)
  made_by c channel Outside is outside from = absurd (valid.joined c channel is from outside)
  made_by c channel (Process p) is outside from = (p, from)

  made : (place : ℕ) (one : KeptOutput) → slice_get kept place ≡ Some one
      → (channel : Channel) × (p : ℕ) × (slice_get net.channels one.channel ≡ Some channel) × (channel.producer ≡ Process p)
  made place one here =
      let found = channel_there 0 net.channels place one.channel (kept_channel place one here) in
      let same : found.0 ≡ one.channel = omega (arith, found.2) in
      let is : slice_get net.channels one.channel ≡ Some found.1 = subst (λ (c : ℕ). slice_get net.channels c ≡ Some found.1) same found.3 in
      let by = made_by one.channel found.1 found.1.producer is found.4 refl in
      (found.1, by.0, is, by.1)

  taken_at : (place : ℕ) (output : Output (List ℤ)) → slice_get outputs place ≡ Some output
      → HasTakenAll net inputs t (output_view as_taken output)
  taken_at place output there = taken place (output_view as_taken output) (map_at (output_view as_taken) outputs place output there)

  -- what was put begins the channel's history
  stream_at : (place : ℕ) (one : KeptOutput) (output : Output (List ℤ)) → slice_get kept place ≡ Some one
      → slice_get outputs place ≡ Some output → IsStreamOf net inputs one.channel output.outlet
  stream_at place one output here there =
      subst (λ (c : ℕ). IsStreamOf net inputs c output.outlet) (sym (one_channel place one output here there))
      (taken_at place output there).agrees.stream

  count_at : (place : ℕ) (one : KeptOutput) (output : Output (List ℤ)) → slice_get kept place ≡ Some one
      → slice_get outputs place ≡ Some output → length output.outlet ≡ log_end (log_on t one.channel)
  count_at place one output here there =
      (taken_at place output there).all ∙ ap (λ (c : ℕ). log_end (log_on t c)) (sym (one_channel place one output here there))

  -- ---- what was compared

  pub streams : (all : Bool) → AreRight all kept outputs → AreStreams net inputs kept (are_compared kept outputs)
  streams all right place count one here is =
      let found = counted_at kept outputs place count one here is in
      let output = found.0 in
      let alike = (right place one output here found.1).alike in
      let same : take count (items_of one) ≡ take count output.outlet =
      subst (λ (n : ℕ). take n (items_of one) ≡ take n output.outlet) (sym found.2) alike in
      subst (IsStreamOf net inputs one.channel) (sym same)
      (∥∥₁_map (stream_at place one output here found.1)
      (λ s. (s.0, prefix_trans _ _ _ (beginning count output.outlet) s.1)))
    where
      beginning : (n : ℕ) (xs : List ℤ) → IsPrefix (take n xs) xs
      beginning n xs = prefix_of (record { rest = drop n xs; is = sym (take-append-drop n xs) })

  -- ---- what is missing

  pub missed : (all : Bool) → AreRight all kept outputs → (place : ℕ) → IsShortAt kept outputs place → ∥ IsMissed net inputs kept ∥₁
  missed all right place short =
      let one = short.one in
      let output = short.output in
      let alike = (right place one output short.one_is short.output_is).alike in
      ∥∥₁_map (stream_at place one output short.one_is short.output_is)
      (λ s. record {
        n = s.0;
        place = place;
        output = one;
        there = short.one_is;
        begins = prefix_trans _ _ _ (shorter (items_of one) output.outlet alike short.short) s.1;
        more = let long = prefix_length _ _ s.1 in let less = short.short in omega (arith, long, less);
      })
    where
      shorter : (xs ys : List ℤ) → BeginAlike xs ys → length xs < length ys → IsPrefix xs ys
      shorter xs ys alike less =
          let count : min (length xs) (length ys) ≡ length xs = omega (arith, less) in
          let same : take (length xs) xs ≡ take (length xs) ys = subst (λ (n : ℕ). take n xs ≡ take n ys) count alike in
          sym (take_all (length xs) xs (omega arith)) ∙ same

  -- ---- what differs

  right_of : (all : Bool) → (all ≡ true → ∥ IsAll net inputs t ∥₁) → (place : ℕ) (one : KeptOutput) (output : Output (List ℤ))
      → slice_get kept place ≡ Some one → slice_get outputs place ≡ Some output → (a b : ℕ)
      → IsPrefix (items_of one) (history_of (approximation net inputs a) one.channel)
      → IsPrefix output.outlet (history_of (approximation net inputs b) one.channel) → IsRight all one output
  right_of all has place one output here there a b mine its = record {
    alike = begin_alike net valid inputs fits a b one.channel (min (length (items_of one)) (length output.outlet)) (items_of one) output.outlet mine its
        (omega arith) (omega arith);
    no_more = λ is. elim (cases_lt (length output.outlet) (length (items_of one))) [
      | inl more ↦ absurd (∥∥₁_elim (has is) (hlevel props) (λ (every : IsAll net inputs t).
          let by = made place one here in
          let count = count_at place one output here there in
          none_longer net valid inputs fits (λ c. log_end (log_on t c)) (λ n c p channel is from. every n c p channel is from) a one.channel by.1 by.0
          (items_of one) by.2 by.3 mine (omega (arith, more, count))))
      | inr few ↦ few
    ];
  }

  pub other : (all : Bool) → (all ≡ true → ∥ IsAll net inputs t ∥₁) → (place : ℕ) → IsWrongAt all kept outputs place → HasOther net inputs kept
  other all has place wrong = record {
    place = place;
    output = wrong.one;
    there = wrong.one_is;
    other = λ stream. ∥∥₁_elim stream (hlevel props) (λ mine.
        ∥∥₁_elim (stream_at place wrong.one wrong.output wrong.one_is wrong.output_is) (hlevel props)
        (λ its. wrong.wrong (right_of all has place wrong.one wrong.output wrong.one_is wrong.output_is mine.0 its.0 mine.1 its.1)));
  }

  -- ---- what is whole

  put_within : (n : ℕ) → AreMeant net inputs t n → (c p : ℕ) (channel : Channel) → slice_get net.channels c ≡ Some channel
      → channel.producer ≡ Process p → log_end (log_on t c) ≤ length (history_of (approximation net inputs n) c)
  put_within n meant c p channel is from =
      let count = (meant c p channel is from).count in
      let cut = length-take (log_end (log_on t c)) (history_of (approximation net inputs n) c) in
      omega (arith, count, cut)

  whole_by : (n : ℕ) → AreMeant net inputs t n → IsAll net inputs t → AreSame kept outputs
      → length outputs ≡ length kept → AreAll net inputs (kept_streams kept) n
  whole_by n meant every same long j c items c_is is =
      let one = kept_there j items is in
      let output = output_there j one.0 one.1 in
      let by = made j one.0 one.1 in
      let of_one : one.0.channel ≡ c = let a = kept_channel j one.0 one.1 in cc in
      let all_there = same j one.0 output.0 one.1 output.1 in
      let count = count_at j one.0 output.0 one.1 output.1 in
      let whole : output.0.outlet ≡ history_of (approximation net inputs n) one.0.channel =
      ∥∥₁_elim (stream_at j one.0 output.0 one.1 output.1) (hlevel props)
      (λ s. whole_there net valid inputs fits (λ c. log_end (log_on t c)) (λ n c p channel is from. every n c p channel is from) s.0 n one.0.channel by.1 by.0
      output.0.outlet by.2 by.3 (put_within n meant one.0.channel by.1 by.0 by.2 by.3) s.1 count) in
      sym one.2 ∙ (all_there ∙ (whole ∙ ap (history_of (approximation net inputs n)) of_one))
    where
      map_from : (xs : List KeptOutput) (j : ℕ) (items : List ℤ) → slice_get (map items_of xs) j ≡ Some items
          → (one : KeptOutput) × (slice_get xs j ≡ Some one) × (items_of one ≡ items)
      map_from [] j items is = absurd cc
      map_from (x ∷ xs) zero items is = let same : items_of x ≡ items = cc in (x, refl, same)
      map_from (x ∷ xs) (suc j) items is = map_from xs j items is

      kept_there : (j : ℕ) (items : List ℤ) → slice_get (kept_streams kept) j ≡ Some items
          → (one : KeptOutput) × (slice_get kept j ≡ Some one) × (items_of one ≡ items)
      kept_there j items is = map_from kept j items is

      output_there : (j : ℕ) (one : KeptOutput) → slice_get kept j ≡ Some one
          → (output : Output (List ℤ)) × (slice_get outputs j ≡ Some output)
      output_there j one here = at (slice_get_cases outputs j).1
        where
          at : ((x : Output (List ℤ)) × (j < length outputs) × (slice_get outputs j ≡ Some x) × (get_or outputs j x ≡ x))
              ⊎ ((length outputs ≤ j) × (slice_get outputs j ≡ None)) → (output : Output (List ℤ)) × (slice_get outputs j ≡ Some output)
          at (inl found) = (found.0, found.2)
          at (inr past) = absurd (let within = slice_get_within kept j one here in let far = past.0 in omega (arith, within, far, long))

  pub complete : ∥ IsPlace net inputs t ∥₁ → ∥ IsAll net inputs t ∥₁ → AreSame kept outputs → length outputs ≡ length kept
      → ∥ ((n : ℕ) × IsReached net inputs n × AreAll net inputs (kept_streams kept) n) ∥₁
  complete place has same long = ∥∥₁_elim has ∥∥₁_prop (λ every. ∥∥₁_map place (λ here. (
    here.n,
    rests_there net valid inputs fits (λ c. log_end (log_on t c)) (λ n c p channel is from. every n c p channel is from) here.n (put_within here.n here.meant),
    whole_by here.n here.meant every same long,
  )))
