-- A world that is opened over what another one leaves starts again from it.
use Rattle.std.proofs.Common.{◌≡◌, ℕ, suc, ℤ, List, [], ◌∷◌, length, map, Some, refl, sym, ap, ◌∙◌, arith}
use Rattle.std.specs.Prelude.{slice_get}
use Rattle.std.specs.List.{AllZip}
use Rattle.std.proofs.Math.Path.{fun_ext}
use Rattle.protocol.specs.Node.Common.{Network, RecordView}
use Rattle.protocol.specs.World.Common.{output_channels, OutputView, records_of, StationView, WorldView}
use Rattle.protocol_laws.specs.World.OutputLaws.{map_at}
use Rattle.starting_again.proofs.Again.{same_outputs, same_released}
use Rattle.starting_again.proofs.Leaving.{own_outputs}
use Rattle.starting_again.specs.StartsAgain.{StationStartsAgain, WorldStartsAgain}
use Rattle.starting_again.specs.WasLeft.{IsLeftBy, OpensOver, output_left, outputs_at, outputs_left}

record_count : (stations : List StationView) → length (records_of stations) ≡ length stations
record_count [] = refl
record_count (s ∷ stations) = ap suc (record_count stations)

starts_each : (olds news : List StationView) → length news ≡ length olds
    → ((i : ℕ) (x y : StationView) → slice_get olds i ≡ Some x → slice_get news i ≡ Some y → StationStartsAgain x y)
    → AllZip StationStartsAgain olds news
starts_each [] [] long each = tt
starts_each [] (y ∷ ys) long each = absurd (omega (arith, long))
starts_each (x ∷ xs) [] long each = absurd (omega (arith, long))
starts_each (x ∷ xs) (y ∷ ys) long each = (
  each 0 x y refl refl,
  starts_each xs ys (omega (arith, long)) (λ i a b is other. each (suc i) a b is other),
)

module _ (old new : WorldView) (records : List RecordView) (outputs : List OutputView)
    (left : IsLeftBy old.net old.inputs records outputs old)
    (opens : OpensOver old.net old.inputs records outputs new) where
  same_records : records_of new.stations ≡ records_of old.stations
  same_records = opens.records_are ∙ sym left.records_are

  as_many : length new.stations ≡ length old.stations
  as_many =
      sym (record_count new.stations) ∙ (ap (length {A = RecordView}) same_records ∙ record_count old.stations)

  station_starts : (i : ℕ) (x y : StationView) → slice_get old.stations i ≡ Some x → slice_get new.stations i ≡ Some y
      → StationStartsAgain x y
  station_starts i x y is other =
      let opened = opens.stations i y other in
      let one : Some y.node.kept ≡ Some x.node.kept =
      sym (map_at (λ (s : StationView). s.node.kept) new.stations i y other)
      ∙ (ap (λ (rs : List RecordView). slice_get rs i) same_records
      ∙ map_at (λ (s : StationView). s.node.kept) old.stations i x is) in
      let kept : y.node.kept ≡ x.node.kept = cc in
      record {
        number = opened.number ∙ sym (left.true_before.numbered i x is).0;
        record_kept = kept;
        down = opened.down;
        outputs = opened.outputs_are
            ∙ (ap (outputs_at old.net i) (sym left.outputs_are) ∙ sym (own_outputs old left.true_before i x is));
      }

  pub opens_again : WorldStartsAgain old new
  opens_again = record {
    net = opens.same_net;
    inputs = opens.same_inputs;
    stations = starts_each old.stations new.stations as_many station_starts;
    nothing = opens.nothing;
  }

-- what has left by each output is the same then
pub same_left : (old new : WorldView) → WorldStartsAgain old new → outputs_left new ≡ outputs_left old
same_left old new again =
    ap (λ (n : Network). map (output_left new.stations) (output_channels 0 n.channels)) again.net
    ∙ ap (λ (one : ℕ → OutputView). map one (output_channels 0 old.net.channels))
    (fun_ext (λ c. ap (λ (items : List ℤ). record { channel = c; taken = items })
    (same_released c old.stations new.stations (same_outputs old.stations new.stations again.stations))))
