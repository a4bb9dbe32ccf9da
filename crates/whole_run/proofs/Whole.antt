-- What is true of a run since an earlier world of it.
use Rattle.std.proofs.Common.{ℕ, ℤ, List, sym, subst, ◌∙◌}
use Rattle.std.proofs.Math.Logic.{∥∥₁_elim, ∥∥₁_map}
use Rattle.std.proofs.Math.Bridge.{le_prop}
use Rattle.protocol.specs.Node.Common.{Network, RecordView}
use Rattle.protocol.specs.World.Common.{net_seen, output_channels, OutputView, records_of, records_seen, WorldInvariant}
use Rattle.protocol.specs.World.Common.{WorldView}
use Rattle.protocol.specs.World.Coordination.{last_of}
use Rattle.protocol.specs.World.Growing.{EachBegins}
use Rattle.protocol.specs.World.Headline.{AreAllWithin, AreWithin}
use Rattle.protocol_laws.specs.World.LineLaws.{lines_follow}
use Rattle.protocol_laws.specs.World.PrefixLaws.{released_prefix}
use Rattle.protocol_laws.specs.World.QuietLaws.{quiet_is_whole}
use Rattle.recovery_line.specs.Line.{Covers, NotBehind, Sound}
use Rattle.recovery_line.specs.Records.{effective}
use Rattle.starting_again.specs.WasLeft.{outputs_left, WasLeft}
use Rattle.whole_run.proofs.Asking.{asked_on}
use Rattle.whole_run.proofs.Coordinating.{coordinated_all}
use Rattle.whole_run.proofs.Found.{found, IsFound}
use Rattle.whole_run.proofs.Going.{left_by, lies}
use Rattle.whole_run.proofs.Gone.{IsKept, kept_all, kept_by, kept_then}
use Rattle.whole_run.proofs.Left.{counts_are, left_within}
use Rattle.whole_run.proofs.Machines.{line_not_behind, one_all}
use Rattle.whole_run.proofs.Openings.{machine_starts}
use Rattle.whole_run.proofs.Over.{over_stays}
use Rattle.whole_run.specs.Machine.{IsSoundLine}
use Rattle.whole_run.specs.Moments.{MayBeFound, MayLie}
use Rattle.whole_run.specs.Runs.{EachNext, GoesOn, Happens}
use Rattle.whole_run.specs.WholeRun.{IsRight}

module _ (earlier : WorldView) (after : List WorldView) (records : List RecordView) (outputs : List OutputView)
    (inv : WorldInvariant earlier) (all : EachNext Happens earlier after)
    (there : MayBeFound (last_of earlier after) records outputs) where
  abbrev last : WorldView
  last = last_of earlier after

  kept : IsKept earlier last
  kept = kept_all earlier after inv all

  here : IsFound last records outputs
  here = found last records outputs kept.sound there

  -- the world that has let leave what these outputs have
  abbrev at : WorldView
  at = here.at

  begins : EachBegins (outputs_left earlier) (outputs_left at)
  begins = (kept_then earlier last at kept (kept_by last at here.gone)).left

  within : (n : ℕ) → AreAllWithin at.net at.inputs at.stations n → AreWithin last.net last.inputs outputs n
  within n all_within =
      subst (λ (net : Network). AreWithin net last.inputs outputs n) here.same_net
      (subst (λ (inputs : List (List ℤ)). AreWithin at.net inputs outputs n) here.same_inputs
      (subst (λ (os : List OutputView). AreWithin at.net at.inputs os n) here.outputs_are
      (left_within at.net at.inputs n at.stations (output_channels 0 at.net.channels) all_within)))

  in_line : IsSoundLine last.net records outputs
  in_line =
      subst (IsSoundLine last.net records) here.outputs_are
      (record {
        sound = subst (Sound (net_seen last.net) (effective (records_seen records)))
            (sym (counts_are at here.gone.sound)) here.line.sound;
        covers = subst (Covers (net_seen last.net) (records_seen records)) (sym (counts_are at here.gone.sound))
            here.line.covers;
      })

  not_behind : EachNext GoesOn earlier after
      → NotBehind (records_seen (records_of earlier.stations)) (records_seen records)
  not_behind goes_on =
      ∥∥₁_elim (one_all earlier after inv goes_on) (hlevel le_prop)
      (λ one. lines_follow (records_seen (records_of earlier.stations)) (records_seen (records_of last.stations))
      (records_seen records) (line_not_behind earlier last one) here.in_line.not_behind)

  opens : MayLie last records outputs → WasLeft last.net last.inputs records outputs
  opens lie = let leads = lies last records outputs kept.sound lie in
      ∣ (leads.next, left_by last records outputs kept.sound leads) ∣₁

  pub is_right : IsRight earlier after records outputs
  is_right = record {
    sound = kept.sound;
    same_net = kept.same_net;
    longer = kept.longer;
    kept = subst (EachBegins (outputs_left earlier)) here.outputs_are begins;
    one = ∥∥₁_map (released_prefix at here.gone.sound) (λ a. (a.0, within a.0 a.1));
    whole = quiet_is_whole last kept.sound;
    over = λ quiet same.
        sym here.outputs_are
        ∙ over_stays earlier at inv here.gone.sound (here.same_net ∙ kept.same_net) (here.same_inputs ∙ same) begins
        quiet;
    line = in_line;
    not_behind = not_behind;
    begins = machine_starts earlier;
    machine = one_all earlier after inv;
    coordinated = coordinated_all earlier after inv;
    inside = here.in_line.coordinated;
    asked = λ p x n c m. asked_on p x n c m earlier after inv all;
    opens = opens;
  }
