-- Every table to which turns lead is a place of the network.
use Rattle.std.proofs.Common.{ℕ, suc, ℤ, List, take, ap, ◌∙◌, subst}
use Rattle.kahn_net.specs.Approximations.{approximation}
use Rattle.kahn_net.specs.Streams.{history_of}
use Rattle.retained.specs.LogState.{IsLogOf}
use Rattle.rerun.specs.Places.{TablesArePlaces}
use Rattle.rerun.specs.Rerunning.{first_stage}
use Rattle.rerun.specs.Tables.{log_on}
use Rattle.rerun.proofs.Stages.{lines}
use Rattle.rerun.proofs.Turning.{begins, goes_on, on_next, put_below, sound_on_next}

pub places : TablesArePlaces
places net inputs t valid fits rerun =
    let s = rerun.stage in
    let come =
    goes_on net inputs 0 (λ p. 0) (first_stage net inputs) rerun.stages s valid fits (begins net inputs valid fits)
    rerun.runs in
    record {
      n = suc come.later;
      made = on_next net (approximation net inputs come.later) come.acts;
      stage = s;
      is_at = rerun.is_at;
      sound = sound_on_next net inputs valid fits come.later come.acts s come.sound;
      meant = λ c p channel is from. (
          let log = rerun.is_at.logs c p channel is from in
          let whole = history_of (approximation net inputs (suc come.later)) c in
          subst (λ (history : List ℤ). IsLogOf (log_on t c) history)
          (put_below net inputs valid fits come.later come.acts s come.sound c channel is
          ∙ ap (λ (n : ℕ). take n whole) log.count) log);
      beginning = lines net inputs rerun.stages s valid fits rerun.runs;
    }
