-- An event at its station, by what the station's method says of it.
use Rattle.std.proofs.Common.{◌≡◌, ◌≤◌, inr, ℕ, Bool, true, false, cond, List, Result, Ok, Err, refl, sym, subst}
use Rattle.std.proofs.Common.{◌∙◌}
use Rattle.std.specs.Prelude.{IfOk}
use Rattle.std.specs.declared.alloc.AllocError.{AllocError}
use Rattle.protocol.specs.Node.Common.{Whole, RecordView}
use Rattle.protocol.specs.World.Common.{Traffic, DoneView, EventView, ByNetwork, Install, Release, HasMoved}
use Rattle.protocol.specs.World.Common.{LeaveEitherSince, act_reply, has_happened, OutletView, StationView}
use Rattle.protocol.specs.World.Common.{IsInstalled, IsRelease, Setting, can_act, flight_at, next_release}
use Rattle.protocol.specs.World.Common.{traffic_acted}
use Rattle.protocol.specs.declared.event.NetworkAct.{NetworkAct}
use Rattle.protocol.specs.declared.outcome.Outcome.TheVariants as outcome
use Rattle.station.specs.Coming.{HasCome}
use Rattle.station.specs.ReplyView.{reply_view}
use Rattle.station.specs.ReplyView.{Reply}

either_way : (b : Bool) (traffic : Traffic) → traffic ≡ cond b traffic traffic
either_way true traffic = refl
either_way false traffic = refl

module _ (setting : Setting) (fits : RecordView → Bool) (seen : EventView) (old : StationView) where
  module _ (new : StationView) (after : Traffic) (result : Result Reply AllocError) where
    abbrev Comes : EventView → Type 0
    Comes event = IfOk result (λ (r : Reply). HasCome setting fits event old (reply_view r) new after)

    -- a turn that came back
    pub installed_came : (done : DoneView) → seen ≡ Install done → after ≡ setting.traffic
        → IfOk result (λ (r : Reply). IsInstalled setting.net.channels done old (reply_view r) new) → Comes seen
    installed_came done is same come = subst Comes (sym is) (by result come)
      where
        by : (res : Result Reply AllocError)
            → IfOk res (λ (r : Reply). IsInstalled setting.net.channels done old (reply_view r) new)
            → IfOk res (λ (r : Reply). HasCome setting fits (Install done) old (reply_view r) new after)
        by (Err e) come = tt
        by (Ok r) come = record {
          came = outcome.Made;
          step = come;
          traffic = same ∙ either_way (has_happened (reply_view r)) setting.traffic;
        }

    -- an item that left, or didn't
    pub released_came : (k : ℕ) → seen ≡ Release k → after ≡ setting.traffic
        → IfOk result
        (λ (r : Reply). IsRelease setting.round (next_release setting.round old) old (reply_view r) new)
        → Comes seen
    released_came k is same come = subst Comes (sym is) (by result come)
      where
        by : (res : Result Reply AllocError)
            → IfOk res
            (λ (r : Reply). IsRelease setting.round (next_release setting.round old) old (reply_view r) new)
            → IfOk res (λ (r : Reply). HasCome setting fits (Release k) old (reply_view r) new after)
        by (Err e) come = tt
        by (Ok r) come = record {
          came = outcome.Made;
          step = come;
          traffic = same ∙ either_way (has_happened (reply_view r)) setting.traffic;
        }

    -- what the network did
    pub acted_came : (k place : ℕ) (act : NetworkAct) → seen ≡ ByNetwork k place act → new ≡ old
        → IfOk result (λ (r : Reply). reply_view r ≡ act_reply (can_act act (flight_at setting k place)))
        → IfOk result
        (λ (r : Reply). after
        ≡ cond (has_happened (reply_view r)) (traffic_acted act setting.traffic k place) setting.traffic)
        → Comes seen
    acted_came k place act is same answers flown = subst Comes (sym is) (by result answers flown)
      where
        by : (res : Result Reply AllocError)
            → IfOk res (λ (r : Reply). reply_view r ≡ act_reply (can_act act (flight_at setting k place)))
            → IfOk res
            (λ (r : Reply). after
            ≡ cond (has_happened (reply_view r)) (traffic_acted act setting.traffic k place) setting.traffic)
            → IfOk res (λ (r : Reply). HasCome setting fits (ByNetwork k place act) old (reply_view r) new after)
        by (Err e) answers flown = tt
        by (Ok r) answers flown = record { came = outcome.Made; step = (answers, same); traffic = flown }

-- ---- the station's cell, and what has left

module _ {C : Type 0} (moment : C → ℕ) (left_since : C → ℕ → Whole → Type 0) (old new : C) (kept next : RecordView)
    (before after : List OutletView) where
  -- nothing left, and whatever a crash leaves is the record of before or the one that is put
  pub moved_put : (put : RecordView) → moment old ≤ moment new → after ≡ before → put ≡ next
      → LeaveEitherSince moment left_since old new kept put
      → HasMoved moment left_since old new kept next before after
  moved_put put later same is leaves = record {
    later = later;
    apart = inr
        (sym same, subst (λ (r : RecordView). LeaveEitherSince moment left_since old new kept r) is leaves);
  }
