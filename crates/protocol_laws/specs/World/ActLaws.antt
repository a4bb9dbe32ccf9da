-- What a node's events ask for, of a station that is sound.
use Rattle.std.proofs.Common.{subst, ◌≡◌, ◌^◌, ◌<◌, List, ℤ, Option, Some, None, refl, sym, ap, ◌∙◌}
use Rattle.std.specs.Prelude.{IsTrue}
use Rattle.std.specs.List.{AllByRecursion, AllByRecursion-prop}
use Rattle.std.proofs.Math.Logic.{∥∥₁_elim}
use Rattle.std.proofs.Math.Bridge.{le_prop}
use Rattle.std.proofs.Math.Bool.{Bool-set}
use Rattle.std.proofs.lemmas.List.Elements.{All-from_recursion, recursion_from_All}
use Rattle.protocol.specs.Node.Common.{Fits, Network, IsValid, approximation, IsOut, TakesTurn, IsLaidOut, RecordView}
use Rattle.protocol.specs.Node.Common.{ModeView, Down, InDoubt, Runs, RunningNode, running_node, running_in}
use Rattle.protocol.specs.Node.Common.{running_of, IsLikeNow}
use Rattle.ckpt_codec.specs.Common.{Field, IsAllowed, image_fields}
use Rattle.ckpt_store.specs.Spelling.{IsLike}
use Rattle.protocol_laws.specs.Node.LikeLaws.{image_like}
use Rattle.protocol.specs.Node.Starting.{IsLikeAt}
use Rattle.protocol.specs.World.Common.{DoneView, outputs_of, RunsSoundly, StationInvariant, StationView}
use Rattle.protocol.specs.World.DoneView.{IsTurnOfJob}
use Rattle.protocol_laws.specs.World.TurnLaws.{takes_done}

-- that a field may stand where it does is one fact
allowed_once : (field : Field) → IsProp (IsAllowed field)
allowed_once field one other =
    ap (λ (wide : field.value < 256 ^ field.width). (wide, one.1)) (le_prop one.0 other.0)
    ∙ ap (λ (passes : IsTrue (field.allows field.value)). (other.0, passes)) (Bool-set _ _ one.1 other.1)

module _ (net : Network) (inputs : List (List ℤ)) (valid : IsValid net) (fits : Fits net inputs)
    (station : StationView) (inv : StationInvariant net inputs station) where
  -- a turn that comes back fits
  pub takes_turn : (done : DoneView) → ∥ IsTurnOfJob done.job done.after done.taken done.sent ∥₁
      → IsOut done.job station.node.mode
      → TakesTurn net.channels done.job.process done.taken done.sent station.node.mode
  takes_turn done turn out = at station.node.mode refl out
    where
      at : (m : ModeView) → station.node.mode ≡ m → IsOut done.job m
          → TakesTurn net.channels done.job.process done.taken done.sent m
      at Down is out = absurd out
      at InDoubt is out = absurd out
      at (Runs running) is out =
          let node = running_node station.node.kept station.node.version running in
          takes_done net inputs valid node (outputs_of station.outlets) done.job done.after done.taken done.sent fits
          (inv.runs node (ap (running_in station.node.kept station.node.version) is)).sound out turn

  -- what the node has now may be written beside its permanent image
  like_node : (node : RunningNode) → node.kept ≡ station.node.kept
      → RunsSoundly net inputs node (outputs_of station.outlets) → IsLike station.node.kept.permanent node.current
  like_node node same runs = record { allowed = All-from_recursion IsAllowed fields all }
    where
      fields : List Field
      fields = image_fields (Some (station.node.kept.permanent)) node.current

      all : AllByRecursion IsAllowed (image_fields (Some (station.node.kept.permanent)) node.current)
      all = ∥∥₁_elim inv.kept.come
          (AllByRecursion-prop IsAllowed allowed_once (image_fields (Some (station.node.kept.permanent)) node.current))
          (λ kept.
          ∥∥₁_elim runs.sound.come
          (AllByRecursion-prop IsAllowed allowed_once
          (image_fields (Some (station.node.kept.permanent)) node.current)) (λ come.
          recursion_from_All IsAllowed (image_fields (Some (station.node.kept.permanent)) node.current)
          (image_like net station.node.kept.node inputs (approximation net inputs kept.n)
          (approximation net inputs come.reached.n) kept.permanent_acts come.reached.current_acts
          station.node.kept.permanent node.current valid fits.few
          inv.kept.permanent.laid_out kept.permanent
          (subst (λ (k : RecordView). IsLaidOut net k.node node.current) same runs.sound.kept.laid_out)
          come.reached.current runs.sound.kept.counts runs.sound.kept.logs).allowed))

  pub like_now : IsLikeNow station.node
  like_now = at (running_of station.node) refl
    where
      kept_of : (m : ModeView) (node : RunningNode) → running_in station.node.kept station.node.version m ≡ Some node
          → node.kept ≡ station.node.kept
      kept_of Down node is = absurd (cc)
      kept_of InDoubt node is = absurd (cc)
      kept_of (Runs running) node is = let same : running_node station.node.kept station.node.version running ≡ node =
          cc in sym (ap (λ (n : RunningNode). n.kept) same)

      at : (o : Option RunningNode) → running_of station.node ≡ o → IsLikeAt station.node.kept o
      at None is = tt
      at (Some node) is = like_node node (kept_of station.node.mode node is) (inv.runs node is)
