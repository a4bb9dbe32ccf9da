-- Why a run ended, by the end that is told with its world.
use Rattle.std.specs.Prelude.{◌≡◌, ◌==◌, ◌&&◌, not, ℕ, Bool, true, false, unwrap_or}
use Rattle.protocol.specs.World.Common.{WorldView, are_quiet}
use Rattle.runtime.specs.declared.ending.RunEnd.{RunEnd}
use Rattle.runtime.specs.declared.ending.RunEnd.TheVariants as end
use Rattle.world.specs.Stillness.{is_still_world}
use Rattle.cobaltmidge.specs.declared.reason.Reason.{Reason}
use Rattle.cobaltmidge.specs.declared.reason.Reason.TheVariants as why
use Rattle.cobaltmidge.specs.declared.settings.Settings.{Settings}
use Rattle.cobaltmidge.specs.declared.settings.TheConstants.{DEFAULT_ROUNDS}

-- nothing is to be done at any node, and yet the world isn't complete
abbrev pub is_stuck : WorldView → Bool
is_stuck world = is_still_world world && not (are_quiet world)

-- So many rounds are over, and it is told whether they are the default; or they are, and a channel is full of a world that isn't stuck; or
-- the world is stuck, and a channel of it is full.
abbrev pub IsOfRounds : WorldView → ℕ → Reason → Type 0
IsOfRounds world rounds (why.Rounds told is_default) = (told ≡ rounds) × (is_default ≡ (rounds == DEFAULT_ROUNDS))
IsOfRounds world rounds (why.Full told channel items) = (told ≡ rounds) × (is_stuck world ≡ false)
IsOfRounds world rounds (why.StandsStill channel items) = is_stuck world ≡ true
IsOfRounds world rounds _ = ⊥

-- the reason is that of this end and world, with the numbers of the settings
abbrev pub IsReasonOf : WorldView → RunEnd → Settings → Reason → Type 0
IsReasonOf world end.Complete settings reason = reason ≡ why.Complete
IsReasonOf world end.Rounds settings reason = IsOfRounds world settings.rounds reason
IsReasonOf world end.Items settings reason = reason ≡ why.Items (unwrap_or settings.items 0)
IsReasonOf world (end.Refused fault) settings reason = reason ≡ why.Refused
IsReasonOf world end.Stopped settings reason = reason ≡ why.Stopped
