-- From which round on a node whose device failed may be recovered.
use Rattle.std.specs.Prelude.{ℕ, ◌+◌, ◌==◌, ◌++◌, min, List, [], ◌∷◌, find, Option, Some, None}
use Rattle.ckpt_codec.specs.Common.{MAX_COUNT}
use Rattle.protocol.specs.Node.NodeView.{NodeView}
use Rattle.protocol.specs.declared.armed_restart.ArmedRestart.{ArmedRestart}

-- the round that comes so many later; the last one is the greatest number
abbrev pub round_later : ℕ → ℕ → ℕ
round_later round rounds = min (round + rounds) MAX_COUNT

-- for how many rounds a failure keeps the node down: as many as it was armed with, or one where nobody armed it
abbrev pub rounds_of : Option ArmedRestart → ℕ
rounds_of None = 1
rounds_of (Some restart) = restart.rounds

-- the same of the failure of this device call: of several faults armed for one call the first counts
abbrev pub rounds_at : List ArmedRestart → ℕ → ℕ
rounds_at armed call = rounds_of (find (λ (restart : ArmedRestart). restart.call == call) armed)

-- the round from which a node may be recovered whose device failed at this call, in this round
abbrev pub restart_after : List ArmedRestart → ℕ → ℕ → ℕ
restart_after armed call round = round_later round (rounds_at armed call)

-- the node with a fault armed for this call that is to keep it down for so many rounds, behind those armed before
abbrev pub with_armed : ℕ → ℕ → NodeView → NodeView
with_armed call rounds node = record node { armed = node.armed ++ record { call = call; rounds = rounds } ∷ [] }
