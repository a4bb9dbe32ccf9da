-- A station without pointers, its cell's contents aside.
use Rattle.std.specs.Prelude.{ℕ, ℤ, List, Option}
use Rattle.protocol.specs.Node.NodeView.{NodeView}
use Rattle.protocol.specs.declared.round_turns.RoundTurns.{RoundTurns}

-- an outlet: its channel, what it took, the last round in which it failed, and how often it has failed
pub record OutletView : Type 0 where
  pub channel : ℕ
  pub taken : List ℤ
  pub failed : Option ℕ
  pub failures : ℕ

-- a node of this number with its outlets; `failures` is how often the device of its cell has failed
pub record StationView : Type 0 where
  pub number : ℕ
  pub node : NodeView
  pub failures : ℕ
  pub outlets : List OutletView
  pub turns : RoundTurns
