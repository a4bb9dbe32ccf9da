-- What a run of a network releases, and how it came to its end.
use Rattle.std.specs.Prelude.{◌≡◌, ◌≤◌, ℕ, nat_le, if◌then◌else◌, Bool, true, false, IsTrue, ℤ, List, Option, Some, None, length, map, slice_get}
use Rattle.std.specs.List.{list_all}
use Rattle.protocol.specs.Node.Common.{history_of, IsPrefix, node_count, Network, approximation}
use Rattle.kahn_net.specs.Common.{IsReached}
use Rattle.protocol.specs.World.Common.{output_channels, released_of, StationView, WorldView}
use Rattle.replay.specs.Replay.{Happening, LeadsTo}
use Rattle.runtime.specs.Causes.{last_round}
use Rattle.runtime.specs.Logs.{HasRun}
use Rattle.runtime.specs.declared.bounds.Bounds.{Bounds}
use Rattle.replay.specs.declared.kept.ScriptedEvent.{ScriptedEvent}
use Rattle.runtime.specs.Ending.{is_over}
use Rattle.runtime.specs.Turning.{IsRunByTurns}
use Rattle.cobaltmidge.specs.Beginning.{IsBeginning}
use Rattle.cobaltmidge.specs.FirstWorld.{first_world, run_rooms}
use Rattle.cobaltmidge.specs.declared.settings.Settings.{Settings}

-- what the stations' outlets took, for each of a network's outputs in order
abbrev pub released_streams : Network → List StationView → List (List ℤ)
released_streams net stations = map (λ (channel : ℕ). released_of channel stations) (output_channels 0 net.channels)

-- each stream is a prefix of its output's history in the n-th approximation
abbrev pub AreWithin : Network → List (List ℤ) → List (List ℤ) → ℕ → Type 0
AreWithin net inputs streams n =
    (j channel : ℕ) (items : List ℤ) → slice_get (output_channels 0 net.channels) j ≡ Some channel
    → slice_get streams j ≡ Some items
    → IsPrefix items (history_of (approximation net inputs n) channel)

-- each stream is its output's whole history there
abbrev pub AreAll : Network → List (List ℤ) → List (List ℤ) → ℕ → Type 0
AreAll net inputs streams n =
    (j channel : ℕ) (items : List ℤ) → slice_get (output_channels 0 net.channels) j ≡ Some channel
    → slice_get streams j ≡ Some items
    → items ≡ history_of (approximation net inputs n) channel

-- A run's streams, one for each output in order: prefixes of the histories in one approximation on these inputs; and
-- where the run is complete, whole in one with which the approximations come to rest, which is the network's least
-- solution.
pub record IsRun (net : Network) (inputs streams : List (List ℤ)) (complete : Bool) : Type 0 where
  pub count : length streams ≡ length (output_channels 0 net.channels)
  pub prefix : ∥ ((n : ℕ) × AreWithin net inputs streams n) ∥₁
  pub whole : IsTrue complete → ∥ ((n : ℕ) × IsReached net inputs n × AreAll net inputs streams n) ∥₁

-- where a run ends at the latest
abbrev pub bounds_of : Settings → Bounds
bounds_of settings = record { rounds = settings.rounds; items = settings.items }

-- Where the streams of a run are cut: at so many items, where that was asked for and each has them.
abbrev pub cut_at : Option ℕ → List (List ℤ) → Option ℕ
cut_at None released = None
cut_at (Some items) released =
    if list_all (λ (stream : List ℤ). nat_le items (length stream)) released then Some items else None

-- How far a run came that began with this world. A history leads from there: each event of it is one that was next for its node, a turn that
-- came back to its node, or the event of the script's next line. Where the history is kept, it is that one.
pub record HasComeFrom (first : WorldView) (settings : Settings) (script : List ScriptedEvent) (happened : List Happening) (now : WorldView)
    : Type 0
  where
    pub run : HasRun (run_rooms first.stations) script first now
    pub history : settings.history ≡ true → LeadsTo (run_rooms first.stations) script first happened now

-- one that began with the network's first world
abbrev pub HasCome : Settings → Network → List (List ℤ) → List ScriptedEvent → List Happening → WorldView → Type 0
HasCome settings net inputs script happened now =
    HasComeFrom (first_world net inputs settings.room) settings script happened now

-- How a run comes to its end that began with this world. By turns it is also fixed which event comes when, the same whether the history is kept
-- or not, and that turns were taken until the run was over. By threads no round begins behind the last one.
pub record IsEndFrom (first : WorldView) (settings : Settings) (net : Network) (script : List ScriptedEvent) (happened : List Happening)
    (now : WorldView) : Type 0
  where
    pub come : HasComeFrom first settings script happened now
    pub turns : settings.threads ≡ false
        → IsRunByTurns (is_over net.channels (bounds_of settings)) (node_count net) (run_rooms first.stations) script first now
    pub rounds : settings.threads ≡ true → now.round ≤ last_round first script (bounds_of settings)

-- one that began with the network's first world
abbrev pub IsEnd : Settings → Network → List (List ℤ) → List ScriptedEvent → List Happening → WorldView → Type 0
IsEnd settings net inputs script happened now =
    IsEndFrom (first_world net inputs settings.room) settings net script happened now

-- How a run comes to its end that went on behind what its outputs held, each so many items, and how one does that didn't go on.
abbrev pub IsEndOf : Option (List ℕ) → Settings → Network → List (List ℤ) → List ScriptedEvent → List Happening → WorldView → Type 0
IsEndOf None settings net inputs script happened now = IsEnd settings net inputs script happened now
IsEndOf (Some held) settings net inputs script happened now =
    (first : WorldView) × IsBeginning (Some held) net inputs settings.room first × IsEndFrom first settings net script happened now
