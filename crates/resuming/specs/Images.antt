-- The images that nodes have where the processes of a network were run again, and records of these images.
use Rattle.std.specs.Prelude.{◌≡◌, ◌≤◌, ◌==◌, ℕ, zero, suc, Bool, true, false, if◌then◌else◌, List, [], ◌∷◌, length}
use Rattle.std.specs.Prelude.{replicate, Some, None, slice_get, slice_index, slice_index_or}
use Rattle.kahn_net.specs.Nodes.{node_count}
use Rattle.kahn_net.specs.Processes.{Standing, NotBegun}
use Rattle.kahn_net.specs.Syntax.{Code, Network}
use Rattle.kahn_net.specs.declared.program.Channel.{Channel}
use Rattle.protocol.specs.Node.Layout.{channel_on, port_on}
use Rattle.protocol.specs.Node.Sharing.{log_share}
use Rattle.record.specs.Common.{ImageView, RecordView, SavedProcessView}
use Rattle.record.specs.Ends.{log_at}
use Rattle.record.specs.declared.image.End.{End}
use Rattle.record.specs.declared.image.End.TheVariants.{Receives, Sends, Both}
use Rattle.record.specs.declared.image.SavedEnd.{SavedEnd}
use Rattle.retained.specs.LogState.{LogState}
use Rattle.rerun.specs.Tables.{TableView, no_log}

-- where the process of this number stands
abbrev pub standing_in : List Standing → ℕ → Standing
standing_in standings p = slice_index_or standings p (NotBegun [])

-- the processes of a node, of which the first code of all has this number, each as it stands
abbrev pub image_processes : List Standing → ℕ → ℕ → List Code → List SavedProcessView
image_processes standings home number [] = []
image_processes standings home number (code ∷ codes) =
    if code.node == home then record { number = number; standing = standing_in standings number }
    ∷ image_processes standings home (suc number) codes else image_processes standings home (suc number) codes

-- an end of a channel at which the node puts, and gets, or not: of the channel so many items were got, and its log has
-- the last ones that were put
abbrev pub image_end : Bool → Bool → ℕ → LogState → End
image_end true true got log = Both got log
image_end true false got log = Sends log
image_end false gets got log = Receives got

-- the node's end of a channel of this number
abbrev pub end_on : Network → List ℕ → List LogState → ℕ → ℕ → Channel → SavedEnd
end_on net got logs home number channel = record {
  channel = number;
  end = image_end (port_on net home channel.producer) (port_on net home channel.consumer) (slice_index got number)
      (slice_index_or logs number no_log);
}

-- its ends of channels, the first of which has this number
abbrev pub image_ends : Network → List ℕ → List LogState → ℕ → ℕ → List Channel → List SavedEnd
image_ends net got logs home number [] = []
image_ends net got logs home number (channel ∷ channels) =
    if channel_on net home (Some channel) then end_on net got logs home number channel
    ∷ image_ends net got logs home (suc number) channels else image_ends net got logs home (suc number) channels

-- the image of the node of this number
abbrev pub image_of : Network → TableView → ℕ → ImageView
image_of net t home =
    record {
      processes = image_processes t.standings home 0 net.codes;
      ends = image_ends net t.got t.logs home 0 net.channels;
    }

-- each log of an image has no more items than its share
abbrev pub KeepsShares : ImageView → Type 0
KeepsShares image =
    (k : ℕ) (saved : SavedEnd) (log : LogState) → slice_get image.ends k ≡ Some saved
    → log_at (Some (saved.end)) ≡ Some log → length log.items ≤ log_share image

-- the record of a node that has this image as its permanent one: nothing is held, decided or numbered
abbrev pub record_of : Network → TableView → ℕ → RecordView
record_of net t home = record {
  node = home;
  epoch = 0;
  highest = replicate (node_count net) 0;
  decisions = [];
  permanent = image_of net t home;
  tentative = None;
}

-- those of so many nodes, the first of which has this number
abbrev pub records_from : Network → TableView → ℕ → ℕ → List RecordView
records_from net t number zero = []
records_from net t number (suc count) = record_of net t number ∷ records_from net t (suc number) count

-- and of all nodes
abbrev pub records_there : Network → TableView → List RecordView
records_there net t = records_from net t 0 (node_count net)
