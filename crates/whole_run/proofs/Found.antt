-- What may be found at a moment.
use Rattle.std.proofs.Common.{◌≡◌, ◌⊎◌, inl, inr, List, refl, sym, subst}
use Rattle.growing.specs.WhateverComes.{HasGoneOn}
use Rattle.protocol.specs.Node.Common.{RecordView}
use Rattle.protocol.specs.World.Common.{AreInLine, event_node, OutputView, setting_of, WorldInvariant, WorldView}
use Rattle.protocol.specs.World.InLine.{IsLineOf}
use Rattle.protocol_laws.specs.World.LineLaws.{act_in_line, line_now}
use Rattle.starting_again.specs.WasLeft.{outputs_left}
use Rattle.whole_run.proofs.Going.{goes, stays}
use Rattle.whole_run.specs.Moments.{AsItLies, AsPromised, Between, Inside, MayBeFound}
use Rattle.whole_run.specs.Runs.{ByEvent}

-- The records are in line, and one of the two worlds has let leave what these outputs have.
pub record IsFound (world : WorldView) (records : List RecordView) (outputs : List OutputView) : Type 0 where
  pub next : WorldView
  pub in_line : AreInLine world.net world.stations next.stations records
  pub at : WorldView
  pub gone : HasGoneOn world at
  pub same_net : at.net ≡ world.net
  pub same_inputs : at.inputs ≡ world.inputs
  pub line : IsLineOf world.net at.stations records
  pub outputs_are : outputs_left at ≡ outputs

-- where the event leads to a next world
found_by : (world next : WorldView) (records : List RecordView) (outputs : List OutputView) → WorldInvariant world
    → HasGoneOn world next → next.net ≡ world.net → next.inputs ≡ world.inputs
    → AreInLine world.net world.stations next.stations records
    → (outputs ≡ outputs_left world) ⊎ (outputs ≡ outputs_left next) → IsFound world records outputs
found_by world next records outputs inv gone same_net same_inputs in_line (inl before) = record {
  next = next;
  in_line = in_line;
  at = world;
  gone = stays world inv;
  same_net = refl;
  same_inputs = refl;
  line = in_line.at_first;
  outputs_are = sym before;
}
found_by world next records outputs inv gone same_net same_inputs in_line (inr after) = record {
  next = next;
  in_line = in_line;
  at = next;
  gone = gone;
  same_net = same_net;
  same_inputs = same_inputs;
  line = in_line.at_last;
  outputs_are = sym after;
}

pub found : (world : WorldView) (records : List RecordView) (outputs : List OutputView) → WorldInvariant world
    → MayBeFound world records outputs → IsFound world records outputs
found world records outputs inv (AsItLies (Between same left)) =
    found_by world world records outputs inv (stays world inv) refl refl
    (subst (AreInLine world.net world.stations world.stations) (sym same) (line_now world inv)) (inl left)
found world records outputs inv (AsItLies (Inside fits event answer next step there)) =
    found_by world next records outputs inv (goes world next inv (ByEvent fits event answer step)) step.net step.inputs
    (act_in_line fits event step.came world answer (setting_of world) (event_node event) next.stations records inv refl
    refl step.act there.of_nodes) there.of_outlets
found world records outputs inv (AsPromised fits event answer next step in_line left) =
    found_by world next records outputs inv (goes world next inv (ByEvent fits event answer step)) step.net step.inputs
    in_line left
