-- What is kept over whatever happens, one thing after another.
use Rattle.std.proofs.Common.{◌≡◌, List, [], ◌∷◌, refl, sym, subst, ◌∙◌}
use Rattle.growing.specs.WhateverComes.{HasGoneOn}
use Rattle.kahn_net.specs.Laws.Prefixes.{prefixes_refl, prefixes_trans}
use Rattle.kahn_net.specs.Streams.{ArePrefixes}
use Rattle.protocol.specs.Node.Common.{Network}
use Rattle.protocol.specs.World.Common.{output_channels, WorldInvariant, WorldView}
use Rattle.protocol.specs.World.Coordination.{last_of}
use Rattle.protocol.specs.World.Growing.{EachBegins}
use Rattle.protocol_laws.specs.World.GrowLaws.{begins_same}
use Rattle.starting_again.specs.WasLeft.{output_left, outputs_left}
use Rattle.std.proofs.Common.{map}
use Rattle.whole_run.proofs.Begun.{begins_soundly}
use Rattle.whole_run.proofs.Going.{goes, goes_there, lies}
use Rattle.whole_run.proofs.Left.{begins_then, by_outputs}
use Rattle.whole_run.specs.Runs.{BeginsAgain, EachNext, Happens, WithDisks, WithOutlets}

pub record IsKept (old new : WorldView) : Type 0 where
  pub sound : WorldInvariant new
  pub same_net : new.net ≡ old.net
  pub longer : ArePrefixes old.inputs new.inputs
  pub left : EachBegins (outputs_left old) (outputs_left new)

pub kept_by : (old new : WorldView) → HasGoneOn old new → IsKept old new
kept_by old new gone = record {
  sound = gone.sound;
  same_net = gone.same_net;
  longer = gone.longer;
  left = subst
      (λ (net : Network). EachBegins (outputs_left old)
      (map (output_left new.stations) (output_channels 0 net.channels)))
      (sym gone.same_net)
      (by_outputs old.stations new.stations (output_channels 0 old.net.channels) gone.kept);
}

pub kept_then : (first next last : WorldView) → IsKept first next → IsKept next last → IsKept first last
kept_then first next last one other = record {
  sound = other.sound;
  same_net = other.same_net ∙ one.same_net;
  longer = prefixes_trans _ _ _ one.longer other.longer;
  left = begins_then (outputs_left first) (outputs_left next) (outputs_left last) one.left other.left;
}

kept_again : (old new : WorldView) → WorldInvariant old → BeginsAgain old new → IsKept old new
kept_again old new inv again = record {
  sound = begins_soundly new again.begins;
  same_net = again.same_net;
  longer = again.later.longer;
  left = begins_then (outputs_left old) again.outputs (outputs_left new) ended again.kept;
}
  where
    ended : EachBegins (outputs_left old) again.outputs
    ended =
        let leads = lies old again.records again.outputs inv again.ended in
        subst (EachBegins (outputs_left old)) leads.outputs_are
        (kept_by old leads.next (goes_there old again.records again.outputs inv leads)).left

pub kept_next : (old new : WorldView) → WorldInvariant old → Happens old new → IsKept old new
kept_next old new inv (WithDisks goes_on) = kept_by old new (goes old new inv goes_on)
kept_next old new inv (WithOutlets again) = kept_again old new inv again

pub kept_all : (world : WorldView) (worlds : List WorldView) → WorldInvariant world → EachNext Happens world worlds
    → IsKept world (last_of world worlds)
kept_all world [] inv all = record {
  sound = inv;
  same_net = refl;
  longer = prefixes_refl world.inputs;
  left = begins_same (outputs_left world);
}
kept_all world (next ∷ worlds) inv all =
    let one = kept_next world next inv all.0 in
    kept_then world next (last_of next worlds) one (kept_all next worlds one.sound all.1)
