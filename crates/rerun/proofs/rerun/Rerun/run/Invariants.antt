use Rattle.std.proofs.Common.{◌≡◌}
use Rattle.rerun.specs.Tables.{AreSwept, KeepsLimits}
use Rattle.rerun.specs.Whole.{inputs_in, net_in, table_in}
use Rattle.rerun.proofs.rerun.Rerun.run.Given as goal

abbrev pub invariant-loop-round : goal.invariant-loop-round
invariant-loop-round l = record {
  swept : AreSwept (net_in l.initial.self) (inputs_in l.initial.self) l.limits l.round (table_in l.initial.self)
      (table_in l.self);
  within : KeepsLimits (net_in l.initial.self) l.limits (table_in l.initial.self) (table_in l.self);
  net : net_in l.self ≡ net_in l.initial.self;
  inputs : inputs_in l.self ≡ inputs_in l.initial.self;
}
