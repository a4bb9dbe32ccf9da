use Rattle.std.proofs.Common.{refl, sym}
use Rattle.net_text.specs.declared.tree.Role.TheVariants.{Output}
use Rattle.net_check.specs.Uses.{GetFrom}
use Rattle.net_check.proofs.Claiming.{claims_at, refused_outside, refused_taken, unknown_one}
use Rattle.net_check.proofs.ends.Ends.get_from.Goals as goal

pub returns-in_default-clause-err : goal.returns-in_default-clause-err
returns-in_default-clause-err c =
    unknown_one _ _ (GetFrom c.args.name.now) _ c.in_default.ensures.found (sym c.line.ensures)

pub returns-in-Output-clause-err : goal.returns-in-Output-clause-err
returns-in-Output-clause-err c =
    refused_outside c.args.scope.now.channels.now Output (λ x. GetFrom x) c.args.scope.now.process _ c.args.name.now
    c.in-Some.channel _ _ c.in-Some.ensures.within c.in-Some.ensures.found c.in-Output.is (sym c.line-in-Output.ensures)

pub returns-then-not-take : goal.returns-then-not-take
returns-then-not-take c =
    record {
      names = tt;
      takes = tt;
      keeps = refl;
      err =
          refused_taken c.args.scope.now.channels.now Output (λ x. GetFrom x) c.args.scope.now.process _ c.args.name.now
          c.in-Some.channel _ c.in-Some.ensures.found c.if-not-take.ensures (sym c.line-then-not-take.ensures);
    }

pub returns : goal.returns
returns c = record {
  names = c.in-Some.ensures.found;
  takes = claims_at c.args.scope.now.channels.now Output c.args.scope.now.process c.in-Some.channel _ _ _ c.requires
      c.in-Some.ensures.within c.in_default-role.not-Output c.if-not-take.ensures;
  keeps = refl;
  err = tt;
}
