use Rattle.std.proofs.Common.{◌∙◌, ℤ, List, ap, map, subst}
use Rattle.std.specs.List.{AllByRecursion}
use Rattle.std.specs.Prelude.{string_bytes}
use Rattle.net_text.specs.Names.{NameTree}
use Rattle.station.specs.declared.output.Output.{Output}
use Rattle.folder_status.specs.Kept.{IsFileOf}
use Rattle.folder_status.proofs.Asked.{only_then}
use Rattle.folder_status.proofs.Held.{inputs_still, net_still}
use Rattle.folder_status.proofs.reading.read_folder.Goals as goal

pub returns-in_err-inputs-clause-asked : goal.returns-in_err-inputs-clause-asked
returns-in_err-inputs-clause-asked g c = only_then _ _ _ _ c.read_net.ensures.asked c.read_inputs.ensures.asked

pub returns-in_err-outputs-clause-asked : goal.returns-in_err-outputs-clause-asked
returns-in_err-outputs-clause-asked g c = only_then _ _ _ _ c.read_net.ensures.asked c.read_inputs.ensures.asked

pub returns-in_err-kept-clause-asked : goal.returns-in_err-kept-clause-asked
returns-in_err-kept-clause-asked g c =
    only_then _ _ _ _ (only_then _ _ _ _ c.read_net.ensures.asked c.read_inputs.ensures.asked) c.read_outputs.ensures.asked

pub returns-clause-asked : goal.returns-clause-asked
returns-clause-asked g c =
    only_then _ _ _ _ (only_then _ _ _ _ c.read_net.ensures.asked c.read_inputs.ensures.asked) c.read_outputs.ensures.asked

pub returns-clause-read : goal.returns-clause-read
returns-clause-read g c = record {
  net_read = net_still _ _ _ _ c.read_outputs.ensures.asked (net_still _ _ _ _ c.read_inputs.ensures.asked c.in_ok-net.ensures.net);
  inputs_read = inputs_still _ _ _ _ _ c.read_outputs.ensures.asked c.in_ok-inputs.ensures.inputs;
  listed = c.in_ok-kept.ensures.listed
      ∙ (ap (map (λ (output : Output (List ℤ)). output.channel)) c.deref-2.ensures.value ∙ c.in_ok-outputs.ensures.listed);
  each = subst (λ (names : List NameTree). AllByRecursion (IsFileOf (string_bytes c.args.folder.now) names (g.H.Host.asked c.read_outputs.new.host))
      c.in_ok-kept.kept.items) c.deref.ensures.value c.in_ok-kept.ensures.held;
}
