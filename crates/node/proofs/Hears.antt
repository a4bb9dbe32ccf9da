-- What a node becomes that hears a packet and says nothing.
use Rattle.std.proofs.Common.{◌≡◌, ℕ, [], Result, Ok, Err, rules, sym, ap, ◌∙◌}
use Rattle.std.specs.Prelude.{OnOk}
use Rattle.protocol.specs.Node.Common.{Body, Network, NodeView, Planned, becoming, hear_prospect}
use Rattle.node.specs.Planned.{effect_grows, effect_node, effect_puts, plan_view}
use Rattle.node.specs.declared.plan.Effect.{Effect}
use Rattle.node.specs.declared.plan.Plan.{Plan}

-- a plan by which nothing is said
says_nothing : (node : NodeView) (plan : Plan) (effect : Effect)
    → (plan.effect ≡ effect) × (plan.said.made.items ≡ []) × (plan.said.declined.items ≡ [])
    → Planned (plan_view node plan) ≡ Planned (record {
      node = effect_node effect node;
      puts = effect_puts effect;
      grows = effect_grows effect;
      packets = [];
      refused = [];
    })
says_nothing node plan effect is = search rules

-- A packet that says so much leads to such a plan, where what it says leads to the plan's effect and to no word.
pub hears_as : (net : Network) (home from : ℕ) (node : NodeView) (plan : Plan) (effect : Effect) (body told : Body)
    → (plan.effect ≡ effect) × (plan.said.made.items ≡ []) × (plan.said.declined.items ≡ [])
    → body ≡ told
    → Planned (record {
      node = effect_node effect node;
      puts = effect_puts effect;
      grows = effect_grows effect;
      packets = [];
      refused = [];
    }) ≡ hear_prospect net home from told node
    → Planned (plan_view node plan) ≡ hear_prospect net home from body node
hears_as net home from node plan effect body told silent is leads =
    says_nothing node plan effect silent ∙ leads ∙ ap (λ said. hear_prospect net home from said node) (sym is)

-- A packet that is heard comes to the node afterwards alone, where what it says leads there and to nothing else.
pub comes_to : (net : Network) (home from : ℕ) (body told : Body) (node now changed : NodeView) → body ≡ told
    → hear_prospect net home from told node ≡ becoming changed → now ≡ changed
    → hear_prospect net home from body node ≡ becoming now
comes_to net home from body told node now changed is leads same =
    ap (λ said. hear_prospect net home from said node) is ∙ (leads ∙ ap becoming (sym same))

-- what follows where memory sufficed
pub where_ok : {T E P Q : Type 0} (result : Result T E) → (P → Q) → OnOk result P → OnOk result Q
where_ok (Ok x) follows holds = follows holds
where_ok (Err e) follows holds = holds
