use Rattle.std.proofs.Common.{◌≡◌, ◌≤◌, ℕ, List, Some, false, true, length, refl, ap, sym, ◌∙◌, arith}
use Rattle.protocol.specs.Node.Common.{MAX_NODES, holds, live_in, LiveView, is_down, ModeView, Down, InDoubt, Runs}
use Rattle.protocol.specs.Node.Common.{may_decide, participants_of}
use Rattle.protocol.specs.Node.Verdicts.{all_answered}
use Rattle.node.specs.NodeView.{mode_view}
use Rattle.node.proofs.Verdicts.{are_others, both_of, decide_fine, decided_fits, participants_few}
use Rattle.std.proofs.lemmas.Grind.{elements}
use Rattle.node.proofs.checkpoint.plan_decide.Goals as goal

-- a node that collects answers runs
collects_up : (mode : ModeView) (live : LiveView) → live_in mode ≡ Some live → is_down mode ≡ false
collects_up Down live is = absurd (cc)
collects_up InDoubt live is = absurd (cc)
collects_up (Runs running) live is = refl

pub returns-clause-can : goal.returns-clause-can
returns-clause-can c =
    let number = c.args.number in
    let kept = c.args.kept.now in
    let mode = mode_view c.args.state.now.mode in
    let live = c.in-Some.live.now in
    let items = c.in_ok-participants.participants.items in
    let n = c.number.result in
    let collects : live_in mode ≡ Some live = sym c.in-Some.ensures in
    let due : may_decide number kept (Some live) ≡ true = sym c.may_decide.ensures ∙ c.if-not-may_decide.false in
    let held : holds number n kept.tentative ≡ true =
    ap (λ (m : ℕ). holds number m kept.tentative) c.number.ensures
    ∙ (both_of (holds number live.number kept.tentative) (all_answered live.questions) due).0 in
    let room = c.requires.decided.room (ap (may_decide number kept) collects ∙ due) in
    let few : length items ≤ MAX_NODES =
    (let short = participants_few (length kept.highest) live.takers in
    let all = c.requires.decided.few in
    let same = ap (λ (ps : List ℕ). length ps) (c.in_ok-participants.ensures
    ∙ ap (λ (m : ℕ). participants_of m live.takers) c.count_nodes-nodes.ensures) in
    omega (arith, short, all, same)) in
    record {
      up = collects_up mode live collects;
      may_be_put =
          are_others number kept live.takers items c.count_nodes-nodes.result c.requires.named c.count_nodes-nodes.ensures
          c.requires.decided.few (c.requires.decided.others live collects) c.in_ok-participants.ensures;
      fine = decide_fine number n items kept c.requires.named held room;
      may_follow = tt;
      fits = λ short capacity fits. decided_fits capacity kept c.requires.decided.bounded fits n items few room;
    }

pub returns-then-not-may_decide-clause-view : goal.returns-then-not-may_decide-clause-view
returns-then-not-may_decide-clause-view c = grind (arith, elements)

pub returns-clause-view : goal.returns-clause-view
returns-clause-view c = grind (arith, elements)

pub returns-in_default-clause-view : goal.returns-in_default-clause-view
returns-in_default-clause-view c = grind (arith, elements)
