use Rattle.std.proofs.Common.{◌≡◌, ◌+◌, ◌<◌, ◌≤◌, ◌++◌, ℕ, ℤ, List, [], OnOk, length, map, slice_set, get_or, sym, ap}
use Rattle.std.proofs.Common.{subst, ◌∙◌, arith}
use Rattle.std.proofs.lemmas.List.{length-map}
use Rattle.kahn_net.specs.Streams.{history_of}
use Rattle.kahn_net.specs.declared.limits.TheConstants.{MAX_COUNT}
use Rattle.arrived.specs.ArrivedView.{ListView, ArrivedView}
use Rattle.arrived.proofs.Listing.{map_kept, map_at, counted_set, few_added, base_added, came_added}
use Rattle.arrived.proofs.inputs.Arrived.append.Goals as goal

within : (lists : List ListView) (i : ℕ) (view : ArrivedView)
    → (let shown : ArrivedView =
    record { came = map (λ (list : ListView). list.came) lists; bases = map (λ (list : ListView). list.base) lists } in
    shown ≡ view)
    → i < length view.came → i < length lists
within lists i view is here =
    let there : i < length (map (λ (list : ListView). list.came) lists) =
    subst (λ (v : ArrivedView). i < length v.came) (sym is) here in
    let same = length-map lists (λ (list : ListView). list.came) in
    omega (arith, there, same)

few_here : (lists : List ListView) (i : ℕ) (old : ListView) (more : List ℤ) (view : ArrivedView)
    → (let shown : ArrivedView =
    record { came = map (λ (list : ListView). list.came) lists; bases = map (λ (list : ListView). list.base) lists } in
    shown ≡ view)
    → i < length view.came → old ≡ get_or lists i old → length (history_of view.came i) + length more ≤ MAX_COUNT
    → length old.came + length more ≤ MAX_COUNT
few_here lists i old more view is here at few =
    subst (λ (l : List ℤ). length l + length more ≤ MAX_COUNT)
    (map_at (λ (list : ListView). list.came) lists i old [] (within lists i view is here) at)
    (subst (λ (v : ArrivedView). length (history_of v.came i) + length more ≤ MAX_COUNT) (sym is) few)

pub invariant_of-self : goal.invariant_of-self
invariant_of-self c =
    counted_set c.self.inside.lists.items c.args.channel c.append.new.self
    (few_added c.index_mut.result.now c.append.new.self c.args.items.now c.append.result
    (few_here c.self.inside.lists.items c.args.channel c.index_mut.result.now c.args.items.now c.args.self.now
    c.self.view_is c.requires.here c.index_mut.ensures.value c.requires.few)
    c.append.ensures.ok c.append.ensures.err)
    c.self.invariant

pub returns-clause-came : goal.returns-clause-came
returns-clause-came c =
    subst (λ (v : ArrivedView). OnOk c.append.result (map (λ (list : ListView). list.came)
    (slice_set c.self.inside.lists.items c.args.channel c.append.new.self)
    ≡ slice_set v.came c.args.channel (history_of v.came c.args.channel ++ c.args.items.now)))
    c.self.view_is
    (came_added c.index_mut.result.now c.append.new.self c.args.items.now c.append.result c.self.inside.lists.items
    c.args.channel
    (within c.self.inside.lists.items c.args.channel c.args.self.now c.self.view_is c.requires.here)
    c.index_mut.ensures.value c.append.ensures.ok)

pub returns-clause-bases : goal.returns-clause-bases
returns-clause-bases c =
    map_kept (λ (list : ListView). list.base) c.self.inside.lists.items c.args.channel c.index_mut.result.now
    c.append.new.self c.index_mut.ensures.value
    (base_added c.index_mut.result.now c.append.new.self c.args.items.now c.append.result c.append.ensures.ok
    c.append.ensures.err)
    ∙ ap (λ (v : ArrivedView). v.bases) c.self.view_is
