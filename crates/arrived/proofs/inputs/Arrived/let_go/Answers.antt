use Rattle.std.proofs.Common.{◌<◌, ◌≤◌, ℕ, ℤ, List, [], length, map, slice_set, sym, ap, subst, ◌∙◌, arith}
use Rattle.std.proofs.lemmas.List.{map-set}
use Rattle.kahn_net.specs.Fits.{AreCounted}
use Rattle.arrived.specs.ArrivedView.{ListView, ArrivedView, MayLetGo}
use Rattle.arrived.proofs.Listing.{map_kept, map_at}
use Rattle.arrived.proofs.inputs.Arrived.let_go.Goals as goal

pub invariant_of-self : goal.invariant_of-self
invariant_of-self c =
    subst (λ (l : List (List ℤ)). AreCounted l)
    (sym (map_kept (λ (list : ListView). list.came) c.self.inside.lists.items c.args.channel c.index_mut.result.now
    c.let_go.new.self c.index_mut.ensures.value c.let_go.ensures.came))
    c.self.invariant

pub returns-then-channel-len-clause-came : goal.returns-then-channel-len-clause-came
returns-then-channel-len-clause-came c =
    map_kept (λ (list : ListView). list.came) c.self.inside.lists.items c.args.channel c.index_mut.result.now
    c.let_go.new.self c.index_mut.ensures.value c.let_go.ensures.came
    ∙ ap (λ (v : ArrivedView). v.came) c.self.view_is

pub returns-then-channel-len-clause-gone : goal.returns-then-channel-len-clause-gone
returns-then-channel-len-clause-gone c = λ given.
    let lists : List ListView = c.self.inside.lists.items in
    let i : ℕ = c.args.channel in
    let count = c.len.ensures in
    let test = c.if-channel-len.true in
    let below : i < length lists = omega (arith, count, test) in
    let may : MayLetGo (record {
      came = map (λ (list : ListView). list.came) lists;
      bases = map (λ (list : ListView). list.base) lists;
    }) i c.args.position =
    subst (λ (v : ArrivedView). MayLetGo v i c.args.position) (sym c.self.view_is) given in
    let from : c.index_mut.result.now.base ≤ c.args.position =
    subst (λ (n : ℕ). n ≤ c.args.position)
    (map_at (λ (list : ListView). list.base) lists i c.index_mut.result.now 0 below c.index_mut.ensures.value)
    may.from_base in
    let to : c.args.position ≤ length c.index_mut.result.now.came =
    subst (λ (l : List ℤ). c.args.position ≤ length l)
    (map_at (λ (list : ListView). list.came) lists i c.index_mut.result.now [] below c.index_mut.ensures.value)
    may.to_end in
    map-set (λ (list : ListView). list.base) lists i c.let_go.new.self
    ∙ (ap (slice_set (map (λ (list : ListView). list.base) lists) i) (c.let_go.ensures.gone from to)
    ∙ ap (λ (v : ArrivedView). slice_set v.bases i c.args.position) c.self.view_is)
