use Rattle.std.proofs.Common.{rules, ◌≡◌, ◌∙◌, ◌∷◌, ℤ, FitsSigned, w64, ap}
use Rattle.std.proofs.lemmas.Int.{to_z-of_z}
use Rattle.live.specs.LiveViews.{world_on}
use Rattle.stream_run.proofs.Putting.{fewer_left, others_by, put_next}
use Rattle.stream_run.proofs.streaming.put_items.Goals as goal

pub items-smaller : goal.items-smaller
items-smaller g c =
    let same : world_on c.next.new.self ≡ world_on c.items.live = cc in
    fewer_left c.items.live.taken c.next.new.self.taken (world_on c.items.live) (world_on c.next.new.self) c.args.output
    c.next.result c.in-Some.item c.in-Some.is c.next.ensures.item c.next.ensures.counted same

pub items-preserved : goal.items-preserved
items-preserved g c =
    let same : world_on c.next.new.self ≡ world_on c.items.live = cc in
    let fits : FitsSigned w64 c.in-Some.item = search rules in
    let now : g.X.Outside.left c.put.new.self ≡ record { output = c.args.output; item = c.in-Some.item } ∷ g.X.Outside.left c.items.outside =
    c.in-Ok.ensures.left ∙ ap (λ (item : ℤ). record { output = c.args.output; item = item } ∷ g.X.Outside.left c.items.outside)
    (to_z-of_z w64 c.in-Some.item fits) in
    record {
      fixed = c.put.ensures.fixed ∙ c.items.invariant.fixed;
      put = put_next (g.X.Outside.left c.items.outside) (g.X.Outside.left c.put.new.self) c.items.live.taken c.next.new.self.taken
          (world_on c.items.live) (world_on c.next.new.self) c.args.output _ c.next.result c.in-Some.item c.in-Some.is
          c.next.ensures.item c.next.ensures.taken c.next.ensures.counted same now c.items.invariant.put;
      world = c.next.ensures.same.0 ∙ c.items.invariant.world;
      others = λ other apart. others_by (g.X.Outside.left c.items.outside) (g.X.Outside.left c.put.new.self) c.args.output c.in-Some.item
          other now apart ∙ c.items.invariant.others other apart;
      same = λ input. (
        (c.put.ensures.same input).0 ∙ (c.items.invariant.same input).0,
        (c.put.ensures.same input).1 ∙ (c.items.invariant.same input).1,
      );
    }
