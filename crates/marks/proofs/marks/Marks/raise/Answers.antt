use Rattle.std.proofs.Common.{◌≡◌, ◌<◌, ℕ, rules, sym, subst, max, ◌∙◌, arith, Option}
use Rattle.std.specs.Prelude.{Vec}
use Rattle.std.specs.declared.alloc.Global.{Global}
use Rattle.atomic_table.specs.Table.{Allows}
use Rattle.marks.specs.Known.{HasRaised}
use Rattle.marks.specs.Owners.{IsOutputOf}
use Rattle.marks.specs.Rules.{HoldsOfMarks}
use Rattle.marks.proofs.Moves.{raises, output_inside}
use Rattle.marks.proofs.marks.Marks.raise.Goals as goal

pub fetch_max-requires : goal.fetch_max-requires
fetch_max-requires g c =
    let self = c.args.self.now in
    let seat = c.args.seat.now.seat in
    let place : c.from.result ≡ c.args.freed.output = search rules in
    let fits : IsOutputOf self.owners.items seat.me.0.node c.args.freed.output =
    subst (λ node. IsOutputOf self.owners.items node c.args.freed.output) (sym c.args.seat.now.own_node)
    c.requires.fits in
    let inside : c.from.result < self.table.shared.table_id.words =
    let below = output_inside self.owners.items seat.me.0.node c.args.freed.output fits in
    let room = self.room in omega arith in
    let AtKey =
    λ (key : Vec (Option ℕ) Global). Allows (λ s. HoldsOfMarks key.items s) self.table.shared.table_id.slots
    seat.id seat.me c.from.result (λ n. max n c.args.freed.number)
    (λ _ w. HasRaised seat.me.0 c.from.result c.args.freed.number w.0) in
    let AtPlace = λ (at : ℕ). IsOutputOf self.owners.items seat.me.0.node at in (
      c.args.seat.now.here ∙ sym self.here,
      inside,
      subst AtKey (sym self.same)
          (raises self.owners.items _ seat.id c.from.result c.args.freed.number seat.me
          (subst AtPlace (sym place) fits)),
    )
