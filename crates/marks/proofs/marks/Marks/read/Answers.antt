use Rattle.std.proofs.Common.{◌≡◌, ◌<◌, ◌⊎◌, ℕ, rules, sym, subst, ◌∙◌, arith, Option, length}
use Rattle.std.specs.List.{Contains}
use Rattle.std.specs.Prelude.{Vec, Some}
use Rattle.std.specs.declared.alloc.Global.{Global}
use Rattle.atomic_table.specs.Table.{Allows}
use Rattle.marks.specs.Known.{HasRead, BeginsWith, greatest, known_of}
use Rattle.marks.specs.Owners.{owner_at}
use Rattle.marks.specs.Rules.{HoldsOfMarks}
use Rattle.marks.proofs.Moves.{reads, owned_inside, greatest_is_in, greatest_rises}
use Rattle.marks.proofs.marks.Marks.read.Goals as goal

pub load-requires : goal.load-requires
load-requires g c =
    let self = c.args.self.now in
    let seat = c.args.seat.now.seat in
    let place : c.from.result ≡ c.args.channel = search rules in
    let own : owner_at self.owners.items c.args.channel ≡ Some _ = sym c.owner.ensures ∙ c.in-Some.is in
    let below = owned_inside self.owners.items c.args.channel _ own in
    let inside : c.from.result < self.table.shared.table_id.words = let room = self.room in omega arith in
    let AtKey =
    λ (key : Vec (Option ℕ) Global). Allows (λ s. HoldsOfMarks key.items s) self.table.shared.table_id.slots
    seat.id seat.me c.from.result (λ n. n) (λ n w. HasRead seat.me.0 c.from.result n w.0) in
    let AtPlace = λ (at : ℕ). at < length self.owners.items in (
      c.args.seat.now.here ∙ sym self.here,
      inside,
      subst AtKey (sym self.same)
          (reads self.owners.items _ seat.id c.from.result seat.me (subst AtPlace (sym place) below)),
    )

pub returns-in-Some-clause-was_raised : goal.returns-in-Some-clause-was_raised
returns-in-Some-clause-was_raised g c =
    let place : c.from.result ≡ c.args.channel = search rules in
    let after = c.load.new.seat.me.0 in
    let is : c.load.result ≡ greatest (known_of after c.args.channel) =
    subst (λ (at : ℕ). c.load.result ≡ greatest (known_of after at)) place c.load.ensures.2.is_greatest in
    subst (λ (n : ℕ). (n ≡ 0) ⊎ Contains (known_of after c.args.channel) n) (sym is)
    (greatest_is_in (known_of after c.args.channel))

pub returns-in-Some-clause-rises : goal.returns-in-Some-clause-rises
returns-in-Some-clause-rises g c _ =
    let place : c.from.result ≡ c.args.channel = search rules in
    let before = c.args.seat.now.seat.me.0 in
    let after = c.load.new.seat.me.0 in
    let is : c.load.result ≡ greatest (known_of after c.args.channel) =
    subst (λ (at : ℕ). c.load.result ≡ greatest (known_of after at)) place c.load.ensures.2.is_greatest in
    let grows : BeginsWith (known_of after c.args.channel) (known_of before c.args.channel) =
    subst (λ (at : ℕ). BeginsWith (known_of after at) (known_of before at)) place c.load.ensures.2.grows in
    let risen = greatest_rises (known_of after c.args.channel) (known_of before c.args.channel) grows in
    omega arith
