use Rattle.std.proofs.Common.{◌≡◌, ◌∙◌, ◌+◌, ℕ, List, [], ◌∷◌, ◌++◌, map, arith, refl, sym, ap, subst}
use Rattle.std.specs.List.{All, sum_by}
use Rattle.std.proofs.lemmas.List.{length-append}
use Rattle.std.proofs.lemmas.List.Sums.{sum_by-append}
use Rattle.std.proofs.lemmas.Iterator.Adapters.{YieldsList-from_vec}
use Rattle.std.proofs.lemmas.Iterator.Consumers.{YieldsList-end}
use Rattle.std.proofs.lemmas.List.Elements.{All-push}
use Rattle.journal.specs.Histories.{Begins, seen, written}
use Rattle.run_log.specs.Numbers.{Numbers, added, numbers}
use Rattle.run_log.specs.SeatCounts.{seat_numbers}
use Rattle.run_log.specs.declared.history.Line.{Line}
use Rattle.run_log.specs.declared.seat_count.Run.{Ghosts as RunWords}
use Rattle.runtime.specs.Seats.{numbers_of_seats}
use Rattle.runtime.specs.declared.hub_run.HubRun.{Ghosts as HubWords}
use Rattle.runtime.specs.declared.seat.NodeSeat.{NodeSeat}
use Rattle.runtime.proofs.seat.DriverSeat.with_all.Goals as goal

same_list : {A : Type 0} (all : List A) → map (λ (a : A). a) all ≡ all
same_list [] = refl
same_list (a ∷ all) = ap (λ rest. a ∷ rest) (same_list all)

-- one more seat
module _ {ThisRun : Type 0} {hub : HubWords ThisRun} {run : RunWords ThisRun} (seats : List (NodeSeat ThisRun hub run))
    (seat : NodeSeat ThisRun hub run) (driver : Numbers) where
  one_more : (count : NodeSeat ThisRun hub run → ℕ) (other : ℕ)
      → sum_by count seats + other + count seat ≡ sum_by count (seats ++ seat ∷ []) + other
  one_more count other = omega (arith, sum_by-append count seats (seat ∷ []))

  numbers_more : added (added (numbers_of_seats seats) driver) (seat_numbers seat.count)
      ≡ added (numbers_of_seats (seats ++ seat ∷ [])) driver
  numbers_more i =
      numbers (one_more (λ (s : NodeSeat ThisRun hub run). s.count.entries.amount) driver.entries i)
      (one_more (λ (s : NodeSeat ThisRun hub run). s.count.nothings.amount) driver.nothings i)
      (one_more (λ (s : NodeSeat ThisRun hub run). s.count.not_yets.amount) driver.not_yets i)
      (one_more (λ (s : NodeSeat ThisRun hub run). s.count.no_mores.amount) driver.no_mores i)
      (one_more (λ (s : NodeSeat ThisRun hub run). s.count.stops.amount) driver.stops i)

pub loop-seat-preserved : goal.loop-seat-preserved
loop-seat-preserved g c =
    let loop = c.loop-seat.invariant in
    let recalled = c.recall-in-loop-seat.ensures in
    let seat = c.in-Some.seat in
    record {
      parts = omega (arith, c.merge.ensures.parts, loop.parts, seat.one_part, length-append c.loop-seat.yielded (seat ∷ []));
      same = recalled.same ∙ loop.same;
      same_lines = recalled.written ∙ loop.same_lines;
      shown = All-push (λ (s : NodeSeat _ _ _). Begins (seen s.reader) (written c.args.journal.now)) c.loop-seat.yielded seat loop.shown
          (subst (λ (all : List Line). Begins (seen seat.reader) all) loop.same_lines recalled.begins);
      numbers = c.merge.ensures.numbers ∙ (ap (λ (n : Numbers). added n (seat_numbers seat.count)) loop.numbers
          ∙ numbers_more c.loop-seat.yielded seat (seat_numbers c.args.self.count));
    }

-- the loop went through all seats
pub returns-clause-shown : goal.returns-clause-shown
returns-clause-shown g c =
    let gives = c.into_iter-seat-iterator.ensures.into_iter_gives in
    let end =
    YieldsList-end
    (YieldsList-from_vec {s = c.into_iter-seat-iterator.result} c.args.seats.items gives.0
    (gives.1 ∙ c.args.seats.ok.0)) c.loop-seat.yielded c.loop-seat.seat-iterator c.loop-seat.yielded_by
    c.next.result c.next.new.self c.in-None.is c.next.ensures.steps in
    let all : c.loop-seat.yielded ≡ c.args.seats.items = sym (same_list c.loop-seat.yielded) ∙ end.0 in
    let history = written c.args.journal.now in (
      subst (λ (seats : List (NodeSeat _ _ _)). All (λ (seat : NodeSeat _ _ _). Begins (seen seat.reader) history) seats) all
          c.loop-seat.invariant.shown,
      c.recall.ensures.begins,
    )
