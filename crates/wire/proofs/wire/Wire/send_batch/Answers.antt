use Rattle.std.proofs.Common.{rules, ⊎_elim, List, length, ℕ, ap, subst, sym, ◌∙◌, arith, ◌≡◌, []}
use Rattle.std.proofs.lemmas.List.{length-map}
use Rattle.wire.specs.Queue.{QueueState}
use Rattle.wire.specs.Staging.{IsReady, by_no_rule}
use Rattle.wire.specs.Traffic.{queue_traffic, traffic_of}
use Rattle.wire.specs.declared.sending.Sending.{Sending}
use Rattle.wire.proofs.Free.{free_sent}
use Rattle.wire.proofs.Ready.{ready_sent}
use Rattle.wire.proofs.wire.Wire.send_batch.Goals as goal

-- where no rule is for any of them they go as they are
pub returns-then-is_empty : goal.returns-then-is_empty
returns-then-is_empty c = λ round packets all ready.
    let was = traffic_of c.args.self.now in
    let none : c.batch.inside.queues.items ≡ [] = search rules in
    ⊎_elim
    (λ straight. c.put_straight.ensures
    ∙ (ap (λ (r : ℕ). by_no_rule r c.batch.inside.straight.items was) straight.2
    ∙ (ap (λ (list : List Sending). by_no_rule round list was) straight.1
    ∙ sym (free_sent was.rules round packets was.queues straight.0))))
    (λ queued. (let many = queued.1 in
    let zero = ap (length {A = QueueState}) none in absurd (omega (arith, many, zero))))
    (subst (IsReady was round packets) (sym c.batch.view_is) ready)

pub returns-else-is_empty : goal.returns-else-is_empty
returns-else-is_empty c = λ round packets all ready.
    let was = traffic_of c.args.self.now in
    ⊎_elim
    (λ straight. (let none : c.batch.inside.queues.items ≡ [] = straight.3 in search rules))
    (λ queued. c.join_queues.ensures.joined
    ∙ ready_sent was round packets c.batch.inside.queues.items
    (length-map c.args.self.now.queues queue_traffic ∙ c.join_queues.ensures.count) all queued.2)
    (subst (IsReady was round packets) (sym c.batch.view_is) ready)
