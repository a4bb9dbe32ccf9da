use Rattle.std.proofs.Common.{◌≡◌, ◌∙◌, ◌∷◌, false, true, List, Some, None, refl, subst, sym, ap, arith}
use Rattle.std.specs.Prelude.{slice_get, slice_set, IfErr}
use Rattle.host.specs.Answers.{answered}
use Rattle.host.specs.Requests.{Request, Took}
use Rattle.host_ports.proofs.Saying.{asked_more}
use Rattle.host_ports.proofs.Ported.{at_end_by, end_on, fault_by, given_on, not_at_end, others_on, refilled_at, slot_is, stand_on}
use Rattle.host_ports.specs.Ports.{IsOpenOrNot, IsPortFault, IsReadOn, items_from, PortIsFor, took}
use Rattle.host_ports.specs.declared.fault.PortFault.TheVariants.{NoMemory}
use Rattle.host_ports.proofs.ports.PortsOutside.take.Goals as goal

pub returns-in-Ok-false-clause-end : goal.returns-in-Ok-false-clause-end
returns-in-Ok-false-clause-end g c = λ no.
    let here : slice_get c.args.self.now.ports.items c.args.input ≡ Some c.index.result.now =
    slot_is c.args.self.now.ports.items c.from-number.result c.args.input c.args.self.now.ports.len c.index.result.now c.from-number.ensures
    c.args.self.now.ports.ok.0 (omega (arith, c.if-number-len.false, c.len.ensures)) c.index.ensures in
    let is : IsOpenOrNot false c.index.result.now = rw (← c.in-Ok-false.field-0-test) c.in-Ok-false.ensures.on in
    at_end_by c.args.self.now.fixed.form g.H.Host.source_number (g.H.Host.asked c.args.self.now.host) c.args.self.now.ports.items c.args.input c.index.result.now
    here c.args.self.now.stand is

pub returns-in-Err-clause-failed : goal.returns-in-Err-clause-failed
returns-in-Err-clause-failed g c =
    let here : slice_get c.args.self.now.ports.items c.args.input ≡ Some c.index.result.now =
    slot_is c.args.self.now.ports.items c.from-number.result c.args.input c.args.self.now.ports.len c.index.result.now c.from-number.ensures
    c.args.self.now.ports.ok.0 (omega (arith, c.if-number-len.false, c.len.ensures)) c.index.ensures in
    fault_by c.args.self.now.fixed.form g.H.Host.source_number (g.H.Host.asked c.args.self.now.host) c.args.self.now.ports.items c.args.input c.index.result.now
    c.in-Err.fault here c.args.self.now.stand c.in-Err.ensures.none c.in-Err.ensures.fault

pub invariant_of-self-2 : goal.invariant_of-self-2
invariant_of-self-2 g c =
    let slot : c.index_mut.result.now ≡ Some c.in-Some.port = sym c.take.ensures.value ∙ c.in-Some.is in
    let here : slice_get c.args.self.now.ports.items c.args.input ≡ Some (Some c.in-Some.port) =
    slot_is c.args.self.now.ports.items c.from-number.result c.args.input c.args.self.now.ports.len c.index_mut.result.now c.from-number.ensures
    c.args.self.now.ports.ok.0 (omega (arith, c.if-number-len.false, c.len.ensures)) c.index_mut.ensures.value ∙ ap Some slot in
    let one = c.args.self.now.stand c.args.input c.in-Some.port here in
    let asked : g.H.Host.asked c.take-answer.new.self ≡ Took c.args.input (answered (λ done. c.take-answer.new.piece.items) c.take-answer.result) ∷ g.H.Host.asked c.args.self.now.host =
    c.take-answer.ensures.asked ∙ (rw one.number refl) in
    let read : IsReadOn c.args.self.now.fixed.form (g.H.Host.asked c.args.self.now.host) (Took c.args.input (answered (λ done. c.take-answer.new.piece.items) c.take-answer.result) ∷ g.H.Host.asked c.args.self.now.host) c.args.input c.read_answer-taken.new.port c.read_answer-taken.new.items.items c.read_answer-taken.result =
    c.read_answer-taken.ensures.read c.args.self.now.fixed.form (g.H.Host.asked c.args.self.now.host) (record { ended = one.stands.ended; read = one.stands.read }) in
    let is : PortIsFor c.args.self.now.fixed.form g.H.Host.source_number (Took c.args.input (answered (λ done. c.take-answer.new.piece.items) c.take-answer.result) ∷ g.H.Host.asked c.args.self.now.host) c.args.input c.read_answer-taken.new.port = record {
      number = ap g.H.Host.source_number c.read_answer-taken.ensures.source ∙ (c.take-answer.ensures.number ∙ one.number);
      stands = read.stands;
    } in
    record {
      spoken = rw asked c.args.self.now.spoken;
      asked_on = asked_more _ _ _ _ asked (took _ _ refl) c.args.self.now.asked_on;
      given = rw (c.take.ensures.after, c.from-number.ensures) (given_on c.args.self.now.fixed.given.value.items c.args.self.now.ports.items c.args.input
          c.in-Some.port c.read_answer-taken.new.port here c.args.self.now.given);
      stand = rw (asked, c.take.ensures.after, c.from-number.ensures) (stand_on c.args.self.now.fixed.form g.H.Host.source_number (g.H.Host.asked c.args.self.now.host) c.args.self.now.ports.items c.args.input c.in-Some.port
          c.read_answer-taken.new.port (answered (λ done. c.take-answer.new.piece.items) c.take-answer.result) here c.args.self.now.stand is);
    }

pub returns-clause-came : goal.returns-clause-came
returns-clause-came g c =
    let slot : c.index_mut.result.now ≡ Some c.in-Some.port = sym c.take.ensures.value ∙ c.in-Some.is in
    let here : slice_get c.args.self.now.ports.items c.args.input ≡ Some (Some c.in-Some.port) =
    slot_is c.args.self.now.ports.items c.from-number.result c.args.input c.args.self.now.ports.len c.index_mut.result.now c.from-number.ensures
    c.args.self.now.ports.ok.0 (omega (arith, c.if-number-len.false, c.len.ensures)) c.index_mut.ensures.value ∙ ap Some slot in
    let one = c.args.self.now.stand c.args.input c.in-Some.port here in
    let asked : g.H.Host.asked c.take-answer.new.self ≡ Took c.args.input (answered (λ done. c.take-answer.new.piece.items) c.take-answer.result) ∷ g.H.Host.asked c.args.self.now.host =
    c.take-answer.ensures.asked ∙ (rw one.number refl) in
    let read : IsReadOn c.args.self.now.fixed.form (g.H.Host.asked c.args.self.now.host) (Took c.args.input (answered (λ done. c.take-answer.new.piece.items) c.take-answer.result) ∷ g.H.Host.asked c.args.self.now.host) c.args.input c.read_answer-taken.new.port c.read_answer-taken.new.items.items c.read_answer-taken.result =
    c.read_answer-taken.ensures.read c.args.self.now.fixed.form (g.H.Host.asked c.args.self.now.host) (record { ended = one.stands.ended; read = one.stands.read }) in
    rw asked read.came

pub returns-clause-stays : goal.returns-clause-stays
returns-clause-stays g c = λ ended.
    let slot : c.index_mut.result.now ≡ Some c.in-Some.port = sym c.take.ensures.value ∙ c.in-Some.is in
    let here : slice_get c.args.self.now.ports.items c.args.input ≡ Some (Some c.in-Some.port) =
    slot_is c.args.self.now.ports.items c.from-number.result c.args.input c.args.self.now.ports.len c.index_mut.result.now c.from-number.ensures
    c.args.self.now.ports.ok.0 (omega (arith, c.if-number-len.false, c.len.ensures)) c.index_mut.ensures.value ∙ ap Some slot in
    let there : slice_get c.args.self.now.ports.items c.args.input ≡ Some c.index.result.now =
    slot_is c.args.self.now.ports.items c.from-number.result c.args.input c.args.self.now.ports.len c.index.result.now c.from-number.ensures
    c.args.self.now.ports.ok.0 (omega (arith, c.if-number-len.false, c.len.ensures)) c.index.ensures in
    let one : c.index.result.now ≡ Some c.in-Some.port = cc in
    let is : IsOpenOrNot true c.index.result.now = rw (← c.in-Ok-true.field-0-test) c.in-Ok-true.ensures.on in
    let open_so : IsOpenOrNot true (Some c.in-Some.port) = subst (λ slot. IsOpenOrNot true slot) one is in
    let opened = not_at_end c.args.self.now.fixed.form g.H.Host.source_number (g.H.Host.asked c.args.self.now.host) c.args.self.now.ports.items c.args.input c.in-Some.port
    here c.args.self.now.stand open_so.0 in
    absurd cc

pub returns-clause-lost : goal.returns-clause-lost
returns-clause-lost g c =
    let slot : c.index_mut.result.now ≡ Some c.in-Some.port = sym c.take.ensures.value ∙ c.in-Some.is in
    let here : slice_get c.args.self.now.ports.items c.args.input ≡ Some (Some c.in-Some.port) =
    slot_is c.args.self.now.ports.items c.from-number.result c.args.input c.args.self.now.ports.len c.index_mut.result.now c.from-number.ensures
    c.args.self.now.ports.ok.0 (omega (arith, c.if-number-len.false, c.len.ensures)) c.index_mut.ensures.value ∙ ap Some slot in
    let one = c.args.self.now.stand c.args.input c.in-Some.port here in
    let asked : g.H.Host.asked c.take-answer.new.self ≡ Took c.args.input (answered (λ done. c.take-answer.new.piece.items) c.take-answer.result) ∷ g.H.Host.asked c.args.self.now.host =
    c.take-answer.ensures.asked ∙ (rw one.number refl) in
    let read : IsReadOn c.args.self.now.fixed.form (g.H.Host.asked c.args.self.now.host) (Took c.args.input (answered (λ done. c.take-answer.new.piece.items) c.take-answer.result) ∷ g.H.Host.asked c.args.self.now.host) c.args.input c.read_answer-taken.new.port c.read_answer-taken.new.items.items c.read_answer-taken.result =
    c.read_answer-taken.ensures.read c.args.self.now.fixed.form (g.H.Host.asked c.args.self.now.host) (record { ended = one.stands.ended; read = one.stands.read }) in
    rw asked read.lost

pub returns-clause-failed : goal.returns-clause-failed
returns-clause-failed g c =
    let slot : c.index_mut.result.now ≡ Some c.in-Some.port = sym c.take.ensures.value ∙ c.in-Some.is in
    let here : slice_get c.args.self.now.ports.items c.args.input ≡ Some (Some c.in-Some.port) =
    slot_is c.args.self.now.ports.items c.from-number.result c.args.input c.args.self.now.ports.len c.index_mut.result.now c.from-number.ensures
    c.args.self.now.ports.ok.0 (omega (arith, c.if-number-len.false, c.len.ensures)) c.index_mut.ensures.value ∙ ap Some slot in
    let one = c.args.self.now.stand c.args.input c.in-Some.port here in
    let asked : g.H.Host.asked c.take-answer.new.self ≡ Took c.args.input (answered (λ done. c.take-answer.new.piece.items) c.take-answer.result) ∷ g.H.Host.asked c.args.self.now.host =
    c.take-answer.ensures.asked ∙ (rw one.number refl) in
    let read : IsReadOn c.args.self.now.fixed.form (g.H.Host.asked c.args.self.now.host) (Took c.args.input (answered (λ done. c.take-answer.new.piece.items) c.take-answer.result) ∷ g.H.Host.asked c.args.self.now.host) c.args.input c.read_answer-taken.new.port c.read_answer-taken.new.items.items c.read_answer-taken.result =
    c.read_answer-taken.ensures.read c.args.self.now.fixed.form (g.H.Host.asked c.args.self.now.host) (record { ended = one.stands.ended; read = one.stands.read }) in
    subst (λ (now : List Request). IfErr c.read_answer-taken.result (IsPortFault c.args.self.now.fixed.form now)) (sym asked) read.failed

pub returns-clause-kept : goal.returns-clause-kept
returns-clause-kept g c =
    let slot : c.index_mut.result.now ≡ Some c.in-Some.port = sym c.take.ensures.value ∙ c.in-Some.is in
    let here : slice_get c.args.self.now.ports.items c.args.input ≡ Some (Some c.in-Some.port) =
    slot_is c.args.self.now.ports.items c.from-number.result c.args.input c.args.self.now.ports.len c.index_mut.result.now c.from-number.ensures
    c.args.self.now.ports.ok.0 (omega (arith, c.if-number-len.false, c.len.ensures)) c.index_mut.ensures.value ∙ ap Some slot in
    let one = c.args.self.now.stand c.args.input c.in-Some.port here in
    let asked : g.H.Host.asked c.take-answer.new.self ≡ Took c.args.input (answered (λ done. c.take-answer.new.piece.items) c.take-answer.result) ∷ g.H.Host.asked c.args.self.now.host =
    c.take-answer.ensures.asked ∙ (rw one.number refl) in
    let read : IsReadOn c.args.self.now.fixed.form (g.H.Host.asked c.args.self.now.host) (Took c.args.input (answered (λ done. c.take-answer.new.piece.items) c.take-answer.result) ∷ g.H.Host.asked c.args.self.now.host) c.args.input c.read_answer-taken.new.port c.read_answer-taken.new.items.items c.read_answer-taken.result =
    c.read_answer-taken.ensures.read c.args.self.now.fixed.form (g.H.Host.asked c.args.self.now.host) (record { ended = one.stands.ended; read = one.stands.read }) in
    subst (λ (now : List Request). IfErr c.read_answer-taken.result (λ fault. ¬ (fault ≡ NoMemory)
    → items_from c.args.self.now.fixed.form c.args.input now ≡ items_from c.args.self.now.fixed.form c.args.input (g.H.Host.asked c.args.self.now.host))) (sym asked) read.kept

pub returns-clause-end : goal.returns-clause-end
returns-clause-end g c =
    let slot : c.index_mut.result.now ≡ Some c.in-Some.port = sym c.take.ensures.value ∙ c.in-Some.is in
    let here : slice_get c.args.self.now.ports.items c.args.input ≡ Some (Some c.in-Some.port) =
    slot_is c.args.self.now.ports.items c.from-number.result c.args.input c.args.self.now.ports.len c.index_mut.result.now c.from-number.ensures
    c.args.self.now.ports.ok.0 (omega (arith, c.if-number-len.false, c.len.ensures)) c.index_mut.ensures.value ∙ ap Some slot in
    let one = c.args.self.now.stand c.args.input c.in-Some.port here in
    let asked : g.H.Host.asked c.take-answer.new.self ≡ Took c.args.input (answered (λ done. c.take-answer.new.piece.items) c.take-answer.result) ∷ g.H.Host.asked c.args.self.now.host =
    c.take-answer.ensures.asked ∙ (rw one.number refl) in
    let read : IsReadOn c.args.self.now.fixed.form (g.H.Host.asked c.args.self.now.host) (Took c.args.input (answered (λ done. c.take-answer.new.piece.items) c.take-answer.result) ∷ g.H.Host.asked c.args.self.now.host) c.args.input c.read_answer-taken.new.port c.read_answer-taken.new.items.items c.read_answer-taken.result =
    c.read_answer-taken.ensures.read c.args.self.now.fixed.form (g.H.Host.asked c.args.self.now.host) (record { ended = one.stands.ended; read = one.stands.read }) in
    let filled : slice_get (slice_set (slice_set c.args.self.now.ports.items c.args.input None) c.args.input (Some c.read_answer-taken.new.port)) c.args.input ≡ Some (Some c.read_answer-taken.new.port) =
    refilled_at c.args.self.now.ports.items c.args.input (Some c.in-Some.port) None (Some c.read_answer-taken.new.port) here in
    rw (asked, c.take.ensures.after, c.from-number.ensures) (end_on _ c.read_answer-taken.new.port _ c.read_answer-taken.result filled read.end)

pub returns-clause-others : goal.returns-clause-others
returns-clause-others g c =
    let slot : c.index_mut.result.now ≡ Some c.in-Some.port = sym c.take.ensures.value ∙ c.in-Some.is in
    let here : slice_get c.args.self.now.ports.items c.args.input ≡ Some (Some c.in-Some.port) =
    slot_is c.args.self.now.ports.items c.from-number.result c.args.input c.args.self.now.ports.len c.index_mut.result.now c.from-number.ensures
    c.args.self.now.ports.ok.0 (omega (arith, c.if-number-len.false, c.len.ensures)) c.index_mut.ensures.value ∙ ap Some slot in
    let one = c.args.self.now.stand c.args.input c.in-Some.port here in
    let asked : g.H.Host.asked c.take-answer.new.self ≡ Took c.args.input (answered (λ done. c.take-answer.new.piece.items) c.take-answer.result) ∷ g.H.Host.asked c.args.self.now.host =
    c.take-answer.ensures.asked ∙ (rw one.number refl) in
    rw (asked, c.take.ensures.after, c.from-number.ensures) (others_on c.args.self.now.fixed.form (g.H.Host.asked c.args.self.now.host) c.args.self.now.ports.items c.args.input c.read_answer-taken.new.port (answered (λ done. c.take-answer.new.piece.items) c.take-answer.result))
