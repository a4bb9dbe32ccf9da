use Rattle.std.proofs.Common.{◌≡◌, ◌++◌, ◌∷◌, ◌<◌, [], List, ℤ, set, length, w64, to_z, of_z, FitsSigned, rules, ap, sym, subst, ◌∙◌}
use Rattle.std.proofs.Common.{arith}
use Rattle.std.specs.Prelude.{slice_index}
use Rattle.std.specs.Vec.{with_items}
use Rattle.std.proofs.lemmas.Int.{to_z-of_z}
use Rattle.std.proofs.lemmas.List.{with_items_is}
use Rattle.kahn_net.specs.Common.{history_of}
use Rattle.kahn_net.specs.Statements.{apply}
use Rattle.proc_code.specs.Machine.{behind_value, stack_with, value_in, vars_with}
use Rattle.proc_step.specs.Stepping.{held}
use Rattle.proc_step.proofs.Machines.{apply_moves, get_moves, put_moves}
use Rattle.std.proofs.lemmas.Grind.{common_steps, elements}
use Rattle.proc_step.proofs.machine.Machine.perform.Goals as goal

pub returns-in-Some : goal.returns-in-Some
returns-in-Some c place =
    let m = held c.args.self.now place c.args.stack.now in
    let x = c.in-Get.variable in
    let channel = c.in-Get.channel in
    let h = c.in-Some.ensures.some in
    let f : FitsSigned w64 c.in-Some.item = search rules in
    let unread = c.deref_mut-in-Get.ensures.value in
    get_moves c.args.instruction.now x channel c.in-Get.site c.args.room.now m c.in-Some.item h.0
    (with_items m.variables c.set_variable-in-Get.new.variables) (with_items m.unread c.take_item.new.unread)
    c.in-Get.is (ap (λ (l : List (List ℤ)). history_of l channel) (sym unread) ∙ h.1)
    (with_items_is m.unread _ (omega (arith, c.take_item.auto.unread, c.deref_mut-in-Get.ensures.len))
    ∙ (h.2 ∙ ap (λ (l : List (List ℤ)). set l channel h.0) unread))
    (with_items_is m.variables _
    (omega (arith, c.set_variable-in-Get.auto.variables, c.deref_mut-in-Get-2.ensures.len))
    ∙ c.set_variable-in-Get.ensures
    ∙ (ap (λ (v : ℤ). set c.deref_mut-in-Get-2.result.now x v) (to_z-of_z w64 _ f)
    ∙ ap (λ (l : List ℤ). set l x c.in-Some.item) c.deref_mut-in-Get-2.ensures.value))

pub returns-in_ok-send-in-Put : goal.returns-in_ok-send-in-Put
returns-in_ok-send-in-Put c place =
    let m = held c.args.self.now place c.args.stack.now in
    let channel = c.in-Put.channel in
    let value = c.in-Put.value in
    let f : FitsSigned w64 c.take_value-item.result = search rules in
    let same =
    to_z-of_z w64 _ f ∙ c.take_value-item.ensures.value
    ∙ ap (value_in value m.stack) c.deref-in-Put-2.ensures.value in
    let before = c.deref_mut-in-Put.result.now in
    put_moves c.args.instruction.now channel c.in-Put.site value c.args.room.now m c.take_value-item.new.stack
    (with_items m.sent c.send.new.sent) c.in-Put.is
    (subst (λ (l : List (List ℤ)). length (history_of l channel) < slice_index c.args.room.now channel)
    c.deref-in-Put.ensures.value (c.has_room.ensures.0 c.if-not-has_room.false))
    (with_items_is m.sent _ (omega (arith, c.send.auto.sent, c.deref_mut-in-Put.ensures.len))
    ∙ c.in_ok-send-in-Put.ensures
    ∙ (ap (λ (v : ℤ). set before channel (history_of before channel ++ v ∷ [])) same
    ∙ ap (λ (l : List (List ℤ)). set l channel (history_of l channel ++ value_in value m.stack m.variables.items ∷ []))
    c.deref_mut-in-Put.ensures.value)) c.take_value-item.ensures.rest

pub returns-in_ok-put_value-in-Apply : goal.returns-in_ok-put_value-in-Apply
returns-in_ok-put_value-in-Apply c place =
    let m = held c.args.self.now place c.args.stack.now in
    let vars = m.variables.items in
    let operator = c.in-Apply.operator in
    let left = c.in-Apply.left in
    let right = c.in-Apply.right in
    let to = c.in-Apply.to in
    let at_right = c.take_value-right in
    let at_left = c.take_value-left in
    let of_right : FitsSigned w64 at_right.result = search rules in
    let of_left : FitsSigned w64 at_left.result = search rules in
    let of_made : FitsSigned w64 c.operate.result = search rules in
    let right_is = at_right.ensures.value ∙ ap (value_in right m.stack) c.deref-in-Apply.ensures.value in
    let left_is =
    at_left.ensures.value ∙ ap (λ (s : List ℤ). value_in left s c.deref-in-Apply-2.result.now) at_right.ensures.rest
    ∙ ap (value_in left (behind_value right m.stack)) c.deref-in-Apply-2.ensures.value in
    let x = apply operator (value_in left (behind_value right m.stack) vars) (value_in right m.stack vars) in
    let made : c.operate.result ≡ x =
    c.operate.ensures
    ∙ (ap (λ (l : ℤ). apply operator l (to_z w64 (of_z w64 at_right.result))) (to_z-of_z w64 at_left.result of_left ∙ left_is)
    ∙ ap (apply operator _) (to_z-of_z w64 at_right.result of_right ∙ right_is)) in
    let value = to_z-of_z w64 c.operate.result of_made ∙ made in
    apply_moves c.args.instruction.now operator left right to c.args.room.now m c.put_value-in-Apply.new.stack
    (with_items m.variables c.put_value-in-Apply.new.variables) c.in-Apply.is (
      c.in_ok-put_value-in-Apply.ensures.stack
          ∙ (ap (λ (y : ℤ). stack_with to y at_left.new.stack) value
          ∙ ap (stack_with to x) (at_left.ensures.rest ∙ ap (behind_value left) at_right.ensures.rest)),
      with_items_is m.variables _
          (omega (arith, c.put_value-in-Apply.auto.variables, c.deref_mut-in-Apply.ensures.len))
          ∙ (c.in_ok-put_value-in-Apply.ensures.variables
          ∙ (ap (λ (y : ℤ). vars_with to y c.deref_mut-in-Apply.result.now) value
          ∙ ap (vars_with to x) c.deref_mut-in-Apply.ensures.value)),
    )

pub returns-else-branch : goal.returns-else-branch
returns-else-branch c = grind (arith, elements)

pub returns-in_ok-open-in-Repeat : goal.returns-in_ok-open-in-Repeat
returns-in_ok-open-in-Repeat c = grind (arith, elements)

pub returns-then-branch : goal.returns-then-branch
returns-then-branch c = grind (arith, elements)

pub returns-else-take_value-eq0 : goal.returns-else-take_value-eq0
returns-else-take_value-eq0 c = grind (arith, elements)

pub returns-then-take_value-eq0 : goal.returns-then-take_value-eq0
returns-then-take_value-eq0 c = grind (arith, elements)

pub returns-in-Store : goal.returns-in-Store
returns-in-Store c = grind (arith, common_steps)

pub send-requires : goal.send-requires
send-requires c = grind (arith, common_steps)

pub returns-in-Stop : goal.returns-in-Stop
returns-in-Stop c = grind (arith, elements)

pub returns-in-End : goal.returns-in-End
returns-in-End c = grind (arith, elements)

pub returns-in_default : goal.returns-in_default
returns-in_default c = grind (arith, common_steps)

pub returns-in_ok-put_value-in-Negate : goal.returns-in_ok-put_value-in-Negate
returns-in_ok-put_value-in-Negate c = grind (arith, common_steps)

pub returns-then-not-has_room : goal.returns-then-not-has_room
returns-then-not-has_room c = grind (arith, elements)
