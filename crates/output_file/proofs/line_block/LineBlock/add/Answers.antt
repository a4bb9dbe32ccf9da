use Rattle.std.proofs.Common.{ℕ, List, [], ◌∷◌, ◌++◌, refl, ◌∙◌, ap, arith, w64, FitsSigned, rules}
use Rattle.std.specs.Prelude.{IsOk}
use Rattle.std.specs.Fmt.{signed_decimal}
use Rattle.std.proofs.lemmas.Int.{to_z-of_z}
use Rattle.output_file.proofs.Placing.{one_line_more, with_room}
use Rattle.std.proofs.lemmas.Grind.{common_steps, elements}
use Rattle.output_file.proofs.line_block.LineBlock.add.Goals as goal

pub returns-clause-added : goal.returns-clause-added
returns-clause-added g c = λ added start lines was.
    let f : FitsSigned w64 c.args.item = search rules in
    let text = c.as_bytes-digits.ensures.value ∙ c.format.ensures.text ∙ ap signed_decimal (to_z-of_z w64 _ f) in
    let room : IsOk c.extend_from_slice.result = c.extend_from_slice.ensures.succeeds
    (omega (
      arith,
      c.if-not-make_room.ensures.room refl,
      c.make_room.new.self.block.ok,
      c.make_room.ensures.same_room,
      c.requires.room,
    )) in
    let more = with_room c.extend_from_slice.result _ _ _ room c.extend_from_slice.ensures.items in
    one_line_more start lines _ _ _ _ _ c.as_bytes-digits.result.now _ c.args.item
    (c.make_room.ensures.written start lines was) text
    (c.push_reserved.ensures.items ∙ ap (λ (xs : List ℕ). xs ++ 10 ∷ []) more)
    (omega (arith, c.in-Some.ensures.1, c.make_room.ensures.same_end))

pub returns-in_default-clause-cause : goal.returns-in_default-clause-cause
returns-in_default-clause-cause g c = grind (arith, common_steps)

pub returns-clause-small : goal.returns-clause-small
returns-clause-small g c = grind (arith, elements)

pub push_reserved-requires : goal.push_reserved-requires
push_reserved-requires g c = grind (arith, elements)

pub returns-then-not-make_room-clause-cause : goal.returns-then-not-make_room-clause-cause
returns-then-not-make_room-clause-cause g c = grind (arith, elements)

pub returns-clause-cause : goal.returns-clause-cause
returns-clause-cause g c = grind (arith, elements)
