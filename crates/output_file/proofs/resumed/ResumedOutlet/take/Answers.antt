use Rattle.std.proofs.Common.{◌≡◌, ◌+◌, ◌≤◌, ◌<◌, ℕ, ℤ, List, length, Some, Err, ◌⊎◌, ◌^◌, true, sym, ◌∙◌, ap, subst, arith, refl, ◌++◌, ◌∷◌, [], w64, FitsSigned, rules}
use Rattle.std.proofs.lemmas.Int.{to_z-of_z}
use Rattle.std.proofs.lemmas.Option.{slice_get_within}
use Rattle.std.proofs.lemmas.List.{length-append}
use Rattle.std.proofs.lemmas.Result.{err_from_is_err_and}
use Rattle.output_file.specs.Lines.{item_line}
use Rattle.output_file.proofs.Placing.{not_refusing, written_more, all_bytes, refused_append, same_output, written_alike}
use Rattle.std.proofs.lemmas.Grind.{common_steps, elements}
use Rattle.output_file.proofs.resumed.ResumedOutlet.take.Goals as goal

pub invariant_of-self : goal.invariant_of-self
invariant_of-self g c =
    let same : c.append_line.new.items.items ≡ c.args.self.now.items.items = c.in_err-append_line.ensures.err in
    record {
      within = omega (arith, ap length same, c.args.self.now.within);
      held_within = omega (arith, ap length same, c.args.self.now.held_within);
      nothing_ahead = omega (arith, ap length same, c.args.self.now.nothing_ahead);
      differs = subst
          (λ (xs : List ℤ). (position : ℕ) → c.args.self.now.difference ≡ Some position
          → (position ≡ c.args.self.now.count) × (c.args.self.now.count < length xs))
          (sym same) c.args.self.now.differs;
      written = written_alike c.args.self.now.items.items _ c.args.self.now.held _ _ _ _ same
          (c.in_err-append_line.ensures.refused _ _ c.args.self.now.written);
      small = c.append_line.ensures.still_small;
      room = c.append_line.ensures.still_room;
    }

pub returns-in_err-append_line-clause-meets : goal.returns-in_err-append_line-clause-meets
returns-in_err-append_line-clause-meets g c = λ takes is.
    absurd (omega (
      arith,
      slice_get_within c.args.self.now.items.items c.args.self.now.count c.args.item is,
      c.if-self-len.false,
      c.len.ensures,
      c.args.self.now.items.ok,
    ))

pub returns-in_err-append_line-clause-appends : goal.returns-in_err-append_line-clause-appends
returns-in_err-append_line-clause-appends g c = λ takes end.
    let p = err_from_is_err_and c.from_residual.result c.from_residual.ensures.1 in
    let same : c.append_line.new.items.items ≡ c.args.self.now.items.items = c.in_err-append_line.ensures.err in
    let f : FitsSigned w64 c.args.item = search rules in
    let all = all_bytes c.args.self.now.items.items c.args.self.now.held _ _ _ _ c.args.self.now.written in
    rw (p.1, p.2)
    (refused_append _ _ c.args.item c.in_err-append_line.field-0.0
    (λ e. let lines = c.in_err-append_line.ensures.no_memory (ap Err e) in
    same_output same (ap (λ l. l.broken) lines) (ap (λ l. l.block.items) lines)
    (ap (λ l. g.F.LineFile.asked l.file) lines))
    (record { items = same; count = refl; held = refl; difference = refl; differing = refl })
    (λ e. subst
    (λ (n : ℕ). (c.append_line.new.lines.broken ≡ true) ⊎ (2 ^ 64 ≤ n + length (item_line c.args.item))) all
    (rw (← to_z-of_z w64 _ f) (c.in_err-append_line.ensures.cause (ap Err e)))))

pub invariant_of-self-2 : goal.invariant_of-self-2
invariant_of-self-2 g c =
    let f : FitsSigned w64 c.args.item = search rules in
    let pushed : c.append_line.new.items.items ≡ c.args.self.now.items.items ++ c.args.item ∷ [] =
    c.in_ok-append_line.ensures.ok.0 ∙ ap (λ (z : ℤ). c.args.self.now.items.items ++ z ∷ []) (to_z-of_z w64 _ f) in
    let many : length c.append_line.new.items.items ≡ length c.args.self.now.items.items + 1 =
    ap length pushed ∙ length-append c.args.self.now.items.items (c.args.item ∷ []) in
    let takes = not_refusing c.args.self.now.lines.broken c.args.self.now.difference
    (sym c.is_refusing.ensures ∙ c.if-is_refusing.false) in
    record {
      within = omega (arith, many, c.args.self.now.within);
      held_within = omega (arith, many, c.args.self.now.held_within);
      nothing_ahead = omega (
        arith,
        many,
        c.if-self-len.false,
        c.len.ensures,
        c.args.self.now.items.ok,
      );
      differs = λ position is. absurd (let none = sym takes.1 ∙ is in cc);
      written = written_more c.args.self.now.items.items _ c.args.self.now.held c.args.item _ _ _ _
          c.args.self.now.held_within pushed
          (rw (← to_z-of_z w64 _ f) (c.in_ok-append_line.ensures.added _ _ c.args.self.now.written));
      small = c.append_line.ensures.still_small;
      room = c.append_line.ensures.still_room;
    }

pub returns-clause-meets : goal.returns-clause-meets
returns-clause-meets g c = λ takes is.
    absurd (omega (
      arith,
      slice_get_within c.args.self.now.items.items c.args.self.now.count c.args.item is,
      c.if-self-len.false,
      c.len.ensures,
      c.args.self.now.items.ok,
    ))

pub returns-then-is_refusing-clause-appends : goal.returns-then-is_refusing-clause-appends
returns-then-is_refusing-clause-appends g c = grind (arith, elements)

pub returns-clause-ok : goal.returns-clause-ok
returns-clause-ok g c = grind (arith, common_steps)

pub append_line-requires-clause-within : goal.append_line-requires-clause-within
append_line-requires-clause-within g c = grind (arith, common_steps)
