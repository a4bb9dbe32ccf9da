use Rattle.std.proofs.Common.{◌≡◌, ◌∙◌, Option, None, Some, ap, refl, is_some, not, option_map, string_bytes, sym, true, false}
use Rattle.kahn_program.specs.CommandLine.{by_sync, by_words}
use Rattle.kahn_program.proofs.words.options.Goals as goal

pub returns-in-Err-clause-refused : goal.returns-in-Err-clause-refused
returns-in-Err-clause-refused g c = by_words c.in-Err.ensures.refused

is_none : {A : Type 0} (option : Option A) → is_some option ≡ false → option ≡ None
is_none None h = refl
is_none (Some a) h = let apart : true ≡ false = h in absurd cc

pub returns-then-is_none-clause-refused : goal.returns-then-is_none-clause-refused
returns-then-is_none-clause-refused g c =
    let asked = c.in-Ok.ensures.asked in
    let set : c.in-Ok.options.sync ≡ true = c.if-options.true in
    let none = is_none c.in-Ok.options.state (c.is_none.ensures ∙ ap not c.if-is_none.true) in
    by_sync (record {
      given = λ absent. let apart : true ≡ false = sym set ∙ asked.sync.absent absent in absurd cc;
      not_off = λ off. let apart : true ≡ false = sym set ∙ asked.sync.not_set off in absurd cc;
      state = asked.state ∙ ap (option_map string_bytes) none;
    }) c.sync_alone.ensures
