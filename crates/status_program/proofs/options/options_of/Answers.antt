use Rattle.std.proofs.Common.{◌≡◌, ◌∙◌, Some, ap, sym, codes}
use Rattle.clap.specs.Words.{Text, first_of, first_value, found_of, one_of, one_text, rows_of}
use Rattle.clap.proofs.WalkLemmas.{first_value-rows, one_text-rows}
use Rattle.status_program.proofs.options.options_of.Goals as goal

pub returns : goal.returns
returns c =
    let found = found_of c.args.matches.now in
    let rows = rows_of found in
    let text : (id : Text) → first_of id rows ≡ first_value found id = λ id. sym (first_value-rows found id) in
    let one : (id : Text) → one_text found id ≡ one_of id rows = λ id. one_text-rows found id in
    record {
      folder = text (codes "status") ∙ (sym c.in-Some.ensures ∙ ap Some (sym c.in_ok-from_str.ensures.ok));
      explain = record {
        set = λ is_set. c.get_flag.ensures.value (one (codes "explain") ∙ is_set);
        not_set = λ is_not. c.get_flag.ensures.other (one (codes "explain") ∙ is_not);
        absent = λ no_text. c.get_flag.ensures.none (one (codes "explain") ∙ no_text);
      };
    }
