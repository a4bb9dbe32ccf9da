use Rattle.std.proofs.Common.{◌≡◌, ◌∙◌, Option, Some, ap, subst, sym, codes}
use Rattle.clap.specs.Words.{Text, first_of, first_value, found_of, one_of, one_text, rows_of}
use Rattle.clap.proofs.WalkLemmas.{first_value-rows, one_text-rows}
use Rattle.stream_words.specs.Asked.{IsNumber}
use Rattle.stream_words.specs.declared.command.TheConstants.{LEAST_ROOM, MOST_ROOM}
use Rattle.stream_words.proofs.options.options_of.Goals as goal

pub returns-clause-asked : goal.returns-clause-asked
returns-clause-asked c = λ sources.
    let found = found_of c.args.matches.now in
    let rows = rows_of found in
    let text : (id : Text) → first_of id rows ≡ first_value found id = λ id. sym (first_value-rows found id) in
    let one : (id : Text) → one_text found id ≡ one_of id rows = λ id. one_text-rows found id in
    record {
      net = text (codes "NET") ∙ (sym c.in-Some.ensures ∙ ap Some (sym c.in_ok-from_str.ensures.ok));
      inputs = text (codes "INPUTS") ∙ c.in_ok-inputs_given.ensures;
      sources = sources;
      room =
          subst (λ (t : Option Text). IsNumber LEAST_ROOM MOST_ROOM t c.in_ok-room_given.field-0) (one (codes "room"))
          c.in_ok-room_given.ensures;
      binary = record {
        set = λ is_set. c.get_flag.ensures.value (one (codes "binary") ∙ is_set);
        not_set = λ is_not. c.get_flag.ensures.other (one (codes "binary") ∙ is_not);
        absent = λ no_text. c.get_flag.ensures.none (one (codes "binary") ∙ no_text);
      };
      explain = record {
        set = λ is_set. c.get_flag-2.ensures.value (one (codes "explain") ∙ is_set);
        not_set = λ is_not. c.get_flag-2.ensures.other (one (codes "explain") ∙ is_not);
        absent = λ no_text. c.get_flag-2.ensures.none (one (codes "explain") ∙ no_text);
      };
    }
