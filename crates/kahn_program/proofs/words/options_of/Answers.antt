use Rattle.std.proofs.Common.{rules, ◌≡◌, ◌∙◌, ℕ, Option, subst, sym, codes}
use Rattle.clap.specs.Words.{Text, first_of, first_value, found_of, one_of, one_text, rows_of}
use Rattle.clap.proofs.WalkLemmas.{first_value-rows, one_text-rows}
use Rattle.kahn_program.specs.CommandLine.{IsNumber}
use Rattle.kahn_program.specs.declared.asked.TheConstants.{MAX_ROUNDS, MAX_ITEMS, MAX_APPROXIMATION}
use Rattle.protocol.specs.declared.limits.TheConstants.{MIN_ROOM}
use Rattle.protocol.specs.Node.Common.{MAX_RETAINED_ITEMS}
use Rattle.kahn_program.proofs.words.options_of.Goals as goal

pub returns : goal.returns
returns c =
    let found = found_of c.args.matches.now in
    let rows = rows_of found in
    let text : (id : Text) → first_of id rows ≡ first_value found id = λ id. sym (first_value-rows found id) in
    let one : (id : Text) → one_text found id ≡ one_of id rows = λ id. one_text-rows found id in
    let some = c.in-Some-Some-Some in
    let room : IsNumber MIN_ROOM MAX_RETAINED_ITEMS (one_text found (codes "room")) c.in_ok-room.field-0 =
    c.in_ok-room.ensures in
    let rounds : IsNumber 1 MAX_ROUNDS (one_text found (codes "rounds")) c.in_ok-given.field-0 =
    c.in_ok-given.ensures in
    let items : IsNumber 0 MAX_ITEMS (one_text found (codes "items")) c.in_ok-given-2.field-0 =
    c.in_ok-given-2.ensures in
    let approx : IsNumber 0 MAX_APPROXIMATION (one_text found (codes "approx")) c.in_ok-given-3.field-0 =
    c.in_ok-given-3.ensures in
    record {
      net = text (codes "NET") ∙ (sym some.ensures ∙ search rules);
      inputs = text (codes "INPUTS") ∙ (sym some.ensures' ∙ search rules);
      script = text (codes "script") ∙ c.in_ok-name_given.ensures;
      state = text (codes "state") ∙ c.in_ok-name_given-2.ensures;
      rounds =
          subst (λ (t : Option Text). IsNumber 1 MAX_ROUNDS t c.in_ok-given.field-0) (one (codes "rounds")) rounds;
      items = subst (λ (t : Option Text). IsNumber 0 MAX_ITEMS t c.in_ok-given-2.field-0) (one (codes "items")) items;
      room =
          subst (λ (given : Option ℕ). IsNumber MIN_ROOM MAX_RETAINED_ITEMS
          (one_of (codes "room") rows) given) some.is-2
          (subst (λ (t : Option Text). IsNumber MIN_ROOM MAX_RETAINED_ITEMS t c.in_ok-room.field-0)
          (one (codes "room")) room);
      sync = record {
        set = λ is_set. c.get_flag.ensures.value (one (codes "sync") ∙ is_set);
        not_set = λ is_not. c.get_flag.ensures.other (one (codes "sync") ∙ is_not);
        absent = λ no_text. c.get_flag.ensures.none (one (codes "sync") ∙ no_text);
      };
      plain = record {
        set = λ is_set. c.get_flag-2.ensures.value (one (codes "plain") ∙ is_set);
        not_set = λ is_not. c.get_flag-2.ensures.other (one (codes "plain") ∙ is_not);
        absent = λ no_text. c.get_flag-2.ensures.none (one (codes "plain") ∙ no_text);
      };
      approx =
          subst (λ (t : Option Text). IsNumber 0 MAX_APPROXIMATION t c.in_ok-given-3.field-0) (one (codes "approx"))
          approx;
      explain = record {
        set = λ is_set. c.get_flag-3.ensures.value (one (codes "explain") ∙ is_set);
        not_set = λ is_not. c.get_flag-3.ensures.other (one (codes "explain") ∙ is_not);
        absent = λ no_text. c.get_flag-3.ensures.none (one (codes "explain") ∙ no_text);
      };
      history = text (codes "history") ∙ c.in_ok-name_given-3.ensures;
      quiet = record {
        set = λ is_set. c.get_flag-4.ensures.value (one (codes "quiet") ∙ is_set);
        not_set = λ is_not. c.get_flag-4.ensures.other (one (codes "quiet") ∙ is_not);
        absent = λ no_text. c.get_flag-4.ensures.none (one (codes "quiet") ∙ no_text);
      };
    }
