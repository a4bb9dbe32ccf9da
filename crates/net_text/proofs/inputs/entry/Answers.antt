use Rattle.std.proofs.Common.{◌≡◌, true, get_or, ℕ, List, ap, sym, ◌∙◌}
use Rattle.net_text.specs.Spellings.{starts_word, continues_word}
use Rattle.net_text.specs.InputReading.{run}
use Rattle.net_text.proofs.Runs.{run_is}
use Rattle.net_text.specs.Trees.{input_tree}
use Rattle.net_text.proofs.Items.{entry_along}
use Rattle.net_text.proofs.inputs.entry.Goals as goal

pub after_name-requires : goal.after_name-requires
after_name-requires c =
    run_is continues_word c.word_len.result c.as_bytes-bytes.result.now c.word_len.ensures.within
    c.word_len.ensures.all c.word_len.ensures.stops
    ∙ ap (λ (bs : List ℕ). run continues_word bs) c.as_bytes-bytes.ensures.value

pub returns : goal.returns
returns c =
    let first : starts_word (get_or c.args.text.now 0 0) ≡ true =
    ap (λ (bs : List ℕ). starts_word (get_or bs 0 0)) (sym c.as_bytes-bytes.ensures.value)
    ∙ sym c.if-not-starts_word.ensures in
    let len =
    run_is continues_word c.word_len.result c.as_bytes-bytes.result.now c.word_len.ensures.within
    c.word_len.ensures.all c.word_len.ensures.stops
    ∙ ap (λ (bs : List ℕ). run continues_word bs) c.as_bytes-bytes.ensures.value in
    entry_along input_tree c.after_name.result c.args.line c.word_len.result c.args.text.now first len
    c.after_name.ensures
