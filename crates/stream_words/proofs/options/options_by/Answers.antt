use Rattle.std.proofs.Common.{◌≡◌, ◌⊎◌, Bool, true, false, sym, ◌∙◌, ◌∷◌, [], List, codes, inl, inr, map, subst}
use Rattle.std.specs.List.{Any}
use Rattle.clap.specs.Words.{HasKind, Row, Text, fault_of, found_of, kind_of, matches_of, rows_of}
use Rattle.clap.specs.declared.error.Error.{Error}
use Rattle.clap.specs.declared.error.kind.ErrorKind.TheVariants.{OutOfMemory, ValueValidation}
use Rattle.stream_words.specs.CommandLine.{kahnrun_stream}
use Rattle.stream_words.specs.Asked.{HasBinary, IsStreamAsked, IsStreamRefusal, IsWithoutForm, by_binary, by_source, by_words, values_of}
use Rattle.stream_words.proofs.options.options_by.Goals as goal

-- a refusal for what the values of `--input` are
refusal : {bare : Bool} (words : List Text) (rows : List Row) (error : Error) → rows ≡ matches_of kahnrun_stream words → fault_of kahnrun_stream words ≡ []
    → (kind_of error ≡ OutOfMemory) ⊎ (Any IsWithoutForm (values_of (codes "input") rows) × HasKind (ValueValidation ∷ []) error)
    → IsStreamRefusal bare words error
refusal {bare} words rows error are right (inl memory) = by_words (inl memory)
refusal {bare} words rows error are right (inr told) =
    by_source right (subst (λ (given : List Row). Any IsWithoutForm (values_of (codes "input") given)) are told.0) told.1

pub returns-in-Err-clause-refused : goal.returns-in-Err-clause-refused
returns-in-Err-clause-refused c = by_words c.in-Err.ensures.refused

pub returns-in-Err-sources_given-clause-refused : goal.returns-in-Err-sources_given-clause-refused
returns-in-Err-sources_given-clause-refused c =
    let words : List Text = map (λ word. word.now) c.args.words.now in
    let rows : List Row = rows_of (found_of c.in-Ok.matches) in
    refusal words rows c.fault_error.result c.in-Ok.ensures.rows c.in-Ok.ensures.right
    (c.fault_error.ensures (values_of (codes "input") rows) c.in-Err-sources_given.ensures)

pub returns-in-Err-options_of-clause-refused : goal.returns-in-Err-options_of-clause-refused
returns-in-Err-options_of-clause-refused c = by_words (inl c.no_memory.ensures)

pub returns-then-not-bare-clause-refused : goal.returns-then-not-bare-clause-refused
returns-then-not-bare-clause-refused c =
    let words : List Text = map (λ word. word.now) c.args.words.now in
    let set : c.in-Ok-options_of.options.binary ≡ true = c.if-options.true in
    let asked : IsStreamAsked (rows_of (found_of c.in-Ok.matches)) c.in-Ok-options_of.options =
    c.in-Ok-options_of.ensures.asked c.in-Ok-sources_given.ensures in
    let flagged : HasBinary (rows_of (found_of c.in-Ok.matches)) = record {
      given = λ absent. let apart : true ≡ false = sym set ∙ asked.binary.absent absent in absurd cc;
      not_off = λ off. let apart : true ≡ false = sym set ∙ asked.binary.not_set off in absurd cc;
    } in
    by_binary c.in-Ok.ensures.right c.if-not-bare.true (subst HasBinary c.in-Ok.ensures.rows flagged) c.binary_named.ensures
