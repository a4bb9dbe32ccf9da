use Rattle.std.proofs.Common.{subst}
use Rattle.fail_script.specs.Reading.{IsLineRead}
use Rattle.fail_script.proofs.LineLaws.{words_in_two}
use Rattle.fail_script.proofs.reading.line_of.Goals as goal

pub returns-in-len1-up : goal.returns-in-len1-up
returns-in-len1-up c =
    subst (λ words. IsLineRead words c.line_with.result)
    (words_in_two c.args.words.now _ c.in-len1-up.len_at_least) c.line_with.ensures
