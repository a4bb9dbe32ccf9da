use Rattle.std.proofs.lemmas.Grind.{elements}
use Rattle.std.proofs.Common.{arith}
use Rattle.fail_script.proofs.WordLaws.{word_is, how_many}
use Rattle.fail_script.proofs.words.form_of.Goals as goal

pub returns-in-len2 : goal.returns-in-len2
returns-in-len2 c = (
  how_many c.args.words.now (omega arith),
  word_is c.args.words.now 0 _ _ _ (omega arith) c.is.ensures c.if-is.true,
)

pub returns-in-len4 : goal.returns-in-len4
returns-in-len4 c = (
  how_many c.args.words.now (omega arith),
  word_is c.args.words.now 0 _ _ _ (omega arith) c.is-then-words-lt5.ensures c.if-is-2.true,
)

pub returns-in-len4-2 : goal.returns-in-len4-2
returns-in-len4-2 c = (
  how_many c.args.words.now (omega arith),
  word_is c.args.words.now 0 _ _ _ (omega arith) c.is-then-words-lt5-2.ensures c.if-is-3.true,
)

pub returns-in-len4-3 : goal.returns-in-len4-3
returns-in-len4-3 c = (
  how_many c.args.words.now (omega arith),
  word_is c.args.words.now 0 _ _ _ (omega arith) c.is-then-words-lt5-3.ensures c.if-is-4.true,
  word_is c.args.words.now 2 _ _ _ (omega arith) c.is-then-is-4.ensures c.if-is-5.true,
)

pub returns-in-len5 : goal.returns-in-len5
returns-in-len5 c = (
  how_many c.args.words.now (omega arith),
  word_is c.args.words.now 0 _ _ _ (omega arith) c.is-then-words-lt6.ensures c.if-is-6.true,
)

pub returns-in-len5-2 : goal.returns-in-len5-2
returns-in-len5-2 c = (
  how_many c.args.words.now (omega arith),
  word_is c.args.words.now 0 _ _ _ (omega arith) c.is-then-words-lt6-2.ensures c.if-is-7.true,
  word_is c.args.words.now 2 _ _ _ (omega arith) c.is-then-is-7.ensures c.if-is-8.true,
)

pub returns-in-len6 : goal.returns-in-len6
returns-in-len6 c = (
  how_many c.args.words.now (omega arith),
  word_is c.args.words.now 0 _ _ _ (omega arith) c.is-then-words-lt7.ensures c.if-is-9.true,
  word_is c.args.words.now 2 _ _ _ (omega arith) c.is-then-is-9.ensures c.if-is-10.true,
)

pub returns-in-len6-2 : goal.returns-in-len6-2
returns-in-len6-2 c = (
  how_many c.args.words.now (omega arith),
  word_is c.args.words.now 0 _ _ _ (omega arith) c.is-then-words-lt7-2.ensures c.if-is-11.true,
  word_is c.args.words.now 2 _ _ _ (omega arith) c.is-then-is-11.ensures c.if-is-12.true,
)

pub returns-in_default-8 : goal.returns-in_default-8
returns-in_default-8 c = grind (arith, elements)

pub returns-in_default-6 : goal.returns-in_default-6
returns-in_default-6 c = grind (arith, elements)

pub returns-in_default-2 : goal.returns-in_default-2
returns-in_default-2 c = grind (arith, elements)

pub returns-in_default-3 : goal.returns-in_default-3
returns-in_default-3 c = grind (arith, elements)

pub returns-in_default-5 : goal.returns-in_default-5
returns-in_default-5 c = grind (arith, elements)

pub returns-in_default-10 : goal.returns-in_default-10
returns-in_default-10 c = grind (arith, elements)

pub returns-in_default : goal.returns-in_default
returns-in_default c = grind (arith, elements)

pub returns-in_default-7 : goal.returns-in_default-7
returns-in_default-7 c = grind (arith, elements)

pub returns-in_default-9 : goal.returns-in_default-9
returns-in_default-9 c = grind (arith, elements)

pub returns-in_default-4 : goal.returns-in_default-4
returns-in_default-4 c = grind (arith, elements)
