use Rattle.std.proofs.Common.{refl, rules}
use Rattle.std.proofs.lemmas.Option.{slice_get_read}
use Rattle.folder_status.proofs.comparing.first_short.Goals as goal

pub returns-then-len : goal.returns-then-len
returns-then-len c = record {
  one = c.index-kept-place.result;
  output = c.in-Some.output.now;
  one_is = slice_get_read c.args.kept.now _ c.loop-place.place _ refl c.loop-place-test.true c.index-kept-place.is;
  output_is = c.in-Some.ensures;
  short = search (rules, c.len.ensures, c.len-in-Some.ensures, c.if-len.true);
}
