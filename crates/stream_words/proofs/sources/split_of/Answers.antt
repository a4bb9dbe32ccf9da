use Rattle.std.proofs.Common.{Some, ap, arith, length}
use Rattle.std.proofs.lemmas.Str.Pattern.{split_parts}
use Rattle.clap.proofs.CutLemmas.{list_any-Lacks}
use Rattle.stream_words.proofs.Splitting.{filled, same_name, same_path, unfilled, without}
use Rattle.stream_words.proofs.sources.split_of.Goals as goal

pub returns-in_default : goal.returns-in_default
returns-in_default c =
    let none = rw c.in_default.is at (split_parts 61 c.args.value.now c.split_once.result c.split_once.ensures.cases (omega arith)) in
    without c.args.value.now none

pub returns-then-is_empty : goal.returns-then-is_empty
returns-then-is_empty c name path is =
    let parts = split_parts 61 c.args.value.now (Some (c.in-Some.name, c.in-Some.path)) c.in-Some.ensures.cases (omega arith) in
    let same = ap length (same_name c.args.value.now name path c.in-Some.name.now c.in-Some.path.now parts.0 parts.1 is) in
    let none = unfilled (length c.in-Some.name.now) c.is_empty.result c.is_empty.ensures c.if-is_empty.true in
    let some = is.named in
    absurd (omega (arith, same, none, some))

pub returns-then-is_empty-2 : goal.returns-then-is_empty-2
returns-then-is_empty-2 c name path is =
    let parts = split_parts 61 c.args.value.now (Some (c.in-Some.name, c.in-Some.path)) c.in-Some.ensures.cases (omega arith) in
    let same = ap length (same_path c.args.value.now name path c.in-Some.name.now c.in-Some.path.now parts.0 parts.1 is) in
    let none = unfilled (length c.in-Some.path.now) c.is_empty-2.result c.is_empty-2.ensures c.if-is_empty-2.true in
    let some = is.placed in
    absurd (omega (arith, same, none, some))

pub returns : goal.returns
returns c =
    let parts = split_parts 61 c.args.value.now (Some (c.in-Some.name, c.in-Some.path)) c.in-Some.ensures.cases (omega arith) in
    record {
      whole = parts.0;
      first = list_any-Lacks 61 c.in-Some.name.now parts.1;
      named = filled (length c.in-Some.name.now) c.is_empty.result c.is_empty.ensures c.if-is_empty.false;
      placed = filled (length c.in-Some.path.now) c.is_empty-2.result c.is_empty-2.ensures c.if-is_empty-2.false;
    }
