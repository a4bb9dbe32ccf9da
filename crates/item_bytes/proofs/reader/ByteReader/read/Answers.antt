use Rattle.std.proofs.Common.{rules, ◌≡◌, ◌∙◌, ◌+◌, ◌∷◌, ◌++◌, [], List, ℤ, ℕ, drop, get_or, sym, ap, append-nil, arith}
use Rattle.std.specs.Option.{option_to_list}
use Rattle.std.proofs.lemmas.Grind.{common_steps}
use Rattle.std.proofs.lemmas.List.{drop_more, drop_all}
use Rattle.item_bytes.proofs.Pieces.{items_none, items_on, reads_nothing, reads_then, rest_few}
use Rattle.item_bytes.specs.Bytes.{items_of}
use Rattle.item_bytes.specs.Reader.{read_on}
use Rattle.item_bytes.proofs.reader.ByteReader.read.Goals.{in-Some, in_default}
use Rattle.item_bytes.proofs.reader.ByteReader.read.Goals as goal

pub loop-byte-preserved : goal.loop-byte-preserved
loop-byte-preserved c =
    let bytes = c.args.bytes.now in
    let index = c.loop-byte.byte-index in
    let byte = get_or bytes index 0 in
    let more : drop index bytes ≡ byte ∷ drop (index + 1) bytes = drop_more bytes index 0 c.loop-byte-test.true in
    let after : c.match-read_byte.items.items ≡ c.loop-byte.items.items ++ option_to_list c.read_byte.result =
    elim c.match-read_byte.branch [
      | in-Some w ↦ rw (w.items-is, w.in-Some.is) (search rules)
      | in_default w ↦ rw (w.items-is, w.in_default.is) (sym (append-nil c.loop-byte.items.items))
    ] in
    record {
      items = items_on c.loop-byte.self.kept c.read_byte.new.self.kept (drop (index + 1) bytes) byte c.loop-byte.items.items _ _
          c.read_byte.ensures.item (ap (λ state. state.kept) c.read_byte.ensures.state) after
          ∙ (ap (λ (rest : List ℕ). c.loop-byte.items.items ++ items_of (c.loop-byte.self.kept ++ rest)) (sym more) ∙ c.loop-byte.invariant.items);
      state = ap (λ state. read_on state (drop (index + 1) bytes)) c.read_byte.ensures.state
          ∙ (reads_then c.loop-byte.self (byte ∷ []) (drop (index + 1) bytes)
          ∙ (ap (read_on c.loop-byte.self) (sym more) ∙ c.loop-byte.invariant.state));
      count = grind (arith, common_steps, c.loop-byte.invariant.count, c.read_byte.ensures.room);
      few = rw c.read_byte.ensures.state (rest_few (c.loop-byte.self.kept ++ byte ∷ []));
      counted = rw c.read_byte.ensures.state (omega arith);
      room = grind (arith, common_steps, c.loop-byte.invariant.room);
    }

pub returns-clause-items : goal.returns-clause-items
returns-clause-items c =
    let none : drop c.loop-byte.byte-index c.args.bytes.now ≡ [] = drop_all c.loop-byte.byte-index c.args.bytes.now c.loop-byte-test.false in
    sym (ap (λ (rest : List ℕ). c.loop-byte.items.items ++ items_of (c.loop-byte.self.kept ++ rest)) none
    ∙ (ap (λ (xs : List ℤ). c.loop-byte.items.items ++ xs) (items_none c.loop-byte.self.kept c.loop-byte.invariant.few) ∙ append-nil c.loop-byte.items.items))
    ∙ (c.loop-byte.invariant.items ∙ ap (λ (xs : List ℤ). xs ++ items_of (c.args.self.now.kept ++ c.args.bytes.now)) (search rules))

pub returns-clause-state : goal.returns-clause-state
returns-clause-state c =
    let none : drop c.loop-byte.byte-index c.args.bytes.now ≡ [] = drop_all c.loop-byte.byte-index c.args.bytes.now c.loop-byte-test.false in
    sym (ap (read_on c.loop-byte.self) none ∙ reads_nothing c.loop-byte.self c.loop-byte.invariant.few c.loop-byte.invariant.counted)
    ∙ c.loop-byte.invariant.state
