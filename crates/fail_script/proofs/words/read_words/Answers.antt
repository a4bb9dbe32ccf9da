use Rattle.std.proofs.Common.{ap, map, sym, subst, ◌∙◌, ◌+◌, rules, tests}
use Rattle.fail_script.proofs.WordLaws.{IsReadTo, goes_on, past_space, all_read_where}
use Rattle.fail_script.proofs.words.read_words.Goals.{then-byte-eq32+in_ok-add_word, else-byte-eq32}
use Rattle.fail_script.proofs.words.read_words.Goals as goal

pub loop-at-preserved : goal.loop-at-preserved
loop-at-preserved c =
    elim c.if-byte-eq32.branch [
      | then-byte-eq32+in_ok-add_word w ↦
          subst (λ start. IsReadTo c.args.line.now (map (λ w. w.now) c.if-byte-eq32.words.items) start (c.loop-at.at + 1))
          (sym w.start-is)
          (past_space c.args.line.now (map (λ w. w.now) c.loop-at.words.items)
          (map (λ w. w.now) c.if-byte-eq32.words.items) c.loop-at.start c.loop-at.at c.loop-at-test.true
          (search (rules, tests)) c.loop-at.invariant
          (ap (λ v. map (λ w. w.now) v.items) w.words-is ∙ w.in_ok-add_word.ensures))
      | else-byte-eq32 w ↦
          subst (λ start. IsReadTo c.args.line.now (map (λ w. w.now) c.if-byte-eq32.words.items) start (c.loop-at.at + 1))
          (sym w.start-is)
          (subst
          (λ v. IsReadTo c.args.line.now (map (λ w. w.now) v.items) c.loop-at.start (c.loop-at.at + 1))
          (sym w.words-is)
          (goes_on c.args.line.now (map (λ w. w.now) c.loop-at.words.items) c.loop-at.start c.loop-at.at
          c.loop-at-test.true (search (rules, tests)) c.loop-at.invariant))
    ]

pub returns : goal.returns
returns c =
    all_read_where c.add_word-2.result c.args.line.now (map (λ w. w.now) c.loop-at.words.items)
    (map (λ w. w.now) c.add_word-2.new.words.items) c.loop-at.start c.loop-at.at c.loop-at-test.false
    c.loop-at.auto.at-end c.loop-at.invariant c.add_word-2.ensures
