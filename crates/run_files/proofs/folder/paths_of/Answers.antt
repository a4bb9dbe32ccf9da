use Rattle.std.proofs.Common.{◌+◌, arith}
use Rattle.std.proofs.lemmas.Grind.{common_steps}
use Rattle.std.proofs.lemmas.List.{length-drop}
use Rattle.run_files.proofs.Paths.{listed_more, paths_end, paths_next}
use Rattle.run_files.proofs.folder.paths_of.Goals as goal

pub loop-output-preserved : goal.loop-output-preserved
loop-output-preserved c = record {
  listed = listed_more _ _ _ _ _ _ _ c.push_reserved-in-loop-output.ensures.items c.in_ok-file_in.ensures
      (paths_next _ _ _ _ c.loop-output-test.true c.output-item.is) c.loop-output.invariant.listed;
  room = omega (
    arith,
    c.push_reserved-in-loop-output.ensures.len,
    c.push_reserved-in-loop-output.ensures.capacity,
    c.loop-output.invariant.room,
    c.loop-output-test.true,
    length-drop c.loop-output.output-index c.args.outputs.now,
    length-drop (c.loop-output.output-index + 1) c.args.outputs.now,
  );
}

pub returns : goal.returns
returns c = paths_end _ _ _ _ _ c.loop-output-test.false c.loop-output.invariant.listed

pub push_reserved-requires-in-loop-output : goal.push_reserved-requires-in-loop-output
push_reserved-requires-in-loop-output c = grind (arith, common_steps)
