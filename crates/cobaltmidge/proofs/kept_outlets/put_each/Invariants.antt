use Rattle.std.proofs.Common.{◌≡◌, ◌++◌, ℤ, List}
use Rattle.std.specs.Vec.Iter.{into_iter_items}
use Rattle.output_file.specs.Output.{taken_of}
use Rattle.cobaltmidge.specs.KeptOutlets.{AreInFiles, taken_streams}
use Rattle.cobaltmidge.proofs.kept_outlets.put_each.Given as goal

-- some streams are in the files, and then come the others
abbrev pub invariant-loop-output : goal.invariant-loop-output
invariant-loop-output g l =
    (done : List (List ℤ)) × AreInFiles l.outlets.items done
    × (done ++ taken_streams taken_of (into_iter_items l.output-iterator) ≡ taken_streams taken_of l.fn.outputs.items)
