use Rattle.std.proofs.Math.Logic.{∥∥₁_map}
use Rattle.rerun.specs.Whole.{inputs_in, net_in, table_in}
use Rattle.rerun.proofs.Meant.{places}
use Rattle.rerun.proofs.rerun.Rerun.place_law.Goals as goal

pub returns : goal.returns
returns c =
    let rerun = c.args.self.now in
    ∥∥₁_map rerun.reached (places (net_in rerun) (inputs_in rerun) (table_in rerun) rerun.net.value.valid rerun.fits)
