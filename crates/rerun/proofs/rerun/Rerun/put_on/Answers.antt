use Rattle.std.proofs.Math.Logic.{∥∥₁_map}
use Rattle.rerun.specs.Whole.{inputs_in, net_in, table_in}
use Rattle.rerun.proofs.Meant.{places}
use Rattle.rerun.proofs.rerun.Rerun.put_on.Goals as goal

pub returns-clause-meant : goal.returns-clause-meant
returns-clause-meant c =
    let rerun = c.args.self.now in
    ∥∥₁_map rerun.reached
    (λ r. (let place = places (net_in rerun) (inputs_in rerun) (table_in rerun) rerun.net.value.valid rerun.fits r in
    (place.n, place.meant)))
