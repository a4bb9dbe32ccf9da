-- A process of few units has few sites.
use Rattle.std.proofs.Common.{◌≤◌, arith}
use Rattle.kahn_net.specs.Common.{Block, Nothing, GetThen, PutThen, AssignThen, StopThen, IfThen, RepeatThen}
use Rattle.kahn_net.specs.Common.{sites_of}
use Rattle.kahn_net.specs.Valid.{block_units}

-- each site is a unit
pub sites_within : (b : Block) → sites_of b ≤ block_units b
sites_within Nothing = omega arith
sites_within (GetThen x c rest) = let h = sites_within rest in omega arith
sites_within (AssignThen x e rest) = let h = sites_within rest in omega arith
sites_within (PutThen e c rest) = let h = sites_within rest in omega arith
sites_within (StopThen rest) = let h = sites_within rest in omega arith
sites_within (IfThen test first second rest) = let h = sites_within first in let i = sites_within second in let j =
    sites_within rest in omega arith
sites_within (RepeatThen times body rest) = let h = sites_within body in let j = sites_within rest in omega arith
