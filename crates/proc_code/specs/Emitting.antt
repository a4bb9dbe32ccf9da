-- What was written for a statement.
use Rattle.std.specs.Prelude.{◌≡◌, List, ◌++◌, length}
use Rattle.kahn_net.specs.Common.{Block}
use Rattle.proc_code.specs.declared.instruction.Instruction.{Instruction}
use Rattle.proc_code.specs.declared.instruction.Site.{Site}
use Rattle.proc_code.specs.Translation.{block_code, sites_at}

-- To this code and these sites something was added for a statement, where `before` puts that statement before others:
-- with whatever comes after it, the whole is the code of both.
pub record Emits (code : List Instruction) (sites : List Site) (code' : List Instruction) (sites' : List Site)
    (before : Block → Block) : Type 0 where
  pub code_is : (rest : Block) → code' ++ block_code (length code') (length sites') rest
      ≡ code ++ block_code (length code) (length sites) (before rest)
  pub sites_are : (rest : Block) → sites' ++ sites_at (length code') (length sites') rest
      ≡ sites ++ sites_at (length code) (length sites) (before rest)
