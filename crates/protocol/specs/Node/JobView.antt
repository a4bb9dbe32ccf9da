-- A job without pointers: two jobs are the same where these are equal.
use Rattle.std.specs.Prelude.{ℕ, ℤ, List, Option}
use Rattle.ckpt_codec.specs.Common.{Code, Standing}

-- a job as data without pointers, with the code of its process
pub record JobView : Type 0 where
  pub process : ℕ
  pub code : Option Code
  pub version : ℕ
  pub standing : Standing
  pub items : List (List ℤ)
  pub room : List ℕ
