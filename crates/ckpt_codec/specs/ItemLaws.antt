-- Laws of items and variables: whatever a number is, its field may be written.
use Rattle.std.proofs.Common.{◌^◌, ◌<◌, ℤ, pos, negsuc, refl, arith}
use Rattle.std.specs.Prelude.{FitsSigned}
use Rattle.std.specs.Int.{w64, cast_unsigned, int_wrap}
use Rattle.std.proofs.lemmas.Int.{SFits-int_wrap}
use Rattle.ckpt_codec.specs.Fields.{IsAllowed}
use Rattle.ckpt_codec.specs.RecordText.{item}

-- a number of 64 bits with a sign takes 8 bytes
pub unsigned_fits : (z : ℤ) → FitsSigned w64 z → cast_unsigned w64 z < 256 ^ 8
unsigned_fits (pos n) fits = let lt = fits.sfits in omega arith
unsigned_fits (negsuc n) fits = omega arith

-- so does any number modulo 2^64
pub wrapped_fits : (z : ℤ) → cast_unsigned w64 (int_wrap w64 z) < 256 ^ 8
wrapped_fits z = unsigned_fits (int_wrap w64 z) (SFits-int_wrap w64 z)

pub item_allowed : (v : ℤ) → IsAllowed (item v)
item_allowed v = (wrapped_fits v, refl)
