-- The texts of a run that was given no script.
use Rattle.std.proofs.Common.{◌≡◌, sym, subst, List, Option, None, string_bytes}
use Rattle.std.specs.Option.{option_map}
use Rattle.std.specs.declared.alloc.Global.{Global}
use Rattle.std.specs.declared.string.String.{String}
use Rattle.host.specs.Requests.{Request}
use Rattle.run_files.specs.Rules.{WasReadIf}

-- no script was to be read
pub no_script : (name : Option (String Global)) (e : List Request) → name ≡ None → WasReadIf (option_map string_bytes name) None e
no_script name e none =
    let P : Option (String Global) → Type 0 = λ it. WasReadIf (option_map string_bytes it) None e in subst P (sym none) tt
