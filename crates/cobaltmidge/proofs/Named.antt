-- A name is one channel's.
use Rattle.std.proofs.Common.{◌≡◌, ◌∙◌, ap, sym, Bool, false, ℕ, List, Option, slice_get}
use Rattle.std.specs.Prelude.{IsTrue}
use Rattle.std.proofs.lemmas.Bool.{false≢true}
use Rattle.net_check.specs.Resolution.{AllDifferent, Reads}
use Rattle.net_text.specs.Names.{NameTree}
use Rattle.protocol.specs.Node.Common.{Channel}

-- where the channel of a name isn't of this kind, no channel of this name is
pub no_other : (names : List NameTree) (channels : List Channel) (kind : Option Channel → Bool) (name : List ℕ)
    (found other : ℕ) (told : Bool) → AllDifferent names → Reads names found name
    → told ≡ kind (slice_get channels found) → told ≡ false → Reads names other name
    → IsTrue (kind (slice_get channels other)) → ⊥
no_other names channels kind name found other told differ reads is not_so reads_too so =
    let same : other ≡ found = differ other found name reads_too reads in
    false≢true
    (sym not_so ∙ (is ∙ ap (λ (k : ℕ). kind (slice_get channels k)) (sym same) ∙ so))
