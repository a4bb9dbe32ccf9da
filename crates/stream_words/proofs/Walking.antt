-- One element more of a list that is walked through.
use Rattle.std.proofs.Common.{◌≡◌, ◌∙◌, ◌+◌, ◌<◌, ℕ, zero, suc, List, [], ◌∷◌, ◌++◌, length, take, get_or, ap, sym, subst, arith}
use Rattle.std.proofs.lemmas.Slice.Zip.{all_zipped_more}
use Rattle.std.specs.List.{AllZip, Any}
use Rattle.clap.specs.Words.{Text}
use Rattle.stream_words.specs.Asked.{IsSource, IsSourceFault, IsValueFault, IsWithoutForm}
use Rattle.stream_words.specs.declared.sources.InputSource.{InputSource}
use Rattle.stream_words.specs.declared.sources.SourceFault.{SourceFault}
use Rattle.stream_words.specs.declared.sources.SourceFault.TheVariants.{NoMemory, WithoutForm}

take_next : {X : Type 0} (xs : List X) (i : ℕ) (x : X) → i < length xs → x ≡ get_or xs i x → take (i + 1) xs ≡ take i xs ++ x ∷ []
take_next [] i x within at = absurd (omega (arith, within))
take_next (y ∷ ys) zero x within at = ap (λ z. z ∷ []) (sym at)
take_next (y ∷ ys) (suc i) x within at =
    let below : i < length ys = omega (arith, within) in
    let one : suc i + 1 ≡ suc (suc i) = omega arith in
    let next : i + 1 ≡ suc i = omega arith in
    ap (λ n. take n (y ∷ ys)) one ∙ (ap (λ n. y ∷ take n ys) (sym next) ∙ ap (λ zs. y ∷ zs) (take_next ys i x below at))

-- the source of one value more
pub source_more : (values : List Text) (i : ℕ) (x : Text) (sources : List InputSource) (source : InputSource) → IsSource x source
    → AllZip IsSource (take i values) sources → i < length values → x ≡ get_or values i x
    → AllZip IsSource (take (i + 1) values) (sources ++ source ∷ [])
source_more values i x sources source is so within at =
    subst (λ (ts : List Text). AllZip IsSource ts (sources ++ source ∷ [])) (sym (take_next values i x within at))
    (all_zipped_more IsSource (take i values) sources x source so is)

any_at : (values : List Text) (i : ℕ) (x : Text) → IsWithoutForm x → i < length values → x ≡ get_or values i x
    → Any IsWithoutForm values
any_at values i x is within at = (i, x, within, sym at, is)

-- why a value of a list gives no source
pub fault_at : (values : List Text) (i : ℕ) (x : Text) (fault : SourceFault) → IsValueFault x fault → i < length values
    → x ≡ get_or values i x → IsSourceFault values fault
fault_at values i x NoMemory is within at = tt
fault_at values i x (WithoutForm here) is within at = any_at values i x is within at
