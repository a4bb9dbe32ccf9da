-- A last sweep, behind which no process can move.
use Rattle.std.proofs.Common.{◌≡◌, ℕ, suc, ◌<◌, ℤ, List, length, subst, arith}
use Rattle.kahn_net.specs.Syntax.{Network}
use Rattle.rerun.specs.Stops.{AreSweptWithin}
use Rattle.rerun.specs.Tables.{TableView, AreSwept, GoOn, IsAtRest}

pub rests_then : (net net' : Network) (inputs inputs' : List (List ℤ)) (limits : List ℕ) (n most : ℕ)
    (old between new : TableView) → net' ≡ net → inputs' ≡ inputs → n < most
    → AreSwept net inputs limits n old between → GoOn net' inputs' limits (length net'.codes) between new
    → IsAtRest net' inputs' limits new
    → AreSweptWithin net inputs limits most old new × IsAtRest net inputs limits new
rests_then net net' inputs inputs' limits n most old between new e f few swept last rests =
    let go : GoOn net inputs limits (length net.codes) between new =
    subst (λ (i : List (List ℤ)). GoOn net i limits (length net.codes) between new) f
    (subst (λ (x : Network). GoOn x inputs' limits (length x.codes) between new) e last) in
    let rest : IsAtRest net inputs limits new =
    subst (λ (i : List (List ℤ)). IsAtRest net i limits new) f
    (subst (λ (x : Network). IsAtRest x inputs' limits new) e rests) in
    ((suc n, omega (arith, few), (between, swept, go)), rest)
