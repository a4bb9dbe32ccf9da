-- Laws of networks, over the same definitions by which the solver answers.
use Rattle.std.specs.Prelude.{◌≡◌, ℕ, suc, ◌≤◌, ℤ, List, IsTrue}
use Rattle.kahn_net.specs.Common.{IsPrefix, total, Fits, Block, Code, Network, IsValid, is_passing, HasPassingLoop}
use Rattle.kahn_net.specs.Common.{passes, Standing, StandsAt, approximation, Belongs, IsReached}
use Rattle.kahn_net.specs.Streams.{ArePrefixes}
use Rattle.kahn_net.specs.Processes.{output_of}
use Rattle.kahn_net.specs.Approximations.{IsSolution}

-- a body that passes is at rest after as many passes as there are items unread, and one: more passes make no more acts
abbrev pub WellFounded : Type 0
WellFounded =
    (n m site : ℕ) (body : Block) (vars : List ℤ) (unread : List (List ℤ)) → IsTrue (is_passing body)
    → total unread ≤ n → total unread ≤ m → passes (suc n) site body vars unread ≡ passes (suc m) site body vars unread

-- from longer input histories a process puts the same on each channel, and then more
abbrev pub Monotone : Type 0
Monotone =
    (code : Code) (small big : List (List ℤ)) (channel : ℕ) → HasPassingLoop code → ArePrefixes small big
    → IsPrefix (output_of code small channel) (output_of code big channel)

-- each approximation's histories are prefixes of every later one's
abbrev pub Growing : Type 0
Growing =
    (net : Network) (inputs : List (List ℤ)) (m n : ℕ) → IsValid net → Fits net inputs → m ≤ n
    → ArePrefixes (approximation net inputs m) (approximation net inputs n)

-- two items that belong at one position of one channel are equal
abbrev pub OneItem : Type 0
OneItem =
    (net : Network) (inputs : List (List ℤ)) (channel position : ℕ) (v w : ℤ) → IsValid net → Fits net inputs
    → Belongs net inputs channel position v → Belongs net inputs channel position w → v ≡ w

-- once two approximations in a row agree, all later ones agree with them
abbrev pub StaysAtRest : Type 0
StaysAtRest =
    (net : Network) (inputs : List (List ℤ)) (n m : ℕ) → IsReached net inputs n → n ≤ m
    → approximation net inputs m ≡ approximation net inputs n

-- and then they are a solution
abbrev pub RestIsSolution : Type 0
RestIsSolution =
    (net : Network) (inputs : List (List ℤ)) (n : ℕ) → IsValid net → IsReached net inputs n
    → IsSolution net inputs (approximation net inputs n)

-- of which each history is a prefix of that in every other solution, since so is each approximation's
abbrev pub BelowSolutions : Type 0
BelowSolutions =
    (net : Network) (inputs : List (List ℤ)) (n : ℕ) (histories : List (List ℤ)) → IsValid net → Fits net inputs
    → IsSolution net inputs histories → ArePrefixes (approximation net inputs n) histories

-- where a process stands after m acts doesn't depend on what comes later on its inputs
abbrev pub StandsStill : Type 0
StandsStill =
    (code : Code) (small big : List (List ℤ)) (m : ℕ) (standing : Standing) → HasPassingLoop code
    → ArePrefixes small big → StandsAt code small m standing → StandsAt code big m standing
