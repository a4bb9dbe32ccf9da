-- What a process does next from where it stands.
use Rattle.std.specs.Prelude.{◌≡◌, ℕ, ◌+◌, ◌==◌, nat_lt, cond, Option, Some, None}
use Rattle.kahn_net.specs.Syntax.{Block, Nothing, GetThen, AssignThen, PutThen, StopThen, IfThen, RepeatThen, Code}
use Rattle.kahn_net.specs.Statements.{Act, Got, Sent, sites_of}
use Rattle.kahn_net.specs.Processes.{Standing, NotBegun, At, Done}

-- what a process does next from where it stands: it begins, it gets from a channel, it puts on one, or it has finished
pub data Next : Type 0 where
  Begins : Next
  Gets : (channel : ℕ) → Next
  Puts : (channel : ℕ) → Next
  NoNext : Next

-- the get or put of this site among these statements, the first of which has this number
abbrev pub next_on : ℕ → Block → ℕ → Next
next_on number Nothing site = NoNext
next_on number (GetThen x channel rest) site = cond (number == site) (Gets channel) (next_on (number + 1) rest site)
next_on number (AssignThen x e rest) site = next_on number rest site
next_on number (PutThen e channel rest) site = cond (number == site) (Puts channel) (next_on (number + 1) rest site)
next_on number (StopThen rest) site = next_on number rest site
next_on number (IfThen test first second rest) site =
    cond (nat_lt site (number + sites_of first)) (next_on number first site)
    (cond (nat_lt site (number + sites_of first + sites_of second)) (next_on (number + sites_of first) second site)
    (next_on (number + sites_of first + sites_of second) rest site))
next_on number (RepeatThen times body rest) site =
    cond (nat_lt site (number + sites_of body)) (next_on number body site) (next_on (number + sites_of body) rest site)

abbrev pub next_in_body : ℕ → Option Block → ℕ → Next
next_in_body number None site = NoNext
next_in_body number (Some body) site = next_on number body site

-- the get or put of this site of a process
abbrev pub next_at : Code → ℕ → Next
next_at code site =
    cond (nat_lt site (sites_of code.prelude)) (next_on 0 code.prelude site)
    (next_in_body (sites_of code.prelude) code.body site)

abbrev pub next_of : Code → Standing → Next
next_of code (NotBegun vars) = Begins
next_of code (At point vars) = next_at code point.site
next_of code (Done vars) = NoNext

-- the act is one that this foretells: whatever it is, where the process begins, and else a get or a put on that channel
abbrev pub IsNextAct : Next → Act → Type 0
IsNextAct Begins act = Unit {0}
IsNextAct (Gets channel) (Got c item) = channel ≡ c
IsNextAct (Gets channel) (Sent c item) = ⊥
IsNextAct (Puts channel) (Got c item) = ⊥
IsNextAct (Puts channel) (Sent c item) = channel ≡ c
IsNextAct NoNext act = ⊥
