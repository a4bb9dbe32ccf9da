-- When a network is valid: a clause for each rule, over the network alone.
use Rattle.std.specs.Prelude.{◌≡◌, ◌≢◌, ◌↔◌, ℕ, suc, ◌+◌, ◌<◌, ◌≤◌, Bool, true, false, ◌&&◌, ◌||◌, ◌==◌, nat_lt, length}
use Rattle.std.specs.Prelude.{slice_get, Option, Some, None, IsTrue}
use Rattle.kahn_net.specs.Syntax.{Tree, Number, Name, Minus, Chain, Links, NoLinks, LinkThen, Block, Nothing, GetThen}
use Rattle.kahn_net.specs.Syntax.{AssignThen, PutThen, StopThen, IfThen, RepeatThen, Code, Network}
use Rattle.kahn_net.specs.declared.program.Channel.{Channel}
use Rattle.kahn_net.specs.declared.program.Port.TheVariants.{Outside, Process}
use Rattle.kahn_net.specs.declared.limits.TheConstants.{MAX_CHANNELS, MAX_NODES, MAX_PROCESSES, MAX_UNITS}
use Rattle.kahn_net.specs.declared.limits.TheConstants.{MAX_VARIABLES}
use Rattle.kahn_net.specs.Repeats.{code_repeats_within}

-- Statements pass where one of them passes: a get and a stop do, an if both of whose blocks do, and a repetition that
-- is made at all and whose block does. A loop whose body passes can't go round without end on what is at hand.
abbrev pub is_passing : Block → Bool
is_passing Nothing = false
is_passing (GetThen x c rest) = true
is_passing (AssignThen x e rest) = is_passing rest
is_passing (PutThen e c rest) = is_passing rest
is_passing (StopThen rest) = true
is_passing (IfThen test first second rest) = (is_passing first && is_passing second) || is_passing rest
is_passing (RepeatThen times body rest) = (nat_lt 0 times && is_passing body) || is_passing rest

-- each literal, each variable in an expression and each operator is one unit
abbrev mutual
  pub expr_units : Tree → ℕ
  expr_units (Number n) = 1
  expr_units (Name x) = 1
  expr_units (Minus value) = suc (expr_units value)
  expr_units (Chain first links) = expr_units first + links_units links

  pub links_units : Links → ℕ
  links_units NoLinks = 0
  links_units (LinkThen operator value rest) = suc (expr_units value + links_units rest)

-- and so is each statement; a repetition's number is one too
abbrev pub block_units : Block → ℕ
block_units Nothing = 0
block_units (GetThen x c rest) = suc (block_units rest)
block_units (AssignThen x e rest) = suc (expr_units e + block_units rest)
block_units (PutThen e c rest) = suc (expr_units e + block_units rest)
block_units (StopThen rest) = suc (block_units rest)
block_units (IfThen test first second rest) =
    suc (expr_units test + (block_units first + (block_units second + block_units rest)))
block_units (RepeatThen times body rest) = suc (suc (block_units body + block_units rest))

abbrev pub body_units : Option Block → ℕ
body_units None = 0
body_units (Some body) = block_units body

-- each variable is below this number
abbrev mutual
  pub expr_within : ℕ → Tree → Bool
  expr_within variables (Number n) = true
  expr_within variables (Name x) = nat_lt x variables
  expr_within variables (Minus value) = expr_within variables value
  expr_within variables (Chain first links) = expr_within variables first && links_within variables links

  pub links_within : ℕ → Links → Bool
  links_within variables NoLinks = true
  links_within variables (LinkThen operator value rest) = expr_within variables value && links_within variables rest

-- each variable and each channel is below these numbers
abbrev pub block_within : ℕ → ℕ → Block → Bool
block_within variables channels Nothing = true
block_within variables channels (GetThen x c rest) =
    nat_lt x variables && (nat_lt c channels && block_within variables channels rest)
block_within variables channels (AssignThen x e rest) =
    nat_lt x variables && (expr_within variables e && block_within variables channels rest)
block_within variables channels (PutThen e c rest) =
    expr_within variables e && (nat_lt c channels && block_within variables channels rest)
block_within variables channels (StopThen rest) = block_within variables channels rest
block_within variables channels (IfThen test first second rest) =
    expr_within variables test &&
    (block_within variables channels first &&
    (block_within variables channels second && block_within variables channels rest))
block_within variables channels (RepeatThen times body rest) =
    block_within variables channels body && block_within variables channels rest

abbrev pub body_within : ℕ → ℕ → Option Block → Bool
body_within variables channels None = true
body_within variables channels (Some body) = block_within variables channels body

-- some statement gets from this channel
abbrev pub block_gets : ℕ → Block → Bool
block_gets channel Nothing = false
block_gets channel (GetThen x c rest) = (c == channel) || block_gets channel rest
block_gets channel (AssignThen x e rest) = block_gets channel rest
block_gets channel (PutThen e c rest) = block_gets channel rest
block_gets channel (StopThen rest) = block_gets channel rest
block_gets channel (IfThen test first second rest) =
    block_gets channel first || (block_gets channel second || block_gets channel rest)
block_gets channel (RepeatThen times body rest) = block_gets channel body || block_gets channel rest

-- some statement puts on this channel
abbrev pub block_puts : ℕ → Block → Bool
block_puts channel Nothing = false
block_puts channel (GetThen x c rest) = block_puts channel rest
block_puts channel (AssignThen x e rest) = block_puts channel rest
block_puts channel (PutThen e c rest) = (c == channel) || block_puts channel rest
block_puts channel (StopThen rest) = block_puts channel rest
block_puts channel (IfThen test first second rest) =
    block_puts channel first || (block_puts channel second || block_puts channel rest)
block_puts channel (RepeatThen times body rest) = block_puts channel body || block_puts channel rest

abbrev pub body_gets : ℕ → Option Block → Bool
body_gets channel None = false
body_gets channel (Some body) = block_gets channel body

abbrev pub body_puts : ℕ → Option Block → Bool
body_puts channel None = false
body_puts channel (Some body) = block_puts channel body

abbrev pub code_gets : ℕ → Code → Bool
code_gets channel code = block_gets channel code.prelude || body_gets channel code.body

abbrev pub code_puts : ℕ → Code → Bool
code_puts channel code = block_puts channel code.prelude || body_puts channel code.body

-- a process keeps the rules of processes, in a network with so many channels
pub record IsValidCode (channels : ℕ) (code : Code) : Type 0 where
  pub node : code.node < MAX_NODES
  pub variables : length code.vars ≤ MAX_VARIABLES
  pub prelude_within : IsTrue (block_within (length code.vars) channels code.prelude)
  pub body_within : IsTrue (body_within (length code.vars) channels code.body)
  pub units : block_units code.prelude + body_units code.body ≤ MAX_UNITS
  pub repeats : IsTrue (code_repeats_within code)
  pub passes : (body : Block) → code.body ≡ Some body → IsTrue (is_passing body)

-- a network keeps the rules of networks, a field each
pub record IsValid (net : Network) : Type 0 where
  pub channel_count : length net.channels ≤ MAX_CHANNELS
  pub process_count : length net.codes ≤ MAX_PROCESSES
  pub codes : (p : ℕ) (code : Code) → slice_get net.codes p ≡ Some code → IsValidCode (length net.channels) code
  -- the one process that puts on a channel is its producer, and nobody puts on an input
  pub producer : (c p : ℕ) (channel : Channel) (code : Code) → slice_get net.channels c ≡ Some channel
      → slice_get net.codes p ≡ Some code → IsTrue (code_puts c code) ↔ (channel.producer ≡ Process p)
  -- the one process that gets from a channel is its consumer, and nobody gets from an output
  pub consumer : (c p : ℕ) (channel : Channel) (code : Code) → slice_get net.channels c ≡ Some channel
      → slice_get net.codes p ≡ Some code → IsTrue (code_gets c code) ↔ (channel.consumer ≡ Process p)
  -- producers and consumers are processes of the network
  pub producer_is_here : (c p : ℕ) (channel : Channel) → slice_get net.channels c ≡ Some channel
      → channel.producer ≡ Process p → p < length net.codes
  pub consumer_is_here : (c p : ℕ) (channel : Channel) → slice_get net.channels c ≡ Some channel
      → channel.consumer ≡ Process p → p < length net.codes
  -- a channel has a process at one end at least
  pub joined : (c : ℕ) (channel : Channel) → slice_get net.channels c ≡ Some channel → channel.producer ≡ Outside
      → channel.consumer ≢ Outside
