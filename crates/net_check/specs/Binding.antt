-- When lists of items are those that the lines of an inputs text give to a network, and what is wrong with lines that
-- are refused.
use Rattle.std.specs.Prelude.{◌≡◌, ◌≢◌, ℕ, ℤ, ◌<◌, ◌≤◌, List, [], map, length, slice_get, Some}
use Rattle.net_text.specs.Names.{NameTree}
use Rattle.net_text.specs.Trees.{InputTree}
use Rattle.net_check.specs.declared.fault.NetFault.{NetFault}
use Rattle.net_check.specs.declared.fault.NetFault.TheVariants.{NoMemory, TwiceNamed, UnknownName, TwoProducers}
use Rattle.net_check.specs.declared.fault.NetFault.TheVariants.{TwoConsumers, LoopWithoutGet, Limit, NoProducer}
use Rattle.net_check.specs.declared.fault.NetFault.TheVariants.{NoConsumer, MissingInput}
use Rattle.kahn_net.specs.declared.program.Channel.{Channel}
use Rattle.kahn_net.specs.declared.program.Port.TheVariants.{Outside}
use Rattle.kahn_net.specs.Common.{Network}
use Rattle.net_check.specs.Resolution.{AllDifferent, Reads}
use Rattle.net_check.specs.NetFaults.{SecondUse}
use Rattle.kahn_net.specs.declared.limits.TheConstants.{MAX_HISTORY_ITEMS}

-- the channel of this number is an input
pub record IsInput (net : Network) (c : ℕ) : Type 0 where
  pub channel : Channel
  pub here : slice_get net.channels c ≡ Some channel
  pub outside : channel.producer ≡ Outside

abbrev pub line_names : List InputTree → List NameTree
line_names lines = map (λ (l : InputTree). l.name) lines

-- a line names an input, which has exactly its items
pub record IsGiven (names : List NameTree) (net : Network) (inputs : List (List ℤ)) (line : InputTree) : Type 0 where
  pub c : ℕ
  pub reads : Reads names c line.name.text
  pub input : IsInput net c
  pub items : slice_get inputs c ≡ Some line.items
  pub few : length line.items ≤ MAX_HISTORY_ITEMS

-- a line that names this channel
pub record IsNamedIn (names : List NameTree) (lines : List InputTree) (c : ℕ) : Type 0 where
  pub i : ℕ
  pub line : InputTree
  pub here : slice_get lines i ≡ Some line
  pub reads : Reads names c line.name.text

-- the items that the lines of a text give to the inputs of a network whose channels have these names, a list for each
-- channel
pub record Binds (names : List NameTree) (net : Network) (lines : List InputTree) (inputs : List (List ℤ)) : Type 0
  where
    pub count : length inputs ≡ length net.channels
    -- each line names an input, which has exactly its items
    pub given : (i : ℕ) (line : InputTree) → slice_get lines i ≡ Some line → IsGiven names net inputs line
    -- each input is named by a line, and by no two
    pub named : (c : ℕ) → IsInput net c → IsNamedIn names lines c
    pub once : AllDifferent (line_names lines)
    -- a channel that is no input has no items
    pub elsewhere : (c : ℕ) (channel : Channel) (items : List ℤ) → slice_get net.channels c ≡ Some channel
        → slice_get inputs c ≡ Some items → channel.producer ≢ Outside → items ≡ []

-- 11: a line that names no input
pub record HasNoInput (names : List NameTree) (net : Network) (lines : List InputTree) (at : ℕ) : Type 0 where
  pub i : ℕ
  pub line : InputTree
  pub here : slice_get lines i ≡ Some line
  pub other : (c : ℕ) → Reads names c line.name.text → IsInput net c → ⊥
  pub there : line.name.line ≡ at

-- 15: a line of more than 1,048,576 items
pub record HasManyItems (lines : List InputTree) (at : ℕ) : Type 0 where
  pub i : ℕ
  pub line : InputTree
  pub here : slice_get lines i ≡ Some line
  pub many : MAX_HISTORY_ITEMS < length line.items
  pub there : line.name.line ≡ at

-- 18: an input that no line names
pub record HasMissingInput (names : List NameTree) (net : Network) (lines : List InputTree) : Type 0 where
  pub c : ℕ
  pub input : IsInput net c
  pub unnamed : IsNamedIn names lines c → ⊥

-- the lines have this fault, for a network whose channels have these names; of want of memory they say nothing
abbrev pub HasInputFault : List NameTree → Network → List InputTree → NetFault → Type 0
HasInputFault names net lines NoMemory = Unit {0}
HasInputFault names net lines (TwiceNamed line) = SecondUse (line_names lines) line
HasInputFault names net lines (UnknownName line) = HasNoInput names net lines line
HasInputFault names net lines (Limit line) = HasManyItems lines line
HasInputFault names net lines MissingInput = HasMissingInput names net lines
HasInputFault names net lines (TwoProducers line) = ⊥
HasInputFault names net lines (TwoConsumers line) = ⊥
HasInputFault names net lines (LoopWithoutGet line) = ⊥
HasInputFault names net lines (NoProducer line) = ⊥
HasInputFault names net lines (NoConsumer line) = ⊥
