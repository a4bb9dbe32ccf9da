-- The lines of an inputs text bound one after another.
use Rattle.std.specs.Prelude.{◌≡◌, ℕ, ℤ, ◌<◌, ◌≤◌, List, [], length, slice_get, slice_set, Some, Bool, true, false}
use Rattle.net_text.specs.Names.{NameTree}
use Rattle.net_text.specs.Trees.{InputTree}
use Rattle.net_check.specs.declared.fault.NetFault.{NetFault}
use Rattle.net_check.specs.declared.fault.NetFault.TheVariants.{NoMemory, TwiceNamed, UnknownName, TwoProducers}
use Rattle.net_check.specs.declared.fault.NetFault.TheVariants.{TwoConsumers, LoopWithoutGet, Limit, NoProducer}
use Rattle.net_check.specs.declared.fault.NetFault.TheVariants.{NoConsumer, MissingInput}
use Rattle.kahn_net.specs.declared.program.Channel.{Channel}
use Rattle.kahn_net.specs.declared.program.Port.TheVariants.{Outside}
use Rattle.kahn_net.specs.Common.{Network}
use Rattle.net_check.specs.Resolution.{AllDifferent, Reads}
use Rattle.net_check.specs.Binding.{IsGiven, IsInput, IsNamedIn, line_names}
use Rattle.kahn_net.specs.declared.limits.TheConstants.{MAX_HISTORY_ITEMS}

-- an input that reads like this name
pub record MarkedInput (names : List NameTree) (net : Network) (name : NameTree) (c : ℕ) : Type 0 where
  pub within : c < length net.channels
  pub reads : Reads names c name.text
  pub input : IsInput net c

abbrev pub AreEmpty : List (List ℤ) → Type 0
AreEmpty lists = (c : ℕ) (items : List ℤ) → slice_get lists c ≡ Some items → items ≡ []

abbrev pub AreFalse : List Bool → Type 0
AreFalse marks = (c : ℕ) (mark : Bool) → slice_get marks c ≡ Some mark → mark ≡ false

-- each input has been named
abbrev pub AreNamed : List Channel → List Bool → Type 0
AreNamed channels named =
    (c : ℕ) (channel : Channel) → slice_get channels c ≡ Some channel → channel.producer ≡ Outside
    → slice_get named c ≡ Some true

-- an input hasn't
abbrev pub HasUnnamed : List Channel → List Bool → Type 0
HasUnnamed channels named =
    (c : ℕ) × (channel : Channel) × (slice_get channels c ≡ Some channel) × (channel.producer ≡ Outside)
    × (slice_get named c ≡ Some false)

-- the lists after these lines, and which channels they have named
pub record AreBound (names : List NameTree) (net : Network) (lines : List InputTree) (lists : List (List ℤ))
    (named : List Bool) : Type 0 where
  pub count : length lists ≡ length net.channels
  pub marks : length named ≡ length net.channels
  pub given : (i : ℕ) (line : InputTree) → slice_get lines i ≡ Some line → IsGiven names net lists line
  pub marked : (i : ℕ) (line : InputTree) (c : ℕ) → slice_get lines i ≡ Some line → Reads names c line.name.text
      → slice_get named c ≡ Some true
  pub once : AllDifferent (line_names lines)
  pub by : (c : ℕ) → slice_get named c ≡ Some true → IsNamedIn names lines c
  pub input : (c : ℕ) → slice_get named c ≡ Some true → IsInput net c
  pub empty : (c : ℕ) → slice_get named c ≡ Some false → slice_get lists c ≡ Some []
  pub few : (c : ℕ) (items : List ℤ) → slice_get lists c ≡ Some items → length items ≤ MAX_HISTORY_ITEMS

-- a line that names an input which none has named
pub record BindsLine (names : List NameTree) (net : Network) (line : InputTree) (lists : List (List ℤ))
    (named : List Bool) (lists' : List (List ℤ)) (named' : List Bool) : Type 0 where
  pub c : ℕ
  pub reads : Reads names c line.name.text
  pub input : IsInput net c
  pub fresh : slice_get named c ≡ Some false
  pub few : length line.items ≤ MAX_HISTORY_ITEMS
  pub list : lists' ≡ slice_set lists c line.items
  pub mark : named' ≡ slice_set named c true

-- what is wrong with a line after others
abbrev pub LineFault : List NameTree → Network → InputTree → List Bool → NetFault → Type 0
LineFault names net line named NoMemory = Unit {0}
LineFault names net line named (UnknownName at) =
    ((c : ℕ) → Reads names c line.name.text → IsInput net c → ⊥) × (line.name.line ≡ at)
LineFault names net line named (TwiceNamed at) =
    ((c : ℕ) × Reads names c line.name.text × (slice_get named c ≡ Some true)) × (line.name.line ≡ at)
LineFault names net line named (Limit at) = (MAX_HISTORY_ITEMS < length line.items) × (line.name.line ≡ at)
LineFault names net line named (TwoProducers at) = ⊥
LineFault names net line named (TwoConsumers at) = ⊥
LineFault names net line named (LoopWithoutGet at) = ⊥
LineFault names net line named (NoProducer at) = ⊥
LineFault names net line named (NoConsumer at) = ⊥
LineFault names net line named MissingInput = ⊥
