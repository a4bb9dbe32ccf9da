-- What the texts of a folder stand for.
use Rattle.std.specs.Prelude.{ℕ, ℤ, List}
use Rattle.kahn_net.specs.Syntax.{Network, network_of}
use Rattle.kahn_net.specs.Valid.{IsValid}
use Rattle.net_text.specs.Grammar.{IsTextOf}
use Rattle.net_text.specs.InputLines.{IsInputsText}
use Rattle.net_text.specs.Names.{NameTree}
use Rattle.net_text.specs.Trees.{DeclarationTree, InputTree}
use Rattle.net_check.specs.Binding.{Binds}
use Rattle.net_check.specs.Resolution.{Resolves}
use Rattle.net_check.specs.declared.net.Net.{Net}

-- the network that this text describes
pub record IsNetOf (bytes : List ℕ) (net : Net) : Type 0 where
  pub tree : List DeclarationTree
  pub text : IsTextOf tree bytes
  pub resolved : Resolves tree net.channel_names.items net.process_names.items (network_of net.program)

-- the items that this text gives the network's inputs
pub record AreInputsOf (bytes : List ℕ) (net : Net) (inputs : List (List ℤ)) : Type 0 where
  pub lines : List InputTree
  pub text : IsInputsText bytes lines
  pub bound : Binds net.channel_names.items (network_of net.program) lines inputs

-- some valid network is described by this text
pub record IsTextOfNet (bytes : List ℕ) : Type 0 where
  pub tree : List DeclarationTree
  pub channels : List NameTree
  pub processes : List NameTree
  pub network : Network
  pub text : IsTextOf tree bytes
  pub resolved : Resolves tree channels processes network
  pub valid : IsValid network

-- some items for the network's inputs are given by this text
pub record IsTextOfInputs (net : Net) (bytes : List ℕ) : Type 0 where
  pub lines : List InputTree
  pub lists : List (List ℤ)
  pub text : IsInputsText bytes lines
  pub bound : Binds net.channel_names.items (network_of net.program) lines lists
