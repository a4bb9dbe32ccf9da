-- Why texts are refused.
use Rattle.std.proofs.Common.{◌≡◌, inl, inr, refl, sym, subst}
use Rattle.net_check.specs.declared.fault.NetFault.{NetFault}
use Rattle.net_check.specs.declared.fault.NetFault.TheVariants as net_fault
use Rattle.net_text.specs.declared.fault.TextFault.{TextFault}
use Rattle.net_text.specs.declared.fault.TextFault.TheVariants as text_fault
use Rattle.folder_status.specs.Causes.{IsTextCause, of_net_fault, of_text_fault}
use Rattle.folder_status.specs.declared.fault.StatusFault.{StatusFault}

-- what would only be refused for want of memory isn't so
by_text : (P : Type 0) (fault : TextFault) → (P → fault ≡ text_fault.NoMemory) → IsTextCause (¬ P) (of_text_fault fault)
by_text P text_fault.NoMemory only = inl refl
by_text P (text_fault.BadToken line) only = inr (refl, λ p. let same = only p in absurd cc)
by_text P (text_fault.Unexpected line) only = inr (refl, λ p. let same = only p in absurd cc)
by_text P (text_fault.NumberRange line) only = inr (refl, λ p. let same = only p in absurd cc)
by_text P (text_fault.TooLong line) only = inr (refl, λ p. let same = only p in absurd cc)

by_net : (P : Type 0) (fault : NetFault) → (P → fault ≡ net_fault.NoMemory) → IsTextCause (¬ P) (of_net_fault fault)
by_net P net_fault.NoMemory only = inl refl
by_net P net_fault.MissingInput only = inr (refl, λ p. let same = only p in absurd cc)
by_net P (net_fault.TwiceNamed line) only = inr (refl, λ p. let same = only p in absurd cc)
by_net P (net_fault.UnknownName line) only = inr (refl, λ p. let same = only p in absurd cc)
by_net P (net_fault.TwoProducers line) only = inr (refl, λ p. let same = only p in absurd cc)
by_net P (net_fault.TwoConsumers line) only = inr (refl, λ p. let same = only p in absurd cc)
by_net P (net_fault.LoopWithoutGet line) only = inr (refl, λ p. let same = only p in absurd cc)
by_net P (net_fault.Limit line) only = inr (refl, λ p. let same = only p in absurd cc)
by_net P (net_fault.NoProducer line) only = inr (refl, λ p. let same = only p in absurd cc)
by_net P (net_fault.NoConsumer line) only = inr (refl, λ p. let same = only p in absurd cc)

-- a text that isn't in its grammar
pub text_refused : (P : Type 0) (fault : TextFault) (told : StatusFault) → told ≡ of_text_fault fault → (P → fault ≡ text_fault.NoMemory)
    → IsTextCause (¬ P) told
text_refused P fault told same only = subst (IsTextCause (¬ P)) (sym same) (by_text P fault only)

-- one that says what isn't valid
pub net_refused : (P : Type 0) (fault : NetFault) (told : StatusFault) → told ≡ of_net_fault fault → (P → fault ≡ net_fault.NoMemory)
    → IsTextCause (¬ P) told
net_refused P fault told same only = subst (IsTextCause (¬ P)) (sym same) (by_net P fault only)
