-- What was read of a folder is so still, and why a file of it isn't read.
use Rattle.std.proofs.Common.{◌≡◌, ◌∙◌, inl, inr, ℕ, zero, suc, ◌+◌, ◌<◌, ℤ, List, [], ◌∷◌, ◌++◌, get_or, length, map, take, refl, sym, subst, ap, arith, Result, Ok, Err}
use Rattle.std.specs.List.{AllByRecursion}
use Rattle.std.specs.Prelude.{IfErr}
use Rattle.host.specs.Requests.{Has, Read, Request}
use Rattle.host.specs.declared.fault.HostFault.{HostFault}
use Rattle.host.specs.declared.fault.HostFault.TheVariants as host
use Rattle.net_text.specs.Names.{NameTree}
use Rattle.protocol.specs.Node.Common.{Net, network_of}
use Rattle.station.specs.declared.output.Output.{Output}
use Rattle.folder_status.specs.Causes.{AreNoInputs, bad_line, IsCaused, IsNoNet, IsTextCause, IsUnreadable, missing, no_inputs, no_net, of_unread}
use Rattle.folder_status.specs.Files.{inputs_path, IsOwnFile, items_path, net_path, OnlyReads}
use Rattle.folder_status.specs.Endings.{HasOther}
use Rattle.folder_status.specs.Kept.{AreInputsRead, IsFileOf, IsNetRead, IsRead}
use Rattle.folder_status.specs.declared.fault.StatusFault.TheVariants.{NoMemory, OtherState, ItemDiffers, Unread}
use Rattle.folder_status.specs.declared.fault.StatusFault.{StatusFault}
use Rattle.folder_status.specs.declared.fault.StatusRefused.{StatusRefused}
use Rattle.folder_status.specs.declared.kept.KeptOutput.{KeptOutput}
use Rattle.folder_status.proofs.Asked.{had_still}

-- ---- why a file isn't read

by_fault : (folder path : List ℕ) (e : List Request) (fault : HostFault) → IsOwnFile folder path → Has (Read path (Err fault)) e
    → IsCaused folder e (of_unread fault)
by_fault folder path e host.NoMemory own had = tt
by_fault folder path e host.NotThere own had = missing path host.NotThere own had (inl refl)
by_fault folder path e host.NoFolder own had = missing path host.NoFolder own had (inr refl)
by_fault folder path e host.IsThere own had = record { path = path; fault = host.IsThere; own = own; asked = had; failure = refl }
by_fault folder path e host.InUse own had = record { path = path; fault = host.InUse; own = own; asked = had; failure = refl }
by_fault folder path e host.NotEmpty own had = record { path = path; fault = host.NotEmpty; own = own; asked = had; failure = refl }
by_fault folder path e host.Other own had = record { path = path; fault = host.Other; own = own; asked = had; failure = refl }

pub unread_by : (folder path : List ℕ) (e : List Request) (fault : HostFault) (told : StatusFault) → IsOwnFile folder path
    → Has (Read path (Err fault)) e → told ≡ of_unread fault → IsCaused folder e told
unread_by folder path e fault told own had same = subst (IsCaused folder e) (sym same) (by_fault folder path e fault own had)

-- bytes of which no items are read
pub unreadable : {T : Type 0} (folder name path bytes : List ℕ) (e : List Request) (result : Result T StatusRefused)
    → path ≡ items_path folder name → Has (Read path (Ok bytes)) e → IfErr result (λ refused. IsUnreadable bytes refused.fault)
    → IfErr result (λ refused. IsCaused folder e refused.fault)
unreadable {T} folder name path bytes e (Ok x) same had is = tt
unreadable {T} folder name path bytes e (Err refused) same had (inl memory) = subst (IsCaused folder e) (sym memory) tt
unreadable {T} folder name path bytes e (Err refused) same had (inr bad) =
    subst (IsCaused folder e) (sym bad.0)
    (bad_line name bytes bad.1.0 (subst (λ (p : List ℕ). Has (Read p (Ok bytes)) e) same had) bad.1.1)

-- ---- what was read

pub file_still : (folder : List ℕ) (names : List NameTree) (old new : List Request) (output : KeptOutput) → OnlyReads folder old new
    → IsFileOf folder names old output → IsFileOf folder names new output
file_still folder names old new output only is = record { bytes = is.bytes; read = had_still folder old new _ only is.read; lines = is.lines }

pub files_still : (folder : List ℕ) (names : List NameTree) (old new : List Request) (outputs : List KeptOutput) → OnlyReads folder old new
    → AllByRecursion (IsFileOf folder names old) outputs → AllByRecursion (IsFileOf folder names new) outputs
files_still folder names old new [] only are = tt
files_still folder names old new (output ∷ outputs) only are =
    (file_still folder names old new output only are.0, files_still folder names old new outputs only are.1)

one_behind : (folder : List ℕ) (names : List NameTree) (e : List Request) (outputs : List KeptOutput) (output : KeptOutput)
    → AllByRecursion (IsFileOf folder names e) outputs → IsFileOf folder names e output
    → AllByRecursion (IsFileOf folder names e) (outputs ++ output ∷ [])
one_behind folder names e [] output are is = (is, tt)
one_behind folder names e (x ∷ outputs) output are is = (are.0, one_behind folder names e outputs output are.1 is)

pub one_file_more : (folder : List ℕ) (names : List NameTree) (old new : List Request) (outputs pushed : List KeptOutput) (output : KeptOutput)
    → pushed ≡ outputs ++ output ∷ [] → OnlyReads folder old new → AllByRecursion (IsFileOf folder names old) outputs
    → IsFileOf folder names new output → AllByRecursion (IsFileOf folder names new) pushed
one_file_more folder names old new outputs pushed output push only are is =
    subst (AllByRecursion (IsFileOf folder names new)) (sym push)
    (one_behind folder names new outputs output (files_still folder names old new outputs only are) is)

pub net_still : (folder : List ℕ) (net : Net) (old new : List Request) → OnlyReads folder old new → IsNetRead folder net old → IsNetRead folder net new
net_still folder net old new only is = record { bytes = is.bytes; read = had_still folder old new _ only is.read; is = is.is }

pub inputs_still : (folder : List ℕ) (net : Net) (inputs : List (List ℤ)) (old new : List Request) → OnlyReads folder old new
    → AreInputsRead folder net inputs old → AreInputsRead folder net inputs new
inputs_still folder net inputs old new only are = record { bytes = are.bytes; read = had_still folder old new _ only are.read; are = are.are }

-- ---- texts that are refused

pub no_net_by : {T : Type 0} (folder path bytes : List ℕ) (e : List Request) (result : Result T StatusRefused)
    → path ≡ net_path folder → Has (Read path (Ok bytes)) e → IfErr result (λ refused. IsTextCause (IsNoNet bytes) refused.fault)
    → IfErr result (λ refused. IsCaused folder e refused.fault)
no_net_by {T} folder path bytes e (Ok x) same had is = tt
no_net_by {T} folder path bytes e (Err refused) same had (inl memory) = subst (IsCaused folder e) (sym memory) tt
no_net_by {T} folder path bytes e (Err refused) same had (inr bad) =
    subst (IsCaused folder e) (sym bad.0) (no_net bytes (subst (λ (p : List ℕ). Has (Read p (Ok bytes)) e) same had) bad.1)

pub no_inputs_by : {T : Type 0} (folder path bytes : List ℕ) (net : Net) (e : List Request) (result : Result T StatusRefused)
    → path ≡ inputs_path folder → IsNetRead folder net e → Has (Read path (Ok bytes)) e
    → IfErr result (λ refused. IsTextCause (AreNoInputs net bytes) refused.fault)
    → IfErr result (λ refused. IsCaused folder e refused.fault)
no_inputs_by {T} folder path bytes net e (Ok x) same net_read had is = tt
no_inputs_by {T} folder path bytes net e (Err refused) same net_read had (inl memory) = subst (IsCaused folder e) (sym memory) tt
no_inputs_by {T} folder path bytes net e (Err refused) same net_read had (inr bad) =
    subst (IsCaused folder e) (sym bad.0)
    (no_inputs bytes net net_read (subst (λ (p : List ℕ). Has (Read p (Ok bytes)) e) same had) bad.1)

-- ---- the channels of those that were read

one_output_more : (outputs : List (Output (List ℤ))) (i : ℕ) (output : Output (List ℤ)) → i < length outputs → output ≡ get_or outputs i output
    → map (λ (output : Output (List ℤ)). output.channel) (take (suc i) outputs)
    ≡ map (λ (output : Output (List ℤ)). output.channel) (take i outputs) ++ output.channel ∷ []
one_output_more [] i output less is = absurd (omega (arith, less))
one_output_more (x ∷ outputs) zero output less is = ap (λ (o : Output (List ℤ)). o.channel ∷ []) (sym is)
one_output_more (x ∷ outputs) (suc i) output less is =
    ap (λ (rest : List ℕ). x.channel ∷ rest) (one_output_more outputs i output (omega (arith, less)) is)

kept_more : (kept : List KeptOutput) (one : KeptOutput)
    → map (λ (one : KeptOutput). one.channel) (kept ++ one ∷ []) ≡ map (λ (one : KeptOutput). one.channel) kept ++ one.channel ∷ []
kept_more [] one = refl
kept_more (x ∷ kept) one = ap (λ (rest : List ℕ). x.channel ∷ rest) (kept_more kept one)

pub channel_more : (kept pushed : List KeptOutput) (one : KeptOutput) (outputs : List (Output (List ℤ))) (i : ℕ) (output : Output (List ℤ))
    → pushed ≡ kept ++ one ∷ [] → one.channel ≡ output.channel → i < length outputs → output ≡ get_or outputs i output
    → map (λ (one : KeptOutput). one.channel) kept ≡ map (λ (output : Output (List ℤ)). output.channel) (take i outputs)
    → map (λ (one : KeptOutput). one.channel) pushed ≡ map (λ (output : Output (List ℤ)). output.channel) (take (i + 1) outputs)
channel_more kept pushed one outputs i output push same less is before =
    let next : i + 1 ≡ suc i = omega arith in
    ap (map (λ (one : KeptOutput). one.channel)) push
    ∙ (kept_more kept one
    ∙ (ap (λ (rest : List ℕ). rest ++ one.channel ∷ []) before
    ∙ (ap (λ (c : ℕ). map (λ (output : Output (List ℤ)). output.channel) (take i outputs) ++ c ∷ []) same
    ∙ (sym (one_output_more outputs i output less is)
    ∙ ap (λ (n : ℕ). map (λ (output : Output (List ℤ)). output.channel) (take n outputs)) (sym next)))))

-- ---- items that differ

-- a folder that was read and has other items
pub differs_by : (folder : List ℕ) (e : List Request) (net : Net) (inputs : List (List ℤ)) (kept : List KeptOutput) (fault : StatusFault)
    → IsRead folder e net inputs kept → (fault ≡ ItemDiffers → HasOther (network_of net.program) inputs kept)
    → (¬ (fault ≡ ItemDiffers) → fault ≡ NoMemory) → IsCaused folder e fault
differs_by folder e net inputs kept ItemDiffers read other faults =
    let has = other refl in
    record {
      net = net;
      inputs = inputs;
      outputs = kept;
      output = has.output;
      place = has.place;
      read = read;
      there = has.there;
      other = has.other;
    }
differs_by folder e net inputs kept NoMemory read other faults = tt
differs_by folder e net inputs kept OtherState read other faults = let same = faults (λ is. absurd cc) in absurd cc
differs_by folder e net inputs kept Unread read other faults = let same = faults (λ is. absurd cc) in absurd cc
