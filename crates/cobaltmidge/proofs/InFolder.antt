-- What outlets took, in the files of a folder, and which of them failed: in the host's log, and in what it has become.
use Rattle.std.proofs.Common.{◌≡◌, inl, inr, refl, sym, subst, drop, ℕ, zero, suc, ℤ, Bool, List, [], ◌∷◌, ◌++◌, Option, Some, None, Ok, slice_get, string_bytes}
use Rattle.host.specs.Requests.{Request, Has, Later, Opened, Used}
use Rattle.host.specs.declared.line_file.LineFile.{Ghosts as FileWords}
use Rattle.output_file.specs.InFile.{IsInFile}
use Rattle.output_file.specs.Output.{asked_of, held_of, items_of}
use Rattle.output_file.specs.declared.resumed.ResumedOutlet.{ResumedOutlet}
use Rattle.run_files.specs.Keeping.{IsKept}
use Rattle.run_files.specs.Opening.{AreHeldAs, AreOpened, AreUsed, opened_names, paths_in}
use Rattle.run_files.specs.Syncing.{AreSyncedIf}
use Rattle.run_files.specs.Wanted.{Wanted}
use Rattle.run_files.specs.declared.held_file.HeldFile.{HeldFile}
use Rattle.run_files.specs.declared.held_file.OpenedName.{OpenedName}
use Rattle.run_files.proofs.Going.{synced_later}
use Rattle.run_files.proofs.Caused.{caused_later}
use Rattle.run_files.specs.Causes.{IsCaused}
use Rattle.protocol.specs.Node.Common.{Network}
use Rattle.replay.specs.declared.kept.ScriptedEvent.{ScriptedEvent}
use Rattle.cobaltmidge.specs.Accepting.{IsAccepted}
use Rattle.cobaltmidge.specs.KeptOutlets.{AreInFiles, held_counts, IsAtFault, IsPutFault, IsRunStop}
use Rattle.cobaltmidge.specs.KeptRuns.{IsKeptRun}
use Rattle.cobaltmidge.specs.KeptStreams.{AllHeld, AreKept, AreKeptIn, HasKeepFault, HeldSoMany, IsStateCause}
use Rattle.cobaltmidge.specs.declared.kept_run.KeptRun.{KeptRun}
use Rattle.cobaltmidge.specs.declared.settings.Settings.{Settings}
use Rattle.cobaltmidge.specs.declared.state_error.StateFault.{StateFault}
use Rattle.cobaltmidge.specs.declared.state_error.StateFault.TheVariants.{Unread, NotText, Refused, Files, Kept}
use Rattle.cobaltmidge.specs.declared.kept_outlets.KeepFault.{KeepFault}
use Rattle.cobaltmidge.specs.declared.kept_outlets.KeepFault.TheVariants.{NoMemory, Astray, ItemDiffers, PutFailed}

kept_later : (sync : Bool) (folder name : List ℕ) (stream : List ℤ) (a b : List Request) → Later a b → IsKept sync folder name stream a
    → IsKept sync folder name stream b
kept_later sync folder name stream a b later is = record {
  bytes = is.bytes;
  opened = later _ is.opened;
  asked = is.asked;
  used = later _ is.used;
  held = is.held;
  items = is.items;
  content = is.content;
  no_more = is.no_more;
}

kept_in_later : (sync : Bool) (folder : List ℕ) (names : List (List ℕ)) (a b : List Request) → Later a b → (streams : List (List ℤ))
    → AreKeptIn sync folder names a streams → AreKeptIn sync folder names b streams
kept_in_later sync folder names a b later [] are = tt
kept_in_later sync folder [] a b later (stream ∷ streams) are = are
kept_in_later sync folder (name ∷ names) a b later (stream ∷ streams) are =
    (kept_later sync folder name stream a b later are.0, kept_in_later sync folder names a b later streams are.1)

pub all_kept_later : (sync : Bool) (state : Option (List ℕ)) (names : List (List ℕ)) (a b : List Request) → Later a b
    → (streams : List (List ℤ)) → AreKept sync state names a streams → AreKept sync state names b streams
all_kept_later sync None names a b later streams are = tt
all_kept_later sync (Some folder) names a b later streams are =
    (kept_in_later sync folder names a b later streams are.0, synced_later sync (paths_in folder names ++ folder ∷ []) a b later are.1)

module _ {F : Type 0} {file : FileWords F} where
  kept_one : (sync : Bool) (folder : List ℕ) (one : OpenedName) (outlet : ResumedOutlet F file) (stream : List ℤ) (e : List Request)
      → Has (Opened folder (string_bytes one.name) sync (Ok one.bytes.value.items)) e
      → Has (Used (string_bytes one.name) (asked_of outlet)) e → IsInFile stream outlet → IsKept sync folder (string_bytes one.name) stream e
  kept_one sync folder one outlet stream e opened used is = record {
    bytes = one.bytes.value.items;
    opened = opened;
    asked = asked_of outlet;
    used = used;
    held = held_of outlet;
    items = items_of outlet;
    content = is.content;
    no_more = is.no_more;
  }

  -- streams that are in files that were opened and given back are kept
  pub kept_in : (sync : Bool) (folder : List ℕ) (opened : List OpenedName) (outlets : List (ResumedOutlet F file)) (e : List Request)
      → AreOpened sync folder opened e → AreUsed opened outlets e → (streams : List (List ℤ)) → AreInFiles outlets streams
      → AreKeptIn sync folder (opened_names opened) e streams
  kept_in sync folder opened outlets e were used [] are = tt
  kept_in sync folder opened [] e were used (stream ∷ streams) are = absurd are
  kept_in sync folder [] (outlet ∷ outlets) e were used (stream ∷ streams) are = absurd used
  kept_in sync folder (one ∷ opened) (outlet ∷ outlets) e were used (stream ∷ streams) are =
      (kept_one sync folder one outlet stream e were.0 used.0 are.0, kept_in sync folder opened outlets e were.1 used.1 streams are.1)

-- the same by names that are others' in other words
pub kept_as : (sync : Bool) (folder : List ℕ) (names others : List (List ℕ)) (a b : List Request) → names ≡ others → Later a b
    → AreSyncedIf sync (paths_in folder others ++ folder ∷ []) b → (streams : List (List ℤ)) → AreKeptIn sync folder names a streams
    → AreKept sync (Some folder) others b streams
kept_as sync folder names others a b same later synced streams are =
    let P : List (List ℕ) → Type 0 = λ ns. AreKeptIn sync folder ns b streams in
    (subst P same (kept_in_later sync folder names a b later streams are), synced)

held_later : (sync : Bool) (folder name : List ℕ) (count : ℕ) (a b : List Request) → Later a b → HeldSoMany sync folder name a count
    → HeldSoMany sync folder name b count
held_later sync folder name count a b later is = record {
  bytes = is.bytes;
  opened = later _ is.opened;
  items = is.items;
  tail = is.tail;
  lines = is.lines;
  counted = is.counted;
}

pub all_held_later : (sync : Bool) (folder : List ℕ) (names : List (List ℕ)) (a b : List Request) → Later a b → (counts : List ℕ)
    → AllHeld sync folder names a counts → AllHeld sync folder names b counts
all_held_later sync folder [] a b later [] are = tt
all_held_later sync folder [] a b later (count ∷ counts) are = are
all_held_later sync folder (name ∷ names) a b later [] are = are
all_held_later sync folder (name ∷ names) a b later (count ∷ counts) are =
    (held_later sync folder name count a b later are.0, all_held_later sync folder names a b later counts are.1)

-- the same by names that are others' in other words
pub held_as : (sync : Bool) (folder : List ℕ) (names others : List (List ℕ)) (a b : List Request) → names ≡ others → Later a b
    → (counts : List ℕ) → AllHeld sync folder names a counts → AllHeld sync folder others b counts
held_as sync folder names others a b same later counts are =
    let P : List (List ℕ) → Type 0 = λ ns. AllHeld sync folder ns b counts in
    subst P same (all_held_later sync folder names a b later counts are)

module _ {F : Type 0} {file : FileWords F} where
  -- files that were opened held so many items
  pub held_in : (sync : Bool) (folder : List ℕ) (opened : List OpenedName) (files : List (HeldFile F file)) (e : List Request)
      → AreOpened sync folder opened e → AreHeldAs opened files e → AllHeld sync folder (opened_names opened) e (held_counts files)
  held_in sync folder [] [] e were held = tt
  held_in sync folder [] (one ∷ files) e were held = absurd held
  held_in sync folder (name ∷ opened) [] e were held = absurd held
  held_in sync folder (name ∷ opened) (one ∷ files) e were held = (
    record {
      bytes = name.bytes.value.items;
      opened = were.0;
      items = one.held.items.items;
      tail = drop one.held.bytes name.bytes.value.items;
      lines = held.0.lines;
      counted = refl;
    },
    held_in sync folder opened files e were.1 held.1,
  )

some_is : {A : Type 0} (x y : A) → Some x ≡ Some y → x ≡ y
some_is x y same = cc

module _ {F : Type 0} {file : FileWords F} (o : Wanted) (folder : List ℕ) (e : List Request) where
  of_one : (fault : KeepFault) (one : OpenedName) (outlet : ResumedOutlet F file) → AreOpened o.sync folder (one ∷ []) e
      → Has (Used (string_bytes one.name) (asked_of outlet)) e → IsAtFault fault outlet → HasKeepFault o e fault
  of_one NoMemory one outlet opened used fault = tt
  of_one Astray one outlet opened used fault = tt
  of_one ItemDiffers one outlet opened used fault = (folder, string_bytes one.name, one.bytes.value.items, opened.0)
  of_one PutFailed one outlet opened used fault = (string_bytes one.name, asked_of outlet, used, fault)

  of_place : (fault : KeepFault) (k : ℕ) (opened : List OpenedName) (outlets : List (ResumedOutlet F file)) (outlet : ResumedOutlet F file)
      → AreOpened o.sync folder opened e → AreUsed opened outlets e → slice_get outlets k ≡ Some outlet → IsAtFault fault outlet
      → HasKeepFault o e fault
  of_place fault k opened [] outlet were used there at = absurd (cc)
  of_place fault k [] (other ∷ outlets) outlet were used there at = absurd used
  of_place fault zero (one ∷ opened) (other ∷ outlets) outlet were used there at =
      of_one fault one other (were.0, tt) used.0
      (subst (λ (it : ResumedOutlet F file). IsAtFault fault it) (sym (some_is other outlet there)) at)
  of_place fault (suc k) (one ∷ opened) (other ∷ outlets) outlet were used there at =
      of_place fault k opened outlets outlet were.1 used.1 there at

  -- what the outlets that were given back were asked says which of them failed
  pub fault_in_log : (opened : List OpenedName) (outlets : List (ResumedOutlet F file)) (fault : KeepFault) → AreOpened o.sync folder opened e
      → AreUsed opened outlets e → IsPutFault outlets fault → HasKeepFault o e fault
  fault_in_log opened outlets NoMemory were used is = tt
  fault_in_log opened outlets Astray were used is = tt
  fault_in_log opened outlets ItemDiffers were used is = of_place ItemDiffers is.0 opened outlets is.1 were used is.2 is.3
  fault_in_log opened outlets PutFailed were used is = of_place PutFailed is.0 opened outlets is.1 were used is.2 is.3

module _ {F : Type 0} {file : FileWords F} (counted : Bool) (o : Wanted) (folder : List ℕ) (e : List Request) where
  -- what stopped a run over files that were given back
  pub stop_in_log : (opened : List OpenedName) (outlets : List (ResumedOutlet F file)) (fault : StateFault) → AreOpened o.sync folder opened e
      → AreUsed opened outlets e → IsRunStop counted outlets fault → IsStateCause counted o e fault
  stop_in_log opened outlets (Unread fault) were used stop = absurd stop
  stop_in_log opened outlets NotText were used stop = absurd stop
  stop_in_log opened outlets (Refused error) were used stop = stop
  stop_in_log opened outlets (Files fault) were used stop = subst (IsCaused IsAccepted o e) (sym stop) tt
  stop_in_log opened outlets (Kept fault) were used (inl put) = fault_in_log o folder e opened outlets fault were used put
  stop_in_log opened outlets (Kept NoMemory) were used (inr files) = tt
  stop_in_log opened outlets (Kept Astray) were used (inr files) = tt
  stop_in_log opened outlets (Kept ItemDiffers) were used (inr files) = absurd files
  stop_in_log opened outlets (Kept PutFailed) were used (inr files) = absurd files

keep_fault_later : (o : Wanted) (a b : List Request) (fault : KeepFault) → Later a b → HasKeepFault o a fault → HasKeepFault o b fault
keep_fault_later o a b NoMemory later h = tt
keep_fault_later o a b Astray later h = tt
keep_fault_later o a b ItemDiffers later h = (h.0, h.1, h.2, later _ h.3)
keep_fault_later o a b PutFailed later h = (h.0, h.1, later _ h.2, h.3)

-- a cause stands in what the log has become
pub cause_later : (counted : Bool) (o : Wanted) (a b : List Request) (fault : StateFault) → Later a b → IsStateCause counted o a fault
    → IsStateCause counted o b fault
cause_later counted o a b (Unread fault) later why = absurd why
cause_later counted o a b NotText later why = absurd why
cause_later counted o a b (Refused error) later why = why
cause_later counted o a b (Files fault) later why = caused_later IsAccepted o a b later fault why
cause_later counted o a b (Kept fault) later why = keep_fault_later o a b fault later why

-- a run whose files held so much, and whose streams are kept, by one account is such a run by another
pub kept_run_maps : (settings : Settings) (net : Network) (inputs : List (List ℤ)) (script : List ScriptedEvent)
    (held holds : List ℕ → Type 0) (kept other : List (List ℤ) → Type 0) (run : KeptRun)
    → ((counts : List ℕ) → held counts → holds counts) → ((streams : List (List ℤ)) → kept streams → other streams)
    → IsKeptRun settings net inputs script held kept run → IsKeptRun settings net inputs script holds other run
kept_run_maps settings net inputs script held holds kept other run so more is = record {
  now = is.now;
  counts = is.counts;
  were_held = so is.counts is.were_held;
  is_run = is.is_run;
  is_end = is.is_end;
  over = is.over;
  reason = is.reason;
  complete = is.complete;
  released = is.released;
  has_kept = more _ is.has_kept;
}
