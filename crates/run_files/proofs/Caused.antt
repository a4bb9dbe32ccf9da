-- Causes of refusals, which stay so.
use Rattle.std.proofs.lemmas.Bool.Decides.{eqb_tells}
use Rattle.std.specs.Fmt.{decimal}
use Rattle.std.proofs.Common.{◌≡◌, ◌≢◌, ◌+◌, ◌<◌, zero, suc, arith, codes, inl, inr, ap, ◌∙◌, subst, sym, ℕ, Bool, List, ◌∷◌, ◌++◌, Result, Some, Ok, Err, refl}
use Rattle.std.specs.Prelude.{IfErr}
use Rattle.host.specs.Requests.{Request, Has, Later}
use Rattle.host.specs.declared.fault.HostFault.{HostFault}
use Rattle.host.specs.declared.fault.HostFault.TheVariants as host
use Rattle.host.specs.Requests.{Locked, MadeFile, MadeFolder, Opened, Read, Renamed, Wrote}
use Rattle.run_files.specs.Making.{IsNotMade, IsUnmade}
use Rattle.run_files.specs.Rules.{AreRead, Given, grown_from}
use Rattle.run_files.proofs.Going.{texts_later}
use Rattle.run_files.specs.Causes.{HasSuch, IsCaused, IsOther, IsTextOf, IsUnlike, IsUnreadBy, IsUnreadable, no_folder, taken, other_net, other_inputs, unreplaced, no_text, no_lines, bad_line}
use Rattle.run_files.specs.Causes.{inputs, net}
use Rattle.run_files.specs.Causes.{IsUndone, IsUnwritable, IsUnwritten, is_text, in_folder, is_folder, undone, all_taken}
use Rattle.run_files.specs.Causes.{tried_name}
use Rattle.run_files.specs.Faults.{of_missing, or_memory}
use Rattle.run_files.specs.Wanted.{Wanted}
use Rattle.run_files.specs.declared.fault.FilesFault.{FilesFault}
use Rattle.run_files.specs.declared.fault.FilesFault.TheVariants.{NoMemory, InUse, OtherState, Failed, Unwritten, Astray}

module _ (accepts : Given → Type 0) (o : Wanted) (a b : List Request) (later : Later a b) where
  such_later : (P : Request → Type 0) → HasSuch P a → HasSuch P b
  such_later P has = (has.0, later _ has.1, has.2)

  other_later : (folder : List ℕ) → IsOther accepts o folder a → IsOther accepts o folder b
  other_later folder (no_folder has) = no_folder (later _ has)
  other_later folder (taken making fault has is) = taken making fault (later _ has) is
  other_later folder (other_net bytes text held read other) = other_net bytes text (later _ held) (later _ read) other
  other_later folder (other_inputs given bytes read held other changed) =
      other_inputs given bytes (texts_later accepts o given a b later read) (later _ held) other changed
  other_later folder (unreplaced making bytes text renamed held read other) =
      unreplaced making bytes text (later _ renamed) (later _ held) (later _ read) other
  other_later folder (no_text tail path of_run has) = no_text tail path of_run (later _ has)
  other_later folder (no_lines name waits has) = no_lines name waits (later _ has)
  other_later folder (bad_line name bytes waits line has bad) = bad_line name bytes waits line (later _ has) bad

  unwritable_later : (name : List ℕ) → IsUnwritable o name a → IsUnwritable o name b
  unwritable_later name (is_text path place read at there) = is_text path place read (later _ at) (later _ there)
  unwritable_later name (in_folder folder place at is there own within) =
      in_folder folder place at is (later _ there) (later _ own) within
  unwritable_later name (is_folder has) = is_folder (later _ has)
  unwritable_later name (undone has) = undone (such_later (IsUnwritten name) has)
  unwritable_later name (all_taken are) = all_taken (are.0, λ nth within. later _ (are.1 nth within))

  pub caused_later : (fault : FilesFault) → IsCaused accepts o a fault → IsCaused accepts o b fault
  caused_later NoMemory is = tt
  caused_later InUse is = (is.0, is.1, later _ is.2)
  caused_later OtherState is = (is.0, is.1, other_later is.0 is.2)
  caused_later Failed (inl is) = inl (such_later (IsUndone o) is)
  caused_later Failed (inr (inl are)) = inr (inl (are.0, λ nth within. later _ (are.1 nth within)))
  caused_later Failed (inr (inr are)) = inr (inr (are.0, λ nth within. later _ (are.1 nth within)))
  caused_later Unwritten is = (is.0, is.1, unwritable_later is.0 is.2)
  caused_later Astray is = tt

module _ (accepts : Given → Type 0) (o : Wanted) (e : List Request) where
  -- a refusal since the host didn't do something, unless memory is missing
  by_undone : (fault : HostFault) (r : Request) → Has r e → (fault ≢ host.NoMemory → IsUndone o r) → IsCaused accepts o e (or_memory Failed fault)
  by_undone host.NoMemory r has is = tt
  by_undone host.NotThere r has is = inl (r, has, is (λ same. absurd (cc)))
  by_undone host.IsThere r has is = inl (r, has, is (λ same. absurd (cc)))
  by_undone host.InUse r has is = inl (r, has, is (λ same. absurd (cc)))
  by_undone host.NotEmpty r has is = inl (r, has, is (λ same. absurd (cc)))
  by_undone host.NoFolder r has is = inl (r, has, is (λ same. absurd (cc)))
  by_undone host.Other r has is = inl (r, has, is (λ same. absurd (cc)))

  pub failed_by : (told : FilesFault) (fault : HostFault) (r : Request) → told ≡ or_memory Failed fault → Has r e → IsUndone o r
      → IsCaused accepts o e told
  failed_by told fault r is has of_it = subst (IsCaused accepts o e) (sym is) (by_undone fault r has (λ other. of_it))

  by_unwritten : (name : List ℕ) (fault : HostFault) (r : Request) → o.history ≡ Some name → Has r e → IsUnwritten name r
      → IsCaused accepts o e (or_memory Unwritten fault)
  by_unwritten name host.NoMemory r wanted has is = tt
  by_unwritten name host.NotThere r wanted has is = (name, wanted, undone (r, has, is))
  by_unwritten name host.IsThere r wanted has is = (name, wanted, undone (r, has, is))
  by_unwritten name host.InUse r wanted has is = (name, wanted, undone (r, has, is))
  by_unwritten name host.NotEmpty r wanted has is = (name, wanted, undone (r, has, is))
  by_unwritten name host.NoFolder r wanted has is = (name, wanted, undone (r, has, is))
  by_unwritten name host.Other r wanted has is = (name, wanted, undone (r, has, is))

  pub unwritten_by : (name : List ℕ) (told : FilesFault) (fault : HostFault) (r : Request) → told ≡ or_memory Unwritten fault
      → o.history ≡ Some name → Has r e → IsUnwritten name r → IsCaused accepts o e told
  unwritten_by name told fault r is wanted has of_it = subst (IsCaused accepts o e) (sym is) (by_unwritten name fault r wanted has of_it)

  -- a refusal of this kind
  pub caused_as : (told fault : FilesFault) → told ≡ fault → IsCaused accepts o e fault → IsCaused accepts o e told
  caused_as told fault is of_it = subst (IsCaused accepts o e) (sym is) of_it

  -- a text of the folder isn't there, or isn't read
  pub text_unread : (folder tail path : List ℕ) (told : FilesFault) → o.state ≡ Some folder → IsTextOf o tail path
      → IsUnreadBy (folder ++ tail) e told → IsCaused accepts o e told
  text_unread folder tail path NoMemory wanted of_run unread = tt
  text_unread folder tail path OtherState wanted of_run unread = (folder, wanted, no_text tail path of_run unread)
  text_unread folder tail path Failed wanted of_run unread = inl (Read (folder ++ tail) (Err unread.0), unread.1, unread.2)
  text_unread folder tail path InUse wanted of_run unread = absurd unread
  text_unread folder tail path Unwritten wanted of_run unread = absurd unread
  text_unread folder tail path Astray wanted of_run unread = absurd unread

  -- the folder's text of the network isn't the run's
  pub net_unlike : (folder text : List ℕ) (told : FilesFault) → o.state ≡ Some folder → Has (Read o.net (Ok text)) e
      → IsUnlike (folder ++ codes "/net") text e told → IsCaused accepts o e told
  net_unlike folder text told wanted read (inl unread) = text_unread folder (codes "/net") o.net told wanted net unread
  net_unlike folder text told wanted read (inr other) =
      caused_as told OtherState other.0 (folder, wanted, other_net other.1.0 text other.1.1 read other.1.2)

  -- the folder's text of inputs isn't the run's, though that was put in its place
  pub inputs_unreplaced : (folder making text : List ℕ) (told : FilesFault) → o.state ≡ Some folder
      → Has (Renamed making (folder ++ codes "/inputs") (Ok tt)) e → Has (Read o.inputs (Ok text)) e
      → IsUnlike (folder ++ codes "/inputs") text e told → IsCaused accepts o e told
  inputs_unreplaced folder making text told wanted renamed read (inl unread) =
      text_unread folder (codes "/inputs") o.inputs told wanted inputs unread
  inputs_unreplaced folder making text told wanted renamed read (inr other) =
      caused_as told OtherState other.0 (folder, wanted, unreplaced making other.1.0 text renamed other.1.1 read other.1.2)

  -- it isn't the run's, nor has that grown from it
  pub inputs_changed : (folder : List ℕ) (given : Given) (bytes : List ℕ) (told : FilesFault) → told ≡ OtherState → o.state ≡ Some folder
      → AreRead o given e → Has (Read (folder ++ codes "/inputs") (Ok bytes)) e → bytes ≢ given.inputs
      → ¬ (accepts (grown_from bytes given)) → IsCaused accepts o e told
  inputs_changed folder given bytes told is wanted read has other changed =
      caused_as told OtherState is (folder, wanted, other_inputs given bytes read has other changed)

  -- no file is made for a text
  pub text_unmade : (told : FilesFault) → IsUnmade e told → IsCaused accepts o e told
  text_unmade NoMemory unmade = tt
  text_unmade Failed (inl all) = inr (inr all)
  text_unmade Failed (inr unmade) = inl (MadeFile unmade.0 (Err unmade.1), unmade.2, tt)
  text_unmade InUse unmade = absurd unmade
  text_unmade OtherState unmade = absurd unmade
  text_unmade Unwritten unmade = absurd unmade
  text_unmade Astray unmade = absurd unmade

  -- the file of an output isn't opened
  by_unopened : (folder name : List ℕ) (waits : Bool) (fault : HostFault) → o.state ≡ Some folder
      → Has (Opened folder name waits (Err fault)) e → IsCaused accepts o e (or_memory (of_missing fault) fault)
  by_unopened folder name waits host.NoMemory wanted has = tt
  by_unopened folder name waits host.NotThere wanted has = (folder, wanted, no_lines name waits has)
  by_unopened folder name waits host.IsThere wanted has = inl (Opened folder name waits (Err host.IsThere), has, λ same. absurd (cc))
  by_unopened folder name waits host.InUse wanted has = inl (Opened folder name waits (Err host.InUse), has, λ same. absurd (cc))
  by_unopened folder name waits host.NotEmpty wanted has = inl (Opened folder name waits (Err host.NotEmpty), has, λ same. absurd (cc))
  by_unopened folder name waits host.NoFolder wanted has = inl (Opened folder name waits (Err host.NoFolder), has, λ same. absurd (cc))
  by_unopened folder name waits host.Other wanted has = inl (Opened folder name waits (Err host.Other), has, λ same. absurd (cc))

  pub unopened_by : (folder name : List ℕ) (waits : Bool) (told refusal : FilesFault) (fault : HostFault) → told ≡ or_memory refusal fault
      → refusal ≡ of_missing fault → o.state ≡ Some folder → Has (Opened folder name waits (Err fault)) e → IsCaused accepts o e told
  unopened_by folder name waits told refusal fault is kind wanted has =
      subst (IsCaused accepts o e) (sym (is ∙ ap (λ (f : FilesFault). or_memory f fault) kind)) (by_unopened folder name waits fault wanted has)

  -- the file of an output holds a line that is no item's
  pub by_bytes : (folder name bytes : List ℕ) (waits : Bool) (told : FilesFault) → o.state ≡ Some folder
      → Has (Opened folder name waits (Ok bytes)) e → IsUnreadable bytes told → IsCaused accepts o e told
  by_bytes folder name bytes waits told wanted has (inl none) = subst (IsCaused accepts o e) (sym none) tt
  by_bytes folder name bytes waits told wanted has (inr bad) =
      subst (IsCaused accepts o e) (sym bad.0) (folder, wanted, bad_line name bytes waits bad.1.0 has bad.1.1)

  -- the lock isn't got
  by_unlocked : (folder : List ℕ) (told : FilesFault) (fault : HostFault) → o.state ≡ Some folder → Has (Locked folder (Err fault)) e
      → (fault ≡ host.InUse → told ≡ InUse) → (fault ≢ host.InUse → told ≡ or_memory Failed fault) → IsCaused accepts o e told
  by_unlocked folder told host.InUse wanted has busy failed = subst (IsCaused accepts o e) (sym (busy refl)) (folder, wanted, has)
  by_unlocked folder told host.NoMemory wanted has busy failed = subst (IsCaused accepts o e) (sym (failed (λ same. absurd (cc)))) tt
  by_unlocked folder told host.NotThere wanted has busy failed =
      subst (IsCaused accepts o e) (sym (failed (λ same. absurd (cc)))) (inl (Locked folder (Err host.NotThere), has, λ same. absurd (cc)))
  by_unlocked folder told host.IsThere wanted has busy failed =
      subst (IsCaused accepts o e) (sym (failed (λ same. absurd (cc)))) (inl (Locked folder (Err host.IsThere), has, λ same. absurd (cc)))
  by_unlocked folder told host.NotEmpty wanted has busy failed =
      subst (IsCaused accepts o e) (sym (failed (λ same. absurd (cc)))) (inl (Locked folder (Err host.NotEmpty), has, λ same. absurd (cc)))
  by_unlocked folder told host.NoFolder wanted has busy failed =
      subst (IsCaused accepts o e) (sym (failed (λ same. absurd (cc)))) (inl (Locked folder (Err host.NoFolder), has, λ same. absurd (cc)))
  by_unlocked folder told host.Other wanted has busy failed =
      subst (IsCaused accepts o e) (sym (failed (λ same. absurd (cc)))) (inl (Locked folder (Err host.Other), has, λ same. absurd (cc)))

  pub unlocked_by : (folder : List ℕ) (told : FilesFault) (fault : HostFault) (old : List Request) → o.state ≡ Some folder
      → e ≡ Locked folder (Err fault) ∷ old → (fault ≡ host.InUse → told ≡ InUse)
      → (fault ≢ host.InUse → told ≡ or_memory Failed fault) → IsCaused accepts o e told
  unlocked_by folder told fault old wanted is busy failed =
      by_unlocked folder told fault wanted (subst (Has (Locked folder (Err fault))) (sym is) (inl refl)) busy failed

-- a file that isn't made whole
pub unmade_by : (accepts : Given → Type 0) (o : Wanted) (e : List Request) (told : FilesFault) (path bytes : List ℕ) (fault : HostFault)
    → told ≡ or_memory Failed fault → IsNotMade path bytes fault e → IsCaused accepts o e told
unmade_by accepts o e told path bytes fault is (inl has) = failed_by accepts o e told fault (MadeFile path (Err fault)) is has tt
unmade_by accepts o e told path bytes fault is (inr has) = failed_by accepts o e told fault (Wrote path bytes (Err fault)) is has tt

-- the same request by a path in other words
pub read_as : (a b bytes : List ℕ) (e : List Request) → a ≡ b → Has (Read a (Ok bytes)) e → Has (Read b (Ok bytes)) e
read_as a b bytes e same has = subst (λ (path : List ℕ). Has (Read path (Ok bytes)) e) same has

-- what is so where there is a fault is so of this one
pub of_error : {T F : Type 0} (result : Result T F) (fault : F) (P : F → Type 0) → result ≡ Err fault → IfErr result P → P fault
of_error {T} {F} result fault P is h = let Q : Result T F → Type 0 = λ r. IfErr r P in subst Q is h

-- a file isn't read
by_missing : (path : List ℕ) (e : List Request) (fault : HostFault) → Has (Read path (Err fault)) e
    → IsUnreadBy path e (or_memory (of_missing fault) fault)
by_missing path e host.NoMemory has = tt
by_missing path e host.NotThere has = has
by_missing path e host.IsThere has = (host.IsThere, has, λ same. absurd (cc))
by_missing path e host.InUse has = (host.InUse, has, λ same. absurd (cc))
by_missing path e host.NotEmpty has = (host.NotEmpty, has, λ same. absurd (cc))
by_missing path e host.NoFolder has = (host.NoFolder, has, λ same. absurd (cc))
by_missing path e host.Other has = (host.Other, has, λ same. absurd (cc))

pub missing_by : (path : List ℕ) (e : List Request) (told refusal : FilesFault) (fault : HostFault) → told ≡ or_memory refusal fault
    → refusal ≡ of_missing fault → Has (Read path (Err fault)) e → IsUnreadBy path e told
missing_by path e told refusal fault is kind has =
    subst (IsUnreadBy path e) (sym (is ∙ ap (λ (f : FilesFault). or_memory f fault) kind)) (by_missing path e fault has)

-- the same by a path in other words
pub unread_as : (a b : List ℕ) (e : List Request) (told : FilesFault) → a ≡ b → IsUnreadBy a e told → IsUnreadBy b e told
unread_as a b e told same unread = subst (λ (path : List ℕ). IsUnreadBy path e told) same unread

pub unlike_as : (a b text : List ℕ) (e : List Request) (told : FilesFault) → a ≡ b → IsUnlike a text e told → IsUnlike b text e told
unlike_as a b text e told same unlike = subst (λ (path : List ℕ). IsUnlike path text e told) same unlike

pub renamed_as : (from a b : List ℕ) (e : List Request) → a ≡ b → Has (Renamed from a (Ok tt)) e → Has (Renamed from b (Ok tt)) e
renamed_as from a b e same has = subst (λ (path : List ℕ). Has (Renamed from path (Ok tt)) e) same has

-- a file isn't made for another reason than that something stands there
by_unmade : (path : List ℕ) (e : List Request) (fault : HostFault) → Has (MadeFile path (Err fault)) e → fault ≢ host.IsThere
    → IsUnmade e (or_memory Failed fault)
by_unmade path e host.NoMemory has other = tt
by_unmade path e host.NotThere has other = inr (path, host.NotThere, has, other)
by_unmade path e host.IsThere has other = inr (path, host.IsThere, has, other)
by_unmade path e host.InUse has other = inr (path, host.InUse, has, other)
by_unmade path e host.NotEmpty has other = inr (path, host.NotEmpty, has, other)
by_unmade path e host.NoFolder has other = inr (path, host.NoFolder, has, other)
by_unmade path e host.Other has other = inr (path, host.Other, has, other)

pub unmade_as : (path : List ℕ) (e : List Request) (told : FilesFault) (fault : HostFault) → told ≡ or_memory Failed fault
    → Has (MadeFile path (Err fault)) e → fault ≢ host.IsThere → IsUnmade e told
unmade_as path e told fault is has other = subst (IsUnmade e) (sym is) (by_unmade path e fault has other)

pub unmade_told : (e : List Request) (told : FilesFault) → told ≡ Failed → IsUnmade e Failed → IsUnmade e told
unmade_told e told is unmade = subst (IsUnmade e) (sym is) unmade

-- the name that is tried behind the first one
pub tried_later : (stem ending name : List ℕ) (nth : ℕ) → nth ≢ 0
    → name ≡ stem ++ codes "." ++ ending ++ 46 ∷ decimal nth → name ≡ tried_name stem ending nth
tried_later stem ending name zero later is = absurd (later refl)
tried_later stem ending name (suc nth) later is = is

pub tried_first : (stem ending name : List ℕ) (nth : ℕ) → nth ≡ 0 → name ≡ stem ++ codes "." ++ ending → name ≡ tried_name stem ending nth
tried_first stem ending name nth first is =
    let P : ℕ → Type 0 = λ n. name ≡ tried_name stem ending n in subst P (sym first) is

-- one more name was tried
pub taken_more : (P : ℕ → List Request → Type 0) (nth : ℕ) (old new : List Request) → ((k : ℕ) → P k old → P k new)
    → ((k : ℕ) → k < nth → P k old) → P nth new → (k : ℕ) → k < nth + 1 → P k new
taken_more P nth old new more before now k below = elim (eqb_tells k nth) [
  | inl same ↦ (let Q : ℕ → Type 0 = λ n. P n new in subst Q (sym same.1) now)
  | inr other ↦ more k (before k (let apart = other.1 in omega (arith, below, apart)))
]

-- the same request in other words
pub folder_taken : (a b : List ℕ) (fault : HostFault) (e : List Request) → a ≡ b → fault ≡ host.IsThere → Has (MadeFolder a (Err fault)) e
    → Has (MadeFolder b (Err host.IsThere)) e
folder_taken a b fault e same there has =
    let P : List ℕ → Type 0 = λ path. Has (MadeFolder path (Err fault)) e in
    let Q : HostFault → Type 0 = λ f. Has (MadeFolder b (Err f)) e in
    subst Q there (subst P same has)

pub file_taken : (a b : List ℕ) (fault : HostFault) (e : List Request) → a ≡ b → fault ≡ host.IsThere → Has (MadeFile a (Err fault)) e
    → Has (MadeFile b (Err host.IsThere)) e
file_taken a b fault e same there has =
    let P : List ℕ → Type 0 = λ path. Has (MadeFile path (Err fault)) e in
    let Q : HostFault → Type 0 = λ f. Has (MadeFile b (Err f)) e in
    subst Q there (subst P same has)
