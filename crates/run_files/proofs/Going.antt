-- How a log goes on.
use Rattle.std.proofs.Common.{Vec, ◌≡◌, inl, inr, ℕ, zero, suc, ◌+◌, ◌<◌, ◌≤◌, Bool, true, false, map, get_or, take, add-one, length-append, List, [], ◌∷◌, ◌++◌, length, slice_get, Option, Some, None, Ok, Err, refl, ap, sym, subst, arith}
use Rattle.std.proofs.lemmas.Option.{slice_get_read}
use Rattle.std.specs.Option.{option_map}
use Rattle.std.specs.Prelude.{IfNone, IfOk, IfSome, Result, string_bytes}
use Rattle.std.specs.declared.alloc.Global.{Global}
use Rattle.std.specs.declared.string.String.{String}
use Rattle.host.specs.Requests.{Locked, MadeFile, Opened, Placed, Read, Renamed, Unlocked, Used, Wrote}
use Rattle.host.specs.Requests.{Request, Has, HasUnder, Later, Each, IsHeld, IsFree}
use Rattle.run_files.specs.Leftovers.{AreGone, no_path}
use Rattle.run_files.specs.Rules.{rule, AreJudged, AreRead, GoesOn, GoesWith, Given, HasGrown, HasSameTexts, IfAsked, IsApart, IsElsewhere, IsOutside, IsReady, WasReadIf, WereRead}
use Rattle.host.specs.declared.fault.HostFault.{HostFault}
use Rattle.host.specs.declared.line_file.LineFile.{Ghosts as FileWords}
use Rattle.output_file.specs.Output.{asked_of}
use Rattle.output_file.specs.declared.resumed.ResumedOutlet.{ResumedOutlet}
use Rattle.run_files.specs.Opening.{AreOpened, AreUsed, IsFileMade, OfEach, OfFirst}
use Rattle.run_files.specs.Removing.{IsFileRemoved}
use Rattle.run_files.specs.Syncing.{AreSyncedIf, IsSynced}
use Rattle.run_files.specs.declared.held_file.OpenedName.{OpenedName}
use Rattle.run_files.specs.History.{IsOpenFor}
use Rattle.run_files.specs.Keeping.{IsWrittenTo}
use Rattle.run_files.specs.Wanted.{Wanted}

module _ (accepts : Given → Type 0) (o : Wanted) where
  -- nothing was asked
  pub goes_still : (e : List Request) → GoesOn accepts o e e
  goes_still e = record { rules = λ h. h; later = λ r h. h; held = λ f h. h; under = λ f r h. h; free = λ h. h; left = λ path h. inl h }

  -- one call after another: of what either made some may be left
  pub with_then : (P Q R : List ℕ → Type 0) (a b c : List Request) → ((path : List ℕ) → P path → R path)
      → ((path : List ℕ) → Q path → R path) → GoesWith P accepts o a b → GoesWith Q accepts o b c → GoesWith R accepts o a c
  with_then P Q R a b c of_first of_second first second = record {
    rules = λ h. second.rules (first.rules h);
    later = λ r h. second.later r (first.later r h);
    held = λ f h. second.held f (first.held f h);
    under = λ f r h. second.under f r (first.under f r h);
    free = λ h. second.free (first.free h);
    left = λ path h. elim (second.left path h) [
      | inl before ↦ elim (first.left path before) [ inl old ↦ inl old | inr made ↦ inr (of_first path made) ]
      | inr made ↦ inr (of_second path made)
    ];
  }

  pub goes_then : (a b c : List Request) → GoesOn accepts o a b → GoesOn accepts o b c → GoesOn accepts o a c
  goes_then a b c first second = with_then no_path no_path no_path a b c (λ path none. none) (λ path none. none) first second

  -- what a later call made may be left
  pub goes_with : (made : List ℕ → Type 0) (a b c : List Request) → GoesOn accepts o a b → GoesWith made accepts o b c
      → GoesWith made accepts o a c
  goes_with made a b c first second = with_then no_path made made a b c (λ path none. absurd none) (λ path is. is) first second

  -- what an earlier call made may be left
  pub with_goes : (made : List ℕ → Type 0) (a b c : List Request) → GoesWith made accepts o a b → GoesOn accepts o b c
      → GoesWith made accepts o a c
  with_goes made a b c first second = with_then made no_path made a b c (λ path is. is) (λ path none. absurd none) first second

  -- what may be left of what was made, in other words
  pub with_more : (P Q : List ℕ → Type 0) (a b : List Request) → ((path : List ℕ) → P path → Q path) → GoesWith P accepts o a b
      → GoesWith Q accepts o a b
  with_more P Q a b more goes = with_then P no_path Q a b b more (λ path none. absurd none) goes (goes_still b)

  pub goes_more : (made : List ℕ → Type 0) (a b : List Request) → GoesOn accepts o a b → GoesWith made accepts o a b
  goes_more made a b goes = with_more no_path made a b (λ path none. absurd none) goes

  -- nothing is left of what was made
  pub none_left : (made : List ℕ → Type 0) (a b : List Request) → GoesWith made accepts o a b → AreGone made b → GoesOn accepts o a b
  none_left made a b goes gone = record {
    rules = goes.rules;
    later = goes.later;
    held = goes.held;
    under = goes.under;
    free = goes.free;
    left = λ path h. elim (goes.left path h) [ inl old ↦ inl old | inr is ↦ inr (gone path is h) ];
  }

  -- what is gone stays so
  pub gone_later : (made : List ℕ → Type 0) (a b : List Request) → GoesOn accepts o a b → AreGone made a → AreGone made b
  gone_later made a b goes gone = λ path is h. elim (goes.left path h) [ inl old ↦ gone path is old | inr none ↦ none ]

  script_later : (path bytes : Option (List ℕ)) (old new : List Request) → Later old new → WasReadIf path bytes old
      → WasReadIf path bytes new
  script_later None None old new later h = tt
  script_later (Some path) (Some bytes) old new later h = later _ h
  script_later None (Some bytes) old new later h = h
  script_later (Some path) None old new later h = h

  pub read_later : (t : Given) (old new : List Request) → Later old new → WereRead o t old → WereRead o t new
  read_later t old new later read = record {
    net = later _ read.net;
    inputs = later _ read.inputs;
    script = script_later o.script t.script old new later read.script;
  }

  pub texts_later : (t : Given) (old new : List Request) → Later old new → AreRead o t old → AreRead o t new
  texts_later t old new later read = record { net = later _ read.net; inputs = later _ read.inputs }

  pub judged_later : (judges : Given → Type 0) (net inputs : List ℕ) (old new : List Request) → Later old new
      → AreJudged judges o net inputs old → AreJudged judges o net inputs new
  judged_later judges net inputs old new later judged = record {
    given = judged.given;
    read = texts_later judged.given old new later judged.read;
    net_text = judged.net_text;
    inputs_text = judged.inputs_text;
    judged = judged.judged;
  }

  asked_later : (name : Option (List ℕ)) (P : List ℕ → List Request → Type 0) (old new : List Request)
      → ((n : List ℕ) → P n old → P n new) → IfAsked name P old → IfAsked name P new
  asked_later None P old new more h = tt
  asked_later (Some name) P old new more h = more name h

  elsewhere_later : (place : List ℕ) (old new : List Request) → Later old new → (n : List ℕ)
      → IsElsewhere place n old → IsElsewhere place n new
  elsewhere_later place old new later n h = (h.0, later _ h.1, h.2)

  outside_later : (place : List ℕ) (old new : List Request) → Later old new → (n : List ℕ)
      → IsOutside place n old → IsOutside place n new
  outside_later place old new later n h = (h.0, later _ h.1, h.2)

  apart_later : (old new : List Request) → Later old new → (name : List ℕ) → IsApart o name old → IsApart o name new
  apart_later old new later name apart = record {
    place = apart.place;
    placed = later _ apart.placed;
    net = elsewhere_later apart.place old new later o.net apart.net;
    inputs = elsewhere_later apart.place old new later o.inputs apart.inputs;
    script = asked_later o.script (IsElsewhere apart.place) old new (elsewhere_later apart.place old new later) apart.script;
    state = asked_later o.state (IsOutside apart.place) old new (outside_later apart.place old new later) apart.state;
  }

  pub ready_later : (old new : List Request) → Later old new → IsReady accepts o old → IsReady accepts o new
  ready_later old new later ready = record {
    given = ready.given;
    read = read_later ready.given old new later ready.read;
    accepted = ready.accepted;
    apart = asked_later o.history (IsApart o) old new (apart_later old new later) ready.apart;
  }

  pub ready_goes : {made : List ℕ → Type 0} (old new : List Request) → GoesWith made accepts o old new → IsReady accepts o old
      → IsReady accepts o new
  ready_goes old new goes ready = ready_later old new goes.later ready

  pub has_goes : {made : List ℕ → Type 0} (r : Request) (old new : List Request) → GoesWith made accepts o old new → Has r old → Has r new
  has_goes r old new goes h = goes.later r h

  pub same_goes : (folder : List ℕ) (old new : List Request) → GoesOn accepts o old new → HasSameTexts o folder old
      → HasSameTexts o folder new
  same_goes folder old new goes same = record {
    net = same.net;
    inputs = same.inputs;
    net_read = goes.later _ same.net_read;
    inputs_read = goes.later _ same.inputs_read;
    same_net = goes.under folder _ same.same_net;
    same_inputs = goes.under folder _ same.same_inputs;
  }

  pub grown_goes : {made : List ℕ → Type 0} (folder inputs : List ℕ) (old new : List Request) → GoesWith made accepts o old new
      → HasGrown accepts o folder inputs old → HasGrown accepts o folder inputs new
  grown_goes folder inputs old new goes grown = record {
    given = grown.given;
    kept = grown.kept;
    read = texts_later grown.given old new goes.later grown.read;
    text = grown.text;
    accepted = grown.accepted;
    held = goes.held folder grown.held;
    same_net = goes.under folder _ grown.same_net;
    other_inputs = goes.under folder _ grown.other_inputs;
  }

  pub judged_goes : {made : List ℕ → Type 0} (judges : Given → Type 0) (net inputs : List ℕ) (old new : List Request)
      → GoesWith made accepts o old new → AreJudged judges o net inputs old → AreJudged judges o net inputs new
  judged_goes judges net inputs old new goes judged = judged_later judges net inputs old new goes.later judged

  -- the texts for which a judge judges were read
  pub judged_net : (judges : Given → Type 0) (net inputs : List ℕ) (e : List Request) → AreJudged judges o net inputs e
      → Has (Read o.net (Ok net)) e
  judged_net judges net inputs e judged =
      let P : List ℕ → Type 0 = λ text. Has (Read o.net (Ok text)) e in subst P judged.net_text judged.read.net

  pub judged_inputs : (judges : Given → Type 0) (net inputs : List ℕ) (e : List Request) → AreJudged judges o net inputs e
      → Has (Read o.inputs (Ok inputs)) e
  judged_inputs judges net inputs e judged =
      let P : List ℕ → Type 0 = λ text. Has (Read o.inputs (Ok text)) e in subst P judged.inputs_text judged.read.inputs

pub some_is : {A : Type 0} (x y : A) → Some x ≡ Some y → x ≡ y
some_is x y same = cc

module _ (accepts : Given → Type 0) (o : Wanted) where
  -- what was made for what happens, if anything was
  pub open_made : (path : List ℕ) (made : Option (String Global)) (at : List ℕ) (old new : List Request)
      → IsOpenFor path (option_map string_bytes made) at old → GoesOn accepts o old new
      → IfSome made (λ name. Has (MadeFile (string_bytes name) (Ok tt)) new)
  open_made path None at old new it goes = tt
  open_made path (Some name) at old new it goes = goes.later _ it.1

  -- these bytes were written to it, and it got its name
  pub written_by : (path : List ℕ) (made : Option (String Global)) (at bytes : List ℕ) (old written new : List Request)
      → IsOpenFor path (option_map string_bytes made) at old → GoesOn accepts o old written
      → Has (Wrote at bytes (Ok tt)) written → GoesOn accepts o written new
      → IfSome made (λ name. Has (Renamed (string_bytes name) path (Ok tt)) new)
      → IsWrittenTo path bytes new
  written_by path None at bytes old written new it first wrote after renamed =
      let P : List ℕ → Type 0 = λ name. Has (Wrote name bytes (Ok tt)) new in
      inr (after.later _ (first.later _ it.1), subst P it.0 (after.later _ wrote))
  written_by path (Some name) at bytes old written new it first wrote after renamed =
      let P : List ℕ → Type 0 = λ other. Has (Wrote other bytes (Ok tt)) new in
      inl (string_bytes name, after.later _ (first.later _ it.1), subst P it.0 (after.later _ wrote), renamed)

module _ (accepts : Given → Type 0) (o : Wanted) where
  pub opened_goes : (sync : Bool) (folder : List ℕ) (opened : List OpenedName) (old new : List Request) → GoesOn accepts o old new
      → AreOpened sync folder opened old → AreOpened sync folder opened new
  opened_goes sync folder [] old new goes are = tt
  opened_goes sync folder (one ∷ opened) old new goes are = (goes.later _ are.0, opened_goes sync folder opened old new goes are.1)

  pub opened_more : (sync : Bool) (folder : List ℕ) (opened : List OpenedName) (one : OpenedName) (old new : List Request)
      → GoesOn accepts o old new → AreOpened sync folder opened old
      → Has (Opened folder (string_bytes one.name) sync (Ok one.bytes.value.items)) new → AreOpened sync folder (opened ++ one ∷ []) new
  opened_more sync folder [] one old new goes are has = (has, tt)
  opened_more sync folder (other ∷ opened) one old new goes are has =
      (goes.later _ are.0, opened_more sync folder opened one old new goes are.1 has)

  module _ {F : Type 0} {file : FileWords F} where
    pub used_more : (opened : List OpenedName) (outlets : List (ResumedOutlet F file)) (one : OpenedName) (outlet : ResumedOutlet F file)
        (old new : List Request) → GoesOn accepts o old new → AreUsed opened outlets old → slice_get opened (length outlets) ≡ Some one
        → Has (Used (string_bytes one.name) (asked_of outlet)) new → AreUsed opened (outlets ++ outlet ∷ []) new
    used_more [] [] one outlet old new goes are there has = absurd (cc)
    used_more (other ∷ opened) [] one outlet old new goes are there has =
        let P : OpenedName → Type 0 = λ it. Has (Used (string_bytes it.name) (asked_of outlet)) new in
        (subst P (sym (some_is other one there)) has, tt)
    used_more [] (other ∷ outlets) one outlet old new goes are there has = are
    used_more (another ∷ opened) (other ∷ outlets) one outlet old new goes are there has =
        (goes.later _ are.0, used_more opened outlets one outlet old new goes are.1 there has)

  -- a name that is written is apart from all that is read
  pub apart_all : (name place : List ℕ) (a b c d e : List Request) → Has (Placed name (Ok place)) a → GoesOn accepts o a b
      → IsElsewhere place o.net b → GoesOn accepts o b c → IsElsewhere place o.inputs c → GoesOn accepts o c d
      → IfAsked o.script (IsElsewhere place) d → GoesOn accepts o d e → IfAsked o.state (IsOutside place) e
      → IsApart o name e
  apart_all name place a b c d e placed ab net bc inputs cd script de state = record {
    place = place;
    placed = de.later _ (cd.later _ (bc.later _ (ab.later _ placed)));
    net = elsewhere_later accepts o place b e (λ r h. de.later r (cd.later r (bc.later r h))) o.net net;
    inputs = elsewhere_later accepts o place c e (λ r h. de.later r (cd.later r h)) o.inputs inputs;
    script = asked_later accepts o o.script (IsElsewhere place) d e (elsewhere_later accepts o place d e de.later) script;
    state = state;
  }

-- what is so of a path stays so
pub made_later : (old new : List Request) → Later old new → (path : List ℕ) → IsFileMade path old → IsFileMade path new
made_later old new later path h = later _ h

pub on_disk_later : (old new : List Request) → Later old new → (path : List ℕ) → IsSynced path old → IsSynced path new
on_disk_later old new later path h = later _ h

pub removed_later : (old new : List Request) → Later old new → (path : List ℕ) → IsFileRemoved path old → IsFileRemoved path new
removed_later old new later path h = (h.0, later _ h.1)

module _ (P : List ℕ → List Request → Type 0) where
  pub first_goes : (count : ℕ) (paths : List (String Global)) (old new : List Request) → ((path : List ℕ) → P path old → P path new)
      → OfFirst P count paths old → OfFirst P count paths new
  first_goes zero paths old new more are = tt
  first_goes (suc count) [] old new more are = are
  first_goes (suc count) (path ∷ paths) old new more are = (more _ are.0, first_goes count paths old new more are.1)

  first_more : (count : ℕ) (paths : List (String Global)) (path : String Global) (old new : List Request)
      → ((p : List ℕ) → P p old → P p new) → OfFirst P count paths old → slice_get paths count ≡ Some path → P (string_bytes path) new
      → OfFirst P (suc count) paths new
  first_more zero [] path old new more are there has = absurd (cc)
  first_more zero (other ∷ paths) path old new more are there has =
      let Q : String Global → Type 0 = λ p. P (string_bytes p) new in (subst Q (sym (some_is other path there)) has, tt)
  first_more (suc count) [] path old new more are there has = are
  first_more (suc count) (other ∷ paths) path old new more are there has =
      (more _ are.0, first_more count paths path old new more are.1 there has)

  -- one more, in a loop over them
  pub first_next : (count index : ℕ) (paths : List (String Global)) (path : String Global) (old new : List Request)
      → ((p : List ℕ) → P p old → P p new) → OfFirst P count paths old → count ≡ index → path ≡ get_or paths index path
      → index < length paths → P (string_bytes path) new → OfFirst P (count + 1) paths new
  first_next count index paths path old new more are same there within has =
      let Q : ℕ → Type 0 = λ n. OfFirst P n paths new in
      let R : ℕ → Type 0 = λ n. slice_get paths n ≡ Some path in
      subst Q (sym (add-one count))
      (first_more count paths path old new more are (subst R (sym same) (slice_get_read paths (length paths) index path refl within there)) has)

  pub first_at : (count : ℕ) (paths : List (String Global)) (e : List Request) (k : ℕ) (path : String Global) → OfFirst P count paths e
      → k < count → slice_get paths k ≡ Some path → P (string_bytes path) e
  first_at zero paths e k path are below there = absurd (omega (arith, below))
  first_at (suc count) [] e k path are below there = absurd are
  first_at (suc count) (other ∷ paths) e zero path are below there =
      let Q : String Global → Type 0 = λ p. P (string_bytes p) e in subst Q (some_is other path there) are.0
  first_at (suc count) (other ∷ paths) e (suc k) path are below there = first_at count paths e k path are.1 (omega (arith, below)) there

  pub taken_length : (count : ℕ) (paths : List (String Global)) (e : List Request) → OfFirst P count paths e
      → count ≡ length (take count paths)
  taken_length zero paths e are = refl
  taken_length (suc count) [] e are = absurd are
  taken_length (suc count) (path ∷ paths) e are = ap suc (taken_length count paths e are.1)

  -- they are those of the beginning of so many
  pub first_to : (count : ℕ) (paths : List (String Global)) (e : List Request) → OfFirst P count paths e
      → OfFirst P count (take count paths) e
  first_to zero paths e are = tt
  first_to (suc count) [] e are = absurd are
  first_to (suc count) (path ∷ paths) e are = (are.0, first_to count paths e are.1)

  pub first_from : (count : ℕ) (paths : List (String Global)) (e : List Request) → OfFirst P count (take count paths) e
      → OfFirst P count paths e
  first_from zero paths e are = tt
  first_from (suc count) [] e are = absurd are
  first_from (suc count) (path ∷ paths) e are = (are.0, first_from count paths e are.1)

  -- the first ones are all of them
  pub first_all : (count : ℕ) (paths : List (String Global)) (e : List Request) → OfFirst P count paths e → length paths ≤ count
      → OfEach P (map string_bytes paths) e
  first_all count [] e are within = tt
  first_all zero (path ∷ paths) e are within = absurd (omega (arith, within))
  first_all (suc count) (path ∷ paths) e are within = (are.0, first_all count paths e are.1 (omega (arith, within)))

  pub each_goes : (paths : List (List ℕ)) (old new : List Request) → ((path : List ℕ) → P path old → P path new) → OfEach P paths old
      → OfEach P paths new
  each_goes [] old new more are = tt
  each_goes (path ∷ paths) old new more are = (more _ are.0, each_goes paths old new more are.1)

  pub each_both : (a b : List (List ℕ)) (e : List Request) → OfEach P a e → OfEach P b e → OfEach P (a ++ b) e
  each_both [] b e first second = second
  each_both (path ∷ a) b e first second = (first.0, each_both a b e first.1 second)

pub synced_later : (sync : Bool) (paths : List (List ℕ)) (old new : List Request) → Later old new → AreSyncedIf sync paths old
    → AreSyncedIf sync paths new
synced_later true paths old new later are = each_goes IsSynced paths old new (on_disk_later old new later) are
synced_later false paths old new later are = tt

pub synced_if : (sync : Bool) (paths : List (List ℕ)) (e : List Request) → OfEach IsSynced paths e → AreSyncedIf sync paths e
synced_if true paths e are = are
synced_if false paths e are = tt

-- what is so in any case is so where there is an answer
pub in_any : {T F : Type 0} (result : Result T F) (P : T → Type 0) → ((value : T) → P value) → IfOk result P
in_any (Ok value) P all = all value
in_any (Err fault) P all = tt

pub synced_none : (sync : Bool) (paths : List (List ℕ)) (e : List Request) → sync ≡ false → AreSyncedIf sync paths e
synced_none true paths e off = absurd (cc)
synced_none false paths e off = tt

pub synced_both : (sync : Bool) (a b : List (List ℕ)) (e : List Request) → AreSyncedIf sync a e → AreSyncedIf sync b e
    → AreSyncedIf sync (a ++ b) e
synced_both true a b e first second = each_both IsSynced a b e first second
synced_both false a b e first second = tt

pub opened_at : (sync : Bool) (folder : List ℕ) (opened : List OpenedName) (e : List Request) (k : ℕ) (one : OpenedName)
    → AreOpened sync folder opened e → slice_get opened k ≡ Some one
    → Has (Opened folder (string_bytes one.name) sync (Ok one.bytes.value.items)) e
opened_at sync folder [] e k it are there = absurd (cc)
opened_at sync folder (other ∷ opened) e zero it are there =
    let P : OpenedName → Type 0 = λ o. Has (Opened folder (string_bytes o.name) sync (Ok o.bytes.value.items)) e in
    subst P (some_is other it there) are.0
opened_at sync folder (other ∷ opened) e (suc k) it are there = opened_at sync folder opened e k it are.1 there

-- the same request in other words
pub under_as : (folder path other bytes text : List ℕ) (e : List Request) → path ≡ other → bytes ≡ text
    → HasUnder folder (Read path (Ok bytes)) e → HasUnder folder (Read other (Ok text)) e
under_as folder path other bytes text e same equal h =
    let P : List ℕ → Type 0 = λ p. HasUnder folder (Read p (Ok bytes)) e in
    let Q : List ℕ → Type 0 = λ b. HasUnder folder (Read other (Ok b)) e in
    subst Q equal (subst P same h)

module _ (accepts : Given → Type 0) (o : Wanted) where
  -- a request that may change the lock
  pub rules_by : (r : Request) (old new : List Request) → new ≡ r ∷ old → rule accepts o r old → Each (rule accepts o) old
      → Each (rule accepts o) new
  rules_by r old new is kept each = let P : List Request → Type 0 = λ e. Each (rule accepts o) e in subst P (sym is) (kept, each)

pub later_by : (r : Request) (old new : List Request) → new ≡ r ∷ old → Later old new
later_by r old new is s h = let P : List Request → Type 0 = λ e. Has s e in subst P (sym is) (inr h)

pub held_now : (folder : List ℕ) (old new : List Request) → new ≡ Locked folder (Ok tt) ∷ old → IsHeld folder new
held_now folder old new is = let P : List Request → Type 0 = λ e. IsHeld folder e in subst P (sym is) refl

pub free_still : (folder : List ℕ) (fault : HostFault) (old new : List Request) → new ≡ Locked folder (Err fault) ∷ old → IsFree old
    → IsFree new
free_still folder fault old new is free = let P : List Request → Type 0 = λ e. IsFree e in subst P (sym is) free

pub opened_as : (sync : Bool) (folder name : List ℕ) (a b : Vec ℕ Global) (e : List Request) → a ≡ b
    → Has (Opened folder name sync (Ok b.items)) e → Has (Opened folder name sync (Ok a.items)) e
opened_as sync folder name a b e same h =
    let P : Vec ℕ Global → Type 0 = λ v. Has (Opened folder name sync (Ok v.items)) e in subst P (sym same) h

pub one_longer : {A : Type 0} (count : ℕ) (xs : List A) (x : A) → count ≡ length xs → count + 1 ≡ length (xs ++ x ∷ [])
one_longer count xs x same = omega (arith, same, length-append xs (x ∷ []))

-- behind the first ones one more is within all
pub one_within : {A : Type 0} (count : ℕ) (done rest more whole : List A) (x : A) → count ≡ length done → rest ≡ x ∷ more
    → done ++ rest ≡ whole → count + 1 ≤ length whole
one_within {A} count done rest more whole x same first all =
    omega (arith, same, ap (λ (list : List A). length list) (sym all), length-append done rest, ap (λ (list : List A). length list) first)

pub no_items : {A : Type 0} (items : List A) → length items ≡ 0 → items ≡ []
no_items [] none = refl
no_items (item ∷ items) none = absurd (cc)

module _ (accepts : Given → Type 0) (o : Wanted) where
  -- the lock that is held is let go of
  pub rules_unlocked : (folder other : List ℕ) (old new : List Request) → new ≡ Unlocked other ∷ old → other ≡ folder → IsHeld folder old
      → Each (rule accepts o) old → Each (rule accepts o) new
  rules_unlocked folder other old new is same held each =
      let P : List ℕ → Type 0 = λ f. IsHeld f old in rules_by accepts o (Unlocked other) old new is (subst P (sym same) held) each

-- what is so where there is none is so here
pub of_none : {A : Type 0} (option : Option A) (P : Type 0) → option ≡ None → IfNone option P → P
of_none {A} option P none is = let Q : Option A → Type 0 = λ o. IfNone o P in subst Q none is
