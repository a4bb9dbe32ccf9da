-- The same of a turn of which it is known only that there is one.
use Rattle.std.proofs.Common.{◌≡◌, ℕ, ◌+◌, ◌<◌, ◌≤◌, Bool, true, ℤ, List, length, Some, ap, ◌∙◌, subst, sym, arith}
use Rattle.std.proofs.Common.{if◌then◌else◌}
use Rattle.std.specs.Prelude.{slice_get, slice_index, slice_index_or}
use Rattle.std.proofs.lemmas.List.{length-append}
use Rattle.std.proofs.Math.Bridge.{le_prop}
use Rattle.std.proofs.Math.Logic.{∥∥₁_elim}
use mathlib.Core.HLevel.{⊥_prop}
use Rattle.kahn_net.specs.Fits.{Fits}
use Rattle.kahn_net.specs.Processes.{Standing}
use Rattle.kahn_net.specs.Syntax.{Code, Network}
use Rattle.kahn_net.specs.Valid.{IsValid}
use Rattle.kahn_net.specs.declared.limits.TheConstants.{MAX_COUNT}
use Rattle.kahn_net.specs.declared.program.Channel.{Channel}
use Rattle.kahn_net.specs.declared.program.Port.TheVariants.{Process}
use Rattle.proc_step.specs.Turns.{IsTurn}
use Rattle.retained.specs.LogState.{LogState, IsInLog, Overfills}
use Rattle.rerun.specs.Tables.{TableView, HasRerun, IsInOrder, log_on, items_from, room_from, taken_by, put_by}
use Rattle.rerun.specs.Tables.{count_by}
use Rattle.rerun.specs.Tables.{leads_to, let_go_of, no_log, pushed}
use Rattle.rerun.proofs.Handed.{is_there_if}
use Rattle.rerun.proofs.Turned.{counts_on, not_full, taken_is_there, leads_from}

module _ (net : Network) (inputs : List (List ℤ)) (limits : List ℕ) (p : ℕ) (old : TableView) (valid : IsValid net)
    (fits : Fits net inputs) (ordered : IsInOrder net inputs old) (rerun : ∥ HasRerun net inputs old ∥₁) (code : Code)
    (standing after : Standing) (taken : List ℕ) (sent : List (List ℤ)) (code_is : slice_get net.codes p ≡ Some code)
    (standing_is : slice_get old.standings p ≡ Some standing)
    (is_turn : ∥ IsTurn code standing (items_from inputs old p 0 net.channels) (room_from limits old p 0 net.channels)
    after
    taken sent ∥₁) where
  pub never_full : (c : ℕ) → Overfills (log_on old c) (length (put_by p sent c (slice_get net.channels c))) → ⊥
  never_full c full = ∥∥₁_elim rerun (hlevel ⊥_prop) (λ r. ∥∥₁_elim is_turn (hlevel ⊥_prop)
      (λ t. not_full net inputs limits p old valid fits ordered r code standing after taken sent code_is standing_is t
      c full))

  pub still_counts : (c : ℕ) → slice_index old.got c + taken_by p taken c (slice_get net.channels c) ≤ MAX_COUNT
  still_counts c = ∥∥₁_elim rerun (hlevel le_prop) (λ r. ∥∥₁_elim is_turn (hlevel le_prop)
      (λ t. counts_on net inputs limits p old valid fits ordered r code standing after taken sent code_is standing_is t
      c))

  pub is_there_by_then : (c : ℕ) (channel : Channel) → slice_get net.channels c ≡ Some channel
      → channel.consumer ≡ Process p
      → slice_index old.got c + slice_index taken c ≤ count_by inputs old c channel.producer
  is_there_by_then c channel is to = ∥∥₁_elim rerun (hlevel le_prop) (λ r. ∥∥₁_elim is_turn (hlevel le_prop)
      (λ t. taken_is_there net inputs limits p old valid fits ordered r code standing after taken sent code_is
      standing_is t
      c channel is to))

  -- where a channel leads to the process, what it got by then is in the log behind which it has what was put
  pub in_log : (c : ℕ) (channel : Channel) (log : LogState) (got : ℕ) (items : List ℤ)
      → slice_get net.channels c ≡ Some channel → leads_to p channel ≡ true → log ≡ pushed (log_on old c) items
      → got ≡ slice_index old.got c + taken_by p taken c (slice_get net.channels c) → IsInLog log got
  in_log c channel log got items is leads log_is got_is =
      let ends = leads_from p channel leads in
      let inside = ordered.of_link c ends.from p channel is ends.producer ends.consumer in
      let low = inside.from_base in
      let there = is_there_by_then c channel is ends.consumer in
      let count = ap (count_by inputs old c) ends.producer in
      let own = ap (taken_by p taken c) is
      ∙ ap (λ (b : Bool). (if b then slice_index taken c else 0)) (is_there_if p channel.consumer ends.consumer) in
      let long = length-append (log_on old c).items items in
      subst (λ (l : LogState). IsInLog l got) (sym log_is)
      (record {
        from_base = omega (arith, low, got_is);
        to_end = omega (arith, there, count, own, long, got_is);
      })

-- ---- the same of lists that are known to be equal

pub got_is : (p : ℕ) (got gotm gotn whole taken taken' : List ℕ) (channels channels' : List Channel) → whole ≡ gotn
    → gotm ≡ got → channels' ≡ channels → taken' ≡ taken → length got ≡ length channels
    → ((c : ℕ) → c < length gotm
    → slice_index gotn c ≡ slice_index gotm c + taken_by p taken' c (slice_get channels' c))
    → (c : ℕ) → c < length channels
    → slice_index whole c ≡ slice_index got c + taken_by p taken c (slice_get channels c)
got_is p got gotm gotn whole taken taken' channels channels' w m ch ta wide each c below =
    let here : c < length gotm = omega (arith, ap (length {A = ℕ}) m, wide, below) in
    ap (λ (l : List ℕ). slice_index l c) w
    ∙ (each c here
    ∙ (ap (λ (l : List ℕ). slice_index l c + taken_by p taken' c (slice_get channels' c)) m
    ∙ (ap (λ (l : List Channel). slice_index got c + taken_by p taken' c (slice_get l c)) ch
    ∙ ap (λ (l : List ℕ). slice_index got c + taken_by p l c (slice_get channels c)) ta)))

pub pushed_is : (p : ℕ) (logs pushed_logs : List LogState) (sent sent' : List (List ℤ))
    (channels channels' : List Channel)
    → channels' ≡ channels → sent' ≡ sent → length logs ≡ length channels
    → ((c : ℕ) → 0 ≤ c → c < length logs → slice_index_or pushed_logs c no_log
    ≡ pushed (slice_index_or logs c no_log) (put_by p sent' c (slice_get channels' c)))
    → (c : ℕ) → c < length channels → slice_index_or pushed_logs c no_log
    ≡ pushed (slice_index_or logs c no_log) (put_by p sent c (slice_get channels c))
pushed_is p logs pushed_logs sent sent' channels channels' ch se wide each c below =
    each c (omega arith) (omega (arith, wide, below))
    ∙ (ap (λ (l : List Channel). pushed (slice_index_or logs c no_log) (put_by p sent' c (slice_get l c))) ch
    ∙ ap (λ (l : List (List ℤ)). pushed (slice_index_or logs c no_log) (put_by p l c (slice_get channels c))) se)

pub logs_is : (p : ℕ) (logs pushed_logs new_logs : List LogState) (got got' : List ℕ) (sent : List (List ℤ))
    (channels channels' : List Channel) → channels' ≡ channels → got' ≡ got
    → ((c : ℕ) → c < length channels → slice_index_or pushed_logs c no_log
    ≡ pushed (slice_index_or logs c no_log) (put_by p sent c (slice_get channels c)))
    → ((c : ℕ) → c < length channels' → slice_index_or new_logs c no_log
    ≡ let_go_of p (slice_index got' c) (slice_index_or pushed_logs c no_log) (slice_get channels' c))
    → (c : ℕ) → c < length channels → slice_index_or new_logs c no_log
    ≡ let_go_of p (slice_index got c) (pushed (slice_index_or logs c no_log) (put_by p sent c (slice_get channels c)))
    (slice_get channels c)
logs_is p logs pushed_logs new_logs got got' sent channels channels' ch go first second c below =
    second c (omega (arith, ap (length {A = Channel}) ch, below))
    ∙ (ap (λ (l : List Channel). let_go_of p (slice_index got' c) (slice_index_or pushed_logs c no_log)
    (slice_get l c)) ch
    ∙ (ap (λ (l : List ℕ). let_go_of p (slice_index l c) (slice_index_or pushed_logs c no_log) (slice_get channels c))
    go
    ∙ ap (λ (log : LogState). let_go_of p (slice_index got c) log (slice_get channels c)) (first c below)))
