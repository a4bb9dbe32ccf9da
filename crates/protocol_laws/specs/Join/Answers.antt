-- Whatever a node answers that is asked to take part is steps of the abstract machine.
use Rattle.std.proofs.Common.{◌≡◌, ℕ, ◌<◌, ◌≤◌, ◌&&◌, Bool, true, false, cond, List, [], ◌∷◌, ◌++◌, length, Option}
use Rattle.std.proofs.Common.{Some, None, option_map, refl, sym, ◌∙◌, arith}
use Rattle.std.specs.Prelude.{◌≢◌, nat_lt, nat_le, not, slice_get, slice_set}
use Rattle.datagram.specs.declared.packet.Body.TheVariants as says
use Rattle.datagram.specs.declared.packet.Packet.{Packet as Datagram}
use Rattle.protocol.specs.Node.Common.{Network, IsValid, sent_of, highest_seen, RecordView, AskAnswer}
use Rattle.protocol.specs.Node.Common.{Silent, CoveredBefore, TookBefore, TakesNow, Declines, holds, answer_to_ask}
use Rattle.protocol.specs.Node.Common.{with_current_as, kept_then, is_down, with_kept, ModeView, Down, Runs}
use Rattle.protocol.specs.Node.Common.{RunningView}
use Rattle.record.specs.declared.record.Tentative.{Tentative as HeldImage}
use Rattle.recovery_line.proofs.Observing.{taking_moves}
use Rattle.protocol.specs.World.Common.{IsCross, Mode, image_seen, record_seen, Packet, World, Leads, WasSent}
use Rattle.protocol.specs.World.Common.{live_seen, mode_seen, need_of, all_seen, world_seen, net_seen, outlets_seen}
use Rattle.protocol.specs.World.Common.{StationView, moved_to}
use Rattle.recovery_line.specs.Packets.{Ask, Took, Covered, HearsAsk}
use Rattle.recovery_line.specs.Worlds.{InFlight, MaySend}
use Rattle.protocol.specs.Node.Answering.{is_past, answer_of_holder, answer_of_free, answer_above, took_packet}
use Rattle.protocol.specs.Node.Answering.{answer_packets}
use Rattle.protocol.specs.Node.Needs.{held_needs}
use Rattle.protocol_laws.specs.Join.Holding.{at_most, above, not_below, up_seen, IsHeld, held_seen}
use Rattle.protocol_laws.specs.Join.Leading.{leads_here, leads_by, leads_then, hears, outlets_same, record_at, mode_at}
use Rattle.protocol_laws.specs.Join.Leading.{set_there, unseen}
use Rattle.protocol_laws.specs.Join.NeedLaws.{are_needs}
use Rattle.protocol_laws.specs.Join.Sent.{MaySendAll, sends}
use Rattle.protocol.specs.declared.round_turns.RoundTurns.{RoundTurns}

-- ---- what an answer tells of the node

-- its held image meets the question, and its permanent one doesn't
pub record MeetsByHeld (x n c m : ℕ) (kept : RecordView) : Type 0 where
  pub image : IsHeld x n kept.tentative
  pub more : sent_of kept.permanent c < m
  pub within : m ≤ sent_of image.held.image c

-- nothing is held, the number is new, and what it has now meets the question
pub record MeetsNow (x n c m : ℕ) (kept : RecordView) (mode : ModeView) : Type 0 where
  pub running : RunningView
  pub runs : mode ≡ Runs running
  pub free : kept.tentative ≡ None
  pub new : highest_seen x kept < n
  pub more : sent_of kept.permanent c < m
  pub within : m ≤ sent_of running.current c

abbrev pub Tells : ℕ → ℕ → ℕ → ℕ → RecordView → ModeView → AskAnswer → Type 0
Tells x n c m kept mode Silent = Unit {0}
Tells x n c m kept mode CoveredBefore = m ≤ sent_of kept.permanent c
Tells x n c m kept mode TookBefore = MeetsByHeld x n c m kept
Tells x n c m kept mode TakesNow = MeetsNow x n c m kept mode
Tells x n c m kept mode (Declines reason) = Unit {0}

module _ (x n c m : ℕ) (kept : RecordView) (mode : ModeView) where
  -- a test tells what both of its sides tell
  chosen : (b : Bool) (one other : AskAnswer) → (b ≡ true → Tells x n c m kept mode one)
      → (b ≡ false → Tells x n c m kept mode other) → Tells x n c m kept mode (cond b one other)
  chosen true one other first second = first refl
  chosen false one other first second = second refl

  free_tells : (now : ModeView) → mode ≡ now → kept.tentative ≡ None → highest_seen x kept < n
      → sent_of kept.permanent c < m → Tells x n c m kept mode (answer_of_free c m now)
  free_tells (Runs running) is free new more =
      chosen (nat_lt (sent_of running.current c) m) _ _ (λ few. tt) (λ enough. record {
        running = running;
        runs = is;
        free = free;
        new = new;
        more = more;
        within = not_below (sent_of running.current c) m enough;
      })
  free_tells other is free new more = tt

  holder_tells : (held : HeldImage) → kept.tentative ≡ Some held → sent_of kept.permanent c < m
      → (b : Bool) → holds x n (Some held) ≡ b → Tells x n c m kept mode (answer_of_holder c m mode b held)
  holder_tells held is more false other = tt
  holder_tells held is more true same =
      chosen (nat_le m (sent_of held.image c)) _ _ (λ enough. record {
        image = record { held = held; is = is; initiator = grind arith; number = grind arith };
        more = more;
        within = at_most m (sent_of held.image c) enough;
      }) (λ few. tt)

  above_tells : (o : Option HeldImage) → kept.tentative ≡ o
      → (nat_le n (highest_seen x kept) && not (holds x n o)) ≡ false → sent_of kept.permanent c < m
      → Tells x n c m kept mode (answer_above x n c m mode o)
  above_tells (Some held) is fresh more = holder_tells held is more (holds x n (Some held)) refl
  above_tells None is fresh more = free_tells mode refl is (grind arith) more

  pub answer_tells : Tells x n c m kept mode (answer_to_ask x n c m kept mode)
  answer_tells = chosen (is_past x n kept) _ _ (λ past. tt) (λ fresh.
      chosen (nat_le m (sent_of kept.permanent c)) _ _ (at_most m (sent_of kept.permanent c))
      (λ few. above_tells kept.tentative refl fresh (above m (sent_of kept.permanent c) few)))

-- ---- what is answered may be sent

module _ (net : Network) (valid : IsValid net) (k x n c m q : ℕ) (cross : IsCross (net_seen net) c k q) (w : World)
    (asked : InFlight w (Ask x n c m)) (up : w.modes k ≢ Mode.Down) (kept : RecordView)
    (is : w.records k ≡ record_seen kept) where
  covered_may : m ≤ sent_of kept.permanent c → MaySend (net_seen net) w (Covered x n c m)
  covered_may enough = record {
    node = k;
    from = cross.from;
    up = up;
    asked = asked;
    put = rw is enough;
  }

  took_may : MeetsByHeld x n c m kept
      → MaySend (net_seen net) w (Took x n c m (need_of (held_needs net k kept.permanent kept.tentative)))
  took_may meets = record {
    node = k;
    to = q;
    image = image_seen meets.image.held.image;
    cross = cross;
    up = up;
    asked = asked;
    held = rw is (held_seen x n kept.tentative meets.image);
    above = rw is meets.more;
    within = meets.within;
    needs_of = rw (is, meets.image.is) (are_needs net k valid kept.permanent meets.image.held.image);
  }

-- ---- it takes part

takes_part : (net : Network) (k x n c m q : ℕ) (kept : RecordView) (mode : ModeView) (left : ℕ → ℕ)
    → IsCross (net_seen net) c k q → x < length kept.highest → MeetsNow x n c m kept mode
    → HearsAsk (net_seen net) k (record { disk = record_seen kept; mode = mode_seen mode; outlets = left })
    (record { disk = record_seen (with_current_as x n mode kept); mode = mode_seen mode; outlets = left }) x n c m
takes_part net k x n c m q kept (Runs running) left cross listed meets = record {
  to = q;
  cross = cross;
  current = image_seen running.current;
  live = option_map live_seen running.live;
  running = refl;
  above = meets.more;
  within = let e = meets.runs in let same : running ≡ meets.running = cc in rw same meets.within;
  takes = taking_moves kept x n running.current meets.free listed meets.new;
  mode = refl;
  outlets = refl;
}
takes_part net k x n c m q kept other left cross listed meets = absurd (let e = meets.runs in cc)

held_then : (x n c m : ℕ) (kept : RecordView) (mode : ModeView) → MeetsNow x n c m kept mode
    → MeetsByHeld x n c m (with_current_as x n mode kept)
held_then x n c m kept mode meets = rw meets.runs (record {
  image = record {
    held = record { initiator = x; number = n; image = meets.running.current };
    is = refl;
    initiator = refl;
    number = refl;
  };
  more = meets.more;
  within = meets.within;
})

-- ---- one station of several

module _ (net : Network) (valid : IsValid net) (stations : List StationView) (k : ℕ) (old : StationView)
    (there : slice_get stations k ≡ Some old) (sent : List Packet) (x n c m q : ℕ)
    (cross : IsCross (net_seen net) c k q) (asked : WasSent sent (Ask x n c m)) (up : is_down old.node.mode ≡ false)
    (listed : x < length old.node.kept.highest) (failures : ℕ) (turns : RoundTurns) where
  abbrev Now : RecordView → StationView
  Now kept = moved_to (with_kept kept old.node) failures turns old

  abbrev Reaches : RecordView → List Packet → Type 0
  Reaches kept later =
      Leads (net_seen net) (world_seen stations sent) (world_seen (slice_set stations k (Now kept)) later)

  -- the station with a record, and the answer that it sends
  tells : (kept : RecordView) (packet : Datagram)
      → ((w : World) → InFlight w (Ask x n c m) → w.modes k ≢ Mode.Down → w.records k ≡ record_seen kept
      → MaySendAll (net_seen net) w (packet ∷ [])) → Reaches kept sent → Reaches kept (all_seen (packet ∷ []) ++ sent)
  tells kept packet may leads =
      let later = slice_set stations k (Now kept) in
      let here = set_there stations k old (Now kept) there in
      leads_then (net_seen net) (world_seen stations sent) (world_seen later sent) _ leads
      (sends (net_seen net) later (packet ∷ []) sent
      (may (world_seen later sent) asked
      (λ down. up_seen old.node.mode up (sym (mode_at later k (Now kept) here) ∙ down))
      (record_at later k (Now kept) here))) refl

  tells_took : (kept : RecordView) → MeetsByHeld x n c m kept → Reaches kept sent
      → Reaches kept (all_seen (took_packet net k x n c m kept ∷ []) ++ sent)
  tells_took kept meets =
      tells kept (took_packet net k x n c m kept)
      (λ w is_asked is_up is. (took_may net valid k x n c m q cross w is_asked is_up kept is meets, tt))

  as_before : Reaches old.node.kept sent
  as_before = leads_here (net_seen net) (world_seen stations sent) _
      (unseen stations k old (Now old.node.kept) there sent refl refl refl)

  took : MeetsNow x n c m old.node.kept old.node.mode → Reaches (with_current_as x n old.node.mode old.node.kept) sent
  took meets =
      let new = Now (with_current_as x n old.node.mode old.node.kept) in
      leads_by (net_seen net) (world_seen stations sent) _
      (hears stations k old new there (net_seen net) sent (outlets_same stations k old new there refl) (Ask x n c m)
      asked
      (takes_part net k x n c m q old.node.kept old.node.mode (outlets_seen stations) cross listed meets))

  pub answer_leads : (answer : AskAnswer) → Tells x n c m old.node.kept old.node.mode answer
      → Leads (net_seen net) (world_seen stations sent)
      (world_seen (slice_set stations k (Now (kept_then x n answer old.node.mode old.node.kept)))
      (all_seen (answer_packets net k x n c m (kept_then x n answer old.node.mode old.node.kept) answer) ++ sent))
  answer_leads Silent told = as_before
  answer_leads (Declines reason) told = as_before
  answer_leads CoveredBefore told =
      tells old.node.kept (record { from = k; to = x; body = says.Covered n c m })
      (λ w is_asked is_up is. (covered_may net valid k x n c m q cross w is_asked is_up old.node.kept is told, tt))
      as_before
  answer_leads TookBefore told = tells_took old.node.kept told as_before
  answer_leads TakesNow told =
      tells_took (with_current_as x n old.node.mode old.node.kept) (held_then x n c m old.node.kept old.node.mode told)
      (took told)
