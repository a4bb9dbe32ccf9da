-- A log that is cut, as the abstract machine sees it.
use Rattle.std.proofs.Common.{◌≡◌, ◌⊎◌, ℕ, ◌<◌, ◌≤◌, Bool, true, eqb, List, [], ◌∷◌, Option}
use Rattle.std.proofs.Common.{Some, None}
use Rattle.std.proofs.Common.{option_map, refl, arith}
use Rattle.std.specs.Prelude.{◌≢◌, find}
use Rattle.std.proofs.Math.Path.{fun_ext}
use Rattle.protocol.specs.Node.Common.{trimmed_image, trimmed_log, log_at, base_in, base_of, sent_in}
use Rattle.protocol.specs.Node.Common.{sent_of, ImageView, End, Receives, Sends, Both, SavedEnd, LogState, log_end}
use Rattle.record.specs.Changes.{trimmed_end, trimmed_saved}
use Rattle.protocol.specs.World.Common.{Mode, image_seen, Record}
use Rattle.recovery_line.specs.Nodes.{Live, Trims}
use Rattle.protocol_laws.specs.Node.TrimLaws.{end_of_trimmed, received_trimmed, sent_trimmed}

-- ---- where it begins then

found_passes : {A : Type 0} (test : A → Bool) (xs : List A) (x : A) → find test xs ≡ Some x → test x ≡ true
found_passes test [] x is = absurd (cc)
found_passes test (y ∷ xs) x is = grind (arith, found_passes test xs x)

module _ (to : ℕ) where
  -- in a log that reaches from before the position to behind it: there
  log_at_cut : (log : LogState) → log.base ≤ to → to ≤ log_end log → (trimmed_log to log).base ≡ to
  log_at_cut log low high = grind arith

  end_at_cut : (end : Option End) → base_in (log_at end) ≤ to → to ≤ sent_in (log_at end)
      → base_in (log_at (option_map (trimmed_end to) end)) ≡ to
  end_at_cut None low high = omega (arith, low, high)
  end_at_cut (Some (Receives received)) low high = omega (arith, low, high)
  end_at_cut (Some (Sends log)) low high = log_at_cut log low high
  end_at_cut (Some (Both received log)) low high = log_at_cut log low high

  -- in another: where it began
  log_uncut : (log : LogState) → (to < log.base) ⊎ (log_end log < to) → (trimmed_log to log).base ≡ log.base
  log_uncut log out = grind arith

  end_uncut : (end : Option End) → (to < base_in (log_at end)) ⊎ (sent_in (log_at end) < to)
      → base_in (log_at (option_map (trimmed_end to) end)) ≡ base_in (log_at end)
  end_uncut None out = refl
  end_uncut (Some (Receives received)) out = refl
  end_uncut (Some (Sends log)) out = log_uncut log out
  end_uncut (Some (Both received log)) out = log_uncut log out

  -- ---- an image whose log of one channel is cut

  module _ (c : ℕ) (image : ImageView) where
    base_then : (d : ℕ) → base_of (trimmed_image c to image) d
        ≡ base_in (log_at (option_map (λ (s : SavedEnd). (trimmed_saved c to s).end)
        (find (λ (s : SavedEnd). eqb s.channel d) image.ends)))
    base_then d = rw (end_of_trimmed c to image d) refl

    pub base_at_cut : base_of image c ≤ to → to ≤ sent_of image c → base_of (trimmed_image c to image) c ≡ to
    base_at_cut low high = grind (arith, base_then c, found_passes, end_at_cut)

    pub base_elsewhere : (d : ℕ) → d ≢ c → base_of (trimmed_image c to image) d ≡ base_of image d
    base_elsewhere d other = grind (arith, base_then d, found_passes)

    base_uncut : (to < base_of image c) ⊎ (sent_of image c < to)
        → base_of (trimmed_image c to image) c ≡ base_of image c
    base_uncut out = grind (arith, base_then c, end_uncut)

    -- a cut out of reach isn't seen
    pub cut_unseen : (to < base_of image c) ⊎ (sent_of image c < to)
        → image_seen (trimmed_image c to image) ≡ image_seen image
    cut_unseen out = rw (fun_ext (received_trimmed c to image), fun_ext base, fun_ext (sent_trimmed c to image)) refl
      where
        base : (d : ℕ) → base_of (trimmed_image c to image) d ≡ base_of image d
        base d = grind (arith, base_uncut out, base_elsewhere d)

    -- and one within it trims
    pub cut_trims : (kept : Record) (live : Option Live) (left : ℕ → ℕ) → base_of image c ≤ to → to ≤ sent_of image c
        → Trims (record { disk = kept; mode = Mode.Running (image_seen image) live; outlets = left })
        (record { disk = kept; mode = Mode.Running (image_seen (trimmed_image c to image)) live; outlets = left }) c to
        (image_seen image) (image_seen (trimmed_image c to image)) live
    cut_trims kept live left low high = record {
      same = record { disk = refl; outlets = refl };
      was = refl;
      now = refl;
      rises = low;
      within = high;
      base = base_at_cut low high;
      others = λ d other. base_elsewhere d other;
      received = fun_ext (received_trimmed c to image);
      sent = fun_ext (sent_trimmed c to image);
    }

pub within_or_out : (low at high : ℕ) → ((low ≤ at) × (at ≤ high)) ⊎ ((at < low) ⊎ (high < at))
within_or_out low at high = grind arith
