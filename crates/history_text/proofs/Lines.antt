-- One event more, and one line more, on the way through a history.
use Rattle.std.proofs.Common.{◌≡◌, ◌∙◌, sym, ap, subst, ℕ, suc, ◌+◌, ◌<◌, Bool, if◌then◌else◌, List, [], ◌∷◌, ◌++◌, drop, get_or}
use Rattle.std.proofs.Common.{length, append-nil, arith}
use Rattle.std.proofs.KnownBytes.{Appends-trans}
use Rattle.std.proofs.lemmas.List.{at_drop_more}
use Rattle.std.proofs.lemmas.List.Concat.{flat_map-append}
use Rattle.std.specs.Io.KnownBytes.{Appends}
use Rattle.std.specs.Prelude.{Option, codes}
use Rattle.std.specs.List.{flat_map}
use Rattle.replay.specs.Replay.{Happening, KeptEventView, Made}
use Rattle.replay.specs.Replies.{KeptReply}
use Rattle.replay.specs.declared.kept.Maker.{Maker}
use Rattle.run_log.specs.Lines.{made_times, nth_answer}
use Rattle.history_text.specs.Events.{event_text}
use Rattle.history_text.specs.Histories.{happening_text, happenings_text, line_of}
use Rattle.history_text.specs.Replies.{reply_text}
use Rattle.history_text.proofs.Nth.{nth_words}

module _ (rises : Bool) (n : ℕ) (maker : Maker) (event : KeptEventView) (first : KeptReply) where
  -- what was said n times, and once more
  made_next : happenings_text (made_times rises (n + 1) maker event first)
      ≡ happenings_text (made_times rises n maker event first)
      ++ happening_text (Made maker event (nth_answer rises n first))
  made_next =
      let next : n + 1 ≡ suc n = omega arith in
      ap (λ (m : ℕ). happenings_text (made_times rises m maker event first)) next
      ∙ (flat_map-append happening_text (made_times rises n maker event first) (Made maker event (nth_answer rises n first) ∷ [])
      ∙ ap (λ (x : List ℕ). happenings_text (made_times rises n maker event first) ++ x)
      (append-nil (happening_text (Made maker event (nth_answer rises n first)))))

  -- the line that the code writes is that of the next answer
  next_line : (later : ℕ) (words : List ℕ) → words ≡ event_text event → later ≡ (if rises then n else 0)
      → line_of maker words (reply_text later first) ++ codes "\n"
      ≡ happening_text (Made maker event (nth_answer rises n first))
  next_line later words says behind =
      ap (λ (w : List ℕ). line_of maker w (reply_text later first) ++ codes "\n") says
      ∙ ap (λ (answer : List ℕ). line_of maker (event_text event) answer ++ codes "\n")
      (ap (λ (m : ℕ). reply_text m first) behind ∙ nth_words rises n first)

  pub written_again : (before now then_ : Option (List ℕ)) (later : ℕ) (words : List ℕ) → words ≡ event_text event
      → later ≡ (if rises then n else 0) → Appends before now (happenings_text (made_times rises n maker event first))
      → Appends now then_ (line_of maker words (reply_text later first) ++ codes "\n")
      → Appends before then_ (happenings_text (made_times rises (n + 1) maker event first))
  written_again before now then_ later words says behind written line =
      subst (Appends before then_)
      (sym (made_next
      ∙ ap (λ (x : List ℕ). happenings_text (made_times rises n maker event first) ++ x)
      (sym (next_line later words says behind))))
      (Appends-trans before now then_ _ _ written line)

-- what these say from one on, where each says so much
pub parts_at : {X : Type 0} (said : X → List Happening) (parts : List X) (i : ℕ) (part other : X) → i < length parts → part ≡ get_or parts i other
    → happenings_text (flat_map said (drop i parts)) ≡ happenings_text (said part) ++ happenings_text (flat_map said (drop (i + 1) parts))
parts_at {X} said parts i part other few is =
    at_drop_more (λ (x : List X). happenings_text (flat_map said x)) parts i other few
    ∙ (flat_map-append happening_text (said (get_or parts i other)) (flat_map said (drop (i + 1) parts))
    ∙ ap (λ (p : X). happenings_text (said p) ++ happenings_text (flat_map said (drop (i + 1) parts))) (sym is))
