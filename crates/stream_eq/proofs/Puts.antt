-- What puts leave within limits, and what goes past them.
use Rattle.std.proofs.Common.{◌⊎◌, inl, inr, ℕ, ◌<◌, ◌≤◌, List, ℤ, [], length, ap, arith, length-append}
use Rattle.std.specs.Prelude.{slice_index}
use Rattle.std.proofs.lemmas.Bool.{cases_lt}
use Rattle.std.proofs.lemmas.List.{get_or_past}
use Rattle.kahn_net.specs.Common.{history_of, Step, sent_on, put_after}
use Rattle.kahn_net.specs.Laws.Puts.{put_after-at}
use Rattle.stream_eq.specs.Limits.{GoesPast}

-- what is past stays past, whatever is put later
pub past_more : (limits : List ℕ) (steps : List Step) (histories : List (List ℤ)) → GoesPast limits histories
    → GoesPast limits (put_after steps histories)
past_more limits steps histories p = record { channel = p.channel; past = at (cases_lt p.channel (length histories)) }
  where
    at : (p.channel < length histories) ⊎ (length histories ≤ p.channel)
        → slice_index limits p.channel < length (history_of (put_after steps histories) p.channel)
    at (inl l) =
        let e = put_after-at steps histories p.channel l in
        let n = length-append (history_of histories p.channel) (sent_on p.channel steps) in
        let h = p.past in
        omega (arith, ap (length {A = ℤ}) e)
    at (inr l) = let none = get_or_past histories p.channel [] l in let h = p.past in
        absurd (omega (arith, ap (length {A = ℤ}) none))
