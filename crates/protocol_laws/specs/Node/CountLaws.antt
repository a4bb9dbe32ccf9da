-- Laws of counts that are within what there is, by the kind of end.
use Rattle.std.proofs.Common.{◌≡◌, ℕ, ◌≤◌, List, ℤ, length, Some, subst, arith}
use Rattle.std.specs.Prelude.{slice_get}
use Rattle.protocol.specs.Node.Common.{history_of, Network, Channel, Port, Outside, Process, LogState, IsInLog}
use Rattle.protocol.specs.Node.Common.{log_end, End, Receives, Sends, Both, CountIsWithin, MAX_COUNT}
use Rattle.protocol.specs.declared.limits.TheConstants.{MAX_JOB_ITEMS}

-- As far as the count of an end can go, whose items come from there: to the end of the input, to the greatest count
-- where they come from another node, or to the end of the log of a channel that stays on the node. An end that only
-- puts counts nothing.
abbrev pub count_limit : List (List ℤ) → ℕ → Port → End → ℕ
count_limit inputs c Outside (Receives received) = length (history_of inputs c)
count_limit inputs c (Process q) (Receives received) = MAX_COUNT
count_limit inputs c producer (Sends log) = MAX_JOB_ITEMS
count_limit inputs c producer (Both received log) = log_end log

module _ (net : Network) (inputs : List (List ℤ)) (c : ℕ) where
  pub receives_within : (received : ℕ)
      → ((channel : Channel) → slice_get net.channels c ≡ Some channel
      → received ≤ count_limit inputs c channel.producer (Receives received))
      → CountIsWithin net inputs c (Receives received)
  receives_within received few = record {
    of_input = λ channel r on from is. (
        let same : received ≡ r = cc in
        let within : received ≤ count_limit inputs c Outside (Receives received) =
        subst (λ (port : Port). received ≤ count_limit inputs c port (Receives received)) from (few channel on) in
        omega (arith, within, same));
    of_link = λ channel q r on from is. (
        let same : received ≡ r = cc in
        let within : received ≤ count_limit inputs c (Process q) (Receives received) =
        subst (λ (port : Port). received ≤ count_limit inputs c port (Receives received)) from (few channel on) in
        omega (arith, within, same));
    in_log = λ r log is. absurd (cc);
  }

  pub sends_within : (log : LogState) → CountIsWithin net inputs c (Sends log)
  sends_within log =
      record {
        of_input = λ channel r on from is. absurd (cc);
        of_link =
            λ channel q r on from is. absurd (cc);
        in_log = λ r l is. absurd (cc);
      }

  pub both_within : (received : ℕ) (log : LogState) → IsInLog log received
      → CountIsWithin net inputs c (Both received log)
  both_within received log within = record {
    of_input = λ channel r on from is. absurd (cc);
    of_link = λ channel q r on from is. absurd (cc);
    in_log =
        λ r l is. (let count : received ≡ r = cc in let same : log ≡ l = cc in
        subst (λ (x : LogState). IsInLog x r) same (subst (IsInLog log) count within));
  }
