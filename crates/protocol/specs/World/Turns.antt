-- What turn-taking remembers of a node's round.
use Rattle.std.specs.Prelude.{◌==◌, ℕ, ◌+◌, nat_lt, Bool, true, false, if◌then◌else◌}
use Rattle.protocol.specs.declared.round_turns.RoundTurns.{RoundTurns}
use Rattle.protocol.specs.declared.limits.TheConstants.{MAX_GRANTS}

-- nothing yet in this round
abbrev pub no_turns : ℕ → RoundTurns
no_turns round =
    record { round = round; granted = 0; started = false; sent = false; sent_holding = false; idled = false }

-- what is remembered of a node in this round: nothing, where what is remembered is of another one
abbrev pub turns_of : ℕ → RoundTurns → RoundTurns
turns_of round turns = if turns.round == round then turns else no_turns round

-- what is remembered of a node's round, with one more job granted; 64 jobs at most are counted
abbrev pub count_grant : RoundTurns → RoundTurns
count_grant turns =
    record {
      round = turns.round;
      granted =
          if nat_lt turns.granted MAX_GRANTS then turns.granted + 1 else turns.granted;
      started = turns.started;
      sent =
          turns.sent;
      sent_holding = turns.sent_holding;
      idled = turns.idled;
    }

-- what is remembered of a node's round, with a checkpoint begun
abbrev pub count_start : RoundTurns → RoundTurns
count_start turns =
    record {
      round = turns.round;
      granted = turns.granted;
      started = true;
      sent = turns.sent;
      sent_holding =
          turns.sent_holding;
      idled = turns.idled;
    }

-- what is remembered of a node's round, with its packets sent, and whether it held an image then
abbrev pub count_send : Bool → RoundTurns → RoundTurns
count_send holding turns =
    record {
      round = turns.round;
      granted = turns.granted;
      started = turns.started;
      sent = true;
      sent_holding =
          holding;
      idled = turns.idled;
    }

-- what is remembered of a node's round, with its turn let pass
abbrev pub count_idle : RoundTurns → RoundTurns
count_idle turns =
    record {
      round = turns.round;
      granted = turns.granted;
      started = turns.started;
      sent = turns.sent;
      sent_holding =
          turns.sent_holding;
      idled = true;
    }
