-- For which changes a record itself gives cause to refuse, and with which refusal: the first that applies.
use Rattle.std.specs.Prelude.{◌≡◌, ℕ, ◌==◌, nat_le, nat_lt, not, ◌&&◌, Bool, true, false, if◌then◌else◌, List, length}
use Rattle.std.specs.Prelude.{Option, Some, None, Result, Err, IfErr}
use Rattle.std.specs.List.{list_any}
use Rattle.ckpt_codec.specs.Common.{MAX_COUNT, DecisionView, RecordView, decided_by, highest_seen, MAX_DECISIONS}
use Rattle.ckpt_codec.specs.Common.{Tentative}
use Rattle.ckpt_store.specs.StoreFault.{IsOfPut}
use Rattle.ckpt_store.specs.declared.fault.StoreFault.{StoreFault}
use Rattle.ckpt_store.specs.declared.fault.StoreFault.TheVariants.{Reopen, HoldsOther, PastNumber, NotHeld, Unsettled}
use Rattle.ckpt_store.specs.declared.fault.StoreFault.TheVariants.{Spent}

-- exactly this instance is held
abbrev pub is_held : ℕ → ℕ → Option Tentative → Bool
is_held initiator number None = false
is_held initiator number (Some held) = (held.initiator == initiator) && (held.number == number)

-- another instance is held
abbrev pub is_other_held : ℕ → ℕ → Option Tentative → Bool
is_other_held initiator number None = false
is_other_held initiator number (Some held) = not (is_held initiator number (Some held))

-- as many decisions are unsettled as a record has place for
abbrev pub is_full : List DecisionView → Bool
is_full decisions = nat_le MAX_DECISIONS (length decisions)

-- 40 where another instance is held, 41 where the number is at most the highest seen of its initiator, 43 for an
-- instance of the node's own while `MAX_DECISIONS` decisions are unsettled, 44 where the number is no count
abbrev pub refusal_to_take : ℕ → ℕ → RecordView → Option StoreFault
refusal_to_take initiator number kept =
    if is_other_held initiator number kept.tentative then Some HoldsOther
    else (if nat_le number (highest_seen initiator kept) then Some PastNumber
    else (if (initiator == kept.node) && is_full kept.decisions then Some Unsettled
    else (if nat_lt MAX_COUNT number then Some Spent else None)))

-- 42 unless exactly this instance is held
abbrev pub refusal_unless_held : ℕ → ℕ → RecordView → Option StoreFault
refusal_unless_held initiator number kept = if is_held initiator number kept.tentative then None else Some NotHeld

-- 42 unless exactly this instance of the node's own is held, 43 where the record has no place for its decision
abbrev pub refusal_to_decide : ℕ → List ℕ → RecordView → Option StoreFault
refusal_to_decide number participants kept =
    if is_held kept.node number kept.tentative
    then (if nat_le (length (decided_by number participants kept.decisions)) MAX_DECISIONS then None
    else Some Unsettled)
    else Some NotHeld

-- 44 where there is no next epoch
abbrev pub refusal_to_raise : RecordView → Option StoreFault
refusal_to_raise kept = if nat_lt kept.epoch MAX_COUNT then None else Some Spent

-- nothing is refused
abbrev pub no_refusal : RecordView → Option StoreFault
no_refusal kept = None

-- this decision is of the number and names the node
abbrev pub names : ℕ → ℕ → DecisionView → Bool
names number node decision = (decision.number == number) && list_any (λ p. p == node) decision.participants

-- a decision of this number names this node
abbrev pub is_named_by : ℕ → ℕ → List DecisionView → Bool
is_named_by number node decisions = list_any (names number node) decisions

-- a confirmation of this decision by this node is to be put, or refused because no record is known
abbrev pub has_effect : ℕ → ℕ → Option RecordView → Bool
has_effect number node None = true
has_effect number node (Some kept) = is_named_by number node kept.decisions

-- the refusal for which there is cause before anything is put: 23 where no record is known, and else the record's
abbrev pub first_refusal : (RecordView → Option StoreFault) → Option RecordView → Option StoreFault
first_refusal cause None = Some Reopen
first_refusal cause (Some kept) = cause kept

-- this refusal is answered, and where there is cause for none only those that come by a put
abbrev pub ComesFirst : {T : Type 0} → Option StoreFault → Result T StoreFault → Type 0
ComesFirst (Some fault) result = result ≡ Err fault
ComesFirst None result = IfErr result IsOfPut
