-- What comes out of the window of an inbox in turn.
use Rattle.std.specs.Prelude.{ℕ, ◌-◌, ◌&&◌, nat_lt, min, Bool, ℤ, List, length, take, Option}
use Rattle.ckpt_codec.specs.Common.{MAX_COUNT, LogState}
use Rattle.retained.specs.LogState.{log_end}
use Rattle.record.specs.Changes.{log_with}
use Rattle.window_link.specs.Windows.{popped_times, ready_items}
use Rattle.protocol.specs.declared.links.Inbox.{Inbox}
use Rattle.protocol.specs.declared.limits.TheConstants.{MAX_INBOX_ITEMS}

-- an inbox has a place for one item more
abbrev pub has_place : LogState → Bool
has_place log = nat_lt (length log.items) MAX_INBOX_ITEMS && nat_lt (log_end log) MAX_COUNT

-- for how many it has one
abbrev pub places_left : LogState → ℕ
places_left log = min (MAX_INBOX_ITEMS - length log.items) (MAX_COUNT - log_end log)

-- what comes out of a window that holds this: what lies ready, as far as there are places
abbrev pub items_out : LogState → List (Option ℤ) → List ℤ
items_out log held = take (places_left log) (ready_items held)

-- an inbox after its window was popped while there was a place
abbrev pub popping : Inbox → Inbox
popping inbox =
    record {
      channel = inbox.channel;
      window = popped_times (length (items_out inbox.log inbox.window.held)) inbox.window;
      log = log_with (items_out inbox.log inbox.window.held) inbox.log;
      undone = inbox.undone;
    }
