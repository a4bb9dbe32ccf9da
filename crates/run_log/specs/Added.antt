-- A history to which an event is put.
use Rattle.std.specs.Prelude.{◌≡◌, ◌+◌, ℕ, Bool, true, List, [], ◌∷◌, ◌++◌, sum_by}
use Rattle.std.specs.List.{flat_map}
use Rattle.protocol.specs.World.Common.{ReplyView}
use Rattle.replay.specs.Armed.{ArmedEvent}
use Rattle.replay.specs.Replay.{Happening, IsKeptOf, KeptEventView, Made}
use Rattle.replay.specs.Replies.{kept_reply}
use Rattle.replay.specs.declared.kept.Maker.{Maker}
use Rattle.replay.specs.declared.kept.Maker.TheVariants.{Node}
use Rattle.run_log.specs.Counts.{events_in, no_mores_in, not_yets_in, nothings_in, numbers_in, times_of}
use Rattle.run_log.specs.Lines.{happenings, happenings_of, kept_view, left_event, left_reply, usual_made, usually}
use Rattle.run_log.specs.Numbers.{counted}
use Rattle.run_log.specs.declared.history.Entry.{Entry}
use Rattle.run_log.specs.declared.history.Line.{Line}
use Rattle.run_log.specs.declared.history.Usual.{Usual}
use Rattle.run_log.specs.declared.seat_count.Counted.TheVariants.{Entry as AnEvent}

-- what an entry says that happened
abbrev pub made_of : Entry → Happening
made_of entry = Made entry.maker (kept_view entry.event) entry.reply

-- it says this once, and no more
pub record IsOnce (entry : Entry) (line : Line) : Type 0 where
  pub happened : happenings_of line ≡ made_of entry ∷ []
  pub events : events_in line ≡ 1
  pub nothings : nothings_in line ≡ 0
  pub not_yets : not_yets_in line ≡ 0
  pub no_mores : no_mores_in line ≡ 0

-- the line says this once more than before, behind the rest
pub record IsCountedIn (entry : Entry) (before now : Line) : Type 0 where
  pub happened : happenings_of now ≡ happenings_of before ++ made_of entry ∷ []
  pub events : events_in now ≡ events_in before + 1
  pub nothings : nothings_in now ≡ nothings_in before
  pub not_yets : not_yets_in now ≡ not_yets_in before
  pub no_mores : no_mores_in now ≡ no_mores_in before

-- in this event of a node an item left by an output, with this number
abbrev pub IsLeft : Entry → ℕ → ℕ → ℕ → Type 0
IsLeft entry node output number = made_of entry ≡ Made (Node node) (left_event node) (left_reply output number)

-- among usual events this one stands once more, behind the others
pub record IsCountedAmong (row : Usual) (before now : List Usual) : Type 0 where
  pub happened : flat_map usually now ≡ flat_map usually before ++ usual_made row.node row.event ∷ []
  pub events : sum_by times_of now ≡ sum_by times_of before + 1

-- what an entry says was put behind all that happened before, and was counted
pub record IsPut (entry : Entry) (before now : List Line) : Type 0 where
  pub happened : happenings now ≡ happenings before ++ made_of entry ∷ []
  pub counts : (stops : ℕ) → numbers_in now stops ≡ counted AnEvent (numbers_in before stops)

-- an event of this maker was, with this answer, where what happens is written
pub record IsAdded (keeps : Bool) (maker : Maker) (event : ArmedEvent) (answer : ReplyView) (before now : List Line) : Type 0 where
  pub kept : KeptEventView
  pub is_kept : IsKeptOf kept event
  pub happened : keeps ≡ true → happenings now ≡ happenings before ++ Made maker kept (kept_reply answer) ∷ []
  pub counts : keeps ≡ true → (stops : ℕ) → numbers_in now stops ≡ counted AnEvent (numbers_in before stops)
