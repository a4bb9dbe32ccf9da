-- What an image needs of other nodes.
use Rattle.std.specs.Prelude.{ℕ, zero, suc, nat_lt, Bool, true, false, ◌&&◌, List, [], ◌∷◌, length, map, Option, Some}
use Rattle.std.specs.Prelude.{None}
use Rattle.datagram.specs.declared.packet.Need.{Need}
use Rattle.ckpt_codec.specs.Common.{Network, received_of, ImageView, Tentative}
use Rattle.recovery_line.specs.Nodes.{Awaited}
use Rattle.protocol.specs.Node.Layout.{is_incoming, numbers_where}
use Rattle.protocol.specs.Node.LiveView.{QuestionView}

-- An image needs what it received of a channel from another node, where the permanent one received less: that node has
-- to have put it for good.
abbrev pub is_needed : Network → ℕ → ImageView → ImageView → ℕ → Bool
is_needed net home permanent image c =
    is_incoming net home c && nat_lt (received_of permanent c) (received_of image c)

abbrev pub need_on : ImageView → ℕ → Need
need_on image c = record { channel = c; count = received_of image c }

-- the needs of an image, by ascending channel: of each channel from another node of which it received more than the
-- permanent image did, how many
abbrev pub needs_of : Network → ℕ → ImageView → ImageView → List Need
needs_of net home permanent image =
    map (need_on image) (numbers_where (is_needed net home permanent image) 0 (length net.channels))

-- those of the image that is held, if one is
abbrev pub held_needs : Network → ℕ → ImageView → Option Tentative → List Need
held_needs net home permanent None = []
held_needs net home permanent (Some held) = needs_of net home permanent held.image

-- what a function gives of so many numbers from a first one on
abbrev pub each_from : {A : Type 0} → (ℕ → A) → ℕ → ℕ → List A
each_from value first zero = []
each_from value first (suc count) = value first ∷ each_from value (suc first) count

abbrev pub question_if : Bool → ℕ → Option QuestionView
question_if false count = None
question_if true count = Some (record { count = count; answer = Awaited })

abbrev pub question_on : Network → ℕ → ImageView → ImageView → ℕ → Option QuestionView
question_on net home permanent image c = question_if (is_needed net home permanent image c) (received_of image c)

-- the questions that its needs make, at the place of each channel
abbrev pub questions_of : Network → ℕ → ImageView → ImageView → List (Option QuestionView)
questions_of net home permanent image = each_from (question_on net home permanent image) 0 (length net.channels)
