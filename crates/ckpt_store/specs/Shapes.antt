-- When two images are of the same processes and channels.
use Rattle.std.specs.Prelude.{◌≡◌, ℕ, List, length, map}
use Rattle.ckpt_codec.specs.Common.{SavedProcessView, ImageView, SavedEnd}
use Rattle.ckpt_codec.specs.RecordText.{variables_of, role_of}

abbrev pub process_numbers : List SavedProcessView → List ℕ
process_numbers processes = map (λ (p : SavedProcessView). p.number) processes

abbrev pub variable_counts : List SavedProcessView → List ℕ
variable_counts processes = map (λ (p : SavedProcessView). length (variables_of p.standing)) processes

abbrev pub channel_numbers : List SavedEnd → List ℕ
channel_numbers ends = map (λ (e : SavedEnd). e.channel) ends

abbrev pub roles : List SavedEnd → List ℕ
roles ends = map (λ (e : SavedEnd). role_of e.end) ends

-- the same processes with as many variables, and the same ends of channels with the same roles
pub record HasShapeOf (permanent image : ImageView) : Type 0 where
  pub numbers : process_numbers image.processes ≡ process_numbers permanent.processes
  pub variables : variable_counts image.processes ≡ variable_counts permanent.processes
  pub channels : channel_numbers image.ends ≡ channel_numbers permanent.ends
  pub roles : roles image.ends ≡ roles permanent.ends
