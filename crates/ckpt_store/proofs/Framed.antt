-- An image that is spelled where it is to stand in its frame.
use Rattle.std.proofs.Common.{◌≡◌, ◌≤◌, ℕ, List, length, drop, sym, ◌∙◌, ap, subst}
use Rattle.gate_cell.specs.declared.TheConstants.{MAX_VALUE_BYTES}
use Rattle.gate_cell.specs.declared.frame.TheConstants.{LENGTH_BYTES}
use Rattle.gate_cell.specs.Layout.{IsFront, IsBegun, IsFrame}
use Rattle.gate_cell.proofs.Ending.{begun_with, value_behind}
use Rattle.ckpt_codec.specs.Common.{ImageView, IsImageAdded, IsImageText, image_length}
use Rattle.ckpt_store.specs.Putting.{IsImageFramed}

module _ (image : ImageView) (long : ℕ) (front begun : List ℕ) (long_is : long ≡ image_length image)
    (is_front : IsFront long front) (added : IsImageAdded image front begun) where
  front_of : IsFront (length added.bytes) front
  front_of = subst (λ n. IsFront n front) (long_is ∙ sym added.long) is_front

  pub is_begun : image_length image ≤ MAX_VALUE_BYTES → IsBegun begun
  is_begun few =
      begun_with front added.bytes begun front_of added.behind (subst (λ n. n ≤ MAX_VALUE_BYTES) (sym added.long) few)

  pub is_image_framed : (ended : List ℕ) → IsFrame (drop LENGTH_BYTES begun) ended → IsImageFramed image ended
  is_image_framed ended is =
      let frame : IsFrame added.bytes ended =
      subst (λ (v : List ℕ). IsFrame v ended) (value_behind front added.bytes begun front_of added.behind) is in
      record {
        is_frame = subst (λ (v : List ℕ). IsFrame v ended) (sym frame.holds) frame;
        text = λ like allowed. subst (IsImageText like image) (sym frame.holds) (added.text like allowed);
        long = ap (length {A = ℕ}) frame.holds ∙ added.long;
      }
