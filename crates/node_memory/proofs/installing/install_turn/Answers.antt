use Rattle.std.proofs.Common.{◌≡◌, List, Some, refl, subst, sym}
use Rattle.std.specs.Prelude.{slice_get}
use Rattle.protocol.specs.Node.Common.{ImageView, SavedEnd, saved_counted, saved_pushed}
use Rattle.record.specs.Common.{AreAscending}
use Rattle.record.specs.Laws.Ascent.{ascend_changed}
use Rattle.node_memory.proofs.Installs.{counts_kept}
use Rattle.node_memory.proofs.installing.install_turn.Goals as goal

pub push_sent-requires-clause-takes : goal.push_sent-requires-clause-takes
push_sent-requires-clause-takes c = λ k saved from h.
    (c.requires k saved (subst (λ (image : ImageView). slice_get image.ends k ≡ Some saved) c.image.view_is h)).put

pub count_all-requires : goal.count_all-requires
count_all-requires c = λ k saved h.
    counts_kept _ _ _ _ c.image.inside.ends.items _
    (λ j one
    g. (c.requires j one
    (subst (λ (image : ImageView). slice_get image.ends j ≡ Some one) c.image.view_is g)).received)
    k saved (subst (λ (ends : List SavedEnd). slice_get ends k ≡ Some saved) c.in_ok-push_sent.ensures.ok h)

-- the ends stay those of their channels
pub invariant_of-image-inside-2 : goal.invariant_of-image-inside-2
invariant_of-image-inside-2 c = (
  subst (λ (ends : List SavedEnd). AreAscending ends) (sym c.count_all.ensures)
      (ascend_changed (saved_counted c.args.channels.now c.args.process c.args.taken.now) (λ e. refl) _
      (subst (λ (ends : List SavedEnd). AreAscending ends) (sym c.in_ok-push_sent.ensures.ok)
      (ascend_changed (saved_pushed c.args.channels.now c.args.process c.args.sent.now) (λ e. refl)
      c.image.inside.ends.items c.image.inside.ordered))),
  tt,
)
