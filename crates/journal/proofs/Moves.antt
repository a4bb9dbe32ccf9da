-- Each step keeps the rule.
use Rattle.std.proofs.Common.{◌≡◌, ◌≢◌, ℕ, ◌==◌, List, [], ◌∷◌, ◌++◌, length, set, refl, sym, ap, ◌∙◌, subst}
use Rattle.std.proofs.Common.{⊎_elim, append_assoc, append-nil, arith, zero, suc}
use Rattle.std.proofs.Math.ListN.{length-set}
use Rattle.std.specs.Prelude.{Vec}
use Rattle.std.specs.declared.alloc.Global.{Global}
use mathlib.Core.List.{IsPrefix}
use mathlib.Core.Logic.{∥∥₁_elim, ∥∥₁_map, ∥∥₁_prop}
use mathlib.Core.Option.{some, some-injective, some-ne-none}
use prog.Atomic.{either}
use lib.ListN.{get_elem?}
use Rattle.atomic_table.specs.Table.{Me, Allows, Splits, Joins, keeps, opening}
use Rattle.atomic_table.proofs.Lists.{at_set, at_snoc}
use Rattle.journal.specs.Histories.{Begins}
use Rattle.journal.specs.Rules.{HasRecalled, HasWritten, HoldsOfJournal, KnowsHistory, nothing_seen, reader_of, taken_in, writer_of}
use Rattle.journal.specs.declared.view.View.{View}
use Rattle.replay.specs.Replay.{Happening}
use Rattle.run_log.specs.Lines.{happenings}
use Rattle.run_log.specs.declared.history.Line.{Line}

-- a history begins itself, and what begins a beginning of it
pub begins_itself : {A : Type 0} (whole : List A) → ∥ IsPrefix whole whole ∥₁
begins_itself whole = ∣ ([], append-nil whole) ∣₁

joined : {A : Type 0} (part whole more : List A) → IsPrefix part whole → IsPrefix whole more → IsPrefix part more
joined {A} part whole more (rest, is) (further, goes) =
    (rest ++ further, sym (append_assoc part rest further) ∙ subst (λ (all : List A). all ++ further ≡ more) (sym is) goes)

pub begins_more : {A : Type 0} (part whole more : List A) → ∥ IsPrefix part whole ∥₁ → ∥ IsPrefix whole more ∥₁ → ∥ IsPrefix part more ∥₁
begins_more part whole more part_is whole_is =
    ∥∥₁_elim part_is ∥∥₁_prop (λ is. ∥∥₁_map whole_is (λ goes. joined part whole more is goes))

begun : (all : List Happening) → ∥ IsPrefix [] all ∥₁
begun all = ∣ (all, refl) ∣₁

knows_nothing : (all : List Happening) → KnowsHistory all nothing_seen
knows_nothing all = record { lines = begun all; seen = begun all }

knows_more : (all more : List Happening) (v : View) → ∥ IsPrefix all more ∥₁ → KnowsHistory all v → KnowsHistory more v
knows_more all more v longer k = record {
  lines = begins_more (happenings v.lines) all more k.lines longer;
  seen = begins_more (happenings v.seen) all more k.seen longer;
}

-- the history goes on
pub writes : (slots id : ℕ) (me : Me (Vec Line Global) View) (lines : Vec Line Global) → id ≡ 0 → Begins me.0.lines lines.items
    → Allows HoldsOfJournal slots id me 0 (λ n. either (n == 0) 0 n) (λ _ w. HasWritten (some lines) me.0 w.0)
writes slots id me lines first grows s k _ at _ =
    let v = me.0 in
    let w : View = record v { lines = lines.items } in
    let whole : happenings v.lines ≡ k.all = k.own v (subst (λ (i : ℕ). get_elem? s.views i ≡ some v) first at) in
    let longer : ∥ IsPrefix k.all (happenings lines.items) ∥₁ =
    subst (λ (h : List Happening). ∥ IsPrefix h (happenings lines.items) ∥₁) whole grows in (
      w,
      keeps,
      tt,
      record {
        all = happenings lines.items;
        one_word = length-set s.words 0 _ ∙ k.one_word;
        own = λ u e. ⊎_elim
            (λ (t : (0 ≡ id) × (w ≡ u)). sym (ap (λ (z : View). happenings z.lines) t.1))
            (λ (t : (0 ≢ id) × (get_elem? s.views 0 ≡ some u)). absurd (t.0 (sym first)))
            (at_set s.views id 0 w u e);
        views = λ j u e. ⊎_elim
            (λ (t : (j ≡ id) × (w ≡ u)). subst (λ z. KnowsHistory (happenings lines.items) z) t.1 (record {
              lines = begins_itself (happenings lines.items);
              seen = begins_more (happenings v.seen) k.all (happenings lines.items) (k.views id v at).seen longer;
            }))
            (λ (t : (j ≢ id) × (get_elem? s.views j ≡ some u)). knows_more k.all (happenings lines.items) u longer
            (k.views j u t.1))
            (at_set s.views id j w u e);
      },
      refl,
    )

-- what was taken in is found to begin the history
pub recalls : (slots id : ℕ) (me : Me (Vec Line Global) View) → id ≡ 0
    → Allows HoldsOfJournal slots id me 0 (λ n. n) (λ _ w. HasRecalled me.0 w.0)
recalls slots id me first s k _ at _ =
    let v = me.0 in
    let whole : happenings v.lines ≡ k.all = k.own v (subst (λ (i : ℕ). get_elem? s.views i ≡ some v) first at) in (
      v,
      keeps,
      tt,
      record {
        all = k.all;
        one_word = length-set s.words 0 _ ∙ k.one_word;
        own = λ u e. ⊎_elim
            (λ (t : (0 ≡ id) × (v ≡ u)). sym (ap (λ (z : View). happenings z.lines) t.1) ∙ whole)
            (λ (t : (0 ≢ id) × (get_elem? s.views 0 ≡ some u)). k.own u t.1)
            (at_set s.views id 0 v u e);
        views = λ j u e. ⊎_elim
            (λ (t : (j ≡ id) × (v ≡ u)). subst (λ z. KnowsHistory k.all z) t.1 (k.views id v at))
            (λ (t : (j ≢ id) × (get_elem? s.views j ≡ some u)). k.views j u t.1)
            (at_set s.views id j v u e);
      },
      record {
        same = refl;
        begins = subst (λ (h : List Happening). ∥ IsPrefix (happenings v.seen) h ∥₁) (sym whole) (k.views id v at).seen;
      },
    )

-- the journal's seat makes another one
pub deals : (id : ℕ) (v : View) → id ≡ 0
    → Splits {S = Vec Line Global} HoldsOfJournal id v (writer_of v) (reader_of v)
deals id v first s k at =
    let whole : happenings v.lines ≡ k.all = k.own v (subst (λ (i : ℕ). get_elem? s.views i ≡ some v) first at) in
    let vs = set s.views id v in record {
      all = k.all;
      one_word = k.one_word;
      own = λ u e. ⊎_elim
          (λ there. ⊎_elim
          (λ (t : (0 ≡ id) × (v ≡ u)). sym (ap (λ (z : View). happenings z.lines) t.1) ∙ whole)
          (λ (t : (0 ≢ id) × (get_elem? s.views 0 ≡ some u)). k.own u t.1)
          (at_set s.views id 0 v u there))
          (λ new. sym (ap (λ (z : View). happenings z.lines) new) ∙ whole)
          (at_snoc vs (reader_of v) u 0 e);
      views = λ j u e. ⊎_elim
          (λ there. ⊎_elim
          (λ (t : (j ≡ id) × (v ≡ u)). subst (λ z. KnowsHistory k.all z) t.1 (k.views id v at))
          (λ (t : (j ≢ id) × (get_elem? s.views j ≡ some u)). k.views j u t.1)
          (at_set s.views id j v u there))
          (λ new. subst (λ z. KnowsHistory k.all z) new (record { lines = (k.views id v at).lines; seen = begun k.all }))
          (at_snoc vs (reader_of v) u j e);
    }

-- the journal's seat takes in another one
pub joins : (id : ℕ) (v : View) (other : ℕ) (w : View) → id ≡ 0
    → Joins {S = Vec Line Global} HoldsOfJournal id v other w (taken_in v w) nothing_seen
joins id v other w first s k at apart theirs =
    let both = taken_in v w in
    let whole : happenings v.lines ≡ k.all = k.own v (subst (λ (i : ℕ). get_elem? s.views i ≡ some v) first at) in
    let known : ∥ IsPrefix (happenings w.lines) k.all ∥₁ = ⊎_elim
    (λ (t : (other ≡ id) × (both ≡ w)). absurd (apart t.0))
    (λ (t : (other ≢ id) × (get_elem? s.views other ≡ some w)). (k.views other w t.1).lines)
    (at_set s.views id other both w theirs) in
    let vs = set s.views id both in record {
      all = k.all;
      one_word = k.one_word;
      own = λ u e. ⊎_elim
          (λ (t : (0 ≡ other) × (nothing_seen ≡ u)). absurd (apart (sym t.0 ∙ sym first)))
          (λ (r : (0 ≢ other) × (get_elem? vs 0 ≡ some u)). ⊎_elim
          (λ (t : (0 ≡ id) × (both ≡ u)). sym (ap (λ (z : View). happenings z.lines) t.1) ∙ whole)
          (λ (t : (0 ≢ id) × (get_elem? s.views 0 ≡ some u)). k.own u t.1)
          (at_set s.views id 0 both u r.1))
          (at_set vs other 0 nothing_seen u e);
      views = λ j u e. ⊎_elim
          (λ (t : (j ≡ other) × (nothing_seen ≡ u)). subst (λ z. KnowsHistory k.all z) t.1 (knows_nothing k.all))
          (λ (r : (j ≢ other) × (get_elem? vs j ≡ some u)). ⊎_elim
          (λ (t : (j ≡ id) × (both ≡ u)). subst (λ z. KnowsHistory k.all z) t.1
          (record { lines = (k.views id v at).lines; seen = known }))
          (λ (t : (j ≢ id) × (get_elem? s.views j ≡ some u)). k.views j u t.1)
          (at_set s.views id j both u r.1))
          (at_set vs other j nothing_seen u e);
    }

-- the journal at first
pub opens : (words : List ℕ) → length words ≡ 1 → HoldsOfJournal (opening words [] nothing_seen)
opens words one = record {
  all = [];
  one_word = one;
  own = λ u e. sym (ap (λ (z : View). happenings z.lines) (some-injective nothing_seen u e));
  views = here;
}
  where
    here : (place : ℕ) (view : View) → get_elem? (nothing_seen ∷ []) place ≡ some view → KnowsHistory [] view
    here zero view e = subst (λ z. KnowsHistory [] z) (some-injective nothing_seen view e) (knows_nothing [])
    here (suc place) view e = absurd (some-ne-none view (sym e))

-- the view of a reader
pub one_view : (views : List View) → length views ≡ 1 → (view : View) × (views ≡ view ∷ [])
one_view [] one = absurd (omega (arith, one))
one_view (view ∷ []) one = (view, refl)
one_view (view ∷ more ∷ others) one = absurd (omega (arith, one))
