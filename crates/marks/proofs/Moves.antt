-- Each step keeps the rule.
use Rattle.std.proofs.Common.{◌≡◌, ◌≢◌, ℕ, ◌+◌, ◌<◌, ◌≤◌, ◌⊎◌, cond, eqb, eq-eqb, ne_eqb, List, [], ◌∷◌, ◌++◌, map}
use Rattle.std.proofs.Common.{length, get_or, set, max, refl, sym, ap, ◌∙◌, subst, inl, inr, ⊎_elim, append_assoc}
use Rattle.std.proofs.Common.{append-nil, arith, zero, suc, replicate, get_or-set_same, get_or-set_other, true≢false}
use Rattle.std.specs.Prelude.{Option, Some, None, is_some, IsSome, slice_set}
use Rattle.std.specs.List.{Contains}
use Rattle.std.proofs.Math.ListN.{length-set}
use Rattle.std.proofs.lemmas.List.{length-append, length-replicate, length-map, set-get_or}
use mathlib.Core.Option.{some, some-injective, some-ne-none}
use mathlib.Core.Logic.{dite}
use native.Mathlib.Decide.{ℕ_discrete, dec_le}
use lib.ListN.{get_elem?}
use Rattle.atomic_table.specs.Table.{Me, Allows, Enters, Splits, keeps, opening}
use Rattle.atomic_table.proofs.Lists.{at_set, set_here}
use Rattle.marks.specs.declared.view.View.{View}
use Rattle.marks.specs.Owners.{owner_at, IsOutputOf}
use Rattle.marks.specs.Known.{greatest, BeginsWith, known_of, HasRaised, HasRead}
use Rattle.marks.specs.Rules.{KnowsRaises, AreSeated, HoldsOfMarks, first_view, dealer, dealt}

-- numbers of nodes, and none
no_node : (node : ℕ) → None ≢ Some node
no_node node same = true≢false (sym (ap is_some same))

abbrev number_or_0 : Option ℕ → ℕ
number_or_0 None = 0
number_or_0 (Some node) = node

same_node : (node other : ℕ) → Some node ≡ Some other → node ≡ other
same_node node other same = ap number_or_0 same

some_node : (node : Option ℕ) → IsSome node → (number : ℕ) × (node ≡ Some number)
some_node None is = absurd (true≢false (sym is))
some_node (Some number) is = (number, refl)

-- what has an owner is a channel
pub owned_inside : (owners : List (Option ℕ)) (channel node : ℕ) → owner_at owners channel ≡ Some node
    → channel < length owners
owned_inside [] channel node own = absurd (no_node node own)
owned_inside (owner ∷ owners) zero node own = omega arith
owned_inside (owner ∷ owners) (suc channel) node own = let inside = owned_inside owners channel node own in omega arith

pub output_inside : (owners : List (Option ℕ)) (node : Option ℕ) (channel : ℕ) → IsOutputOf owners node channel
    → channel < length owners
output_inside owners node channel (some_one, own) =
    let number = some_node node some_one in owned_inside owners channel number.0 (own ∙ number.1)

-- the greatest of a list
greatest-append : (numbers more : List ℕ) → greatest (numbers ++ more) ≡ max (greatest numbers) (greatest more)
greatest-append [] more = omega arith
greatest-append (number ∷ numbers) more = let rest = greatest-append numbers more in omega arith

pub greatest_rises : (whole part : List ℕ) → BeginsWith whole part → greatest part ≤ greatest whole
greatest_rises whole part (rest, is) =
    let both = greatest-append part rest in
    let same : greatest whole ≡ greatest (part ++ rest) = ap greatest is in
    omega arith

pub greatest_is_in : (numbers : List ℕ) → (greatest numbers ≡ 0) ⊎ Contains numbers (greatest numbers)
greatest_is_in [] = inl refl
greatest_is_in (number ∷ numbers) = dite (dec_le number (greatest numbers))
    (λ less. let is : max number (greatest numbers) ≡ greatest numbers = omega arith in
    subst (λ (n : ℕ). (n ≡ 0) ⊎ Contains (number ∷ numbers) n) (sym is)
    (⊎_elim (λ e. inl e) (λ t. inr (suc t.0, (let inside = t.1 in omega arith), t.2)) (greatest_is_in numbers)))
    (λ more. let is : max number (greatest numbers) ≡ number = omega arith in
    subst (λ (n : ℕ). (n ≡ 0) ⊎ Contains (number ∷ numbers) n) (sym is) (inr (0, omega arith, refl)))

-- a list at one place, after a change there or at another
at_same : (d c : ℕ) (P : List ℕ → Type 0) (x y : List ℕ) → (d ≡ c → P x) → (d ≢ c → P y) → P (cond (eqb d c) x y)
at_same d c P x y hit miss =
    dite (ℕ_discrete d c) (λ e. subst (λ b. P (cond b x y)) (sym (eq-eqb d c e)) (hit e))
    (λ ne. subst (λ b. P (cond b x y)) (sym (ne_eqb d c ne)) (miss ne))

-- the seat that knows these numbers of the channel
abbrev pub with_known : View → ℕ → List ℕ → View
with_known view channel numbers = record view { known = slice_set view.known channel numbers }

-- the seats, once one of them has another view of the same node that dealt as many
back : (views : List View) (id : ℕ) (v w : View) → get_elem? views id ≡ some v → w.node ≡ v.node → w.dealt ≡ v.dealt
    → (j : ℕ) (u : View) → get_elem? (set views id w) j ≡ some u
    → (x : View) × (get_elem? views j ≡ some x) × (u.node ≡ x.node) × (u.dealt ≡ x.dealt)
back views id v w at node dealt j u e = ⊎_elim
    (λ (t : (j ≡ id)
    × (w ≡ u)). (
      v,
      subst (λ k. get_elem? views k ≡ some v) (sym t.0) at,
      sym (ap (λ (z : View). z.node) t.1)
          ∙ node,
      sym (ap (λ (z : View). z.dealt) t.1) ∙ dealt,
    ))
    (λ (t : (j ≢ id) × (get_elem? views j ≡ some u)). (u, t.1, refl, refl))
    (at_set views id j w u e)

seated_set : (owners : List (Option ℕ)) (raised raised' : ℕ → List ℕ) (views : List View) (id : ℕ) (v w : View)
    → get_elem? views id ≡ some v → w.node ≡ v.node → w.dealt ≡ v.dealt
    → ((x : View) (c k : ℕ) → get_elem? views 0 ≡ some x → owner_at owners c ≡ Some k → x.dealt ≤ k
    → raised' c ≡ raised c)
    → AreSeated owners raised views → AreSeated owners raised' (set views id w)
seated_set owners raised raised' views id v w at node dealt same s =
    let from = back views id v w at node dealt in record {
      some_seat = (let l = length-set views id w in let h = s.some_seat in omega arith);
      driver = λ x e. let b = from 0 x e in b.2 ∙ s.driver b.0 b.1;
      later = λ x y j e f ne. let b = from 0 x e in let d = from j y f in ⊎_elim
          (λ (none : d.0.node ≡ None). inl (d.2 ∙ none))
          (λ (l : (m : ℕ) × (d.0.node ≡ Some m) × (m < b.0.dealt)). let q = b.3 in let less = l.2 in
          inr (l.0, d.2 ∙ l.1, omega arith))
          (s.later b.0 d.0 j b.1 d.1 ne);
      apart = λ i j x y e f m n o. let b = from i x e in let d = from j y f in
          s.apart i j b.0 d.0 b.1 d.1 m (sym b.2 ∙ n) (sym d.2 ∙ o);
      not_dealt = λ x c k e own le. let b = from 0 x e in let q = b.3 in let le' : b.0.dealt ≤ k = omega arith in
          same b.0 c k b.1 own le' ∙ s.not_dealt b.0 c k b.1 own le';
    }

-- a seat, once it knows all that was raised for one channel
knows_all : (owners : List (Option ℕ)) (raised raised' : ℕ → List ℕ) (v : View) (c : ℕ) → c < length owners
    → ((d : ℕ) → d ≢ c → raised' d ≡ raised d) → KnowsRaises owners raised v
    → KnowsRaises owners raised' (with_known v c (raised' c))
knows_all owners raised raised' v c lt same f =
    let inside : c < length v.known = let o = f.channels in omega arith in
    let at : known_of (with_known v c (raised' c)) c ≡ raised' c = get_or-set_same v.known c (raised' c) [] inside in
    let off : (d : ℕ) → d ≢ c → known_of (with_known v c (raised' c)) d ≡ known_of v d =
    λ d ne. get_or-set_other v.known c d (raised' c) [] ne in record {
      channels = length-set v.known c (raised' c) ∙ f.channels;
      begins = λ d ld. dite (ℕ_discrete d c)
          (λ e. subst (λ (k : ℕ). BeginsWith (raised' k) (known_of (with_known v c (raised' c)) k)) (sym e)
          ([], whole_at c at))
          (λ ne. let b = f.begins d ld in (b.0, same d ne ∙ (b.1 ∙ ap (λ z. z ++ b.0) (sym (off d ne)))));
      whole = λ d k own mine. dite (ℕ_discrete d c)
          (λ e. subst (λ (z : ℕ). known_of (with_known v c (raised' c)) z ≡ raised' z) (sym e) at)
          (λ ne. off d ne ∙ (f.whole d k own mine ∙ sym (same d ne)));
    }
  where
    whole_at : (k : ℕ) → known_of (with_known v c (raised' c)) k ≡ raised' k
        → raised' k ≡ known_of (with_known v c (raised' c)) k ++ []
    whole_at k e = sym (append-nil _ ∙ e)

-- the seat of another node, where more was raised for a channel
knows_less : (owners : List (Option ℕ)) (raised raised' : ℕ → List ℕ) (v : View) (c : ℕ)
    → ((d : ℕ) → d ≢ c → raised' d ≡ raised d) → BeginsWith (raised' c) (raised c)
    → ((k : ℕ) → owner_at owners c ≡ Some k → v.node ≢ Some k)
    → KnowsRaises owners raised v → KnowsRaises owners raised' v
knows_less owners raised raised' v c same more ne f = record {
  channels = f.channels;
  begins = λ d ld. dite (ℕ_discrete d c)
      (λ e. subst (λ (k : ℕ). k < length owners → BeginsWith (raised' k) (known_of v k)) (sym e)
      (λ l. let b = f.begins c l in (b.0 ++ more.0, more.1 ∙ (ap (λ z. z ++ more.0) b.1 ∙ append_assoc _ b.0 more.0)))
      ld)
      (λ ne'. let b = f.begins d ld in (b.0, same d ne' ∙ b.1));
  whole = λ d k own mine. dite (ℕ_discrete d c)
      (λ e. absurd (ne k (subst (λ (z : ℕ). owner_at owners z ≡ Some k) e own) mine))
      (λ ne'. f.whole d k own mine ∙ sym (same d ne'));
}

-- the seat of the channel's owner raises a number
pub raises : (owners : List (Option ℕ)) (slots id c n : ℕ) (me : Me (Unit {0}) View) → IsOutputOf owners me.0.node c
    → Allows (λ s. HoldsOfMarks owners s) slots id me c (λ x. max x n) (λ _ w. HasRaised me.0 c n w.0)
raises owners slots id c n me (some_one, own) s k _ at _ =
    let v = me.0 in
    let f = k.views id v at in
    let number = some_node v.node some_one in
    let node = number.0 in
    let mine : v.node ≡ Some node = number.1 in
    let own' : owner_at owners c ≡ Some node = own ∙ mine in
    let lt : c < length owners = owned_inside owners c node own' in
    let raised' : ℕ → List ℕ = λ d. cond (eqb d c) (k.raised c ++ n ∷ []) (k.raised d) in
    let here : raised' c ≡ k.raised c ++ n ∷ [] =
    at_same c c (λ z. z ≡ k.raised c ++ n ∷ []) _ _ (λ _. refl) (λ ne. absurd (ne refl)) in
    let else : (d : ℕ) → d ≢ c → raised' d ≡ k.raised d =
    λ d ne. at_same d c (λ z. z ≡ k.raised d) _ _ (λ e. absurd (ne e)) (λ _. refl) in
    let whole : known_of v c ≡ k.raised c = f.whole c node own' mine in
    let w : View = with_known v c (known_of v c ++ n ∷ []) in
    let w-is : with_known v c (raised' c) ≡ w = ap (λ z. with_known v c z) (here ∙ ap (λ z. z ++ n ∷ []) (sym whole)) in
    let inside : c < length v.known = let o = f.channels in omega arith in
    let room : c < length s.words = let r = k.room in omega arith in (
      w,
      keeps,
      tt,
      record {
        raised = raised';
        words = λ d ld. dite (ℕ_discrete d c)
            (λ e. subst (λ (z : ℕ). get_or (set s.words c (max (get_or s.words c 0) n)) z 0 ≡ greatest (raised' z))
            (sym e)
            (get_or-set_same s.words c (max (get_or s.words c 0) n) 0 room
            ∙ (ap (λ z. max z n) (k.words c lt)
            ∙ sym (ap greatest here
            ∙ (greatest-append (k.raised c) (n ∷ []) ∙ ap (λ z. max (greatest (k.raised c)) z) (max_zero n))))))
            (λ ne. get_or-set_other s.words c d (max (get_or s.words c 0) n) 0 ne
            ∙ (k.words d ld ∙ ap greatest (sym (else d ne))));
        room = length-set s.words c (max (get_or s.words c 0) n) ∙ k.room;
        views = λ j u e. ⊎_elim
            (λ (t : (j ≡ id) × (w ≡ u)). subst (λ z. KnowsRaises owners raised' z) (w-is ∙ t.1)
            (knows_all owners k.raised raised' v c lt else f))
            (λ (t : (j ≢ id) × (get_elem? s.views j ≡ some u)). knows_less owners k.raised raised' u c else
            (n ∷ [], here) (λ k' own'' theirs. t.0 (k.seated.apart j id u v t.1 at k' theirs (sym own ∙ own'')))
            (k.views j u t.1))
            (at_set s.views id j w u e);
        seated = seated_set owners k.raised raised' s.views id v w at refl refl
            (λ x d k' e own'' le. else d (λ same.
            let is : k' ≡ node = same_node k' node (sym own'' ∙ (ap (λ (z : ℕ). owner_at owners z) same ∙ own')) in
            dite (ℕ_discrete id 0)
            (λ zero'. no_node node
            (sym (k.seated.driver v (subst (λ (z : ℕ). get_elem? s.views z ≡ some v) zero' at)) ∙ mine))
            (λ ne. ⊎_elim
            (λ (none : v.node ≡ None). no_node node (sym none ∙ mine))
            (λ (l : (m : ℕ) × (v.node ≡ Some m) × (m < x.dealt)). let less = l.2 in let q : l.0 ≡ node =
            same_node l.0 node (sym l.1 ∙ mine) in absurd (omega arith))
            (k.seated.later x v id e at ne))))
            k.seated;
      },
      record {
        node = refl;
        raised = get_or-set_same v.known c (known_of v c ++ n ∷ []) [] inside;
        others = λ d ne. get_or-set_other v.known c d (known_of v c ++ n ∷ []) [] ne;
      },
    )
  where
    max_zero : (m : ℕ) → greatest (m ∷ []) ≡ m
    max_zero m = omega arith

-- a seat reads
pub reads : (owners : List (Option ℕ)) (slots id c : ℕ) (me : Me (Unit {0}) View) → c < length owners
    → Allows (λ s. HoldsOfMarks owners s) slots id me c (λ x. x) (λ x w. HasRead me.0 c x w.0)
reads owners slots id c me lt s k _ at _ =
    let v = me.0 in
    let f = k.views id v at in
    let w : View = with_known v c (k.raised c) in
    let inside : c < length v.known = let o = f.channels in omega arith in
    let now : known_of w c ≡ k.raised c = get_or-set_same v.known c (k.raised c) [] inside in
    let begins = f.begins c lt in
    let same : set s.words c (get_or s.words c 0) ≡ s.words = set-get_or s.words c 0 in (
      w,
      keeps,
      tt,
      record {
        raised = k.raised;
        words = subst (λ (z : List ℕ). (d : ℕ) → d < length owners → get_or z d 0 ≡ greatest (k.raised d)) (sym same)
            k.words;
        room = ap length same ∙ k.room;
        views = λ j u e. ⊎_elim
            (λ (t : (j ≡ id) × (w ≡ u)). subst (λ z. KnowsRaises owners k.raised z) t.1
            (knows_all owners k.raised k.raised v c lt (λ _ _. refl) f))
            (λ (t : (j ≢ id) × (get_elem? s.views j ≡ some u)). k.views j u t.1)
            (at_set s.views id j w u e);
        seated = seated_set owners k.raised k.raised s.views id v w at refl refl (λ _ _ _ _ _ _. refl) k.seated;
      },
      record {
        node = refl;
        grows = (begins.0, now ∙ begins.1);
        is_greatest = k.words c lt ∙ ap greatest (sym now);
        others = λ d ne. get_or-set_other v.known c d (k.raised c) [] ne;
      },
    )

at_end : {A : Type 0} (l : List A) (a b : A) (j : ℕ) → get_elem? (l ++ a ∷ []) j ≡ some b
    → ((j < length l) × (get_elem? l j ≡ some b)) ⊎ ((j ≡ length l) × (a ≡ b))
at_end [] a b zero e = inr (refl, some-injective a b e)
at_end [] a b (suc j) e = absurd (some-ne-none b (sym e))
at_end (x ∷ xs) a b zero e = inl (omega arith, e)
at_end (x ∷ xs) a b (suc j) e =
    ⊎_elim (λ t. let h = t.0 in inl (omega arith, t.1)) (λ t. let h = t.0 in inr (omega arith, t.1)) (at_end xs a b j e)

pub nothing_dealt : (lists : List (List ℕ)) (c : ℕ) → get_or {A = List ℕ} (map (λ (_ : List ℕ). []) lists) c [] ≡ []
nothing_dealt [] c = refl
nothing_dealt (x ∷ xs) zero = refl
nothing_dealt (x ∷ xs) (suc c) = nothing_dealt xs c

pub nothing_first : (n c : ℕ) → get_or {A = List ℕ} (replicate n []) c [] ≡ []
nothing_first zero c = refl
nothing_first (suc n) zero = refl
nothing_first (suc n) (suc c) = nothing_first n c

zero_word : (n c : ℕ) → get_or {A = ℕ} (replicate n 0) c 0 ≡ 0
zero_word zero c = refl
zero_word (suc n) zero = refl
zero_word (suc n) (suc c) = zero_word n c

-- the marks at first, each at 0
pub opens : (owners : List (Option ℕ)) (words : List ℕ) → words ≡ replicate (length owners + 1) 0
    → HoldsOfMarks owners (opening words [] (first_view owners))
opens owners words is =
    let n = length owners in
    let only : (i : ℕ) (v : View) → get_elem? (first_view owners ∷ []) i ≡ some v → (i ≡ 0) × (first_view owners ≡ v) =
    one (first_view owners) in record {
      raised = λ _. [];
      words = λ c lt. ap (λ (z : List ℕ). get_or z c 0) is ∙ zero_word (n + 1) c;
      room = ap length is ∙ length-replicate (n + 1) 0;
      views = λ i v e. subst (λ z. KnowsRaises owners (λ _. []) z) (only i v e).1 (record {
        channels = length-replicate n [];
        begins = λ c lt. ([], sym (append-nil _ ∙ nothing_first n c));
        whole = λ c k own mine. nothing_first n c;
      });
      seated = record {
        some_seat = omega arith;
        driver = λ v e. sym (ap (λ (z : View). z.node) (only 0 v e).1);
        later = λ v w j e f ne. absurd (ne (only j w f).0);
        apart = λ i j v w e f _ _ _. (only i v e).0 ∙ sym (only j w f).0;
        not_dealt = λ _ _ _ _ _ _. refl;
      };
    }
  where
    one : (x : View) (i : ℕ) (v : View) → get_elem? (x ∷ []) i ≡ some v → (i ≡ 0) × (x ≡ v)
    one x zero v e = (refl, some-injective x v e)
    one x (suc i) v e = absurd (some-ne-none v (sym e))

-- the driver's seat deals the next one
pub deals : (owners : List (Option ℕ)) (v : View)
    → Splits {S = Unit {0}} (λ s. HoldsOfMarks owners s) 0 v (dealer v) (dealt v)
deals owners v s k at =
    let vs = set s.views 0 (dealer v) in
    let f = k.views 0 v at in
    let node-is : v.node ≡ None = k.seated.driver v at in
    let root : get_elem? vs 0 ≡ some (dealer v) = set_here s.views 0 (dealer v) (is_there s.views v at) in
    let long : 0 < length vs = let h = is_there s.views v at in let l = length-set s.views 0 (dealer v) in
    omega arith in
    let at_root : (x : View) → get_elem? (vs ++ dealt v ∷ []) 0 ≡ some x → dealer v ≡ x = λ x e. ⊎_elim
    (λ t. some-injective (dealer v) x (sym root ∙ t.1)) (λ t. let h = t.0 in absurd (omega arith))
    (at_end vs (dealt v) x 0 e) in
    let old : (j : ℕ) (u : View) → get_elem? vs j ≡ some u
    → (x : View) × (get_elem? s.views j ≡ some x) × (u.node ≡ x.node) × (u.known ≡ x.known) = λ j u e. ⊎_elim
    (λ (t : (j ≡ 0)
    × (dealer v ≡ u)). (
      v,
      subst (λ n. get_elem? s.views n ≡ some v) (sym t.0) at,
      sym
          (ap (λ (z : View). z.node) t.1),
      sym (ap (λ (z : View). z.known) t.1),
    ))
    (λ (t : (j ≢ 0) × (get_elem? s.views j ≡ some u)). (u, t.1, refl, refl)) (at_set s.views 0 j (dealer v) u e) in
    -- the node of the seat that is dealt has no other seat
    let new : (j : ℕ) (u : View) → get_elem? vs j ≡ some u → u.node ≢ Some v.dealt = λ j u e same. let o = old j u e in
    let theirs : o.0.node ≡ Some v.dealt = sym o.2 ∙ same in
    dite (ℕ_discrete j 0)
    (λ z. let g : get_elem? s.views 0 ≡ some o.0 = subst (λ n. get_elem? s.views n ≡ some o.0) z o.1 in
    no_node v.dealt (sym (k.seated.driver o.0 g) ∙ theirs))
    (λ ne. ⊎_elim
    (λ (none : o.0.node ≡ None). no_node v.dealt (sym none ∙ theirs))
    (λ (l : (m : ℕ) × (o.0.node ≡ Some m) × (m < v.dealt)). let less = l.2 in let q : l.0 ≡ v.dealt =
    same_node l.0 v.dealt (sym l.1 ∙ theirs) in absurd (omega arith))
    (k.seated.later v o.0 j at o.1 ne)) in
    record {
      raised = k.raised;
      words = k.words;
      room = k.room;
      views = λ j u e. ⊎_elim
          (λ t. let o = old j u t.1 in let g = k.views j o.0 o.1 in record {
            channels = ap length o.3 ∙ g.channels;
            begins = λ c l. let b = g.begins c l in (b.0, b.1 ∙ ap (λ z. get_or z c [] ++ b.0) (sym o.3));
            whole = λ c k' own mine. ap (λ z. get_or z c []) o.3 ∙ g.whole c k' own (sym o.2 ∙ mine);
          })
          (λ t. subst (λ z. KnowsRaises owners k.raised z) t.1 (record {
            channels = length-map v.known (λ (_ : List ℕ). []) ∙ f.channels;
            begins = λ c l. (k.raised c, ap (λ z. z ++ k.raised c) (sym (nothing_dealt v.known c)));
            whole = λ c k' own mine. let q : v.dealt ≡ k' = same_node v.dealt k' mine in
                nothing_dealt v.known c ∙ sym (k.seated.not_dealt v c k' at own (omega arith));
          }))
          (at_end vs (dealt v) u j e);
      seated = record {
        some_seat = (let l = length-append vs (dealt v ∷ []) in omega arith);
        driver = λ x e. let h = at_root x e in sym (ap (λ (z : View). z.node) h) ∙ node-is;
        later = λ x w j e g ne. let h = at_root x e in let b : v.dealt + 1 ≡ x.dealt = ap (λ (z : View). z.dealt) h in
            ⊎_elim
            (λ t. let o = old j w t.1 in ⊎_elim
            (λ (none : o.0.node ≡ None). inl (o.2 ∙ none))
            (λ (l : (m : ℕ) × (o.0.node ≡ Some m) × (m < v.dealt)). let less = l.2 in
            inr (l.0, o.2 ∙ l.1, omega arith))
            (k.seated.later v o.0 j at o.1 ne))
            (λ t. inr (v.dealt, sym (ap (λ (z : View). z.node) t.1), omega arith))
            (at_end vs (dealt v) w j g);
        apart = λ i j x w e g m n o'. ⊎_elim
            (λ t. ⊎_elim
            (λ r. let o = old i x t.1 in let p = old j w r.1 in
            k.seated.apart i j o.0 p.0 o.1 p.1 m (sym o.2 ∙ n) (sym p.2 ∙ o'))
            (λ r. absurd (new i x t.1 (n ∙ (sym o' ∙ sym (ap (λ (z : View). z.node) r.1)))))
            (at_end vs (dealt v) w j g))
            (λ t. ⊎_elim
            (λ r. absurd (new j w r.1 (o' ∙ (sym n ∙ sym (ap (λ (z : View). z.node) t.1)))))
            (λ r. t.0 ∙ sym r.0)
            (at_end vs (dealt v) w j g))
            (at_end vs (dealt v) x i e);
        not_dealt = λ x c k' e own le. let h = at_root x e in let b : v.dealt + 1 ≡ x.dealt =
            ap (λ (z : View). z.dealt) h in k.seated.not_dealt v c k' at own (omega arith);
      };
    }
  where
    is_there : (l : List View) (a : View) → get_elem? l 0 ≡ some a → 0 < length l
    is_there [] a e = absurd (some-ne-none a (sym e))
    is_there (x ∷ xs) a e = omega arith

-- a seat comes that only reads
pub enters : (owners : List (Option ℕ)) (slots : ℕ)
    → Enters {S = Unit {0}} (λ s. HoldsOfMarks owners s) slots 0 (λ found w. w ≡ first_view owners)
enters owners slots s k _ _ =
    let n = length owners in
    let reader = first_view owners in
    let there = k.seated.some_seat in
    -- the driver's seat stays the first one
    let first : (x : View) → get_elem? (s.views ++ reader ∷ []) 0 ≡ some x → get_elem? s.views 0 ≡ some x =
    λ x e. ⊎_elim (λ t. t.1) (λ t. let h = t.0 in absurd (omega arith)) (at_end s.views reader x 0 e) in (
      reader,
      record {
        raised = k.raised;
        words = k.words;
        room = k.room;
        views = λ j u e. ⊎_elim
            (λ t. k.views j u t.1)
            (λ t. subst (λ z. KnowsRaises owners k.raised z) t.1 (record {
              channels = length-replicate n [];
              begins = λ c l. (k.raised c, ap (λ z. z ++ k.raised c) (sym (nothing_first n c)));
              whole = λ c node own mine. absurd (no_node node mine);
            }))
            (at_end s.views reader u j e);
        seated = record {
          some_seat = (let l = length-append s.views (reader ∷ []) in omega arith);
          driver = λ x e. k.seated.driver x (first x e);
          later = λ x w j e g ne. ⊎_elim
              (λ t. k.seated.later x w j (first x e) t.1 ne)
              (λ t. inl (sym (ap (λ (z : View). z.node) t.1)))
              (at_end s.views reader w j g);
          apart = λ i j x w e g m n' o. ⊎_elim
              (λ t. ⊎_elim
              (λ r. k.seated.apart i j x w t.1 r.1 m n' o)
              (λ r. absurd (no_node m (ap (λ (z : View). z.node) r.1 ∙ o)))
              (at_end s.views reader w j g))
              (λ t. absurd (no_node m (ap (λ (z : View). z.node) t.1 ∙ n')))
              (at_end s.views reader x i e);
          not_dealt = λ x c node e own le. k.seated.not_dealt x c node (first x e) own le;
        };
      },
      refl,
    )
