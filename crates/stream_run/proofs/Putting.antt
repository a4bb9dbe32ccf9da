-- Items that were put out are a beginning of what has left, and each further one is.
use Rattle.std.proofs.Common.{◌≡◌, ◌≤◌, ◌∙◌, ℕ, List, ℤ, [], ◌∷◌, ◌++◌, Option, Some, None, length, refl, sym, ap, subst, append-nil, append_assoc, length-append, ◌⊎◌, inl, inr, arith}
use Rattle.std.proofs.lemmas.Bool.{cases_eq}
use Rattle.std.proofs.lemmas.Bool.Decides.{nat_tests}
use Rattle.std.proofs.lemmas.List.{get_or-set_other, set-get_or}
use Rattle.std.specs.Prelude.{IsTrue, if◌then◌else◌, is_some, ◌-◌, ◌==◌, ◌<◌, ◌+◌, ◌≢◌, true, false, slice_get, slice_index_or, slice_set}
use Rattle.growing.specs.WhateverComes.{HasGoneOn}
use Rattle.kahn_net.specs.Laws.Prefixes.{followed, prefix_of, prefix_trans}
use Rattle.kahn_net.specs.Streams.{IsPrefix}
use Rattle.kahn_net.specs.declared.limits.TheConstants.{MAX_CHANNELS}
use Rattle.protocol.specs.Node.Common.{Channel}
use Rattle.std.proofs.lemmas.Option.{slice_get_within}
use Rattle.outside.specs.Departures.{items_by}
use Rattle.outside.specs.declared.departure.Departure.{Departure}
use Rattle.protocol.specs.World.Common.{released_of, WorldInvariant, WorldView}
use Rattle.stream_run.specs.Linked.{AreAllPut, IsPutAsTaken, IsPutInPart, IsPutWhole, IsTakenOf, is_output, is_output_by}

-- what stands behind a list is what the rest begins with
at_end : (put rest : List ℤ) → slice_get (put ++ rest) (length put) ≡ slice_get rest 0
at_end [] rest = refl
at_end (x ∷ put) rest = at_end put rest

more_by : (put rest : List ℤ) (item : ℤ) → slice_get rest 0 ≡ Some item → IsPrefix (put ++ item ∷ []) (put ++ rest)
more_by put [] item here = absurd cc
more_by put (x ∷ rest) item here =
    let same : x ≡ item = cc in
    prefix_of (record { rest = rest; is = rw same (sym (append_assoc put (item ∷ []) rest)) })

-- the item behind a beginning makes it longer
pub one_more : (put released : List ℤ) (item : ℤ) → IsPrefix put released → slice_get released (length put) ≡ Some item
    → IsPrefix (put ++ item ∷ []) released
one_more put released item part here =
    let f = followed put released part in
    let there : slice_get f.rest 0 ≡ Some item = sym (at_end put f.rest) ∙ (rw f.is at here) in
    rw f.is (more_by put f.rest item there)

none_by : (put rest : List ℤ) → slice_get rest 0 ≡ None → put ≡ put ++ rest
none_by put [] none = sym (append-nil put)
none_by put (x ∷ rest) none = absurd cc

-- where no item stands behind it, it is all
pub none_more : (put released : List ℤ) → IsPrefix put released → slice_get released (length put) ≡ None → put ≡ released
none_more put released part none =
    let f = followed put released part in
    let there : slice_get f.rest 0 ≡ None = sym (at_end put f.rest) ∙ (rw f.is at none) in
    rw f.is (none_by put f.rest there)

-- ---- all outputs

-- what was put out is in part what has left
pub put_in_part : (left : List Departure) (taken : ℕ → ℕ) (world : WorldView) → IsPutAsTaken left taken world → IsPutInPart left world
put_in_part left taken world put = λ output. (put output).part

-- so many items of each output are taken, as this list says
abbrev pub taken_in : List ℕ → ℕ → ℕ
taken_in taken output = slice_index_or taken output 0

-- where more leaves, what was put out still is a beginning
pub still_put : (left left_now : List Departure) (taken taken_now : List ℕ) (old new : WorldView) → left_now ≡ left
    → taken_now ≡ taken → HasGoneOn old new → IsPutAsTaken left (taken_in taken) old → IsPutAsTaken left_now (taken_in taken_now) new
still_put left left_now taken taken_now old new same same_count gone put = λ output.
    rw (same, same_count) (record {
      part = prefix_trans _ _ _ (put output).part (gone.kept output);
      count = (put output).count;
    })

-- none of this output was put out, and it has none more
pub none_taken : (left : List Departure) (taken taken_now : List ℕ) (world : WorldView) (output : ℕ)
    → taken_now ≡ slice_set taken output (taken_in taken output + 0) → IsPutAsTaken left (taken_in taken) world
    → IsPutAsTaken left (taken_in taken_now) world
none_taken left taken taken_now world output is put = λ other.
    let same : taken_now ≡ taken = is ∙ (ap (slice_set taken output) (omega arith) ∙ set-get_or taken output 0) in
    rw same (put other)

pub all_taken : (left : List Departure) (taken : List ℕ) (world : WorldView) (output : ℕ) → IsPutAsTaken left (taken_in taken) world
    → None ≡ slice_get (released_of output world.stations) (taken_in taken output) → IsPutWhole left world output
all_taken left taken world output put none =
    let is = put output in
    none_more _ _ is.part (sym (rw is.count at none))

put_this : (left : List Departure) (taken : ℕ) (released : List ℤ) (output : ℕ) (item : ℤ) → Some item ≡ slice_get released taken
    → IsTakenOf (items_by output left) taken released
    → IsTakenOf (items_by output (record { output = output; item = item } ∷ left)) (taken + 1) released
put_this left taken released output item there is =
    let self : (output == output) ≡ true = grind (arith, nat_tests) in
    let more : length (items_by output left ++ item ∷ []) ≡ length (items_by output left) + 1 = length-append _ _ in
    let put : items_by output (record { output = output; item = item } ∷ left) ≡ items_by output left ++ item ∷ [] = rw self refl in
    rw put (record {
      part = one_more (items_by output left) _ item is.part (sym (rw is.count at there));
      count = ap (λ (n : ℕ). n + 1) is.count ∙ sym more;
    })

put_one_by : (left : List Departure) (taken taken_now : List ℕ) (world : WorldView) (output : ℕ) (item : ℤ) (other number : ℕ)
    → Some item ≡ slice_get (released_of output world.stations) (taken_in taken output)
    → taken_now ≡ slice_set taken output number → taken_in taken_now output ≡ taken_in taken output + 1
    → IsPutAsTaken left (taken_in taken) world → (other ≡ output) ⊎ (other ≡ output → ⊥)
    → IsTakenOf (items_by other (record { output = output; item = item } ∷ left)) (taken_in taken_now other) (released_of other world.stations)
put_one_by left taken taken_now world output item other number there is counted put (inl same) =
    subst (λ (o : ℕ). IsTakenOf (items_by o (record { output = output; item = item } ∷ left))
    (taken_in taken_now o) (released_of o world.stations)) (sym same)
    (subst (λ (n : ℕ). IsTakenOf (items_by output (record { output = output; item = item } ∷ left)) n (released_of output world.stations))
    (sym counted) (put_this left (taken_in taken output) (released_of output world.stations) output item there (put output)))
put_one_by left taken taken_now world output item other number there is counted put (inr apart) =
    let differs : (output == other) ≡ false = grind (arith, nat_tests) in
    let was : taken_in taken_now other ≡ taken_in taken other =
    ap (λ (list : List ℕ). taken_in list other) is ∙ get_or-set_other taken output other number 0 apart in
    let same : items_by other (record { output = output; item = item } ∷ left) ≡ items_by other left = rw differs refl in
    subst (λ (n : ℕ). IsTakenOf (items_by other (record { output = output; item = item } ∷ left)) n (released_of other world.stations))
    (sym was)
    (subst (λ (list : List ℤ). IsTakenOf list (taken_in taken other) (released_of other world.stations)) (sym same) (put other))

-- that touches no other output
pub others_by : (left left_now : List Departure) (output : ℕ) (item : ℤ) (other : ℕ)
    → left_now ≡ record { output = output; item = item } ∷ left → other ≢ output → items_by other left_now ≡ items_by other left
others_by left left_now output item other now apart =
    let differs : (output == other) ≡ false = grind (arith, nat_tests) in
    rw (now, differs) refl

-- ---- one output after the other

-- the outputs below this number have put out all that has left
abbrev pub AreAllPutBelow : List Departure → WorldView → ℕ → Type 0
AreAllPutBelow left world number =
    (output : ℕ) → output < number → IsTrue (is_output world.net output) → IsPutWhole left world output

-- so has this one
pub below_next : (left left_now : List Departure) (world world_now : WorldView) (number next : ℕ) → world_now ≡ world
    → AreAllPutBelow left world number → ((other : ℕ) → other ≢ number → items_by other left_now ≡ items_by other left)
    → IsPutWhole left_now world_now number → next ≡ number + 1 → AreAllPutBelow left_now world_now next
below_next left left_now world world_now number next same below others whole is = λ output within here.
    by_case output within here (cases_eq output number)
  where
    by_case : (output : ℕ) → output < next → IsTrue (is_output world_now.net output) → (output ≡ number) ⊎ (output ≡ number → ⊥)
        → IsPutWhole left_now world_now output
    by_case output within here (inl is) = subst (IsPutWhole left_now world_now) (sym is) whole
    by_case output within here (inr apart) =
        let here_then : IsTrue (is_output world.net output) = subst (λ (w : WorldView). IsTrue (is_output w.net output)) same here in
        let before : IsPutWhole left world output = below output (omega (arith, within, is, apart)) here_then in
        others output apart ∙ (before ∙ ap (λ (w : WorldView). released_of output w.stations) (sym same))

-- or it is none
pub below_past : (left : List Departure) (world : WorldView) (number next : ℕ) → AreAllPutBelow left world number
    → is_output world.net number ≡ false → next ≡ number + 1 → AreAllPutBelow left world next
below_past left world number next below none is = λ output within here. by_case output within here (cases_eq output number)
  where
    by_case : (output : ℕ) → output < next → IsTrue (is_output world.net output) → (output ≡ number) ⊎ (output ≡ number → ⊥)
        → IsPutWhole left world output
    by_case output within here (inl is) = absurd (grind (arith, is, none, here))
    by_case output within here (inr apart) = below output (omega (arith, within, is, apart)) here

-- an output has a number of a channel
output_within : (world : WorldView) (output : ℕ) → WorldInvariant world → IsTrue (is_output world.net output) → output < MAX_CHANNELS
output_within world output sound here =
    let there = there_is (slice_get world.net.channels output) refl here in
    let within : output < length world.net.channels = slice_get_within world.net.channels output there.0 there.1 in
    let few : length world.net.channels ≤ MAX_CHANNELS = sound.valid.channel_count in
    omega (arith, few, within)
  where
    there_is : (channel : Option Channel) → slice_get world.net.channels output ≡ channel → IsTrue (is_output_by channel)
        → (one : Channel) × (slice_get world.net.channels output ≡ Some one)
    there_is None is here = absurd cc
    there_is (Some channel) is here = (channel, is)

-- and these are all
pub below_all : (left : List Departure) (world : WorldView) (number : ℕ) → WorldInvariant world → AreAllPutBelow left world number
    → MAX_CHANNELS ≤ number → AreAllPut left world
below_all left world number sound below all = λ output here.
    let within : output < MAX_CHANNELS = output_within world output sound here in
    below output (omega (arith, within, all)) here

-- ---- the next item is taken

more_by_some : (result : Option ℤ) (item : ℤ) (taken taken_now : ℕ) → result ≡ Some item
    → taken_now ≡ taken + (if is_some result then 1 else 0) → taken_now ≡ taken + 1
more_by_some result item taken taken_now some is =
    subst (λ (r : Option ℤ). taken_now ≡ taken + (if is_some r then 1 else 0)) some is

-- and put out
pub put_next : (left left_now : List Departure) (taken taken_now : List ℕ) (world world_now : WorldView) (output number : ℕ)
    (result : Option ℤ) (item : ℤ) → result ≡ Some item
    → result ≡ slice_get (released_of output world.stations) (taken_in taken output)
    → taken_now ≡ slice_set taken output number
    → taken_in taken_now output ≡ taken_in taken output + (if is_some result then 1 else 0) → world_now ≡ world
    → left_now ≡ record { output = output; item = item } ∷ left
    → IsPutAsTaken left (taken_in taken) world → IsPutAsTaken left_now (taken_in taken_now) world_now
put_next left left_now taken taken_now world world_now output number result item some there is counted same now put =
    let more = more_by_some result item _ _ some counted in
    subst (IsPutAsTaken left_now (taken_in taken_now)) (sym same)
    (subst (λ (list : List Departure). IsPutAsTaken list (taken_in taken_now) world) (sym now)
    (λ other. put_one_by left taken taken_now world output item other number (sym some ∙ there) is more put (cases_eq other output)))

-- fewer are left then
pub fewer_left : (taken taken_now : List ℕ) (world world_now : WorldView) (output : ℕ)
    (result : Option ℤ) (item : ℤ) → result ≡ Some item
    → result ≡ slice_get (released_of output world.stations) (taken_in taken output)
    → taken_in taken_now output ≡ taken_in taken output + (if is_some result then 1 else 0) → world_now ≡ world
    → length (released_of output world_now.stations) - taken_in taken_now output
    < length (released_of output world.stations) - taken_in taken output
fewer_left taken taken_now world world_now output result item some there counted same =
    let more : taken_in taken_now output ≡ taken_in taken output + 1 = more_by_some result item _ _ some counted in
    let here : taken_in taken output < length (released_of output world.stations) =
    slice_get_within (released_of output world.stations) (taken_in taken output) item (sym there ∙ some) in
    rw (same, more) (omega (arith, here))
