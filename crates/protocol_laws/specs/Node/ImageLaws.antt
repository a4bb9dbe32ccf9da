-- Laws of images that are laid out: an end is found at its channel's number, and what a step changes of an end is found
-- there.
use Rattle.std.proofs.Common.{◌≡◌, ◌≢◌, ◌⊎◌, inl, inr, ℕ, zero, suc, ◌+◌, ◌<◌, ◌≤◌, Bool, true, false, eqb, cond, List}
use Rattle.std.proofs.Common.{[], ◌∷◌, length, map, get_or, Option, Some, None, option_map, refl, sym, ap, ◌∙◌, arith}
use Rattle.std.specs.Prelude.{slice_get, find}
use Rattle.std.proofs.lemmas.Bool.Decides.{eqb_tells}
use Rattle.std.proofs.lemmas.Option.{slice_get_cases}
use Rattle.protocol.specs.Node.Common.{Network, Channel, ImageView, end_of, received_of, received_at, log_of, log_at}
use Rattle.protocol.specs.Node.Common.{has_end, IsLaidOut, SavedEnd, End}
use Rattle.protocol_laws.specs.Node.NumberedLaws.{where_find, where_mark}

-- Lists

-- what is found stands somewhere
pub find_within : {A : Type 0} (test : A → Bool) (xs : List A) (x : A) → find test xs ≡ Some x
    → (k : ℕ) × (slice_get xs k ≡ Some x)
find_within test [] x h = absurd (cc)
find_within {A} test (y ∷ xs) x h = at (test y) (λ e. find_within test xs x e) h
  where
    at : (b : Bool) → (find test xs ≡ Some x → (k : ℕ) × (slice_get xs k ≡ Some x))
        → cond b (Some y) (find test xs) ≡ Some x → (k : ℕ) × (slice_get (y ∷ xs) k ≡ Some x)
    at true later e = (0, e)
    at false later e = let r = later e in (suc r.0, r.1)

-- what is found has the number
pub found_is : {A : Type 0} (f : A → ℕ) (xs : List A) (n : ℕ) (x : A) → find (λ (z : A). eqb (f z) n) xs ≡ Some x
    → f x ≡ n
found_is f [] n x h = absurd (cc)
found_is {A} f (y ∷ xs) n x h = at (eqb_tells (f y) n) (λ e. found_is f xs n x e) h
  where
    at : ((eqb (f y) n ≡ true) × (f y ≡ n)) ⊎ ((eqb (f y) n ≡ false) × (f y ≢ n))
        → (find (λ (z : A). eqb (f z) n) xs ≡ Some x → f x ≡ n)
        → cond (eqb (f y) n) (Some y) (find (λ (z : A). eqb (f z) n) xs) ≡ Some x → f x ≡ n
    at (inl same) later e =
        let it : Some y ≡ Some x =
        sym (ap (λ (b : Bool). cond b (Some y) (find (λ (z : A). eqb (f z) n) xs)) same.0) ∙ e in
        let is : y ≡ x = cc in
        ap f (sym is) ∙ same.1
    at (inr other) later e =
        later (sym (ap (λ (b : Bool). cond b (Some y) (find (λ (z : A). eqb (f z) n) xs)) other.0) ∙ e)

-- what is found in a list that keeps each number
pub find_map : {A : Type 0} (f : A → ℕ) (g : A → A) (xs : List A) (n : ℕ) → ((x : A) → f (g x) ≡ f x)
    → find (λ (z : A). eqb (f z) n) (map g xs) ≡ option_map g (find (λ (z : A). eqb (f z) n) xs)
find_map f g [] n keeps = refl
find_map {A} f g (y ∷ xs) n keeps =
    ap (λ (m : ℕ). cond (eqb m n) (Some (g y)) (find (λ (z : A). eqb (f z) n) (map g xs))) (keeps y)
    ∙ at (eqb (f y) n) (find_map f g xs n keeps)
  where
    at : (b : Bool) → find (λ (z : A). eqb (f z) n) (map g xs) ≡ option_map g (find (λ (z : A). eqb (f z) n) xs)
        → cond b (Some (g y)) (find (λ (z : A). eqb (f z) n) (map g xs))
        ≡ option_map g (cond b (Some y) (find (λ (z : A). eqb (f z) n) xs))
    at true later = refl
    at false later = later

pub map_got : {A B : Type 0} (f : A → B) (xs : List A) (k : ℕ) (y : B) → slice_get (map f xs) k ≡ Some y
    → (x : A) × (slice_get xs k ≡ Some x) × (f x ≡ y)
map_got f [] k y e = absurd (cc)
map_got f (x ∷ xs) zero y e = (x, refl, cc)
map_got f (x ∷ xs) (suc k) y e = map_got f xs k y e

pub map_keeps : {A B : Type 0} (f : A → B) (g : A → A) (xs : List A) → ((x : A) → f (g x) ≡ f x)
    → map f (map g xs) ≡ map f xs
map_keeps f g [] keeps = refl
map_keeps {A} {B} f g (x ∷ xs) keeps =
    ap (λ (y : B). y ∷ map f (map g xs)) (keeps x) ∙ ap (λ (ys : List B). f x ∷ ys) (map_keeps f g xs keeps)

pub map_twice : {A : Type 0} (f g : A → A) (xs : List A) → map g (map f xs) ≡ map (λ (x : A). g (f x)) xs
map_twice f g [] = refl
map_twice {A} f g (x ∷ xs) = ap (λ (ys : List A). g (f x) ∷ ys) (map_twice f g xs)

-- Ends

-- what the image says of an entry's channel is what that entry says
pub end_at : (net : Network) (home : ℕ) (image : ImageView) (k : ℕ) (saved : SavedEnd) → IsLaidOut net home image
    → slice_get image.ends k ≡ Some saved → end_of image saved.channel ≡ Some (saved.end)
end_at net home image k saved laid is =
    ap (option_map (λ (s : SavedEnd). s.end))
    (where_find (λ (s : SavedEnd). s.channel) (has_end net home) 0 (length net.channels) image.ends k saved
    laid.ends is)

pub received_is : (net : Network) (home : ℕ) (image : ImageView) (k : ℕ) (saved : SavedEnd) → IsLaidOut net home image
    → slice_get image.ends k ≡ Some saved → received_of image saved.channel ≡ received_at (Some (saved.end))
received_is net home image k saved laid is = ap received_at (end_at net home image k saved laid is)

pub log_is : (net : Network) (home : ℕ) (image : ImageView) (k : ℕ) (saved : SavedEnd) → IsLaidOut net home image
    → slice_get image.ends k ≡ Some saved → log_of image saved.channel ≡ log_at (Some (saved.end))
log_is net home image k saved laid is = ap log_at (end_at net home image k saved laid is)

-- an entry is of one of the network's channels
pub channel_of_entry : (net : Network) (home : ℕ) (image : ImageView) (k : ℕ) (saved : SavedEnd)
    → IsLaidOut net home image → slice_get image.ends k ≡ Some saved
    → (channel : Channel) × (slice_get net.channels saved.channel ≡ Some channel)
channel_of_entry net home image k saved laid is = at (slice_get_cases net.channels saved.channel).1
  where
    within : saved.channel < 0 + length net.channels
    within =
        (where_mark (λ (s : SavedEnd). s.channel) (has_end net home) 0 (length net.channels) image.ends k saved
        laid.ends is).2

    at : ((x : Channel) × (saved.channel < length net.channels) × (slice_get net.channels saved.channel ≡ Some x)
        × (get_or net.channels saved.channel x ≡ x))
        ⊎ ((length net.channels ≤ saved.channel) × (slice_get net.channels saved.channel ≡ None))
        → (channel : Channel) × (slice_get net.channels saved.channel ≡ Some channel)
    at (inl here) = (here.0, here.2)
    at (inr past) = absurd (omega (arith, within, past.0))

-- what an image says of a channel is what one of its entries says
pub record Entry (image : ImageView) (c : ℕ) (end : End) : Type 0 where
  pub place : ℕ
  pub saved : SavedEnd
  pub is : slice_get image.ends place ≡ Some saved
  pub channel : saved.channel ≡ c
  pub is_end : saved.end ≡ end

pub entry_of : (image : ImageView) (c : ℕ) (end : End) → end_of image c ≡ Some end → Entry image c end
entry_of image c end h = at (find (λ (s : SavedEnd). eqb s.channel c) image.ends) refl h
  where
    at : (o : Option SavedEnd) → find (λ (s : SavedEnd). eqb s.channel c) image.ends ≡ o
        → option_map (λ (s : SavedEnd). s.end) o ≡ Some end → Entry image c end
    at None found e = absurd (cc)
    at (Some saved) found e =
        let there = find_within (λ (s : SavedEnd). eqb s.channel c) image.ends saved found in
        record {
          place = there.0;
          saved = saved;
          is = there.1;
          channel =
              found_is (λ (s : SavedEnd). s.channel) image.ends c saved found;
          is_end = cc;
        }

-- what an image says of a channel, where each entry changed and none its number
pub end_of_changed : (image later : ImageView) (c : ℕ) (f : SavedEnd → SavedEnd)
    → ((saved : SavedEnd) → (f saved).channel ≡ saved.channel) → later.ends ≡ map f image.ends
    → end_of later c ≡ option_map (λ (s : SavedEnd). (f s).end) (find (λ (s : SavedEnd). eqb s.channel c) image.ends)
end_of_changed image later c f keeps is =
    ap (λ (ends : List SavedEnd). option_map (λ (s : SavedEnd). s.end) (find (λ (s : SavedEnd). eqb s.channel c) ends))
    is
    ∙ (ap (option_map (λ (s : SavedEnd). s.end)) (find_map (λ (s : SavedEnd). s.channel) f image.ends c keeps)
    ∙ twice (find (λ (s : SavedEnd). eqb s.channel c) image.ends))
  where
    twice : (o : Option SavedEnd)
        → option_map (λ (s : SavedEnd). s.end) (option_map f o) ≡ option_map (λ (s : SavedEnd). (f s).end) o
    twice None = refl
    twice (Some s) = refl
