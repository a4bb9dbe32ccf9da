-- Fields that are tested one after the other.
use Rattle.std.proofs.Common.{◌≡◌, ℕ, suc, ℤ, Bool, true, false, List, [], ◌∷◌, ◌++◌, length, map, get_or, drop, ◌≤◌}
use Rattle.std.proofs.Common.{◌+◌, Option, Some, None, refl, sym, ◌∙◌, subst, arith}
use Rattle.std.specs.Prelude.{◌↔◌, IsTrue}
use Rattle.std.proofs.lemmas.Bool.{false≢true}
use Rattle.std.proofs.lemmas.List.Elements.{All-nil, All-cons, All-head, All-tail, All-append}
use Rattle.record.specs.Common.{standing_in, MAX_PROCESSES, MAX_CHANNELS, MAX_VARIABLES, MAX_REPEATS, LogState}
use Rattle.record.specs.Common.{SavedProcessView}
use Rattle.kahn_net.specs.declared.state.Place.{Place}
use Rattle.kahn_net.specs.declared.state.Mode.{Mode}
use Rattle.kahn_net.specs.declared.state.Mode.TheVariants.{NotBegun, At, Finished}
use Rattle.record.specs.declared.image.SavedEnd.{SavedEnd}
use Rattle.ckpt_codec.specs.Fields.{Field, IsAllowed, AreAllowed}
use Rattle.ckpt_codec.specs.ItemLaws.{wrapped_fits}
use Rattle.ckpt_codec.specs.RecordText.{any, at_most, between, retained_count, item, variables_of}
use Rattle.ckpt_codec.specs.RecordText.{role_of, wanted, wanted_or, first_of, rest_of, mode_fields, remaining}
use Rattle.ckpt_codec.specs.RecordText.{process_fields, processes_fields, end_fields, saved_end_fields, ends_fields}
use Rattle.ckpt_codec.specs.Testing.{listed, log_fields}

abbrev pub Tests : Bool → List Field → Type 0
Tests b fields = IsTrue b ↔ AreAllowed fields

front : (xs ys : List Field) → AreAllowed (xs ++ ys) → AreAllowed xs
front [] ys all = All-nil IsAllowed
front (x ∷ xs) ys all =
    All-cons IsAllowed x xs (All-head IsAllowed x (xs ++ ys) all) (front xs ys (All-tail IsAllowed x (xs ++ ys) all))

back : (xs ys : List Field) → AreAllowed (xs ++ ys) → AreAllowed ys
back [] ys all = all
back (x ∷ xs) ys all = back xs ys (All-tail IsAllowed x (xs ++ ys) all)

-- nothing is to be tested
pub nothing : Tests true []
nothing = (λ t. All-nil IsAllowed, λ all. refl)

-- one field
pub single : (f : Field) (b : Bool) → (IsTrue b ↔ IsAllowed f) → Tests b (f ∷ [])
single f b test =
    (λ t. All-cons IsAllowed f [] (test.0 t) (All-nil IsAllowed), λ all. test.1 (All-head IsAllowed f [] all))

-- the first ones don't stand
pub not_first : (xs ys : List Field) (a : Bool) → Tests a xs → a ≡ false → Tests false (xs ++ ys)
not_first xs ys a test is = (λ t. absurd (false≢true t), λ all. absurd (false≢true (sym is ∙ test.1 (front xs ys all))))

-- the first ones stand, and so it is a matter of the others
pub others : (xs ys : List Field) (a b : Bool) → Tests a xs → a ≡ true → Tests b ys → Tests b (xs ++ ys)
others xs ys a b first is second =
    (λ t. All-append IsAllowed xs ys (first.0 is) (second.0 t), λ all. second.1 (back xs ys all))

-- any items stand
items_stand : (zs : List ℤ) → AreAllowed (map item zs)
items_stand [] = All-nil IsAllowed
items_stand (z ∷ zs) = All-cons IsAllowed (item z) (map item zs) (wrapped_fits z, refl) (items_stand zs)

pub before_items : (xs : List Field) (zs : List ℤ) (b : Bool) → Tests b xs → Tests b (xs ++ map item zs)
before_items xs zs b test =
    (λ t. All-append IsAllowed xs (map item zs) (test.0 t) (items_stand zs), λ all. test.1 (front xs (map item zs) all))

-- no first image is one without parts
pub processes_listed : (like : Option (List SavedProcessView)) (least : ℕ) (ps : List SavedProcessView)
    → processes_fields (Some (listed like)) least ps ≡ processes_fields like least ps
processes_listed (Some likes) least ps = refl
processes_listed None least [] = refl
processes_listed None least (p ∷ ps) = refl

pub ends_listed : (like : Option (List SavedEnd)) (least : ℕ) (es : List SavedEnd)
    → ends_fields (Some (listed like)) least es ≡ ends_fields like least es
ends_listed (Some likes) least es = refl
ends_listed None least [] = refl
ends_listed None least (e ∷ es) = refl

-- ---- field by field

pub field_not : (f : Field) (fs : List Field) (a : Bool) → (IsTrue a ↔ IsAllowed f) → a ≡ false → Tests false (f ∷ fs)
field_not f fs a test is = not_first (f ∷ []) fs a (single f a test) is

pub field_then : (f : Field) (fs : List Field) (a b : Bool) → (IsTrue a ↔ IsAllowed f) → a ≡ true → Tests b fs
    → Tests b (f ∷ fs)
field_then f fs a b test is behind = others (f ∷ []) fs a b (single f a test) is behind

pub field_stands : (f : Field) (fs : List Field) (b : Bool) → IsAllowed f → Tests b fs → Tests b (f ∷ fs)
field_stands f fs b allowed behind = field_then f fs true b (λ t. allowed, λ a. refl) refl behind

-- a field of a number that is wanted, where that is found
pub as_found : (found w : Option ℕ) (f : Field) (a : Bool) → found ≡ w → (IsTrue a ↔ IsAllowed (wanted_or found f))
    → (IsTrue a ↔ IsAllowed (wanted_or w f))
as_found found w f a is test = subst (λ o. IsTrue a ↔ IsAllowed (wanted_or o f)) is test

-- ---- lists, of which the first is tested and then the others

module _ (likes : List SavedProcessView) (least : ℕ) (ps : List SavedProcessView) (default : SavedProcessView)
    (like : Option SavedProcessView) (a : Bool) (some : 1 ≤ length ps) (first : like ≡ first_of (Some likes))
    (test : Tests a (process_fields like least (get_or ps 0 default))) where
  processes_test : (p : SavedProcessView) → Tests a (process_fields like least p)
      → Tests a (process_fields (first_of (Some likes)) least p)
  processes_test p here = subst (λ o. Tests a (process_fields o least p)) first here

  pub processes_not : a ≡ false → Tests false (processes_fields (Some likes) least ps)
  processes_not is = at ps some test
    where
      at : (xs : List SavedProcessView) → 1 ≤ length xs → Tests a (process_fields like least (get_or xs 0 default))
          → Tests false (processes_fields (Some likes) least xs)
      at [] some test = absurd (omega (arith, some))
      at (x ∷ xs) some test =
          not_first (process_fields (first_of (Some likes)) least x)
          (processes_fields (rest_of (Some likes)) (suc x.number) xs) a (processes_test x test) is

  pub processes_then : (behind_likes : List SavedProcessView) (b : Bool) → a ≡ true
      → behind_likes ≡ listed (rest_of (Some likes))
      → Tests b (processes_fields (Some behind_likes) (suc (get_or ps 0 default).number) (drop 1 ps))
      → Tests b (processes_fields (Some likes) least ps)
  processes_then behind_likes b is rest behind = at ps some test behind
    where
      at : (xs : List SavedProcessView) → 1 ≤ length xs → Tests a (process_fields like least (get_or xs 0 default))
          → Tests b (processes_fields (Some behind_likes) (suc (get_or xs 0 default).number) (drop 1 xs))
          → Tests b (processes_fields (Some likes) least xs)
      at [] some test behind = absurd (omega (arith, some))
      at (x ∷ xs) some test behind =
          others (process_fields (first_of (Some likes)) least x)
          (processes_fields (rest_of (Some likes)) (suc x.number) xs) a b (processes_test x test) is
          (subst (λ fs. Tests b fs) (processes_listed (rest_of (Some likes)) (suc x.number) xs)
          (subst (λ ls. Tests b (processes_fields (Some ls) (suc x.number) xs)) rest behind))

module _ (likes : List SavedEnd) (least : ℕ) (es : List SavedEnd) (default : SavedEnd) (like : Option SavedEnd)
    (a : Bool) (some : 1 ≤ length es) (first : like ≡ first_of (Some likes))
    (test : Tests a (saved_end_fields like least (get_or es 0 default))) where
  ends_test : (e : SavedEnd) → Tests a (saved_end_fields like least e)
      → Tests a (saved_end_fields (first_of (Some likes)) least e)
  ends_test e here = subst (λ o. Tests a (saved_end_fields o least e)) first here

  pub ends_not : a ≡ false → Tests false (ends_fields (Some likes) least es)
  ends_not is = at es some test
    where
      at : (xs : List SavedEnd) → 1 ≤ length xs → Tests a (saved_end_fields like least (get_or xs 0 default))
          → Tests false (ends_fields (Some likes) least xs)
      at [] some test = absurd (omega (arith, some))
      at (x ∷ xs) some test =
          not_first (saved_end_fields (first_of (Some likes)) least x)
          (ends_fields (rest_of (Some likes)) (suc x.channel) xs) a (ends_test x test) is

  pub ends_then : (behind_likes : List SavedEnd) (b : Bool) → a ≡ true → behind_likes ≡ listed (rest_of (Some likes))
      → Tests b (ends_fields (Some behind_likes) (suc (get_or es 0 default).channel) (drop 1 es))
      → Tests b (ends_fields (Some likes) least es)
  ends_then behind_likes b is rest behind = at es some test behind
    where
      at : (xs : List SavedEnd) → 1 ≤ length xs → Tests a (saved_end_fields like least (get_or xs 0 default))
          → Tests b (ends_fields (Some behind_likes) (suc (get_or xs 0 default).channel) (drop 1 xs))
          → Tests b (ends_fields (Some likes) least xs)
      at [] some test behind = absurd (omega (arith, some))
      at (x ∷ xs) some test behind =
          others (saved_end_fields (first_of (Some likes)) least x)
          (ends_fields (rest_of (Some likes)) (suc x.channel) xs) a b (ends_test x test) is
          (subst (λ fs. Tests b fs) (ends_listed (rest_of (Some likes)) (suc x.channel) xs)
          (subst (λ ls. Tests b (ends_fields (Some ls) (suc x.channel) xs)) rest behind))

-- how a process stands, whatever its variables are
pub mode_alone : (mode : Mode) (vars : List ℤ) → mode_fields (standing_in mode []) ≡ mode_fields (standing_in mode vars)
mode_alone NotBegun vars = refl
mode_alone (At place) vars = refl
mode_alone Finished vars = refl

pub variables_alone : (mode : Mode) (vars : List ℤ) → vars ≡ variables_of (standing_in mode vars)
variables_alone NotBegun vars = refl
variables_alone (At place) vars = refl
variables_alone Finished vars = refl

-- ---- part by part

module _ (like : Option SavedProcessView) (least : ℕ) (p : SavedProcessView) (a b : Bool)
    (number : IsTrue a
    ↔ IsAllowed (wanted_or (wanted (λ (p : SavedProcessView). p.number) like) (between 1 least MAX_PROCESSES p.number)))
    (numbered : a ≡ true) (mode : Tests b (mode_fields p.standing)) where
  abbrev numbered_field : Field
  numbered_field = wanted_or (wanted (λ (p : SavedProcessView). p.number) like) (between 1 least MAX_PROCESSES p.number)

  abbrev variables_field : Field
  variables_field =
      wanted_or (wanted (λ (p : SavedProcessView). length (variables_of p.standing)) like)
      (at_most 1 MAX_VARIABLES (length (variables_of p.standing)))

  pub process_not : b ≡ false → Tests false (process_fields like least p)
  process_not is =
      field_then numbered_field (mode_fields p.standing ++ (variables_field ∷ map item (variables_of p.standing))) a
      false number numbered
      (not_first (mode_fields p.standing) (variables_field ∷ map item (variables_of p.standing)) b mode is)

  pub process_then : (d : Bool) → b ≡ true → (IsTrue d ↔ IsAllowed variables_field)
      → Tests d (process_fields like least p)
  process_then d is variables =
      field_then numbered_field (mode_fields p.standing ++ (variables_field ∷ map item (variables_of p.standing))) a d
      number numbered
      (others (mode_fields p.standing) (variables_field ∷ map item (variables_of p.standing)) b d mode is
      (before_items (variables_field ∷ []) (variables_of p.standing) d (single variables_field d variables)))

module _ (limit from : ℕ) (log : LogState) (a : Bool) (base : IsTrue a ↔ IsAllowed (at_most 8 limit log.base)) where
  pub log_not : a ≡ false → Tests false (log_fields limit from log)
  log_not is =
      field_not (at_most 8 limit log.base) (retained_count log.base from (length log.items) ∷ map item log.items) a
      base is

  pub log_then : (b : Bool) → a ≡ true → (IsTrue b ↔ IsAllowed (retained_count log.base from (length log.items)))
      → Tests b (log_fields limit from log)
  log_then b is retained =
      field_then (at_most 8 limit log.base) (retained_count log.base from (length log.items) ∷ map item log.items) a b
      base is
      (before_items (retained_count log.base from (length log.items) ∷ []) log.items b
      (single (retained_count log.base from (length log.items)) b retained))

module _ (like : Option SavedEnd) (least : ℕ) (e : SavedEnd) (a b : Bool)
    (channel : IsTrue a
    ↔ IsAllowed (wanted_or (wanted (λ (e : SavedEnd). e.channel) like) (between 2 least MAX_CHANNELS e.channel)))
    (numbered : a ≡ true)
    (role : IsTrue b
    ↔ IsAllowed (wanted_or (wanted (λ (e : SavedEnd). role_of e.end) like) (at_most 1 2 (role_of e.end)))) where
  abbrev channel_field : Field
  channel_field = wanted_or (wanted (λ (e : SavedEnd). e.channel) like) (between 2 least MAX_CHANNELS e.channel)

  abbrev role_field : Field
  role_field = wanted_or (wanted (λ (e : SavedEnd). role_of e.end) like) (at_most 1 2 (role_of e.end))

  pub saved_end_not : b ≡ false → Tests false (saved_end_fields like least e)
  saved_end_not is =
      field_then channel_field (role_field ∷ end_fields e.end) a false channel numbered
      (field_not role_field (end_fields e.end) b role is)

  pub saved_end_then : (d : Bool) → b ≡ true → Tests d (end_fields e.end) → Tests d (saved_end_fields like least e)
  saved_end_then d is end =
      field_then channel_field (role_field ∷ end_fields e.end) a d channel numbered
      (field_then role_field (end_fields e.end) b d role is end)

module _ (left : List ℕ) (default : ℕ) (a : Bool) (some : 1 ≤ length left)
    (test : IsTrue a ↔ IsAllowed (remaining (get_or left 0 default))) where
  pub passes_not : a ≡ false → Tests false (map remaining left)
  passes_not is = at left some test
    where
      at : (xs : List ℕ) → 1 ≤ length xs → (IsTrue a ↔ IsAllowed (remaining (get_or xs 0 default)))
          → Tests false (map remaining xs)
      at [] some test = absurd (omega (arith, some))
      at (x ∷ xs) some test = field_not (remaining x) (map remaining xs) a test is

  pub passes_then : (b : Bool) → a ≡ true → Tests b (map remaining (drop 1 left)) → Tests b (map remaining left)
  passes_then b is behind = at left some test behind
    where
      at : (xs : List ℕ) → 1 ≤ length xs → (IsTrue a ↔ IsAllowed (remaining (get_or xs 0 default)))
          → Tests b (map remaining (drop 1 xs)) → Tests b (map remaining xs)
      at [] some test behind = absurd (omega (arith, some))
      at (x ∷ xs) some test behind = field_then (remaining x) (map remaining xs) a b test is behind

module _ (place : Place) (a : Bool) (site : IsTrue a ↔ IsAllowed (any 4 place.site)) where
  abbrev depth_field : Field
  depth_field = at_most 1 MAX_REPEATS (length place.left.items)

  abbrev passes_fields : List Field
  passes_fields = map remaining place.left.items

  at_site : IsAllowed (at_most 1 2 1)
  at_site = (omega arith, refl)

  pub mode_not : a ≡ false → Tests false (mode_fields (standing_in (At place) []))
  mode_not is =
      field_stands (at_most 1 2 1) (any 4 place.site ∷ depth_field ∷ passes_fields) false at_site
      (field_not (any 4 place.site) (depth_field ∷ passes_fields) a site is)

  pub mode_deep : (b : Bool) → a ≡ true → (IsTrue b ↔ IsAllowed depth_field) → b ≡ false
      → Tests false (mode_fields (standing_in (At place) []))
  mode_deep b is depth deep =
      field_stands (at_most 1 2 1) (any 4 place.site ∷ depth_field ∷ passes_fields) false at_site
      (field_then (any 4 place.site) (depth_field ∷ passes_fields) a false site is
      (field_not depth_field passes_fields b depth deep))

  pub mode_then : (b d : Bool) → a ≡ true → (IsTrue b ↔ IsAllowed depth_field) → b ≡ true → Tests d passes_fields
      → Tests d (mode_fields (standing_in (At place) []))
  mode_then b d is depth shallow passes =
      field_stands (at_most 1 2 1) (any 4 place.site ∷ depth_field ∷ passes_fields) d at_site
      (field_then (any 4 place.site) (depth_field ∷ passes_fields) a d site is
      (field_then depth_field passes_fields b d depth shallow passes))

pub one_more : (n : ℕ) → n + 1 ≡ suc n
one_more n = omega arith
