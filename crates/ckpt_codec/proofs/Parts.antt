-- The readers of a record's parts are lawful.
use Rattle.std.proofs.Common.{◌≡◌, ℕ, zero, suc, ◌+◌, ◌^◌, ◌<◌, ◌≤◌, Bool, true, false, ◌&&◌, not, nat_eq, nat_lt}
use Rattle.std.proofs.Common.{nat_le, cond, ℤ, pos, List, [], ◌∷◌, ◌++◌, length, map, drop, Option, Some, None, Ok, Err}
use Rattle.std.proofs.Common.{refl, sym, ap, ◌∙◌, arith, rules}
use Rattle.std.specs.Prelude.{FitsSigned}
use Rattle.std.specs.List.{AllByRecursion}
use Rattle.std.specs.Int.{w64, cast_signed, cast_unsigned, int_wrap}
use Rattle.std.proofs.lemmas.Bool.{eqb-true, leb-true}
use Rattle.std.proofs.lemmas.Int.{of_z-to_z, to_z-of_z, int_wrap_fits}
use Rattle.std.proofs.Math.Facts.{sfits_to_z, Fits-of_lt}
use Rattle.byteorder.specs.Endian.{big_number}
use Rattle.byteorder.specs.Numbers.{big_from-lt}
use Rattle.kahn_net.specs.Common.{Point, point_at}
use Rattle.record.specs.Common.{Standing, NotBegun, At, Done, MAX_COUNT, MAX_NODES, MAX_PROCESSES, MAX_CHANNELS}
use Rattle.record.specs.Common.{MAX_TIMES, MAX_REPEATS, MAX_VARIABLES, LogState, MAX_LOG_ITEMS, DecisionView}
use Rattle.record.specs.Common.{SavedProcessView, ImageView}
use Rattle.record.specs.declared.image.SavedEnd.{SavedEnd}
use Rattle.record.specs.declared.image.End.{End}
use Rattle.record.specs.declared.image.End.TheVariants.{Receives, Sends, Both}
use Rattle.ckpt_codec.specs.Fields.{Field}
use Rattle.ckpt_codec.specs.RecordText.{any, at_most, count, item, flag, between, wanted_or, participants}
use Rattle.ckpt_codec.specs.RecordText.{decision_fields, each_decision_fields, decisions_fields, first_of, rest_of, wanted, variables_of, mode_fields}
use Rattle.ckpt_codec.specs.RecordText.{process_fields, processes_fields, role_of, retained_count, end_fields}
use Rattle.ckpt_codec.specs.RecordText.{saved_end_fields, ends_fields, processes_in, ends_in, image_fields}
use Rattle.ckpt_codec.specs.RecordText.{items_of_end}
use Rattle.ckpt_codec.specs.ItemLaws.{wrapped_fits}
use Rattle.ckpt_codec.specs.declared.fault.CodecFault.TheVariants.{Truncated}
use Rattle.ckpt_codec.specs.Reading.{◌>>=◌, Found, Reader, number_at, if_passes, field_at, wanted_test, item_at}
use Rattle.ckpt_codec.specs.Reading.{count_at, flag_at, optional, each_as, unchanged, entries_at, nodes_at, highest_at}
use Rattle.ckpt_codec.specs.Reading.{participant_at, past_participant, participants_at, participant_count_at}
use Rattle.ckpt_codec.specs.Reading.{participant_list_at, decided_at, decided_so_many, decisions_at, decision_count_at, past_decision, items_at, depth_at, pass_at, passes_at}
use Rattle.ckpt_codec.specs.Reading.{so_many_passes_at}
use Rattle.ckpt_codec.specs.RecordText.{remaining}
use Rattle.ckpt_codec.specs.Reading.{place_at, Footing, standing_on, footing_in, footing_at, mode_at, variable_count_at}
use Rattle.ckpt_codec.specs.Reading.{variables_at, state_at, process_at, nth, number_wanted, variables_wanted}
use Rattle.ckpt_codec.specs.Reading.{process_like, past_process, processes_at, process_count_at, process_list_at}
use Rattle.ckpt_codec.specs.Reading.{retained_at, retained_items_at, log_at, end_at, role_at, role_end_at, saved_end_at}
use Rattle.ckpt_codec.specs.Reading.{channel_wanted, role_wanted, end_like, past_end, ends_at, end_count_at}
use Rattle.ckpt_codec.specs.Reading.{end_list_at, image_at}
use Rattle.ckpt_codec.specs.Reading.Footing.{BeforeAll, AtPoint, PastAll}
use Rattle.ckpt_codec.proofs.Scan.{Lawful, Each, field_lawful}
use Rattle.ckpt_codec.proofs.Combining.{refined, mapped, same_reader, same_values, built, counted}
use Rattle.ckpt_codec.proofs.Combining.{only_lawful}

-- ---- numbers

abbrev field_of : ℕ → (ℕ → Bool) → ℕ → Field
field_of width allows n = record { width = width; allows = allows; value = n }

-- a field of which every number that it allows may be had
pub plain : (field : ℕ → Field) (width : ℕ) (allows : ℕ → Bool) → ((n : ℕ) → field_of width allows n ≡ field n)
    → Lawful Each (λ n. field n ∷ []) (field_at width allows)
plain field width allows same = field_lawful Each field width allows same (λ n lt e. tt) 0 tt

wanted_is : (like : Option ℕ) (width : ℕ) (allows : ℕ → Bool) (n : ℕ)
    → field_of width (wanted_test like allows) n ≡ wanted_or like (field_of width allows n)
wanted_is None width allows n = refl
wanted_is (Some k) width allows n = refl

-- a field where one number may be wanted
pub wanting : (like : Option ℕ) (width : ℕ) (allows : ℕ → Bool)
    → Lawful Each (λ n. wanted_or like (field_of width allows n) ∷ []) (field_at width (wanted_test like allows))
wanting like width allows =
    plain (λ n. wanted_or like (field_of width allows n)) width (wanted_test like allows) (wanted_is like width allows)

pub count_lawful : Lawful Each (λ n. count n ∷ []) count_at
count_lawful = plain count 8 (λ v. nat_le v MAX_COUNT) (λ n. refl)

passes_all : (found : Found ℕ) → found ≡ if_passes (λ v. true) found
passes_all (Ok x) = refl
passes_all (Err fault) = refl

pub any_lawful : (width : ℕ) → Lawful Each (λ n. any width n ∷ []) (number_at width)
any_lawful width =
    same_reader (number_at width) (plain (any width) width (λ v. true) (λ n. refl))
    (λ bytes. passes_all (number_at width bytes))

-- ---- items

any_less : (width : ℕ) → Lawful (λ n. n < 256 ^ width) (λ n. any width n ∷ []) (number_at width)
any_less width =
    same_reader (number_at width)
    (field_lawful (λ n. n < 256 ^ width) (any width) width (λ v. true) (λ n. refl) (λ n lt e. lt) 0
    (omega (arith, big_from-lt 0 width [] (λ k. omega arith)))) (λ bytes. passes_all (number_at width bytes))

pub signed_fits : (n : ℕ) → n < 256 ^ 8 → FitsSigned w64 (cast_signed w64 n)
signed_fits n lt = sfits_to_z {w = w64} {n = n} (Fits-of_lt lt)

pub item_lawful : Lawful (FitsSigned w64) (λ z. item z ∷ []) item_at
unfolding item_at number_at
item_lawful =
    same_reader item_at
    (mapped (FitsSigned w64) (λ z. item z ∷ []) (cast_signed w64) (λ z. cast_unsigned w64 (int_wrap w64 z)) (any_less 8)
    (λ z fits. (
      wrapped_fits z,
      ap (λ (v : ℤ). cast_signed w64 (cast_unsigned w64 v)) (int_wrap_fits w64 z fits)
          ∙ to_z-of_z w64 z fits,
      refl,
    ))
    (λ n lt. (
      signed_fits n lt,
      ap (cast_unsigned w64) (int_wrap_fits w64 (cast_signed w64 n) (signed_fits n lt))
          ∙ of_z-to_z w64 n lt,
    )))
    (λ bytes. chosen (nat_lt (length bytes) 8) (big_number 8 bytes) (drop 8 bytes))
  where
    chosen : (short : Bool) (n : ℕ) (rest : List ℕ)
        → cond {A = Found ℤ} short (Err Truncated) (Ok (cast_signed w64 n, rest))
        ≡ (cond {A = Found ℕ} short (Err Truncated) (Ok (n, rest)) >>= λ x. Ok (cast_signed w64 x.0, x.1))
    chosen true n rest = refl
    chosen false n rest = refl

pub all_each : {X : Type 0} (xs : List X) → AllByRecursion Each xs
all_each [] = tt
all_each (x ∷ xs) = (tt, all_each xs)

-- ---- the highest numbers, and the decisions

abbrev pub nodes_field : ℕ → ℕ → Field
nodes_field node n = record { width = 1; allows = λ v. nat_lt node v && nat_le v MAX_NODES; value = n }

pub highest_lawful : (node : ℕ)
    → Lawful Each (λ highest. nodes_field node (length highest) ∷ map count highest) (highest_at node)
unfolding highest_at entries_at
highest_lawful node =
    same_values Each
    (counted {IsX = Each} 0 tt (λ s n. count n ∷ []) (λ s hs. map count hs) (each_as count_at) unchanged
    (nodes_field node) (nodes_at node) tt
    (plain (nodes_field node) 1 (λ v. nat_lt node v && nat_le v MAX_NODES) (λ n. refl)) (λ s. count_lawful) (λ s. refl)
    (λ s x xs. refl))
    (λ hs is. all_each hs) (λ hs are. tt)

abbrev pub participant_field : ℕ → ℕ → ℕ → ℕ → Field
participant_field node nodes least p =
    record { width = 1; allows = λ v. nat_le least v && (nat_lt v nodes && not (nat_eq v node)); value = p }

abbrev pub participant_count : ℕ → Field
participant_count n = record { width = 1; allows = λ v. nat_le 1 v; value = n }

participants_lawful : (node nodes : ℕ)
    → Lawful Each (λ ps. participant_count (length ps) ∷ participants node nodes 0 ps) (participant_list_at node nodes)
unfolding participant_list_at participants_at
participants_lawful node nodes =
    same_values Each
    (counted {IsX = Each} 0 tt (λ least p. participant_field node nodes least p ∷ []) (participants node nodes)
    (participant_at node nodes) past_participant participant_count participant_count_at 0
    (plain participant_count 1 (λ v. nat_le 1 v) (λ n. refl))
    (λ least. plain (participant_field node nodes least) 1
    (λ v. nat_le least v && (nat_lt v nodes && not (nat_eq v node))) (λ n. refl)) (λ s. refl)
    (λ least p ps. ap (λ (k : ℕ). participant_field node nodes least p ∷ participants node nodes k ps) (next_is p)))
    (λ ps is. all_each ps) (λ ps are. tt)
  where
    next_is : (p : ℕ) → suc p ≡ p + 1
    next_is p = omega arith

decided_lawful : (node nodes own least : ℕ)
    → Lawful Each (decision_fields node nodes own least) (decided_at node nodes own least)
unfolding decided_at
decided_lawful node nodes own least =
    same_values Each
    (built (λ n ps. record { number = n; participants = ps }) (λ (d : DecisionView). d.number)
    (λ (d : DecisionView). d.participants) (decision_fields node nodes own least)
    (plain (between 8 least (suc own)) 8 (λ v. nat_le least v && nat_lt v (suc own)) (λ n. refl))
    (λ n is. participants_lawful node nodes) (λ n is. ([], tt))
    (λ d. (refl, refl)) (λ n ps. (refl, refl)))
    (λ d is. (tt, tt)) (λ d is. tt)

pub decisions_lawful : (most node nodes own : ℕ)
    → Lawful Each (decisions_fields most node nodes own) (decisions_at most node nodes own)
unfolding decisions_at decided_so_many
decisions_lawful most node nodes own =
    same_values Each
    (counted {IsX = Each} (record { number = 0; participants = [] }) tt (decision_fields node nodes own)
    (each_decision_fields node nodes own) (decided_at node nodes own) past_decision (at_most 1 most)
    (decision_count_at most) 1
    (plain (at_most 1 most) 1 (λ v. nat_le v most) (λ n. refl)) (decided_lawful node nodes own) (λ s. refl)
    (λ least d ds. ap (λ (k : ℕ). decision_fields node nodes own least d ++ each_decision_fields node nodes own k ds)
    (next_is d.number)))
    (λ ds is. all_each ds) (λ ds are. tt)
  where
    next_is : (n : ℕ) → suc n ≡ n + 1
    next_is n = omega arith

-- ---- parts that may be left out

abbrev pub IfThere : {A : Type 0} → (A → Type 0) → Option A → Type 0
IfThere Is None = Unit {0}
IfThere Is (Some a) = Is a

abbrev pub is_there : {A : Type 0} → Option A → Bool
is_there None = false
is_there (Some a) = true

abbrev or_else : {A : Type 0} → A → Option A → A
or_else other None = other
or_else other (Some a) = a

-- what follows the flag
abbrev pub behind_flag : {A : Type 0} → (A → List Field) → Option A → List Field
behind_flag fields None = []
behind_flag fields (Some a) = fields a

abbrev pub flag_of : Bool → Field
flag_of b = flag (cond b 1 0)

flag_lawful : Lawful Each (λ b. flag_of b ∷ []) flag_at
flag_lawful =
    mapped Each (λ b. flag_of b ∷ []) (λ n. nat_eq n 1) (λ b. cond b 1 0)
    (field_lawful (λ n. n ≤ 1) flag 1 (λ v. nat_le v 1) (λ n. refl) (λ n lt e. leb-true n 1 e) 0 (omega arith)) back
    forth
  where
    back : (b : Bool) → Each b
        → (cond b 1 0 ≤ 1) × (nat_eq (cond b 1 0) 1 ≡ b) × (flag_of b ∷ [] ≡ flag (cond b 1 0) ∷ [])
    back true is = (omega arith, refl, refl)
    back false is = (omega arith, refl, refl)

    same : (n : ℕ) → n ≤ 1 → cond (nat_eq n 1) 1 0 ≡ n
    same zero le = refl
    same (suc zero) le = refl
    same (suc (suc n)) le = absurd (omega arith)

    forth : (n : ℕ) → n ≤ 1 → Unit {0} × (cond (nat_eq n 1) 1 0 ≡ n)
    forth n le = (tt, same n le)

abbrev by_flag : {A : Type 0} → Reader A → Bool → Reader (Option A)
by_flag read b bytes = cond b (read bytes >>= λ x. Ok (Some x.0, x.1)) (Ok (None, bytes))

by_flag_lawful : {A : Type 0} {IsA : A → Type 0} {fields : A → List Field} {read : Reader A} → Lawful IsA fields read
    → (some : A)
    → (b : Bool) → Each b → Lawful (λ o. IfThere IsA o × (is_there o ≡ b)) (behind_flag fields) (by_flag read b)
by_flag_lawful {A = A} {IsA = IsA} {fields = fields} {read = read} law some true e =
    mapped (λ o. IfThere IsA o × (is_there o ≡ true)) (behind_flag fields) (λ a. Some a) (or_else some) law back
    (λ a is. ((is, refl), refl))
  where
    back : (o : Option A) → IfThere IsA o × (is_there o ≡ true)
        → IsA (or_else some o) × (Some (or_else some o) ≡ o) × (behind_flag fields o ≡ fields (or_else some o))
    back None h = let apart : false ≡ true = h.1 in absurd cc
    back (Some a) h = (h.0, refl, refl)
by_flag_lawful {A = A} {IsA = IsA} {fields = fields} {read = read} law some false e =
    only_lawful (λ o. IfThere IsA o × (is_there o ≡ false)) (behind_flag fields) None (tt, refl) none_is refl
  where
    none_is : (o : Option A) → IfThere IsA o × (is_there o ≡ false) → o ≡ None
    none_is None h = refl
    none_is (Some a) h = let apart : true ≡ false = h.1 in absurd cc

pub optional_lawful : {A : Type 0} {IsA : A → Type 0} {fields : A → List Field} {read : Reader A}
    → Lawful IsA fields read → (some : A) → IsA some
    → Lawful (IfThere IsA) (λ o. flag_of (is_there o) ∷ behind_flag fields o) (optional read)
optional_lawful {A = A} {IsA = IsA} {fields = fields} {read = read} law some is =
    refined (IfThere IsA) (behind_flag fields) (by_flag read) is_there flag_lawful (by_flag_lawful law some)
    (λ o fits. tt) some_of
  where
    some_of : (b : Bool) → Each b → (o : Option A) × IfThere IsA o × (is_there o ≡ b)
    some_of true e = (Some some, is, refl)
    some_of false e = (None, tt, refl)

-- ---- processes

abbrev variable_count : Option ℕ → ℕ → Field
variable_count like n = wanted_or like (at_most 1 MAX_VARIABLES n)

abbrev AreItems : List ℤ → Type 0
AreItems zs = AllByRecursion (FitsSigned w64) zs

zero_fits : FitsSigned w64 (pos 0)
zero_fits = search rules

variables_lawful : (like : Option ℕ)
    → Lawful AreItems (λ vars. variable_count like (length vars) ∷ map item vars) (variables_at like)
unfolding variables_at items_at
variables_lawful like =
    counted {IsX = FitsSigned w64} (pos 0) zero_fits (λ s z. item z ∷ []) (λ s zs. map item zs) (each_as item_at)
    unchanged (variable_count like) (variable_count_at like) tt
    (wanting like 1 (λ v. nat_le v MAX_VARIABLES)) (λ s. item_lawful) (λ s. refl) (λ s x xs. refl)

abbrev place_fields : Point → List Field
place_fields p = any 4 p.site ∷ at_most 1 MAX_REPEATS (length p.left) ∷ map remaining p.left

passes_lawful : Lawful Each (λ (left : List ℕ). at_most 1 MAX_REPEATS (length left) ∷ map remaining left) passes_at
unfolding passes_at so_many_passes_at
passes_lawful =
    same_values Each
    (counted {IsX = Each} 1 tt (λ s n. remaining n ∷ []) (λ s ns. map remaining ns) (each_as pass_at) unchanged
    (at_most 1 MAX_REPEATS) depth_at tt (plain (at_most 1 MAX_REPEATS) 1 (λ v. nat_le v MAX_REPEATS) (λ n. refl))
    (λ s. plain remaining 2 (λ v. nat_le 1 v && nat_lt v (suc MAX_TIMES)) (λ n. refl)) (λ s. refl) (λ s x xs. refl))
    (λ left is. all_each left) (λ left are. tt)

place_lawful : Lawful Each place_fields place_at
unfolding place_at
place_lawful =
    same_values Each
    (built point_at (λ (p : Point). p.site) (λ (p : Point). p.left)
    place_fields
    (any_lawful 4) (λ site is. passes_lawful) (λ site is. ([], tt)) (λ p. (refl, refl)) (λ site left. (refl, refl)))
    (λ p is. (tt, tt)) (λ p is. tt)

abbrev mode_number : Footing → ℕ
mode_number BeforeAll = 0
mode_number (AtPoint point) = 1
mode_number PastAll = 2

abbrev behind_mode : Footing → List Field
behind_mode BeforeAll = []
behind_mode (AtPoint point) = place_fields point
behind_mode PastAll = []

first_mode : (f : Footing) → Each f × (mode_number f ≡ 0) → f ≡ BeforeAll
first_mode BeforeAll h = refl
first_mode (AtPoint point) h = absurd (omega (arith, h.1))
first_mode PastAll h = absurd (omega (arith, h.1))

last_mode : (f : Footing) → Each f × (mode_number f ≡ 2) → f ≡ PastAll
last_mode BeforeAll h = absurd (omega (arith, h.1))
last_mode (AtPoint point) h = absurd (omega (arith, h.1))
last_mode PastAll h = refl

abbrev point_in : Footing → Point
point_in BeforeAll = point_at 0 []
point_in (AtPoint point) = point
point_in PastAll = point_at 0 []

middle_mode : (f : Footing) → Each f × (mode_number f ≡ 1)
    → Unit {0} × (AtPoint (point_in f) ≡ f)
    × (behind_mode f ≡ place_fields (point_in f))
middle_mode BeforeAll h = absurd (omega (arith, h.1))
middle_mode (AtPoint point) h = (tt, refl, refl)
middle_mode PastAll h = absurd (omega (arith, h.1))

by_mode : (n : ℕ) → n ≤ 2 → Lawful (λ f. Each f × (mode_number f ≡ n)) behind_mode (footing_in n)
by_mode zero le = only_lawful (λ f. Each f × (mode_number f ≡ 0)) behind_mode BeforeAll (tt, refl) first_mode refl
by_mode (suc zero) le =
    mapped (λ f. Each f × (mode_number f ≡ 1)) behind_mode AtPoint point_in place_lawful middle_mode
    (λ p is. ((tt, refl), refl))
by_mode (suc (suc zero)) le =
    only_lawful (λ f. Each f × (mode_number f ≡ 2)) behind_mode PastAll (tt, refl) last_mode refl
by_mode (suc (suc (suc n))) le = absurd (omega arith)

footing_lawful : Lawful Each (λ f. at_most 1 2 (mode_number f) ∷ behind_mode f) footing_at
unfolding footing_at
footing_lawful =
    refined Each behind_mode footing_in mode_number
    (field_lawful (λ n. n ≤ 2) (at_most 1 2) 1 (λ v. nat_le v 2) (λ n. refl) (λ n lt e. leb-true n 2 e) 0
    (omega arith)) by_mode is_mode some_of
  where
    is_mode : (f : Footing) → Each f → mode_number f ≤ 2
    is_mode BeforeAll e = omega arith
    is_mode (AtPoint point) e = omega arith
    is_mode PastAll e = omega arith

    some_of : (n : ℕ) → n ≤ 2 → (f : Footing) × Each f × (mode_number f ≡ n)
    some_of zero le = (BeforeAll, tt, refl)
    some_of (suc zero) le = (AtPoint (point_at 0 []), tt, refl)
    some_of (suc (suc zero)) le = (PastAll, tt, refl)
    some_of (suc (suc (suc n))) le = absurd (omega arith)

-- ---- a process's state

abbrev footing_of : Standing → Footing
footing_of (NotBegun vars) = BeforeAll
footing_of (At point vars) = AtPoint point
footing_of (Done vars) = PastAll

abbrev pub state_fields : Option ℕ → Standing → List Field
state_fields like standing =
    mode_fields standing ++ (variable_count like (length (variables_of standing)) ∷ map item (variables_of standing))

abbrev pub IsState : Standing → Type 0
IsState standing = AreItems (variables_of standing)

abbrev with_mode : Footing × List ℕ → Found (List ℤ → Standing)
with_mode x = Ok (standing_on x.0, x.1)

abbrev with_variables : Option ℕ → (List ℤ → Standing) × List ℕ → Found Standing
with_variables like mode = variables_at like mode.1 >>= λ vars. Ok (mode.0 vars.0, vars.1)

state_lawful : (like : Option ℕ) → Lawful IsState (state_fields like) (state_at like)
unfolding state_at mode_at
state_lawful like =
    same_reader (state_at like)
    (same_values IsState
    (built standing_on footing_of variables_of (state_fields like) footing_lawful (λ f is. variables_lawful like)
    (λ f is. ([], tt)) unmade made)
    (λ standing is. (tt, is)) (λ standing is. is.1))
    (λ bytes. regrouped (footing_at bytes))
  where
    regrouped : (r : Found Footing)
        → ((r >>= with_mode) >>= with_variables like)
        ≡ (r >>= λ x. variables_at like x.1 >>= λ y. Ok (standing_on x.0 y.0, y.1))
    regrouped (Ok x) = refl
    regrouped (Err fault) = refl

    unmade : (c : Standing) → (standing_on (footing_of c) (variables_of c) ≡ c)
        × (state_fields like c
        ≡ (at_most 1 2 (mode_number (footing_of c)) ∷ behind_mode (footing_of c))
        ++ (variable_count like (length (variables_of c)) ∷ map item (variables_of c)))
    unmade (NotBegun vars) = (refl, refl)
    unmade (At point vars) = (refl, refl)
    unmade (Done vars) = (refl, refl)

    made : (f : Footing) (vars : List ℤ)
        → (footing_of (standing_on f vars) ≡ f) × (variables_of (standing_on f vars) ≡ vars)
    made BeforeAll vars = (refl, refl)
    made (AtPoint point) vars = (refl, refl)
    made PastAll vars = (refl, refl)

-- ---- processes

abbrev IsProcess : SavedProcessView → Type 0
IsProcess p = IsState p.standing

abbrev process_number : Option ℕ → ℕ → ℕ → Field
process_number like least n = wanted_or like (between 1 least MAX_PROCESSES n)

process_lawful : (number variables : Option ℕ) (least : ℕ)
    → Lawful IsProcess
    (λ (p : SavedProcessView). process_number number least p.number ∷ state_fields variables p.standing)
    (process_at number variables least)
unfolding process_at
process_lawful number variables least =
    same_values IsProcess
    (built (λ n standing. record { number = n; standing = standing }) (λ (p : SavedProcessView). p.number)
    (λ (p : SavedProcessView). p.standing)
    (λ (p : SavedProcessView). process_number number least p.number ∷ state_fields variables p.standing)
    (wanting number 1 (λ v. nat_le least v && nat_lt v MAX_PROCESSES)) (λ n is. state_lawful variables)
    (λ n is. (NotBegun [], tt))
    (λ p. (refl, refl)) (λ n standing. (refl, refl)))
    (λ p is. (tt, is)) (λ p is. is.1)

-- what is left of the first image's list after so many
abbrev past : {X : Type 0} → ℕ → Option (List X) → Option (List X)
past zero like = like
past (suc n) like = rest_of (past n like)

past-rest : {X : Type 0} (n : ℕ) (like : Option (List X)) → past n (rest_of like) ≡ rest_of (past n like)
past-rest zero like = refl
past-rest {X = X} (suc n) like = ap (λ (l : Option (List X)). rest_of l) (past-rest n like)

first-past : {X : Type 0} (n : ℕ) (like : Option (List X)) → first_of (past n like) ≡ nth like n
first-past zero None = refl
first-past zero (Some []) = refl
first-past zero (Some (x ∷ xs)) = refl
first-past {X = X} (suc n) None = ap (λ (l : Option (List X)). first_of l) (sym (past-rest n None)) ∙ first-past n None
first-past {X = X} (suc n) (Some []) =
    ap (λ (l : Option (List X)). first_of l) (sym (past-rest n (Some []))) ∙ first-past n None
first-past {X = X} (suc n) (Some (x ∷ xs)) =
    ap (λ (l : Option (List X)). first_of l) (sym (past-rest n (Some (x ∷ xs)))) ∙ first-past n (Some xs)

next_is : (n : ℕ) → suc n ≡ n + 1
next_is n = omega arith

abbrev each_process : Option (List SavedProcessView) → ℕ × ℕ → SavedProcessView → List Field
each_process like s p =
    process_number (number_wanted like s.0) s.1 p.number ∷ state_fields (variables_wanted like s.0) p.standing

abbrev walk_processes : Option (List SavedProcessView) → ℕ × ℕ → List SavedProcessView → List Field
walk_processes like s ps = processes_fields (past s.0 like) s.1 ps

walk_process : (like : Option (List SavedProcessView)) (s : ℕ × ℕ) (p : SavedProcessView) (ps : List SavedProcessView)
    → walk_processes like s (p ∷ ps) ≡ each_process like s p ++ walk_processes like (past_process s p) ps
walk_process like s p ps =
    ap (λ (l : Option SavedProcessView). process_fields l s.1 p
    ++ processes_fields (rest_of (past s.0 like)) (suc p.number) ps) (first-past s.0 like)
    ∙ (ap (λ (k : ℕ). each_process like s p ++ processes_fields (rest_of (past s.0 like)) k ps) (next_is p.number)
    ∙ ap (λ (k : ℕ). each_process like s p ++ processes_fields (past k like) (p.number + 1) ps) (next_is s.0))

abbrev pub process_count : Option ImageView → ℕ → Field
process_count like n = wanted_or (wanted (λ (i : ImageView). length i.processes) like) (at_most 1 MAX_PROCESSES n)

abbrev pub AreProcesses : List SavedProcessView → Type 0
AreProcesses ps = AllByRecursion IsProcess ps

pub process_list_lawful : (like : Option ImageView)
    → Lawful AreProcesses (λ ps. process_count like (length ps) ∷ processes_fields (processes_in like) 0 ps)
    (process_list_at like)
unfolding process_list_at processes_at
process_list_lawful like =
    counted {IsX = IsProcess} (record { number = 0; standing = NotBegun [] }) tt (each_process (processes_in like))
    (walk_processes (processes_in like)) (process_like (processes_in like)) past_process
    (process_count like) (process_count_at (wanted (λ (i : ImageView). length i.processes) like)) (0, 0)
    (wanting (wanted (λ (i : ImageView). length i.processes) like) 1 (λ v. nat_le v MAX_PROCESSES))
    (λ s. process_lawful (number_wanted (processes_in like) s.0) (variables_wanted (processes_in like) s.0) s.1)
    (λ s. refl) (walk_process (processes_in like))

-- ---- ends

retained_lawful : (base from : ℕ)
    → Lawful AreItems (λ zs. retained_count base from (length zs) ∷ map item zs) (retained_items_at base from)
unfolding retained_items_at items_at
retained_lawful base from =
    counted {IsX = FitsSigned w64} (pos 0) zero_fits (λ s z. item z ∷ []) (λ s zs. map item zs) (each_as item_at)
    unchanged (retained_count base from) (retained_at base from) tt
    (plain (retained_count base from) 4
    (λ v. nat_le v MAX_LOG_ITEMS && (nat_le (base + v) MAX_COUNT && nat_le from (base + v))) (λ n. refl))
    (λ s. item_lawful) (λ s. refl) (λ s x xs. refl)

abbrev log_fields : ℕ → ℕ → LogState → List Field
log_fields limit from log =
    at_most 8 limit log.base ∷ retained_count log.base from (length log.items) ∷ map item log.items

abbrev IsLog : LogState → Type 0
IsLog log = AreItems log.items

log_lawful : (limit from : ℕ) → Lawful IsLog (log_fields limit from) (log_at limit from)
unfolding log_at
log_lawful limit from =
    same_values IsLog
    (built (λ base items. record { base = base; items = items }) (λ (log : LogState). log.base)
    (λ (log : LogState). log.items) (log_fields limit from)
    (plain (at_most 8 limit) 8 (λ v. nat_le v limit) (λ n. refl)) (λ base is. retained_lawful base from)
    (λ base is. ([], tt))
    (λ log. (refl, refl)) (λ base items. (refl, refl)))
    (λ log is. (tt, is)) (λ log is. is.1)

abbrev pub IsEnd : End → Type 0
IsEnd end = AreItems (items_of_end end)

abbrev received_in : End → ℕ
received_in (Receives received) = received
received_in (Sends log) = 0
received_in (Both received log) = received

abbrev log_in : End → LogState
log_in (Receives received) = record { base = 0; items = [] }
log_in (Sends log) = log
log_in (Both received log) = log

receives_back : (e : End) → IsEnd e × (role_of e ≡ 0)
    → Unit {0} × (Receives (received_in e) ≡ e) × (end_fields e ≡ count (received_in e) ∷ [])
receives_back (Receives received) h = (tt, refl, refl)
receives_back (Sends log) h = absurd (omega (arith, h.1))
receives_back (Both received log) h = absurd (omega (arith, h.1))

sends_back : (e : End) → IsEnd e × (role_of e ≡ 1)
    → IsLog (log_in e) × (Sends (log_in e) ≡ e) × (end_fields e ≡ log_fields MAX_COUNT 0 (log_in e))
sends_back (Receives received) h = absurd (omega (arith, h.1))
sends_back (Sends log) h = (h.0, refl, refl)
sends_back (Both received log) h = absurd (omega (arith, h.1))

-- a count, and a log that goes with it
abbrev both_at : Reader (ℕ × LogState)
both_at bytes =
    count_at bytes >>= λ received. log_at received.0 received.0 received.1 >>= λ log. Ok ((received.0, log.0), log.1)

abbrev IsBoth : ℕ × LogState → Type 0
IsBoth x = Unit {0} × IsLog x.1

both_lawful : Lawful IsBoth (λ x. count x.0 ∷ log_fields x.0 x.0 x.1) both_at
both_lawful =
    built (λ received log. (received, log)) (λ x. x.0) (λ x. x.1) (λ x. count x.0 ∷ log_fields x.0 x.0 x.1)
    count_lawful (λ received is. log_lawful received received) (λ received is. (record { base = 0; items = [] }, tt))
    (λ x. (refl, refl)) (λ received log. (refl, refl))

both_back : (e : End) → IsEnd e × (role_of e ≡ 2)
    → IsBoth (received_in e, log_in e) × (Both (received_in e) (log_in e) ≡ e)
    × (end_fields e ≡ count (received_in e) ∷ log_fields (received_in e) (received_in e) (log_in e))
both_back (Receives received) h = absurd (omega (arith, h.1))
both_back (Sends log) h = absurd (omega (arith, h.1))
both_back (Both received log) h = ((tt, h.0), refl, refl)

abbrev as_both : (ℕ × LogState) × List ℕ → Found End
as_both x = Ok (Both x.0.0 x.0.1, x.1)

abbrev with_log : ℕ → LogState × List ℕ → Found (ℕ × LogState)
with_log received log = Ok ((received, log.0), log.1)

abbrev end_with_log : ℕ → LogState × List ℕ → Found End
end_with_log received log = Ok (Both received log.0, log.1)

log_regrouped : (received : ℕ) (r : Found LogState)
    → (r >>= end_with_log received) ≡ ((r >>= with_log received) >>= as_both)
log_regrouped received (Ok log) = refl
log_regrouped received (Err fault) = refl

both_regrouped : (r : Found ℕ) → (r >>= λ received. log_at received.0 received.0 received.1 >>= end_with_log received.0)
    ≡ ((r >>= λ received. log_at received.0 received.0 received.1 >>= with_log received.0) >>= as_both)
both_regrouped (Err fault) = refl
both_regrouped (Ok x) = log_regrouped x.0 (log_at x.0 x.0 x.1)

by_role : (n : ℕ) → n ≤ 2 → Lawful (λ e. IsEnd e × (role_of e ≡ n)) end_fields (end_at n)
unfolding end_at
by_role zero le =
    mapped (λ e. IsEnd e × (role_of e ≡ 0)) end_fields Receives received_in count_lawful receives_back
    (λ received is. ((tt, refl), refl))
by_role (suc zero) le =
    mapped (λ e. IsEnd e × (role_of e ≡ 1)) end_fields Sends log_in (log_lawful MAX_COUNT 0) sends_back
    (λ log is. ((is, refl), refl))
by_role (suc (suc zero)) le =
    same_reader
    (λ bytes. count_at bytes >>= λ received. log_at received.0 received.0 received.1 >>= λ log. Ok
    (Both received.0 log.0, log.1))
    (mapped (λ e. IsEnd e × (role_of e ≡ 2)) end_fields (λ x. Both x.0 x.1) (λ e. (received_in e, log_in e))
    both_lawful both_back (λ x is. ((is.1, refl), refl)))
    (λ bytes. both_regrouped (count_at bytes))
by_role (suc (suc (suc n))) le = absurd (omega arith)

role_most : (e : End) → role_of e ≤ 2
role_most (Receives received) = omega arith
role_most (Sends log) = omega arith
role_most (Both received log) = omega arith

-- what is wanted is a role
abbrev IsRole : Option ℕ → Type 0
IsRole None = Unit {0}
IsRole (Some n) = n ≤ 2

abbrev role_field : Option ℕ → ℕ → Field
role_field like n = wanted_or like (at_most 1 2 n)

role_lawful : (like : Option ℕ) → IsRole like → Lawful (λ n. n ≤ 2) (λ n. role_field like n ∷ []) (role_at like)
role_lawful like is =
    field_lawful (λ n. n ≤ 2) (role_field like) 1 (wanted_test like (λ v. nat_le v 2))
    (wanted_is like 1 (λ v. nat_le v 2)) (λ n lt e. allowed like n is e) 0 (omega arith)
  where
    allowed : (like : Option ℕ) (n : ℕ) → IsRole like → wanted_test like (λ v. nat_le v 2) n ≡ true → n ≤ 2
    allowed None n is e = leb-true n 2 e
    allowed (Some k) n is e = let same : n ≡ k = eqb-true n k e in omega arith

some_end : (n : ℕ) → n ≤ 2 → (e : End) × IsEnd e × (role_of e ≡ n)
some_end zero le = (Receives 0, tt, refl)
some_end (suc zero) le = (Sends (record { base = 0; items = [] }), tt, refl)
some_end (suc (suc zero)) le = (Both 0 (record { base = 0; items = [] }), tt, refl)
some_end (suc (suc (suc n))) le = absurd (omega arith)

role_end_lawful : (like : Option ℕ) → IsRole like
    → Lawful IsEnd (λ e. role_field like (role_of e) ∷ end_fields e) (role_end_at like)
unfolding role_end_at
role_end_lawful like is =
    refined IsEnd end_fields end_at role_of (role_lawful like is) by_role (λ e fits. role_most e) some_end

abbrev IsSavedEnd : SavedEnd → Type 0
IsSavedEnd saved = IsEnd saved.end

abbrev channel_field : Option ℕ → ℕ → ℕ → Field
channel_field like least n = wanted_or like (between 2 least MAX_CHANNELS n)

saved_end_lawful : (channel role : Option ℕ) (least : ℕ) → IsRole role
    → Lawful IsSavedEnd
    (λ (e : SavedEnd). channel_field channel least e.channel ∷ role_field role (role_of e.end) ∷ end_fields e.end)
    (saved_end_at channel role least)
unfolding saved_end_at
saved_end_lawful channel role least is =
    same_values IsSavedEnd
    (built (λ n e. record { channel = n; end = e }) (λ (e : SavedEnd). e.channel) (λ (e : SavedEnd). e.end)
    (λ (e : SavedEnd). channel_field channel least e.channel ∷ role_field role (role_of e.end) ∷ end_fields e.end)
    (wanting channel 2 (λ v. nat_le least v && nat_lt v MAX_CHANNELS)) (λ n all. role_end_lawful role is)
    (λ n all. (Receives 0, tt))
    (λ e. (refl, refl)) (λ n e. (refl, refl)))
    (λ e fits. (tt, fits)) (λ e fits. fits.1)

abbrev each_end : Option (List SavedEnd) → ℕ × ℕ → SavedEnd → List Field
each_end like s e =
    channel_field (channel_wanted like s.0) s.1 e.channel ∷ role_field (role_wanted like s.0) (role_of e.end)
    ∷ end_fields e.end

abbrev walk_ends : Option (List SavedEnd) → ℕ × ℕ → List SavedEnd → List Field
walk_ends like s es = ends_fields (past s.0 like) s.1 es

walk_end : (like : Option (List SavedEnd)) (s : ℕ × ℕ) (e : SavedEnd) (es : List SavedEnd)
    → walk_ends like s (e ∷ es) ≡ each_end like s e ++ walk_ends like (past_end s e) es
walk_end like s e es =
    ap (λ (l : Option SavedEnd). saved_end_fields l s.1 e ++ ends_fields (rest_of (past s.0 like)) (suc e.channel) es)
    (first-past s.0 like)
    ∙ (ap (λ (k : ℕ). each_end like s e ++ ends_fields (rest_of (past s.0 like)) k es) (next_is e.channel)
    ∙ ap (λ (k : ℕ). each_end like s e ++ ends_fields (past k like) (e.channel + 1) es) (next_is s.0))

wanted_role : (like : Option SavedEnd) → IsRole (wanted (λ (e : SavedEnd). role_of e.end) like)
wanted_role None = tt
wanted_role (Some e) = role_most e.end

abbrev pub end_count : Option ImageView → ℕ → Field
end_count like n = wanted_or (wanted (λ (i : ImageView). length i.ends) like) (at_most 2 MAX_CHANNELS n)

abbrev pub AreEnds : List SavedEnd → Type 0
AreEnds es = AllByRecursion IsSavedEnd es

pub end_list_lawful : (like : Option ImageView)
    → Lawful AreEnds (λ es. end_count like (length es) ∷ ends_fields (ends_in like) 0 es) (end_list_at like)
unfolding end_list_at ends_at
end_list_lawful like =
    counted {IsX = IsSavedEnd} (record { channel = 0; end = Receives 0 }) tt (each_end (ends_in like))
    (walk_ends (ends_in like)) (end_like (ends_in like)) past_end
    (end_count like) (end_count_at (wanted (λ (i : ImageView). length i.ends) like)) (0, 0)
    (wanting (wanted (λ (i : ImageView). length i.ends) like) 2 (λ v. nat_le v MAX_CHANNELS))
    (λ s. saved_end_lawful (channel_wanted (ends_in like) s.0) (role_wanted (ends_in like) s.0) s.1
    (wanted_role (nth (ends_in like) s.0))) (λ s. refl) (walk_end (ends_in like))

-- ---- an image

pub record IsImage (image : ImageView) : Type 0 where
  pub processes : AreProcesses image.processes
  pub ends : AreEnds image.ends

pub image_lawful : (like : Option ImageView) → Lawful IsImage (image_fields like) (image_at like)
unfolding image_at
image_lawful like =
    same_values IsImage
    (built (λ ps es. record { processes = ps; ends = es }) (λ (i : ImageView). i.processes) (λ (i : ImageView). i.ends)
    (image_fields like)
    (process_list_lawful like) (λ ps is. end_list_lawful like) (λ ps is. ([], tt)) (λ i. (refl, refl))
    (λ ps es. (refl, refl)))
    (λ i is. (is.processes, is.ends)) (λ i is. record { processes = is.0; ends = is.1 })
