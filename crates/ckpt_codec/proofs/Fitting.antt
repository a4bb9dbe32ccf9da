-- Each record has the fields of one whose items are of 64 bits, as far as bytes can tell.
use Rattle.std.proofs.Common.{◌≡◌, ℕ, suc, ◌^◌, ◌<◌, Bool, true, false, nat_eq, cond, ℤ, List, [], ◌∷◌, ◌++◌, length}
use Rattle.std.proofs.Common.{map, slice_index, Option, Some, None, Ok, Err, refl, sym, ap, subst, ◌∙◌}
use Rattle.std.specs.Prelude.{FitsSigned}
use Rattle.std.specs.List.{AllByRecursion}
use Rattle.std.specs.Int.{w64, cast_unsigned, int_wrap}
use Rattle.std.proofs.lemmas.Int.{SFits-int_wrap, int_wrap_fits}
use Rattle.record.specs.Common.{Standing, NotBegun, At, Done, MAX_COUNT, MAX_PROCESSES, MAX_CHANNELS, MAX_VARIABLES}
use Rattle.record.specs.Common.{LogState, SavedProcessView, ImageView, RecordView}
use Rattle.record.specs.declared.image.SavedEnd.{SavedEnd}
use Rattle.record.specs.declared.image.End.{End}
use Rattle.record.specs.declared.image.End.TheVariants.{Receives, Sends, Both}
use Rattle.record.specs.declared.record.Tentative.{Tentative}
use Rattle.ckpt_codec.specs.Fields.{Field}
use Rattle.ckpt_codec.specs.RecordText.{any, at_most, count, item, flag, between, wanted_or, decisions_fields}
use Rattle.ckpt_codec.specs.RecordText.{first_of, rest_of, wanted, variables_of, mode_fields, process_fields}
use Rattle.ckpt_codec.specs.RecordText.{processes_fields, role_of, retained_count, end_fields, saved_end_fields}
use Rattle.ckpt_codec.specs.RecordText.{ends_fields, processes_in, ends_in, image_fields, tentative_fields}
use Rattle.ckpt_codec.specs.RecordText.{exactly, most_decisions, items_of_end}
use Rattle.ckpt_codec.specs.declared.fault.CodecFault.{CodecFault}
use Rattle.ckpt_codec.specs.declared.fault.CodecFault.TheVariants.{Malformed}
use Rattle.ckpt_codec.specs.Reading.{Found, number_at}
use Rattle.ckpt_codec.proofs.Scan.{Outcome, behind_it, judged, scan_field, scan, AreBytes}
use Rattle.ckpt_codec.proofs.Scan.Outcome.{Passed, Stuck, Differs}
use Rattle.ckpt_codec.proofs.Text.{field_passed, Walk, walk_of}
use Rattle.ckpt_codec.proofs.Parts.{IsImage}
use Rattle.ckpt_codec.proofs.Records.{IsTentative, IsKept, body_fields}

-- ---- fields that bytes can't tell apart: the same but for a value that is too large for them
pub record Alike (field other : Field) : Type 0 where
  pub width : field.width ≡ other.width
  pub allows : (v : ℕ) → field.allows v ≡ other.allows v
  pub value : field.value < 256 ^ field.width → field.value ≡ other.value

abbrev pub AllAlike : List Field → List Field → Type 0
AllAlike [] [] = Unit {0}
AllAlike [] (other ∷ others) = ⊥
AllAlike (field ∷ fields) [] = ⊥
AllAlike (field ∷ fields) (other ∷ others) = Alike field other × AllAlike fields others

same : (field : Field) → Alike field field
same field = record { width = refl; allows = λ v. refl; value = λ lt. refl }

pub all_same : (fields : List Field) → AllAlike fields fields
all_same [] = tt
all_same (field ∷ fields) = (same field, all_same fields)

alike_append : (xs ys others more : List Field) → AllAlike xs ys → AllAlike others more
    → AllAlike (xs ++ others) (ys ++ more)
alike_append [] [] others more one two = two
alike_append [] (y ∷ ys) others more one two = absurd one
alike_append (x ∷ xs) [] others more one two = absurd one
alike_append (x ∷ xs) (y ∷ ys) others more one two = (one.0, alike_append xs ys others more one.1 two)

equal : (xs ys : List Field) → xs ≡ ys → AllAlike xs ys
equal xs ys e = subst (λ (zs : List Field). AllAlike xs zs) e (all_same xs)

-- what offends the one offends the other
judged_stuck : (field other : Field) (found : Found ℕ) (fault : CodecFault) → Alike field other
    → judged field found ≡ Stuck fault → judged other found ≡ Stuck fault
judged_stuck field other (Err f) fault alike e = e
judged_stuck field other (Ok x) fault alike e =
    by_test (field.allows x.0) (other.allows x.0) (nat_eq x.0 field.value) (nat_eq x.0 other.value) (alike.allows x.0) e
  where
    by_test : (passes also one two : Bool) → passes ≡ also
        → cond passes (cond one (Passed x.1) Differs) (Stuck Malformed) ≡ Stuck fault
        → cond also (cond two (Passed x.1) Differs) (Stuck Malformed) ≡ Stuck fault
    by_test true also true two is e = absurd cc
    by_test true also false two is e = absurd cc
    by_test false true one two is e = absurd cc
    by_test false false one two is e = e

judged_passed : (field other : Field) (found : Found ℕ) (rest : List ℕ) → ((v : ℕ) → field.allows v ≡ other.allows v)
    → field.value ≡ other.value → judged field found ≡ Passed rest → judged other found ≡ Passed rest
judged_passed field other (Err f) rest allows value e = e
judged_passed field other (Ok x) rest allows value e =
    ap (λ (b : Bool). cond b (cond (nat_eq x.0 other.value) (Passed x.1) Differs) (Stuck Malformed)) (sym (allows x.0))
    ∙ (ap (λ (n : ℕ). cond (field.allows x.0) (cond (nat_eq x.0 n) (Passed x.1) Differs) (Stuck Malformed)) (sym value)
    ∙ e)

moved : (field other : Field) (bytes : List ℕ) (o : Outcome) → field.width ≡ other.width
    → judged other (number_at field.width bytes) ≡ o → scan_field other bytes ≡ o
moved field other bytes o width e = ap (λ (w : ℕ). judged other (number_at w bytes)) (sym width) ∙ e

pub stuck_alike : (fields others : List Field) (bytes : List ℕ) (fault : CodecFault) → AllAlike fields others
    → AreBytes bytes → scan fields bytes ≡ Stuck fault → scan others bytes ≡ Stuck fault
stuck_alike [] [] bytes fault alike are e = e
stuck_alike [] (other ∷ others) bytes fault alike are e = absurd alike
stuck_alike (field ∷ fields) [] bytes fault alike are e = absurd alike
stuck_alike (field ∷ fields) (other ∷ others) bytes fault alike are e =
    by_walk (λ rest rest_are is. stuck_alike fields others rest fault alike.1 rest_are is)
    (walk_of (scan_field field bytes) (scan fields) (Stuck fault) e)
  where
    by_walk : ((rest : List ℕ) → AreBytes rest → scan fields rest ≡ Stuck fault → scan others rest ≡ Stuck fault)
        → Walk (scan_field field bytes) (scan fields) (Stuck fault)
        → scan (other ∷ others) bytes ≡ Stuck fault
    by_walk more (Walk.Passes rest was is) =
        let f = field_passed field bytes rest are was in
        let value : field.value ≡ other.value = alike.0.value f.0.0 in
        let passed : scan_field other bytes ≡ Passed rest =
        moved field other bytes (Passed rest) alike.0.width
        (judged_passed field other (number_at field.width bytes) rest alike.0.allows value was) in
        ap (λ (o : Outcome). behind_it o (scan others)) passed ∙ more rest f.2 is
    by_walk more (Walk.Halts f was is) =
        let stuck : scan_field other bytes ≡ Stuck f =
        moved field other bytes (Stuck f) alike.0.width
        (judged_stuck field other (number_at field.width bytes) f alike.0 was) in
        ap (λ (o : Outcome). behind_it o (scan others)) stuck ∙ sym is
    by_walk more (Walk.Parts is) = absurd cc

-- ---- items of 64 bits

abbrev fitting : ℤ → ℤ
fitting z = int_wrap w64 z

AreItems : List ℤ → Type 0
AreItems zs = AllByRecursion (FitsSigned w64) zs

item_alike : (z : ℤ) → Alike (item z) (item (fitting z))
item_alike z = record {
  width = refl;
  allows = λ v. refl;
  value = λ lt. ap (cast_unsigned w64) (sym (int_wrap_fits w64 (int_wrap w64 z) (SFits-int_wrap w64 z)));
}

items_alike : (zs : List ℤ) → AllAlike (map item zs) (map item (map fitting zs))
items_alike [] = tt
items_alike (z ∷ zs) = (item_alike z, items_alike zs)

items_fit : (zs : List ℤ) → AllByRecursion (FitsSigned w64) (map fitting zs)
items_fit [] = tt
items_fit (z ∷ zs) = (SFits-int_wrap w64 z, items_fit zs)

pub length-fitting : (zs : List ℤ) → length zs ≡ length (map fitting zs)
length-fitting [] = refl
length-fitting (z ∷ zs) = ap suc (length-fitting zs)

-- ---- processes

abbrev fit_standing : Standing → Standing
fit_standing (NotBegun vars) = NotBegun (map fitting vars)
fit_standing (At point vars) = At point (map fitting vars)
fit_standing (Done vars) = Done (map fitting vars)

abbrev fit_process : SavedProcessView → SavedProcessView
fit_process p = record { number = p.number; standing = fit_standing p.standing }

vars-fit : (s : Standing) → variables_of (fit_standing s) ≡ map fitting (variables_of s)
vars-fit (NotBegun vars) = refl
vars-fit (At point vars) = refl
vars-fit (Done vars) = refl

mode-fit : (s : Standing) → mode_fields s ≡ mode_fields (fit_standing s)
mode-fit (NotBegun vars) = refl
mode-fit (At point vars) = refl
mode-fit (Done vars) = refl

-- a process where these are wanted
abbrev process_wanting : Option ℕ → Option ℕ → ℕ → SavedProcessView → List Field
process_wanting number variables least p =
    wanted_or number (between 1 least MAX_PROCESSES p.number)
    ∷ (mode_fields p.standing
    ++ (wanted_or variables (at_most 1 MAX_VARIABLES (length (variables_of p.standing)))
    ∷ map item (variables_of p.standing)))

process_alike : (number variables : Option ℕ) (least : ℕ) (p : SavedProcessView)
    → AllAlike (process_wanting number variables least p) (process_wanting number variables least (fit_process p))
process_alike number variables least p =
    let vars = variables_of p.standing in (
      same (wanted_or number (between 1 least MAX_PROCESSES p.number)),
      alike_append (mode_fields p.standing) (mode_fields (fit_standing p.standing))
          _ _ (equal _ _ (mode-fit p.standing))
          (subst (λ (zs : List ℤ). AllAlike
          (wanted_or variables (at_most 1 MAX_VARIABLES (length vars)) ∷ map item vars)
          (wanted_or variables (at_most 1 MAX_VARIABLES (length zs)) ∷ map item zs)) (sym (vars-fit p.standing)) (
            subst (λ (n : ℕ). Alike (wanted_or variables (at_most 1 MAX_VARIABLES (length vars)))
                (wanted_or variables (at_most 1 MAX_VARIABLES n))) (length-fitting vars) (same _),
            items_alike vars,
          )),
    )

abbrev fit_list : {X : Type 0} → (X → X) → Option (List X) → Option (List X)
fit_list f None = None
fit_list f (Some xs) = Some (map f xs)

first-fit : {X : Type 0} (f : X → X) (number : X → ℕ) → ((x : X) → number x ≡ number (f x)) → (like : Option (List X))
    → wanted number (first_of like) ≡ wanted number (first_of (fit_list f like))
first-fit f number is None = refl
first-fit f number is (Some []) = refl
first-fit f number is (Some (x ∷ xs)) = ap (λ (n : ℕ). Some n) (is x)

rest-fit : {X : Type 0} (f : X → X) (like : Option (List X)) → fit_list f (rest_of like) ≡ rest_of (fit_list f like)
rest-fit f None = refl
rest-fit f (Some []) = refl
rest-fit f (Some (x ∷ xs)) = refl

variables-fit : (p : SavedProcessView)
    → length (variables_of p.standing) ≡ length (variables_of (fit_process p).standing)
variables-fit p = length-fitting (variables_of p.standing) ∙ ap (λ (zs : List ℤ). length zs) (sym (vars-fit p.standing))

processes_alike : (like : Option (List SavedProcessView)) (least : ℕ) (ps : List SavedProcessView)
    → AllAlike (processes_fields like least ps) (processes_fields like least (map fit_process ps))
processes_alike like least [] = tt
processes_alike like least (p ∷ ps) =
    alike_append (process_fields (first_of like) least p) (process_fields (first_of like) least (fit_process p)) _ _
    (process_alike (wanted (λ (p : SavedProcessView). p.number) (first_of like))
    (wanted (λ (p : SavedProcessView). length (variables_of p.standing)) (first_of like)) least p)
    (processes_alike (rest_of like) (suc p.number) ps)

-- processes are compared with numbers and lengths, and not with items
processes_like : (like : Option (List SavedProcessView)) (least : ℕ) (ps : List SavedProcessView)
    → processes_fields like least ps ≡ processes_fields (fit_list fit_process like) least ps
processes_like like least [] = refl
processes_like like least (p ∷ ps) =
    let fitted = fit_list fit_process like in
    let n = wanted (λ (p : SavedProcessView). p.number) (first_of like) in
    let rest = processes_fields (rest_of like) (suc p.number) ps in
    ap (λ (m : Option ℕ). process_wanting m
    (wanted (λ (p : SavedProcessView). length (variables_of p.standing)) (first_of like)) least p ++ rest)
    (first-fit fit_process (λ (p : SavedProcessView). p.number) (λ p. refl) like)
    ∙ (ap (λ (m : Option ℕ). process_wanting (wanted (λ (p : SavedProcessView). p.number) (first_of fitted)) m least p
    ++ rest)
    (first-fit fit_process (λ (p : SavedProcessView). length (variables_of p.standing)) variables-fit like)
    ∙ ap (λ (fs : List Field). process_fields (first_of fitted) least p ++ fs)
    (processes_like (rest_of like) (suc p.number) ps
    ∙ ap (λ (l : Option (List SavedProcessView)). processes_fields l (suc p.number) ps) (rest-fit fit_process like)))

processes_fit : (ps : List SavedProcessView)
    → AllByRecursion (λ (p : SavedProcessView). AllByRecursion (FitsSigned w64) (variables_of p.standing))
    (map fit_process ps)
processes_fit [] = tt
processes_fit (p ∷ ps) = (
  subst (λ (zs : List ℤ). AllByRecursion (FitsSigned w64) zs) (sym (vars-fit p.standing))
      (items_fit (variables_of p.standing)),
  processes_fit ps,
)

length-map : {X : Type 0} (f : X → X) (xs : List X) → length xs ≡ length (map f xs)
length-map f [] = refl
length-map f (x ∷ xs) = ap suc (length-map f xs)

-- ---- ends

abbrev fit_log : LogState → LogState
fit_log log = record { base = log.base; items = map fitting log.items }

abbrev fit_end : End → End
fit_end (Receives received) = Receives received
fit_end (Sends log) = Sends (fit_log log)
fit_end (Both received log) = Both received (fit_log log)

abbrev fit_saved : SavedEnd → SavedEnd
fit_saved e = record { channel = e.channel; end = fit_end e.end }

role-fit : (e : End) → role_of e ≡ role_of (fit_end e)
role-fit (Receives received) = refl
role-fit (Sends log) = refl
role-fit (Both received log) = refl

log_alike : (limit from : ℕ) (log : LogState)
    → AllAlike (at_most 8 limit log.base ∷ retained_count log.base from (length log.items) ∷ map item log.items)
    (at_most 8 limit log.base ∷ retained_count log.base from (length (map fitting log.items))
    ∷ map item (map fitting log.items))
log_alike limit from log = (
  same (at_most 8 limit log.base),
  (
    subst (λ (n : ℕ). Alike (retained_count log.base from (length log.items)) (retained_count log.base from n))
        (length-fitting log.items) (same _),
    items_alike log.items,
  ),
)

end_alike : (e : End) → AllAlike (end_fields e) (end_fields (fit_end e))
end_alike (Receives received) = (same (count received), tt)
end_alike (Sends log) = log_alike MAX_COUNT 0 log
end_alike (Both received log) = (same (count received), log_alike received received log)

abbrev end_wanting : Option ℕ → Option ℕ → ℕ → SavedEnd → List Field
end_wanting channel role least e =
    wanted_or channel (between 2 least MAX_CHANNELS e.channel) ∷ wanted_or role (at_most 1 2 (role_of e.end))
    ∷ end_fields e.end

saved_alike : (channel role : Option ℕ) (least : ℕ) (e : SavedEnd)
    → AllAlike (end_wanting channel role least e) (end_wanting channel role least (fit_saved e))
saved_alike channel role least e = (
  same (wanted_or channel (between 2 least MAX_CHANNELS e.channel)),
  (
    subst (λ (n : ℕ). Alike (wanted_or role (at_most 1 2 (role_of e.end))) (wanted_or role (at_most 1 2 n)))
        (role-fit e.end) (same _),
    end_alike e.end,
  ),
)

ends_alike : (like : Option (List SavedEnd)) (least : ℕ) (es : List SavedEnd)
    → AllAlike (ends_fields like least es) (ends_fields like least (map fit_saved es))
ends_alike like least [] = tt
ends_alike like least (e ∷ es) =
    alike_append (saved_end_fields (first_of like) least e) (saved_end_fields (first_of like) least (fit_saved e)) _ _
    (saved_alike (wanted (λ (e : SavedEnd). e.channel) (first_of like))
    (wanted (λ (e : SavedEnd). role_of e.end) (first_of like)) least e)
    (ends_alike (rest_of like) (suc e.channel) es)

-- ends are compared with channels and roles
ends_like : (like : Option (List SavedEnd)) (least : ℕ) (es : List SavedEnd)
    → ends_fields like least es ≡ ends_fields (fit_list fit_saved like) least es
ends_like like least [] = refl
ends_like like least (e ∷ es) =
    let fitted = fit_list fit_saved like in
    let rest = ends_fields (rest_of like) (suc e.channel) es in
    ap (λ (m : Option ℕ). end_wanting m (wanted (λ (e : SavedEnd). role_of e.end) (first_of like)) least e ++ rest)
    (first-fit fit_saved (λ (e : SavedEnd). e.channel) (λ e. refl) like)
    ∙ (ap (λ (m : Option ℕ). end_wanting (wanted (λ (e : SavedEnd). e.channel) (first_of fitted)) m least e ++ rest)
    (first-fit fit_saved (λ (e : SavedEnd). role_of e.end) (λ e. role-fit e.end) like)
    ∙ ap (λ (fs : List Field). saved_end_fields (first_of fitted) least e ++ fs)
    (ends_like (rest_of like) (suc e.channel) es
    ∙ ap (λ (l : Option (List SavedEnd)). ends_fields l (suc e.channel) es) (rest-fit fit_saved like)))

end_fit : (e : End) → AllByRecursion (FitsSigned w64) (items_of_end (fit_end e))
end_fit (Receives received) = tt
end_fit (Sends log) = items_fit log.items
end_fit (Both received log) = items_fit log.items

ends_fit : (es : List SavedEnd)
    → AllByRecursion (λ (e : SavedEnd). AllByRecursion (FitsSigned w64) (items_of_end e.end)) (map fit_saved es)
ends_fit [] = tt
ends_fit (e ∷ es) = (end_fit e.end, ends_fit es)

-- ---- images and records

abbrev pub fit_image : ImageView → ImageView
fit_image i = record { processes = map fit_process i.processes; ends = map fit_saved i.ends }

count_alike : (one : Option ℕ) (width limit m n : ℕ) → m ≡ n
    → Alike (wanted_or one (at_most width limit m)) (wanted_or one (at_most width limit n))
count_alike one width limit m n d =
    subst (λ (k : ℕ). Alike (wanted_or one (at_most width limit m)) (wanted_or one (at_most width limit k))) d (same _)

pub image_alike : (like : Option ImageView) (i : ImageView)
    → AllAlike (image_fields like i) (image_fields like (fit_image i))
image_alike like i =
    alike_append
    (wanted_or (wanted (λ (i : ImageView). length i.processes) like) (at_most 1 MAX_PROCESSES (length i.processes))
    ∷ processes_fields (processes_in like) 0 i.processes)
    (wanted_or (wanted (λ (i : ImageView). length i.processes) like)
    (at_most 1 MAX_PROCESSES (length (map fit_process i.processes)))
    ∷ processes_fields (processes_in like) 0 (map fit_process i.processes))
    _ _ (
      count_alike _ 1 MAX_PROCESSES _ _ (length-map fit_process i.processes),
      processes_alike (processes_in like) 0 i.processes,
    )
    (count_alike _ 2 MAX_CHANNELS _ _ (length-map fit_saved i.ends), ends_alike (ends_in like) 0 i.ends)

-- an image is compared with no item
image_like : (permanent i : ImageView)
    → image_fields (Some permanent) i ≡ image_fields (Some (fit_image permanent)) i
image_like permanent i =
    ap (λ (n : ℕ). (exactly 1 n (length i.processes) ∷ processes_fields (Some permanent.processes) 0 i.processes)
    ++ (exactly 2 (length permanent.ends) (length i.ends) ∷ ends_fields (Some permanent.ends) 0 i.ends))
    (length-map fit_process permanent.processes)
    ∙ (ap (λ (n : ℕ). (exactly 1 (length (map fit_process permanent.processes)) (length i.processes)
    ∷ processes_fields (Some permanent.processes) 0 i.processes)
    ++ (exactly 2 n (length i.ends) ∷ ends_fields (Some permanent.ends) 0 i.ends))
    (length-map fit_saved permanent.ends)
    ∙ (ap (λ (fs : List Field). (exactly 1 (length (map fit_process permanent.processes)) (length i.processes) ∷ fs)
    ++ (exactly 2 (length (map fit_saved permanent.ends)) (length i.ends)
    ∷ ends_fields (Some permanent.ends) 0 i.ends))
    (processes_like (Some permanent.processes) 0 i.processes)
    ∙ ap (λ (fs : List Field). (exactly 1 (length (map fit_process permanent.processes)) (length i.processes)
    ∷ processes_fields (Some (map fit_process permanent.processes)) 0 i.processes)
    ++ (exactly 2 (length (map fit_saved permanent.ends)) (length i.ends) ∷ fs))
    (ends_like (Some permanent.ends) 0 i.ends)))

pub image_is : (i : ImageView) → IsImage (fit_image i)
image_is i = record { processes = processes_fit i.processes; ends = ends_fit i.ends }

abbrev fit_tentative : Option Tentative → Option Tentative
fit_tentative None = None
fit_tentative (Some t) = Some (record { initiator = t.initiator; number = t.number; image = fit_image t.image })

tentative_alike : (highest : List ℕ) (permanent : ImageView) (t : Option Tentative)
    → AllAlike (tentative_fields highest permanent t) (tentative_fields highest (fit_image permanent) (fit_tentative t))
tentative_alike highest permanent None = (same (flag 0), tt)
tentative_alike highest permanent (Some t) = (
  same (flag 1),
  (
    same _,
    (
      same _,
      subst (λ (fs : List Field). AllAlike (image_fields (Some permanent) t.image) fs)
          (image_like permanent (fit_image t.image)) (image_alike (Some permanent) t.image),
    ),
  ),
)

tentative_is : (t : Option Tentative) → IsTentative (fit_tentative t)
tentative_is None = tt
tentative_is (Some t) = image_is t.image

-- the record with items of 64 bits
abbrev pub fit_record : RecordView → RecordView
fit_record kept = record kept { permanent = fit_image kept.permanent; tentative = fit_tentative kept.tentative }

pub record_is : (kept : RecordView) → IsKept (fit_record kept)
record_is kept = record { permanent = image_is kept.permanent; tentative = tentative_is kept.tentative }

-- behind the version
pub body_alike : (version : ℕ) (kept : RecordView)
    → AllAlike (body_fields version kept) (body_fields version (fit_record kept))
body_alike version kept =
    let decisions =
    decisions_fields (most_decisions version) kept.node (length kept.highest) (slice_index kept.highest kept.node)
    kept.decisions in (
      same (any 1 kept.node),
      (
        same (count kept.epoch),
        (
          same _,
          alike_append (map count kept.highest) (map count kept.highest) _ _ (all_same (map count kept.highest))
              (alike_append decisions decisions _ _ (all_same decisions)
              (alike_append (image_fields None kept.permanent) (image_fields None (fit_image kept.permanent))
              _ _ (image_alike None kept.permanent)
              (tentative_alike kept.highest kept.permanent kept.tentative))),
        ),
      ),
    )
