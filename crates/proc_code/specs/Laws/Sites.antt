-- Laws of the table of sites: it has a row for each site, with the place where its code begins and what is done there.
use Rattle.std.proofs.Common.{◌≡◌, ◌≢◌, ◌⊎◌, inl, inr, ℕ, suc, ◌+◌, ◌-◌, ◌<◌, ◌≤◌, Bool, true, false, cond, eqb, List}
use Rattle.std.proofs.Common.{[], ◌∷◌, ◌++◌, get_or, refl, Option, Some, None, length, sym, ap, ◌∙◌, arith}
use Rattle.std.proofs.Common.{length-append}
use Rattle.std.specs.Prelude.{◌==◌, nat_lt, slice_get}
use Rattle.std.proofs.lemmas.Option.{slice_get-get_or, slice_get_past}
use Rattle.std.proofs.lemmas.List.{get_or_append_left, get_or-append_right}
use Rattle.std.proofs.lemmas.Bool.{lt-ltb, le-ltb, cases_lt}
use Rattle.std.proofs.lemmas.Bool.Decides.{eqb_tells}
use Rattle.kahn_net.specs.Common.{Block, Nothing, GetThen, AssignThen, PutThen, StopThen, IfThen, RepeatThen, Code}
use Rattle.kahn_net.specs.Common.{sites_of, Next, Gets, Puts, NoNext}
use Rattle.kahn_net.specs.NextActs.{next_on, next_in_body, next_at}
use Rattle.proc_code.specs.declared.instruction.Instruction.TheVariants.{Store, Put, Jump}
use Rattle.proc_code.specs.declared.instruction.Site.{Site}
use Rattle.proc_code.specs.Translation.{assign_code, expr_code, operand_of, if_code, repeat_code, block_code, loop_code, process_code, entry_at, loop_entry}
use Rattle.proc_code.specs.Translation.{entry_of, get_site, put_site, sites_at, loop_sites, process_sites, next_by}

-- as many rows as sites
pub length_sites : (b : Block) (at number : ℕ) → length (sites_at at number b) ≡ sites_of b
length_sites Nothing at number = refl
length_sites (GetThen x c rest) at number = let r = length_sites rest (at + 1) (number + 1) in omega (arith, r)
length_sites (AssignThen x e rest) at number = length_sites rest (at + length (assign_code x e)) number
length_sites (PutThen e c rest) at number = let r =
    length_sites rest (at + length (expr_code e ++ Put c number (operand_of e) ∷ [])) (number + 1) in omega (arith, r)
length_sites (StopThen rest) at number = length_sites rest (at + 1) number
length_sites (IfThen test first second rest) at number =
    let one = at + length (expr_code test) + 1 in
    let two = one + length (block_code one number first) + 1 in
    let choice =
    if_code at (expr_code test) (operand_of test) (λ n. block_code n number first)
    (λ n. block_code n (number + sites_of first) second) in
    let mine = sites_at one number first ++ sites_at two (number + sites_of first) second in
    let theirs = sites_at (at + length choice) (number + sites_of first + sites_of second) rest in
    omega (
      arith,
      length_sites first one number,
      length_sites second two (number + sites_of first),
      length_sites rest
          (at + length choice) (number + sites_of first + sites_of second),
      length-append mine theirs,
      length-append
          (sites_at one number first) (sites_at two (number + sites_of first) second),
    )
length_sites (RepeatThen times body rest) at number =
    let repeated = repeat_code at times (λ n. block_code n number body) in
    let theirs = sites_at (at + length repeated) (number + sites_of body) rest in
    omega (
      arith,
      length_sites body (at + 1) number,
      length_sites rest (at + length repeated) (number + sites_of body),
      length-append (sites_at (at + 1) number body) theirs,
    )

-- what is read off a row
module _ {A : Type 0} (read : Site → A) (number site : ℕ) (d : Site) where
  -- this row, or one behind it
  this_or_later : (row : Site) (later : List Site) (y : A) → number ≤ site
      → (number + 1 ≤ site → read (get_or later (site - (number + 1)) d) ≡ y)
      → read (get_or (row ∷ later) (site - number) d) ≡ cond (number == site) (read row) y
  this_or_later row later y above more = by (eqb_tells number site)
    where
      by : ((eqb number site ≡ true) × (number ≡ site)) ⊎ ((eqb number site ≡ false) × (number ≢ site))
          → read (get_or (row ∷ later) (site - number) d) ≡ cond (number == site) (read row) y
      by (inl here) =
          let none : site - number ≡ 0 = omega (arith, here.1) in
          ap (λ (k : ℕ). read (get_or (row ∷ later) k d)) none ∙ sym (ap (λ (t : Bool). cond t (read row) y) here.0)
      by (inr there) =
          let past : number + 1 ≤ site = passed (cases_lt number site) in
          let one_less : site - number ≡ suc (site - (number + 1)) = omega (arith, past) in
          ap (λ (k : ℕ). read (get_or (row ∷ later) k d)) one_less
          ∙ (more past ∙ sym (ap (λ (t : Bool). cond t (read row) y) there.0))
        where
          passed : (number < site) ⊎ (site ≤ number) → number + 1 ≤ site
          passed (inl less) = omega (arith, less)
          passed (inr not_less) = absurd (there.1 (let same : number ≡ site = omega (arith, above, not_less) in same))

  -- a row of one of two blocks, or of what stands behind them
  among_three : (ones twos rest : List Site) (n1 n2 : ℕ) (x y z : A) → length ones ≡ n1 → length twos ≡ n2
      → number ≤ site
      → (site < number + n1 → read (get_or ones (site - number) d) ≡ x)
      → (number + n1 ≤ site → site < number + n1 + n2 → read (get_or twos (site - (number + n1)) d) ≡ y)
      → (number + n1 + n2 ≤ site → read (get_or rest (site - (number + n1 + n2)) d) ≡ z)
      → read (get_or ((ones ++ twos) ++ rest) (site - number) d)
      ≡ cond (nat_lt site (number + n1)) x (cond (nat_lt site (number + n1 + n2)) y z)
  among_three ones twos rest n1 n2 x y z long_one long_two above p q r =
      by (cases_lt site (number + n1)) (cases_lt site (number + n1 + n2))
    where
      k : ℕ
      k = site - number

      long : length (ones ++ twos) ≡ n1 + n2
      long = omega (arith, long_one, long_two, length-append ones twos)

      pick : Bool → Bool → A
      pick s t = cond s x (cond t y z)

      picked : (s t : Bool) → nat_lt site (number + n1) ≡ s → nat_lt site (number + n1 + n2) ≡ t
          → pick s t ≡ cond (nat_lt site (number + n1)) x (cond (nat_lt site (number + n1 + n2)) y z)
      picked s t e f =
          sym (ap (λ (b : Bool). cond b x (cond (nat_lt site (number + n1 + n2)) y z)) e
          ∙ ap (λ (b : Bool). cond s x (cond b y z)) f)

      by : (site < number + n1) ⊎ (number + n1 ≤ site) → (site < number + n1 + n2) ⊎ (number + n1 + n2 ≤ site)
          → read (get_or ((ones ++ twos) ++ rest) k d)
          ≡ cond (nat_lt site (number + n1)) x (cond (nat_lt site (number + n1 + n2)) y z)
      by (inl a) other =
          ap read (get_or_append_left (ones ++ twos) rest d k (omega (arith, a, above, long))
          ∙ get_or_append_left ones twos d k (omega (arith, a, above, long_one)))
          ∙ (p a ∙ picked true (nat_lt site (number + n1 + n2)) (lt-ltb site (number + n1) a) refl)
      by (inr b) (inl c) =
          ap read (get_or_append_left (ones ++ twos) rest d k (omega (arith, c, above, long))
          ∙ get_or-append_right ones twos n1 k d long_one (omega (arith, b, above)))
          ∙ (ap (λ (n : ℕ). read (get_or twos n d)) (let same : k - n1 ≡ site - (number + n1) = omega arith in same)
          ∙ (q b c ∙ picked false true (le-ltb site (number + n1) b) (lt-ltb site (number + n1 + n2) c)))
      by (inr b) (inr c) =
          ap read (get_or-append_right (ones ++ twos) rest (n1 + n2) k d long (omega (arith, c, above)))
          ∙ (ap (λ (n : ℕ). read (get_or rest n d))
          (let same : k - (n1 + n2) ≡ site - (number + n1 + n2) = omega arith in same)
          ∙ (r c ∙ picked false false (le-ltb site (number + n1) b) (le-ltb site (number + n1 + n2) c)))

  -- a row of a block, or of what stands behind it
  among_two : (ones rest : List Site) (n1 : ℕ) (x z : A) → length ones ≡ n1 → number ≤ site
      → (site < number + n1 → read (get_or ones (site - number) d) ≡ x)
      → (number + n1 ≤ site → read (get_or rest (site - (number + n1)) d) ≡ z)
      → read (get_or (ones ++ rest) (site - number) d) ≡ cond (nat_lt site (number + n1)) x z
  among_two ones rest n1 x z long above p r = by (cases_lt site (number + n1))
    where
      k : ℕ
      k = site - number

      by : (site < number + n1) ⊎ (number + n1 ≤ site)
          → read (get_or (ones ++ rest) k d) ≡ cond (nat_lt site (number + n1)) x z
      by (inl a) =
          ap read (get_or_append_left ones rest d k (omega (arith, a, above, long)))
          ∙ (p a ∙ sym (ap (λ (b : Bool). cond b x z) (lt-ltb site (number + n1) a)))
      by (inr c) =
          ap read (get_or-append_right ones rest n1 k d long (omega (arith, c, above)))
          ∙ (ap (λ (n : ℕ). read (get_or rest n d)) (let same : k - n1 ≡ site - (number + n1) = omega arith in same)
          ∙ (r c ∙ sym (ap (λ (b : Bool). cond b x z) (le-ltb site (number + n1) c))))

-- the row of a site says where its code begins
pub entries_are : (b : Block) (at number site : ℕ) (d : Site) → number ≤ site → site < number + sites_of b
    → (get_or (sites_at at number b) (site - number) d).entry ≡ entry_at at number b site
entries_are Nothing at number site d above under = absurd (omega (arith, above, under))
entries_are (GetThen x c rest) at number site d above under =
    this_or_later (λ (s : Site). s.entry) number site d (get_site c at) (sites_at (at + 1) (number + 1) rest)
    (entry_at (at + 1) (number + 1) rest site) above
    (λ past. entries_are rest (at + 1) (number + 1) site d past (omega (arith, under)))
entries_are (AssignThen x e rest) at number site d above under =
    entries_are rest (at + length (assign_code x e)) number site d above under
entries_are (PutThen e c rest) at number site d above under =
    let next = at + length (expr_code e ++ Put c number (operand_of e) ∷ []) in
    this_or_later (λ (s : Site). s.entry) number site d (put_site c at) (sites_at next (number + 1) rest)
    (entry_at next (number + 1) rest site) above
    (λ past. entries_are rest next (number + 1) site d past (omega (arith, under)))
entries_are (StopThen rest) at number site d above under = entries_are rest (at + 1) number site d above under
entries_are (IfThen test first second rest) at number site d above under =
    let past_first = number + sites_of first in
    let past_second = number + sites_of first + sites_of second in
    let one = at + length (expr_code test) + 1 in
    let two = one + length (block_code one number first) + 1 in
    let behind =
    at + length
    (if_code at (expr_code test) (operand_of test) (λ n. block_code n number first)
    (λ n. block_code n (number + sites_of first) second)) in
    among_three (λ (s : Site). s.entry) number site d (sites_at one number first) (sites_at two past_first second)
    (sites_at behind past_second rest) (sites_of first) (sites_of second)
    (entry_at one number first site) (entry_at two past_first second site) (entry_at behind past_second rest site)
    (length_sites first one number) (length_sites second two past_first) above
    (λ h. entries_are first one number site d above h) (λ h k. entries_are second two past_first site d h k)
    (λ h. entries_are rest behind past_second site d h
    (let k : site < past_second + sites_of rest = omega (arith, under) in k))
entries_are (RepeatThen times body rest) at number site d above under =
    let past = number + sites_of body in
    let behind = at + length (repeat_code at times (λ n. block_code n number body)) in
    among_two (λ (s : Site). s.entry) number site d (sites_at (at + 1) number body) (sites_at behind past rest)
    (sites_of body) (entry_at (at + 1) number body site) (entry_at behind past rest site)
    (length_sites body (at + 1) number) above
    (λ h. entries_are body (at + 1) number site d above h)
    (λ h. entries_are rest behind past site d h (let k : site < past + sites_of rest = omega (arith, under) in k))

abbrev next_in : Site → Next
next_in row = next_by row.act

-- and what is done there
pub acts_are : (b : Block) (at number site : ℕ) (d : Site) → number ≤ site → site < number + sites_of b
    → next_by (get_or (sites_at at number b) (site - number) d).act ≡ next_on number b site
acts_are Nothing at number site d above under = absurd (omega (arith, above, under))
acts_are (GetThen x c rest) at number site d above under =
    this_or_later next_in number site d (get_site c at) (sites_at (at + 1) (number + 1) rest)
    (next_on (number + 1) rest site) above
    (λ past. acts_are rest (at + 1) (number + 1) site d past (omega (arith, under)))
acts_are (AssignThen x e rest) at number site d above under =
    acts_are rest (at + length (assign_code x e)) number site d above under
acts_are (PutThen e c rest) at number site d above under =
    let next = at + length (expr_code e ++ Put c number (operand_of e) ∷ []) in
    this_or_later next_in number site d (put_site c at) (sites_at next (number + 1) rest)
    (next_on (number + 1) rest site) above
    (λ past. acts_are rest next (number + 1) site d past (omega (arith, under)))
acts_are (StopThen rest) at number site d above under = acts_are rest (at + 1) number site d above under
acts_are (IfThen test first second rest) at number site d above under =
    let past_first = number + sites_of first in
    let past_second = number + sites_of first + sites_of second in
    let one = at + length (expr_code test) + 1 in
    let two = one + length (block_code one number first) + 1 in
    let behind =
    at + length
    (if_code at (expr_code test) (operand_of test) (λ n. block_code n number first)
    (λ n. block_code n (number + sites_of first) second)) in
    among_three next_in number site d (sites_at one number first) (sites_at two past_first second)
    (sites_at behind past_second rest) (sites_of first) (sites_of second)
    (next_on number first site) (next_on past_first second site) (next_on past_second rest site)
    (length_sites first one number) (length_sites second two past_first) above
    (λ h. acts_are first one number site d above h) (λ h k. acts_are second two past_first site d h k)
    (λ h. acts_are rest behind past_second site d h
    (let k : site < past_second + sites_of rest = omega (arith, under) in k))
acts_are (RepeatThen times body rest) at number site d above under =
    let past = number + sites_of body in
    let behind = at + length (repeat_code at times (λ n. block_code n number body)) in
    among_two next_in number site d (sites_at (at + 1) number body) (sites_at behind past rest)
    (sites_of body) (next_on number body site) (next_on past rest site)
    (length_sites body (at + 1) number) above
    (λ h. acts_are body (at + 1) number site d above h)
    (λ h. acts_are rest behind past site d h (let k : site < past + sites_of rest = omega (arith, under) in k))

-- a number that isn't the site's, nor below another
not_this : {A : Type 0} (number site : ℕ) (x y z : A) → number < site → y ≡ z → cond (number == site) x y ≡ z
not_this number site x y z less e = by (eqb_tells number site)
  where
    by : ((eqb number site ≡ true) × (number ≡ site)) ⊎ ((eqb number site ≡ false) × (number ≢ site))
        → cond (number == site) x y ≡ z
    by (inl here) = absurd (let no : ⊥ = omega (arith, here.1, less) in no)
    by (inr there) = ap (λ (t : Bool). cond t x y) there.0 ∙ e

-- A site past those of statements: their code is through, and nothing is done.
pub entry_past : (b : Block) (at number site : ℕ) → number + sites_of b ≤ site
    → entry_at at number b site ≡ at + length (block_code at number b)
entry_past Nothing at number site past = omega arith
entry_past (GetThen x c rest) at number site past =
    not_this number site at (entry_at (at + 1) (number + 1) rest site)
    (at + length (block_code at number (GetThen x c rest))) (omega (arith, past))
    (let r = entry_past rest (at + 1) (number + 1) site (omega (arith, past)) in omega (arith, r))
entry_past (AssignThen x e rest) at number site past =
    let c = assign_code x e in
    let r = entry_past rest (at + length c) number site past in
    omega (arith, r, length-append c (block_code (at + length c) number rest))
entry_past (PutThen e d rest) at number site past =
    let c = expr_code e ++ Put d number (operand_of e) ∷ [] in
    let r = entry_past rest (at + length c) (number + 1) site (omega (arith, past)) in
    not_this number site at (entry_at (at + length c) (number + 1) rest site)
    (at + length (block_code at number (PutThen e d rest))) (omega (arith, past))
    (omega (arith, r, length-append c (block_code (at + length c) (number + 1) rest)))
entry_past (StopThen rest) at number site past = let r = entry_past rest (at + 1) number site past in omega (arith, r)
entry_past (IfThen test first second rest) at number site past =
    let past_first = number + sites_of first in
    let past_second = number + sites_of first + sites_of second in
    let one = at + length (expr_code test) + 1 in
    let two = one + length (block_code one number first) + 1 in
    let choice =
    if_code at (expr_code test) (operand_of test) (λ n. block_code n number first)
    (λ n. block_code n (number + sites_of first) second) in
    let later = entry_at (at + length choice) past_second rest site in
    let r = entry_past rest (at + length choice) past_second site (omega (arith, past)) in
    let is : later ≡ at + length (choice ++ block_code (at + length choice) past_second rest) =
    omega (arith, r, length-append choice (block_code (at + length choice) past_second rest)) in
    ap (λ (t : Bool). cond t (entry_at one number first site)
    (cond (nat_lt site past_second) (entry_at two past_first second site) later))
    (le-ltb site past_first (omega (arith, past)))
    ∙ (ap (λ (t : Bool). cond t (entry_at two past_first second site) later)
    (le-ltb site past_second (omega (arith, past))) ∙ is)
entry_past (RepeatThen times body rest) at number site past =
    let past_body = number + sites_of body in
    let repeated = repeat_code at times (λ n. block_code n number body) in
    let later = entry_at (at + length repeated) past_body rest site in
    let r = entry_past rest (at + length repeated) past_body site (omega (arith, past)) in
    let is : later ≡ at + length (repeated ++ block_code (at + length repeated) past_body rest) =
    omega (arith, r, length-append repeated (block_code (at + length repeated) past_body rest)) in
    ap (λ (t : Bool). cond t (entry_at (at + 1) number body site) later)
    (le-ltb site past_body (omega (arith, past))) ∙ is

pub next_past : (b : Block) (number site : ℕ) → number + sites_of b ≤ site → next_on number b site ≡ NoNext
next_past Nothing number site past = refl
next_past (GetThen x c rest) number site past =
    not_this number site (Gets c) (next_on (number + 1) rest site) NoNext (omega (arith, past))
    (next_past rest (number + 1) site (omega (arith, past)))
next_past (AssignThen x e rest) number site past = next_past rest number site past
next_past (PutThen e c rest) number site past =
    not_this number site (Puts c) (next_on (number + 1) rest site) NoNext (omega (arith, past))
    (next_past rest (number + 1) site (omega (arith, past)))
next_past (StopThen rest) number site past = next_past rest number site past
next_past (IfThen test first second rest) number site past =
    let past_first = number + sites_of first in
    let past_second = number + sites_of first + sites_of second in
    let later = next_on past_second rest site in
    ap (λ (t : Bool). cond t (next_on number first site)
    (cond (nat_lt site past_second) (next_on past_first second site) later))
    (le-ltb site past_first (omega (arith, past)))
    ∙ (ap (λ (t : Bool). cond t (next_on past_first second site) later) (le-ltb site past_second (omega (arith, past)))
    ∙ next_past rest past_second site (omega (arith, past)))
next_past (RepeatThen times body rest) number site past =
    let past_body = number + sites_of body in
    ap (λ (t : Bool). cond t (next_on number body site) (next_on past_body rest site))
    (le-ltb site past_body (omega (arith, past))) ∙ next_past rest past_body site (omega (arith, past))

-- the same of a process
module _ (code : Code) (site : ℕ) where
  abbrev here : ℕ
  here = sites_of code.prelude

  abbrev at : ℕ
  at = length (block_code 0 0 code.prelude)

  abbrev firsts : List Site
  firsts = sites_at 0 0 code.prelude

  counted : length firsts ≡ here
  counted = length_sites code.prelude 0 0

  unmoved : site - 0 ≡ site
  unmoved = omega arith

  -- a row of the table, by its block
  row_is : {A : Type 0} (read : Site → A) (d : Site) (x : A) (y : Option Block → A) → site < length (process_sites code)
      → (site < here → read (get_or firsts (site - 0) d) ≡ x)
      → ((body : Block) → here ≤ site → site < here + sites_of body
      → read (get_or (sites_at at here body) (site - here) d) ≡ y (Some body))
      → read (get_or (process_sites code) site d) ≡ cond (nat_lt site here) x (y code.body)
  row_is read d x y under p q = by (cases_lt site here) code.body refl
    where
      by : (site < here) ⊎ (here ≤ site) → (body : Option Block) → code.body ≡ body
          → read (get_or (firsts ++ loop_sites at here code.body) site d) ≡ cond (nat_lt site here) x (y code.body)
      by (inl less) body is =
          ap read (get_or_append_left firsts (loop_sites at here code.body) d site (omega (arith, less, counted)))
          ∙ (ap (λ (n : ℕ). read (get_or firsts n d)) (sym unmoved)
          ∙ (p less ∙ sym (ap (λ (t : Bool). cond t x (y code.body)) (lt-ltb site here less))))
      by (inr more) None is =
          let none : length (loop_sites at here code.body) ≡ 0 =
          ap (λ (b : Option Block). length (loop_sites at here b)) is in
          absurd (omega (arith, more, none, under, counted, length-append firsts (loop_sites at here code.body)))
      by (inr more) (Some body) is =
          let many : length (loop_sites at here code.body) ≡ sites_of body =
          ap (λ (b : Option Block). length (loop_sites at here b)) is ∙ length_sites body at here in
          let within : site < here + sites_of body =
          omega (arith, more, many, under, counted, length-append firsts (loop_sites at here code.body)) in
          ap read (get_or-append_right firsts (loop_sites at here code.body) here site d counted more)
          ∙ (ap (λ (b : Option Block). read (get_or (loop_sites at here b) (site - here) d)) is ∙ (q body more within
          ∙ (ap y (sym is) ∙ sym (ap (λ (t : Bool). cond t x (y code.body)) (le-ltb site here more)))))

  pub process_entry : (d : Site) → site < length (process_sites code)
      → (get_or (process_sites code) site d).entry ≡ entry_of code site
  process_entry d under =
      row_is (λ (s : Site). s.entry) d (entry_at 0 0 code.prelude site) (λ b. loop_entry at here b site) under
      (λ less. entries_are code.prelude 0 0 site d (omega arith) (omega (arith, less)))
      (λ body more within. entries_are body at here site d more within)

  pub process_act : (d : Site) → site < length (process_sites code)
      → next_by (get_or (process_sites code) site d).act ≡ next_at code site
  process_act d under =
      row_is next_in d (next_on 0 code.prelude site) (λ b. next_in_body here b site) under
      (λ less. acts_are code.prelude 0 0 site d (omega arith) (omega (arith, less)))
      (λ body more within. acts_are body at here site d more within)

  -- past its last site a process is before its last instruction, and does nothing
  past_prelude : length (process_sites code) ≤ site → here ≤ site
  past_prelude past = omega (arith, past, counted, length-append firsts (loop_sites at here code.body))

  pub process_past : length (process_sites code) ≤ site → entry_of code site + 1 ≡ length (process_code code)
  process_past past =
      ap (λ (t : Bool). cond t (entry_at 0 0 code.prelude site) (loop_entry at here code.body site) + 1)
      (le-ltb site here (past_prelude past)) ∙ by code.body refl
    where
      by : (body : Option Block) → code.body ≡ body → loop_entry at here code.body site + 1 ≡ length (process_code code)
      by None is =
          let long : length (loop_code at here code.body) ≡ 1 =
          ap (λ (b : Option Block). length (loop_code at here b)) is in
          let entry : loop_entry at here code.body site ≡ at =
          ap (λ (b : Option Block). loop_entry at here b site) is in
          omega (arith, long, entry, length-append (block_code 0 0 code.prelude) (loop_code at here code.body))
      by (Some body) is =
          let many : length (loop_sites at here code.body) ≡ sites_of body =
          ap (λ (b : Option Block). length (loop_sites at here b)) is ∙ length_sites body at here in
          let within : here + sites_of body ≤ site =
          omega (arith, past, many, counted, length-append firsts (loop_sites at here code.body)) in
          let long : length (loop_code at here code.body) ≡ length (block_code at here body) + 1 =
          ap (λ (b : Option Block). length (loop_code at here b)) is
          ∙ length-append (block_code at here body) (Jump at ∷ []) in
          let entry : loop_entry at here code.body site ≡ at + length (block_code at here body) =
          ap (λ (b : Option Block). loop_entry at here b site) is ∙ entry_past body at here site within in
          omega (arith, long, entry, length-append (block_code 0 0 code.prelude) (loop_code at here code.body))

  pub process_no_act : length (process_sites code) ≤ site → next_at code site ≡ NoNext
  process_no_act past =
      ap (λ (t : Bool). cond t (next_on 0 code.prelude site) (next_in_body here code.body site))
      (le-ltb site here (past_prelude past)) ∙ by code.body refl
    where
      by : (body : Option Block) → code.body ≡ body → next_in_body here code.body site ≡ NoNext
      by None is = ap (λ (b : Option Block). next_in_body here b site) is
      by (Some body) is =
          let many : length (loop_sites at here code.body) ≡ sites_of body =
          ap (λ (b : Option Block). length (loop_sites at here b)) is ∙ length_sites body at here in
          ap (λ (b : Option Block). next_in_body here b site) is
          ∙ next_past body here site
          (omega (arith, past, many, counted, length-append firsts (loop_sites at here code.body)))

-- each row says both of its site
pub row_says : (code : Code) (site : ℕ) (row : Site) → slice_get (process_sites code) site ≡ Some row
    → (row.entry ≡ entry_of code site) × (next_by row.act ≡ next_at code site)
row_says code site row is = by (cases_lt site (length (process_sites code)))
  where
    by : (site < length (process_sites code)) ⊎ (length (process_sites code) ≤ site)
        → (row.entry ≡ entry_of code site) × (next_by row.act ≡ next_at code site)
    by (inl under) =
        let same : get_or (process_sites code) site row ≡ row =
        (let e = sym (slice_get-get_or (process_sites code) site row under) ∙ is in cc) in (
          sym (ap (λ (s : Site). s.entry) same) ∙ process_entry code site row under,
          sym (ap next_in same)
              ∙ process_act code site row under,
        )
    by (inr past) = absurd (let e = sym (slice_get_past (process_sites code) site past) ∙ is in cc)
