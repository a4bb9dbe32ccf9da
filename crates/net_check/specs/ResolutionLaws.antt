-- Laws of resolution: what the statements of a text use, the statements of its network use, by number, and the other
-- way.
use Rattle.std.proofs.Common.{◌≡◌, ◌∙◌, ap, subst, ℕ, List, [], ◌∷◌, ◌⊎◌, inl, inr, refl, Bool, true, false, ◌||◌, ◌&&◌}
use Rattle.std.proofs.Common.{cond, ◌-◌, ◌*◌, eqb, IsTrue, ◌+◌, ◌<◌, suc, zero, length, nat_lt, Option, Some, None, arith}
use Rattle.std.proofs.lemmas.Bool.{false≢true, eq-eqb}
use Rattle.std.proofs.lemmas.Bool.Decides.{nat_tests}
use Rattle.net_text.specs.Names.{NameTree}
use Rattle.net_text.specs.Trees.{ExprTree, LiteralTree, VariableTree, MinusTree, ChainTree, LinksTree, NoLinksTree}
use Rattle.net_text.specs.Trees.{LinkThenTree, BlockTree, NothingTree, GetTree, AssignTree, PutTree, StopTree, IfTree}
use Rattle.net_text.specs.Trees.{RepeatTree, LoopTree, DeclarationTree, ProcessTree}
use Rattle.net_text.specs.declared.tree.ChannelText.{ChannelText}
use Rattle.std.proofs.lemmas.List.{length-map}
use Rattle.kahn_net.specs.Common.{Tree, Number, Name, Minus, Chain, Links, NoLinks, LinkThen, Block, Nothing, GetThen}
use Rattle.kahn_net.specs.Common.{AssignThen, PutThen, StopThen, IfThen, RepeatThen, Code, Network, block_gets}
use Rattle.kahn_net.specs.Common.{block_puts, code_gets, code_puts, is_passing, is_repeat_within, code_repeats_within}
use Rattle.net_check.specs.Resolution.{Reads, Resolves, channels_of, processes_of, ResolvesExpr, ResolvesLinks}
use Rattle.net_check.specs.Resolution.{ResolvesBlock, ResolvesLoop, ResolvesProcess}
use Rattle.kahn_net.specs.Valid.{body_gets, body_puts, expr_units}
use Rattle.kahn_net.specs.Valid.{links_units, block_units, body_units, expr_within, links_within}
use Rattle.kahn_net.specs.Valid.{block_within, body_within}
use Rattle.net_check.specs.Texts.{expr_units_text, links_units_text, block_units_text, loop_units_text}
use Rattle.net_check.specs.Texts.{process_units_text, is_passing_text, or_line, past_line, loop_past_line, process_past_line}
use Rattle.kahn_net.specs.Repeats.{repeats_within, body_repeats_within}
use Rattle.kahn_net.specs.declared.limits.TheConstants.{MAX_REPEATS}
use Rattle.net_check.specs.Resolution.{variable_names}
use Rattle.net_check.specs.Uses.{Use, GetFrom, PutOn, expr_uses, block_uses, loop_uses, process_uses, Has}
use Rattle.net_check.specs.UseLaws.{has_left, has_right, has_cases, has_first, has_second, has_after, by_test, by_first}
use Rattle.net_check.specs.UseLaws.{by_second, by_rest, if_cases, expr_no_put, expr_no_get}

same_number : (c d : ℕ) → IsTrue (eqb c d) → c ≡ d
same_number c d h = grind (arith, nat_tests)

or_cases : (a b : Bool) → IsTrue (a || b) → IsTrue a ⊎ IsTrue b
or_cases true b h = inl refl
or_cases false b h = inr h

or_left : (a b : Bool) → IsTrue a → IsTrue (a || b)
or_left true b h = refl
or_left false b h = absurd (false≢true h)

or_right : (a b : Bool) → IsTrue b → IsTrue (a || b)
or_right true b h = refl
or_right false b h = h

-- a use of a text, and the name that it is of, as a channel's number reads
pub record Named (names : List NameTree) (uses : List Use) (use' : NameTree → Use) (c : ℕ) : Type 0 where
  pub name : NameTree
  pub used : Has uses (use' name)
  pub reads : Reads names c name.text

-- a channel that a name reads as, and that is used
pub record Numbered (names : List NameTree) (name : NameTree) (test : ℕ → Bool) : Type 0 where
  pub c : ℕ
  pub reads : Reads names c name.text
  pub used : IsTrue (test c)

-- the same among more uses
named_more : (names : List NameTree) (few many : List Use) (use' : NameTree → Use) (c : ℕ)
    → ((u : Use) → Has few u → Has many u) → Named names few use' c → Named names many use' c
named_more names few many use' c more n = record { name = n.name; used = more (use' n.name) n.used; reads = n.reads }

-- the same where a channel that is used so is used otherwise too
numbered_more : (names : List NameTree) (name : NameTree) (test test' : ℕ → Bool)
    → ((c : ℕ) → IsTrue (test c) → IsTrue (test' c)) → Numbered names name test → Numbered names name test'
numbered_more names name test test' more n = record { c = n.c; reads = n.reads; used = more n.c n.used }

-- what is put on by number is put on by name
pub block_put_named : (cs vs : List NameTree) (tree : BlockTree) (block : Block) (c : ℕ)
    → ResolvesBlock cs vs tree block → IsTrue (block_puts c block) → Named cs (block_uses tree) PutOn c
block_put_named cs vs NothingTree Nothing c r h = absurd (false≢true h)
block_put_named cs vs (GetTree v n rest) (GetThen x d b) c r h =
    named_more cs (block_uses rest) _ PutOn c (λ u k. inr (inr k)) (block_put_named cs vs rest b c r.2 h)
block_put_named cs vs (AssignTree v e rest) (AssignThen x t b) c r h =
    named_more cs (block_uses rest) _ PutOn c (λ u k. inr (has_right (expr_uses e) (block_uses rest) u k))
    (block_put_named cs vs rest b c r.2 h)
block_put_named cs vs (PutTree e n rest) (PutThen t d b) c r h = elim (or_cases (eqb d c) (block_puts c b) h) [
  | inl k ↦ record {
    name = n;
    used = has_right (expr_uses e) (PutOn n ∷ block_uses rest) (PutOn n) (inl refl);
    reads =
        subst (λ (i : ℕ). Reads cs i n.text) (same_number d c k) r.1;
  }
  | inr k ↦ named_more cs (block_uses rest) _ PutOn c
      (λ u m. has_right (expr_uses e) (PutOn n ∷ block_uses rest) u (inr m)) (block_put_named cs vs rest b c r.2 k)
]
block_put_named cs vs (StopTree rest) (StopThen b) c r h = block_put_named cs vs rest b c r h
block_put_named cs vs (IfTree e first second rest) (IfThen t one other b) c r h =
    elim (or_cases (block_puts c one) (block_puts c other || block_puts c b) h) [
      | inl k ↦ named_more cs (block_uses first) _ PutOn c
          (has_first (expr_uses e) (block_uses first) (block_uses second) (block_uses rest))
          (block_put_named cs vs first one c r.1 k)
      | inr k ↦ elim (or_cases (block_puts c other) (block_puts c b) k) [
        | inl m ↦ named_more cs (block_uses second) _ PutOn c
            (has_second (expr_uses e) (block_uses first) (block_uses second) (block_uses rest))
            (block_put_named cs vs second other c r.2 m)
        | inr m ↦ named_more cs (block_uses rest) _ PutOn c
            (has_after (expr_uses e) (block_uses first) (block_uses second) (block_uses rest))
            (block_put_named cs vs rest b c r.3 m)
      ]
    ]
block_put_named cs vs (RepeatTree times line body rest) (RepeatThen n one b) c r h =
    elim (or_cases (block_puts c one) (block_puts c b) h) [
      | inl k ↦ named_more cs (block_uses body) _ PutOn c (has_left (block_uses body) (block_uses rest))
          (block_put_named cs vs body one c r.1 k)
      | inr k ↦ named_more cs (block_uses rest) _ PutOn c (has_right (block_uses body) (block_uses rest))
          (block_put_named cs vs rest b c r.2 k)
    ]
block_put_named cs vs _ _ c r h = absurd r

-- what is got from by number is got from by name
pub block_get_named : (cs vs : List NameTree) (tree : BlockTree) (block : Block) (c : ℕ)
    → ResolvesBlock cs vs tree block → IsTrue (block_gets c block) → Named cs (block_uses tree) GetFrom c
block_get_named cs vs NothingTree Nothing c r h = absurd (false≢true h)
block_get_named cs vs (GetTree v n rest) (GetThen x d b) c r h = elim (or_cases (eqb d c) (block_gets c b) h) [
  | inl k ↦ record
      { name = n; used = inr (inl refl); reads = subst (λ (i : ℕ). Reads cs i n.text) (same_number d c k) r.1 }
  | inr k ↦ named_more cs (block_uses rest) _ GetFrom c (λ u m. inr (inr m)) (block_get_named cs vs rest b c r.2 k)
]
block_get_named cs vs (AssignTree v e rest) (AssignThen x t b) c r h =
    named_more cs (block_uses rest) _ GetFrom c (λ u k. inr (has_right (expr_uses e) (block_uses rest) u k))
    (block_get_named cs vs rest b c r.2 h)
block_get_named cs vs (PutTree e n rest) (PutThen t d b) c r h =
    named_more cs (block_uses rest) _ GetFrom c (λ u k. has_right (expr_uses e) (PutOn n ∷ block_uses rest) u (inr k))
    (block_get_named cs vs rest b c r.2 h)
block_get_named cs vs (StopTree rest) (StopThen b) c r h = block_get_named cs vs rest b c r h
block_get_named cs vs (IfTree e first second rest) (IfThen t one other b) c r h =
    elim (or_cases (block_gets c one) (block_gets c other || block_gets c b) h) [
      | inl k ↦ named_more cs (block_uses first) _ GetFrom c
          (has_first (expr_uses e) (block_uses first) (block_uses second) (block_uses rest))
          (block_get_named cs vs first one c r.1 k)
      | inr k ↦ elim (or_cases (block_gets c other) (block_gets c b) k) [
        | inl m ↦ named_more cs (block_uses second) _ GetFrom c
            (has_second (expr_uses e) (block_uses first) (block_uses second) (block_uses rest))
            (block_get_named cs vs second other c r.2 m)
        | inr m ↦ named_more cs (block_uses rest) _ GetFrom c
            (has_after (expr_uses e) (block_uses first) (block_uses second) (block_uses rest))
            (block_get_named cs vs rest b c r.3 m)
      ]
    ]
block_get_named cs vs (RepeatTree times line body rest) (RepeatThen n one b) c r h =
    elim (or_cases (block_gets c one) (block_gets c b) h) [
      | inl k ↦ named_more cs (block_uses body) _ GetFrom c (has_left (block_uses body) (block_uses rest))
          (block_get_named cs vs body one c r.1 k)
      | inr k ↦ named_more cs (block_uses rest) _ GetFrom c (has_right (block_uses body) (block_uses rest))
          (block_get_named cs vs rest b c r.2 k)
    ]
block_get_named cs vs _ _ c r h = absurd r

-- what is put on by name is put on by number
pub block_put_numbered : (cs vs : List NameTree) (tree : BlockTree) (block : Block) (name : NameTree)
    → ResolvesBlock cs vs tree block → Has (block_uses tree) (PutOn name) → Numbered cs name (λ c. block_puts c block)
block_put_numbered cs vs NothingTree Nothing name r h = absurd h
block_put_numbered cs vs (GetTree v n rest) (GetThen x d b) name r h = elim h [
  | inl e ↦ absurd (cc)
  | inr k ↦ elim k [
    | inl e ↦ absurd (cc)
    | inr m ↦ numbered_more cs name _ _ (λ c u. u) (block_put_numbered cs vs rest b name r.2 m)
  ]
]
block_put_numbered cs vs (AssignTree v e rest) (AssignThen x t b) name r h = elim h [
  | inl e' ↦ absurd (cc)
  | inr k ↦ elim (has_cases (expr_uses e) (block_uses rest) (PutOn name) k) [
    | inl m ↦ absurd (expr_no_put e name m)
    | inr m ↦ numbered_more cs name _ _ (λ c u. u) (block_put_numbered cs vs rest b name r.2 m)
  ]
]
block_put_numbered cs vs (PutTree e n rest) (PutThen t d b) name r h =
    elim (has_cases (expr_uses e) (PutOn n ∷ block_uses rest) (PutOn name) h) [
      | inl m ↦ absurd (expr_no_put e name m)
      | inr m ↦ elim m [
        | inl e' ↦ let k : n ≡ name = cc in
            record {
              c = d;
              reads = subst (λ (z : NameTree). Reads cs d z.text) k r.1;
              used =
                  or_left (eqb d d) (block_puts d b) (eq-eqb d d refl);
            }
        | inr k ↦ numbered_more cs name (λ c. block_puts c b) _ (λ c u. or_right (eqb d c) (block_puts c b) u)
            (block_put_numbered cs vs rest b name r.2 k)
      ]
    ]
block_put_numbered cs vs (StopTree rest) (StopThen b) name r h =
    numbered_more cs name _ _ (λ c u. u) (block_put_numbered cs vs rest b name r h)
block_put_numbered cs vs (IfTree e first second rest) (IfThen t one other b) name r h =
    elim (if_cases (expr_uses e) (block_uses first) (block_uses second) (block_uses rest) (PutOn name) h) [
      | by_test k ↦ absurd (expr_no_put e name k)
      | by_first k ↦ numbered_more cs name (λ c. block_puts c one) _ (λ c u. or_left (block_puts c one) _ u)
          (block_put_numbered cs vs first one name r.1 k)
      | by_second k ↦ numbered_more cs name (λ c. block_puts c other)
          _ (λ c u. or_right (block_puts c one) _ (or_left (block_puts c other) _ u))
          (block_put_numbered cs vs second other name r.2 k)
      | by_rest k ↦ numbered_more cs name (λ c. block_puts c b)
          _ (λ c u. or_right (block_puts c one) _ (or_right (block_puts c other) _ u))
          (block_put_numbered cs vs rest b name r.3 k)
    ]
block_put_numbered cs vs (RepeatTree times line body rest) (RepeatThen n one b) name r h =
    elim (has_cases (block_uses body) (block_uses rest) (PutOn name) h) [
      | inl k ↦ numbered_more cs name (λ c. block_puts c one) _ (λ c u. or_left (block_puts c one) _ u)
          (block_put_numbered cs vs body one name r.1 k)
      | inr k ↦ numbered_more cs name (λ c. block_puts c b) _ (λ c u. or_right (block_puts c one) _ u)
          (block_put_numbered cs vs rest b name r.2 k)
    ]
block_put_numbered cs vs _ _ name r h = absurd r

-- what is got from by name is got from by number
pub block_get_numbered : (cs vs : List NameTree) (tree : BlockTree) (block : Block) (name : NameTree)
    → ResolvesBlock cs vs tree block → Has (block_uses tree) (GetFrom name) → Numbered cs name (λ c. block_gets c block)
block_get_numbered cs vs NothingTree Nothing name r h = absurd h
block_get_numbered cs vs (GetTree v n rest) (GetThen x d b) name r h = elim h [
  | inl e ↦ absurd (cc)
  | inr m ↦ elim m [
    | inl e' ↦ let k : n ≡ name = cc in
        record {
          c = d;
          reads = subst (λ (z : NameTree). Reads cs d z.text) k r.1;
          used =
              or_left (eqb d d) (block_gets d b) (eq-eqb d d refl);
        }
    | inr k ↦ numbered_more cs name (λ c. block_gets c b) _ (λ c u. or_right (eqb d c) (block_gets c b) u)
        (block_get_numbered cs vs rest b name r.2 k)
  ]
]
block_get_numbered cs vs (AssignTree v e rest) (AssignThen x t b) name r h = elim h [
  | inl e' ↦ absurd (cc)
  | inr k ↦ elim (has_cases (expr_uses e) (block_uses rest) (GetFrom name) k) [
    | inl m ↦ absurd (expr_no_get e name m)
    | inr m ↦ numbered_more cs name _ _ (λ c u. u) (block_get_numbered cs vs rest b name r.2 m)
  ]
]
block_get_numbered cs vs (PutTree e n rest) (PutThen t d b) name r h =
    elim (has_cases (expr_uses e) (PutOn n ∷ block_uses rest) (GetFrom name) h) [
      | inl m ↦ absurd (expr_no_get e name m)
      | inr m ↦ elim m [
        | inl e' ↦ absurd (cc)
        | inr k ↦ numbered_more cs name _ _ (λ c u. u)
            (block_get_numbered cs vs rest b name r.2 k)
      ]
    ]
block_get_numbered cs vs (StopTree rest) (StopThen b) name r h =
    numbered_more cs name _ _ (λ c u. u) (block_get_numbered cs vs rest b name r h)
block_get_numbered cs vs (IfTree e first second rest) (IfThen t one other b) name r h =
    elim (if_cases (expr_uses e) (block_uses first) (block_uses second) (block_uses rest) (GetFrom name) h) [
      | by_test k ↦ absurd (expr_no_get e name k)
      | by_first k ↦ numbered_more cs name (λ c. block_gets c one) _ (λ c u. or_left (block_gets c one) _ u)
          (block_get_numbered cs vs first one name r.1 k)
      | by_second k ↦ numbered_more cs name (λ c. block_gets c other)
          _ (λ c u. or_right (block_gets c one) _ (or_left (block_gets c other) _ u))
          (block_get_numbered cs vs second other name r.2 k)
      | by_rest k ↦ numbered_more cs name (λ c. block_gets c b)
          _ (λ c u. or_right (block_gets c one) _ (or_right (block_gets c other) _ u))
          (block_get_numbered cs vs rest b name r.3 k)
    ]
block_get_numbered cs vs (RepeatTree times line body rest) (RepeatThen n one b) name r h =
    elim (has_cases (block_uses body) (block_uses rest) (GetFrom name) h) [
      | inl k ↦ numbered_more cs name (λ c. block_gets c one) _ (λ c u. or_left (block_gets c one) _ u)
          (block_get_numbered cs vs body one name r.1 k)
      | inr k ↦ numbered_more cs name (λ c. block_gets c b) _ (λ c u. or_right (block_gets c one) _ u)
          (block_get_numbered cs vs rest b name r.2 k)
    ]
block_get_numbered cs vs _ _ name r h = absurd r

loop_put_named : (cs vs : List NameTree) (repeated : Option LoopTree) (body : Option Block) (c : ℕ)
    → ResolvesLoop cs vs repeated body → IsTrue (body_puts c body) → Named cs (loop_uses repeated) PutOn c
loop_put_named cs vs None None c r h = absurd (false≢true h)
loop_put_named cs vs None (Some b) c r h = absurd r
loop_put_named cs vs (Some l) None c r h = absurd r
loop_put_named cs vs (Some l) (Some b) c r h = block_put_named cs vs l.body b c r h

loop_get_named : (cs vs : List NameTree) (repeated : Option LoopTree) (body : Option Block) (c : ℕ)
    → ResolvesLoop cs vs repeated body → IsTrue (body_gets c body) → Named cs (loop_uses repeated) GetFrom c
loop_get_named cs vs None None c r h = absurd (false≢true h)
loop_get_named cs vs None (Some b) c r h = absurd r
loop_get_named cs vs (Some l) None c r h = absurd r
loop_get_named cs vs (Some l) (Some b) c r h = block_get_named cs vs l.body b c r h

loop_put_numbered : (cs vs : List NameTree) (repeated : Option LoopTree) (body : Option Block) (name : NameTree)
    → ResolvesLoop cs vs repeated body → Has (loop_uses repeated) (PutOn name)
    → Numbered cs name (λ c. body_puts c body)
loop_put_numbered cs vs None None name r h = absurd h
loop_put_numbered cs vs None (Some b) name r h = absurd r
loop_put_numbered cs vs (Some l) None name r h = absurd r
loop_put_numbered cs vs (Some l) (Some b) name r h = block_put_numbered cs vs l.body b name r h

loop_get_numbered : (cs vs : List NameTree) (repeated : Option LoopTree) (body : Option Block) (name : NameTree)
    → ResolvesLoop cs vs repeated body → Has (loop_uses repeated) (GetFrom name)
    → Numbered cs name (λ c. body_gets c body)
loop_get_numbered cs vs None None name r h = absurd h
loop_get_numbered cs vs None (Some b) name r h = absurd r
loop_get_numbered cs vs (Some l) None name r h = absurd r
loop_get_numbered cs vs (Some l) (Some b) name r h = block_get_numbered cs vs l.body b name r h

-- the same of a process
pub put_named : (cs : List NameTree) (process : ProcessTree) (code : Code) (c : ℕ) → ResolvesProcess cs process code
    → IsTrue (code_puts c code) → Named cs (process_uses process) PutOn c
put_named cs process code c r h = elim (or_cases (block_puts c code.prelude) (body_puts c code.body) h) [
  | inl k ↦ let n = block_put_named cs _ process.prelude code.prelude c r.prelude k in
      record {
        name = n.name;
        used =
            has_left (block_uses process.prelude) (loop_uses process.repeated) (PutOn n.name) n.used;
        reads = n.reads;
      }
  | inr k ↦ let n = loop_put_named cs _ process.repeated code.body c r.body k in
      record {
        name = n.name;
        used =
            has_right (block_uses process.prelude) (loop_uses process.repeated) (PutOn n.name) n.used;
        reads = n.reads;
      }
]

pub get_named : (cs : List NameTree) (process : ProcessTree) (code : Code) (c : ℕ) → ResolvesProcess cs process code
    → IsTrue (code_gets c code) → Named cs (process_uses process) GetFrom c
get_named cs process code c r h = elim (or_cases (block_gets c code.prelude) (body_gets c code.body) h) [
  | inl k ↦ let n = block_get_named cs _ process.prelude code.prelude c r.prelude k in
      record {
        name = n.name;
        used =
            has_left (block_uses process.prelude) (loop_uses process.repeated) (GetFrom n.name) n.used;
        reads = n.reads;
      }
  | inr k ↦ let n = loop_get_named cs _ process.repeated code.body c r.body k in
      record {
        name = n.name;
        used =
            has_right (block_uses process.prelude) (loop_uses process.repeated) (GetFrom n.name) n.used;
        reads = n.reads;
      }
]

pub put_numbered : (cs : List NameTree) (process : ProcessTree) (code : Code) (name : NameTree)
    → ResolvesProcess cs process code → Has (process_uses process) (PutOn name)
    → Numbered cs name (λ c. code_puts c code)
put_numbered cs process code name r h =
    elim (has_cases (block_uses process.prelude) (loop_uses process.repeated) (PutOn name) h) [
      | inl k ↦ let n = block_put_numbered cs _ process.prelude code.prelude name r.prelude k in
          record {
            c = n.c;
            reads = n.reads;
            used =
                or_left (block_puts n.c code.prelude) (body_puts n.c code.body) n.used;
          }
      | inr k ↦ let n = loop_put_numbered cs _ process.repeated code.body name r.body k in
          record {
            c = n.c;
            reads = n.reads;
            used = or_right (block_puts n.c code.prelude) (body_puts n.c code.body) n.used;
          }
    ]

pub get_numbered : (cs : List NameTree) (process : ProcessTree) (code : Code) (name : NameTree)
    → ResolvesProcess cs process code → Has (process_uses process) (GetFrom name)
    → Numbered cs name (λ c. code_gets c code)
get_numbered cs process code name r h =
    elim (has_cases (block_uses process.prelude) (loop_uses process.repeated) (GetFrom name) h) [
      | inl k ↦ let n = block_get_numbered cs _ process.prelude code.prelude name r.prelude k in
          record {
            c = n.c;
            reads = n.reads;
            used =
                or_left (block_gets n.c code.prelude) (body_gets n.c code.body) n.used;
          }
      | inr k ↦ let n = loop_get_numbered cs _ process.repeated code.body name r.body k in
          record {
            c = n.c;
            reads = n.reads;
            used = or_right (block_gets n.c code.prelude) (body_gets n.c code.body) n.used;
          }
    ]

-- a text and its network have as many units
mutual
  pub expr_units_kept : (vs : List NameTree) (e : ExprTree) (t : Tree) → ResolvesExpr vs e t
      → expr_units t ≡ expr_units_text e
  expr_units_kept vs (LiteralTree n) (Number m) r = refl
  expr_units_kept vs (VariableTree v) (Name x) r = refl
  expr_units_kept vs (MinusTree a) (Minus b) r = ap suc (expr_units_kept vs a b r)
  expr_units_kept vs (ChainTree a links) (Chain b more) r = let h = expr_units_kept vs a b r.0 in let k =
      links_units_kept vs links more r.1 in cc
  expr_units_kept vs _ _ r = absurd r

  links_units_kept : (vs : List NameTree) (links : LinksTree) (more : Links) → ResolvesLinks vs links more
      → links_units more ≡ links_units_text links
  links_units_kept vs NoLinksTree NoLinks r = refl
  links_units_kept vs (LinkThenTree o a rest) (LinkThen p b more) r = let h = expr_units_kept vs a b r.1 in let k =
      links_units_kept vs rest more r.2 in cc
  links_units_kept vs _ _ r = absurd r

pub block_units_kept : (cs vs : List NameTree) (tree : BlockTree) (block : Block) → ResolvesBlock cs vs tree block
    → (block_units block ≡ block_units_text tree) × (is_passing block ≡ is_passing_text tree)
block_units_kept cs vs NothingTree Nothing r = (refl, refl)
block_units_kept cs vs (GetTree v n rest) (GetThen x d b) r = let k = block_units_kept cs vs rest b r.2 in
    (ap suc k.0, refl)
block_units_kept cs vs (AssignTree v e rest) (AssignThen x t b) r = let k = block_units_kept cs vs rest b r.2 in
    let h = expr_units_kept vs e t r.1 in let i = k.0 in (cc, k.1)
block_units_kept cs vs (PutTree e n rest) (PutThen t d b) r = let k = block_units_kept cs vs rest b r.2 in let h =
    expr_units_kept vs e t r.0 in let i = k.0 in (cc, k.1)
block_units_kept cs vs (StopTree rest) (StopThen b) r = let k = block_units_kept cs vs rest b r in (ap suc k.0, refl)
block_units_kept cs vs (IfTree e first second rest) (IfThen t one other b) r =
    let h = expr_units_kept vs e t r.0 in
    let k = block_units_kept cs vs first one r.1 in
    let l = block_units_kept cs vs second other r.2 in
    let m = block_units_kept cs vs rest b r.3 in
    let k' = k.0 in
    let l' = l.0 in
    let m' = m.0 in
    let k'' = k.1 in
    let l'' = l.1 in
    let m'' = m.1 in (cc, cc)
block_units_kept cs vs (RepeatTree times line body rest) (RepeatThen n one b) r =
    let k = block_units_kept cs vs body one r.1 in
    let m = block_units_kept cs vs rest b r.2 in
    let k' = k.0 in
    let m' = m.0 in
    let k'' = k.1 in
    let m'' = m.1 in
    let same = r.0 in (cc, cc)
block_units_kept cs vs _ _ r = absurd r

loop_units_kept : (cs vs : List NameTree) (repeated : Option LoopTree) (body : Option Block)
    → ResolvesLoop cs vs repeated body → body_units body ≡ loop_units_text repeated
loop_units_kept cs vs None None r = refl
loop_units_kept cs vs None (Some b) r = absurd r
loop_units_kept cs vs (Some l) None r = absurd r
loop_units_kept cs vs (Some l) (Some b) r = (block_units_kept cs vs l.body b r).0

pub units_kept : (cs : List NameTree) (process : ProcessTree) (code : Code) → ResolvesProcess cs process code
    → block_units code.prelude + body_units code.body ≡ process_units_text process
units_kept cs process code r = let h = (block_units_kept cs _ process.prelude code.prelude r.prelude).0 in let k =
    loop_units_kept cs _ process.repeated code.body r.body in cc

-- a loop of the text is a loop of the network, and passes as it does
pub passes_kept : (cs vs : List NameTree) (repeated : Option LoopTree) (code_body : Option Block) (body : Block)
    → ResolvesLoop cs vs repeated code_body → code_body ≡ Some body
    → (l : LoopTree) × (repeated ≡ Some l) × (is_passing body ≡ is_passing_text l.body)
passes_kept cs vs None None body r e = absurd (cc)
passes_kept cs vs None (Some b) body r e = absurd r
passes_kept cs vs (Some l) None body r e = absurd r
passes_kept cs vs (Some l) (Some b) body r e = let k : body ≡ b = cc in
    (l, refl, ap is_passing k ∙ (block_units_kept cs vs l.body b r).1)

pub passes_kept_text : (cs vs : List NameTree) (repeated : Option LoopTree) (code_body : Option Block) (l : LoopTree)
    → ResolvesLoop cs vs repeated code_body → repeated ≡ Some l
    → (body : Block) × (code_body ≡ Some body) × (is_passing body ≡ is_passing_text l.body)
passes_kept_text cs vs None None l r e = absurd (cc)
passes_kept_text cs vs None (Some b) l r e = absurd r
passes_kept_text cs vs (Some m) None l r e = absurd r
passes_kept_text cs vs (Some m) (Some b) l r e = let k : m ≡ l = cc in
    (b, refl, (block_units_kept cs vs m.body b r).1 ∙ ap (λ (z : LoopTree). is_passing_text z.body) k)

-- where no repetition of the text is past its limits, those of the network are within them, and the other way
abbrev pub is_none : Option ℕ → Bool
is_none None = true
is_none (Some line) = false

none_of_both : (a b : Option ℕ) → is_none (or_line a b) ≡ is_none a && is_none b
none_of_both None b = refl
none_of_both (Some line) b = refl

none_if : (test : Bool) (a : Option ℕ) (line : ℕ) → is_none (cond test a (Some line)) ≡ test && is_none a
none_if true a line = refl
none_if false a line = refl

pub block_repeats_kept : (cs vs : List NameTree) (tree : BlockTree) (block : Block) (open_yet round : ℕ)
    → ResolvesBlock cs vs tree block → is_none (past_line open_yet round tree) ≡ repeats_within open_yet round block
block_repeats_kept cs vs NothingTree Nothing o m r = refl
block_repeats_kept cs vs (GetTree v n rest) (GetThen x d b) o m r = block_repeats_kept cs vs rest b o m r.2
block_repeats_kept cs vs (AssignTree v e rest) (AssignThen x t b) o m r = block_repeats_kept cs vs rest b o m r.2
block_repeats_kept cs vs (PutTree e n rest) (PutThen t d b) o m r = block_repeats_kept cs vs rest b o m r.2
block_repeats_kept cs vs (StopTree rest) (StopThen b) o m r = block_repeats_kept cs vs rest b o m r
block_repeats_kept cs vs (IfTree e first second rest) (IfThen t one other b) o m r =
    let h = block_repeats_kept cs vs first one o m r.1 in
    let k = block_repeats_kept cs vs second other o m r.2 in
    let l = block_repeats_kept cs vs rest b o m r.3 in
    none_of_both (past_line o m first) (or_line (past_line o m second) (past_line o m rest))
    ∙ (ap (λ (x : Bool). is_none (past_line o m first) && x) (none_of_both (past_line o m second) (past_line o m rest))
    ∙ (ap (λ (x : Bool). x && (is_none (past_line o m second) && is_none (past_line o m rest))) h
    ∙ (ap (λ (x : Bool). repeats_within o m one && (x && is_none (past_line o m rest))) k
    ∙ ap (λ (x : Bool). repeats_within o m one && (repeats_within o m other && x)) l)))
block_repeats_kept cs vs (RepeatTree times line body rest) (RepeatThen n one b) o m r =
    let h = block_repeats_kept cs vs body one (o - 1) (m * times) r.1 in
    let l = block_repeats_kept cs vs rest b o m r.2 in
    let inside = past_line (o - 1) (m * times) body in
    let test = is_repeat_within o m times in
    none_if test (or_line inside (past_line o m rest)) line
    ∙ (ap (λ (x : Bool). test && x) (none_of_both inside (past_line o m rest))
    ∙ (ap (λ (x : Bool). test && (x && is_none (past_line o m rest))) h
    ∙ (ap (λ (x : Bool). test && (repeats_within (o - 1) (m * times) one && x)) l
    ∙ ap (λ (x : ℕ). is_repeat_within o m x && (repeats_within (o - 1) (m * x) one && repeats_within o m b)) r.0)))
block_repeats_kept cs vs _ _ o m r = absurd r

loop_repeats_kept : (cs vs : List NameTree) (repeated : Option LoopTree) (body : Option Block)
    → ResolvesLoop cs vs repeated body → is_none (loop_past_line repeated) ≡ body_repeats_within body
loop_repeats_kept cs vs None None r = refl
loop_repeats_kept cs vs None (Some b) r = absurd r
loop_repeats_kept cs vs (Some l) None r = absurd r
loop_repeats_kept cs vs (Some l) (Some b) r = block_repeats_kept cs vs l.body b MAX_REPEATS 1 r

pub repeats_kept : (cs : List NameTree) (process : ProcessTree) (code : Code) → ResolvesProcess cs process code
    → is_none (process_past_line process) ≡ code_repeats_within code
repeats_kept cs process code r =
    let vs = variable_names process.variables in
    none_of_both (past_line MAX_REPEATS 1 process.prelude) (loop_past_line process.repeated)
    ∙ (ap (λ (x : Bool). x && is_none (loop_past_line process.repeated))
    (block_repeats_kept cs vs process.prelude code.prelude MAX_REPEATS 1 r.prelude)
    ∙ ap (λ (x : Bool). repeats_within MAX_REPEATS 1 code.prelude && x)
    (loop_repeats_kept cs vs process.repeated code.body r.body))

-- numbers stay within the names
pub reads_below : (names : List NameTree) (i : ℕ) (t : List ℕ) → Reads names i t → i < length names
reads_below [] i t h = absurd (cc)
reads_below (n ∷ names) zero t h = omega arith
reads_below (n ∷ names) (suc i) t h = let k = reads_below names i t h in omega arith

below_test : (a b : ℕ) → a < b → IsTrue (nat_lt a b)
below_test a b h = grind (arith, nat_tests)

and_true : (a b : Bool) → IsTrue a → IsTrue b → IsTrue (a && b)
and_true true b h k = k
and_true false b h k = absurd (false≢true h)

mutual
  expr_kept_within : (vs : List NameTree) (e : ExprTree) (t : Tree) → ResolvesExpr vs e t
      → IsTrue (expr_within (length vs) t)
  expr_kept_within vs (LiteralTree n) (Number m) r = refl
  expr_kept_within vs (VariableTree v) (Name x) r = below_test x (length vs) (reads_below vs x v.text r)
  expr_kept_within vs (MinusTree a) (Minus b) r = expr_kept_within vs a b r
  expr_kept_within vs (ChainTree a links) (Chain b more) r =
      and_true (expr_within (length vs) b) (links_within (length vs) more) (expr_kept_within vs a b r.0)
      (links_kept_within vs links more r.1)
  expr_kept_within vs _ _ r = absurd r

  links_kept_within : (vs : List NameTree) (links : LinksTree) (more : Links) → ResolvesLinks vs links more
      → IsTrue (links_within (length vs) more)
  links_kept_within vs NoLinksTree NoLinks r = refl
  links_kept_within vs (LinkThenTree o a rest) (LinkThen p b more) r =
      and_true (expr_within (length vs) b) (links_within (length vs) more) (expr_kept_within vs a b r.1)
      (links_kept_within vs rest more r.2)
  links_kept_within vs _ _ r = absurd r

pub block_kept_within : (cs vs : List NameTree) (tree : BlockTree) (block : Block) → ResolvesBlock cs vs tree block
    → IsTrue (block_within (length vs) (length cs) block)
block_kept_within cs vs NothingTree Nothing r = refl
block_kept_within cs vs (GetTree v n rest) (GetThen x d b) r =
    and_true (nat_lt x (length vs)) _ (below_test x (length vs) (reads_below vs x v.text r.0))
    (and_true (nat_lt d (length cs)) _ (below_test d (length cs) (reads_below cs d n.text r.1))
    (block_kept_within cs vs rest b r.2))
block_kept_within cs vs (AssignTree v e rest) (AssignThen x t b) r =
    and_true (nat_lt x (length vs)) _ (below_test x (length vs) (reads_below vs x v.text r.0))
    (and_true (expr_within (length vs) t) _ (expr_kept_within vs e t r.1) (block_kept_within cs vs rest b r.2))
block_kept_within cs vs (PutTree e n rest) (PutThen t d b) r =
    and_true (expr_within (length vs) t) _ (expr_kept_within vs e t r.0)
    (and_true (nat_lt d (length cs)) _ (below_test d (length cs) (reads_below cs d n.text r.1))
    (block_kept_within cs vs rest b r.2))
block_kept_within cs vs (StopTree rest) (StopThen b) r = block_kept_within cs vs rest b r
block_kept_within cs vs (IfTree e first second rest) (IfThen t one other b) r =
    and_true (expr_within (length vs) t) _ (expr_kept_within vs e t r.0)
    (and_true (block_within (length vs) (length cs) one) _ (block_kept_within cs vs first one r.1)
    (and_true (block_within (length vs) (length cs) other) _ (block_kept_within cs vs second other r.2)
    (block_kept_within cs vs rest b r.3)))
block_kept_within cs vs (RepeatTree times line body rest) (RepeatThen n one b) r =
    and_true (block_within (length vs) (length cs) one) _ (block_kept_within cs vs body one r.1)
    (block_kept_within cs vs rest b r.2)
block_kept_within cs vs _ _ r = absurd r

pub loop_kept_within : (cs vs : List NameTree) (repeated : Option LoopTree) (body : Option Block)
    → ResolvesLoop cs vs repeated body → IsTrue (body_within (length vs) (length cs) body)
loop_kept_within cs vs None None r = refl
loop_kept_within cs vs None (Some b) r = absurd r
loop_kept_within cs vs (Some l) None r = absurd r
loop_kept_within cs vs (Some l) (Some b) r = block_kept_within cs vs l.body b r

-- as many channels and processes as the text declares
pub channels_counted : (text : List DeclarationTree) (channels processes : List NameTree) (net : Network)
    → Resolves text channels processes net → length net.channels ≡ length (channels_of text)
channels_counted text channels processes net r =
    r.channel_count ∙ ap length r.channels_named ∙ length-map (channels_of text) (λ (c : ChannelText). c.name)

pub processes_counted : (text : List DeclarationTree) (channels processes : List NameTree) (net : Network)
    → Resolves text channels processes net → length net.codes ≡ length (processes_of text)
processes_counted text channels processes net r =
    r.process_count ∙ ap length r.processes_named ∙ length-map (processes_of text) (λ (p : ProcessTree). p.name)
