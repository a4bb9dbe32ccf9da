-- Packets are read as they are spelled, and what is spelled is read.
use Rattle.std.proofs.Common.{◌≡◌, ◌≢◌, ℕ, zero, suc, ◌≤◌, Bool, true, false, ◌&&◌, not, nat_eq, nat_le, cond, List, []}
use Rattle.std.proofs.Common.{◌∷◌, ◌++◌, length, Some, None, option_map, Result, Ok, Err, refl, sym, ap, subst, ◌∙◌}
use Rattle.std.proofs.Common.{append_assoc, arith}
use Rattle.std.specs.Prelude.{IfOk, IsErrOf}
use Rattle.std.specs.List.{flat_map, AllByRecursion}
use Rattle.std.proofs.lemmas.Bool.{leb-true, le-leb, eqb-true, eqb-false, ne_eqb}
use Rattle.std.proofs.lemmas.List.{append-nil, nil_from_length}
use Rattle.std.proofs.lemmas.List.Elements.{All-from_recursion, recursion_from_All}
use Rattle.std.proofs.lemmas.List.Concat.{flat_map-cons}
use Rattle.datagram.specs.declared.packet.TheConstants.{LAST_NODE, LAST_CHANNEL, MOST_NEEDS}
use Rattle.kahn_net.specs.declared.limits.TheConstants.{MAX_COUNT}
use Rattle.datagram.specs.declared.fault.PacketFault.{PacketFault}
use Rattle.datagram.specs.declared.fault.PacketFault.TheVariants.{NoMemory, BadPacket}
use Rattle.datagram.specs.declared.packet.Need.{Need}
use Rattle.datagram.specs.declared.packet.Body.{Body}
use Rattle.datagram.specs.declared.packet.Body.TheVariants.{Data, Ack, Kept, Ask, Took, Covered, Refused, Query, Commit}
use Rattle.datagram.specs.declared.packet.Body.TheVariants.{Ended, Settled, Undone}
use Rattle.datagram.specs.declared.packet.Packet.{Packet}
use Rattle.datagram.specs.PacketText.{IsChannel, IsCount, IsPositive, IsNeed, AreNeeds, IsBody, IsPacket, IsPacketText}
use Rattle.datagram.specs.PacketText.{number_text, need_text, needs_text, kind_of, body_text, packet_text}
use Rattle.datagram.specs.Reading.{are_ascending, ◌>>=◌, Found, Field, channel, count, positive, needs_count, if_passes}
use Rattle.datagram.specs.Reading.{need_at, needs_at, need_list_at, data_body, counts_body, kept_body, ask_body}
use Rattle.datagram.specs.Reading.{refused_body, read_as, took_at, body_at, are_nodes, packet_at, whole_at, Reads}
use Rattle.datagram.specs.Reading.{IsReadUnlessMemory}
use Rattle.datagram.proofs.Rising.{is_rising, rising}
use Rattle.datagram.proofs.Parts.{AreBytes, AreBytes-rest, after_found, chosen, is_found, passed, was, Splits}
use Rattle.datagram.proofs.Parts.{both_split, Exact, back2, back8, limited_exact, item_exact, reason_exact, both_exact}

-- ---- tests

and_both : (a b : Bool) → (a && b) ≡ true → (a ≡ true) × (b ≡ true)
and_both true b e = (refl, e)
and_both false b e = absurd cc

both_and : (a b : Bool) → a ≡ true → b ≡ true → (a && b) ≡ true
both_and true b a-is b-is = b-is
both_and false b a-is b-is = absurd cc

not_true : (b : Bool) → not b ≡ true → b ≡ false
not_true true e = absurd cc
not_true false e = refl

-- ---- numbers within limits

channel_exact : Exact channel
channel_exact = limited_exact IsChannel (λ n. nat_le n LAST_CHANNEL) 2 back2
    (λ k e. leb-true k LAST_CHANNEL e) (λ k fits. (le-leb k LAST_CHANNEL fits, omega arith))

count_exact : Exact count
count_exact = limited_exact IsCount (λ n. nat_le n MAX_COUNT) 8 back8
    (λ k e. leb-true k MAX_COUNT e) (λ k fits. (le-leb k MAX_COUNT fits, omega arith))

positive_exact : Exact positive
positive_exact = limited_exact IsPositive (λ n. nat_le 1 n && nat_le n MAX_COUNT) 8 back8
    (λ k e. let p = and_both (nat_le 1 k) (nat_le k MAX_COUNT) e in (leb-true 1 k p.0, leb-true k MAX_COUNT p.1))
    (λ k fits. (
      both_and (nat_le 1 k) (nat_le k MAX_COUNT) (le-leb 1 k fits.0) (le-leb k MAX_COUNT fits.1),
      omega
          arith,
    ))

needs_count_exact : Exact needs_count
needs_count_exact = limited_exact (λ n. n ≤ MOST_NEEDS) (λ n. nat_le n MOST_NEEDS) 2 back2
    (λ k e. leb-true k MOST_NEEDS e) (λ k fits. (le-leb k MOST_NEEDS fits, omega arith))

-- ---- needs

need_takes : (bytes : List ℕ) (x : Need × List ℕ) → AreBytes bytes → need_at bytes ≡ Some x
    → Splits bytes (need_text x.0) x.1 × IsNeed x.0
need_takes bytes x fits e =
    let a = after_found (channel.read bytes)
    (λ a. positive.read a.1 >>= λ b. Some (record { channel = a.0; count = b.0 }, b.1)) x e in
    let b = after_found (positive.read a.0.1) (λ b. Some (record { channel = a.0.0; count = b.0 }, b.1)) x a.2 in
    let first = channel_exact.takes bytes a.0 fits a.1 in
    let second = positive_exact.takes a.0.1 b.0 first.0.bytes_left b.1 in
    let whole = both_split bytes (number_text 2 a.0.0) a.0.1 (number_text 8 b.0.0) b.0.1 first.0 second.0 in
    let made : Need × List ℕ = (record { channel = a.0.0; count = b.0.0 }, b.0.1) in
    subst (λ (y : Need × List ℕ). Splits bytes (need_text y.0) y.1 × IsNeed y.0) (is_found made x b.2)
    (whole, (first.1, second.1))

need_again : (need : Need) (rest : List ℕ) → IsNeed need → need_at (need_text need ++ rest) ≡ Some (need, rest)
need_again need rest fits =
    rw (
      append_assoc (number_text 2 need.channel) (number_text 8 need.count) rest,
      channel_exact.again need.channel (number_text 8 need.count ++ rest) fits.0,
      positive_exact.again need.count rest fits.1,
    ) refl

needs_take : (n : ℕ) (bytes : List ℕ) (x : List Need × List ℕ) → AreBytes bytes → needs_at n bytes ≡ Some x
    → Splits bytes (flat_map need_text x.0) x.1 × (length x.0 ≡ n) × AllByRecursion IsNeed x.0
unfolding needs_at
needs_take zero bytes x fits e =
    let made : List Need × List ℕ = ([], bytes) in
    subst (λ (y : List Need × List ℕ). Splits bytes (flat_map need_text y.0) y.1 × (length y.0 ≡ 0)
    × AllByRecursion IsNeed y.0) (is_found made x e) (record { joined = refl; bytes_left = fits }, refl, tt)
needs_take (suc n) bytes x fits e =
    let a = after_found (need_at bytes) (λ first. needs_at n first.1 >>= λ others. Some (first.0 ∷ others.0, others.1))
    x e in
    let b = after_found (needs_at n a.0.1) (λ others. Some (a.0.0 ∷ others.0, others.1)) x a.2 in
    let first = need_takes bytes a.0 fits a.1 in
    let second = needs_take n a.0.1 b.0 first.0.bytes_left b.1 in
    let whole = both_split bytes (need_text a.0.0) a.0.1 (flat_map need_text b.0.0) b.0.1 first.0 second.0 in
    let made : List Need × List ℕ = (a.0.0 ∷ b.0.0, b.0.1) in
    subst (λ (y : List Need × List ℕ). Splits bytes (flat_map need_text y.0) y.1 × (length y.0 ≡ suc n)
    × AllByRecursion IsNeed y.0) (is_found made x b.2)
    (rw flat_map-cons whole, ap suc second.1, (first.1, second.2))

needs_again : (needs : List Need) (rest : List ℕ) → AllByRecursion IsNeed needs
    → needs_at (length needs) (flat_map need_text needs ++ rest) ≡ Some (needs, rest)
unfolding needs_at
needs_again [] rest fits = refl
needs_again (need ∷ needs) rest fits =
    let regrouped : flat_map need_text (need ∷ needs) ++ rest ≡ need_text need ++ (flat_map need_text needs ++ rest)
    = ap (λ (t : List ℕ). t ++ rest) (flat_map-cons need_text need needs)
    ∙ append_assoc (need_text need) (flat_map need_text needs) rest in
    ap (needs_at (suc (length needs))) regrouped
    ∙ rw (need_again need (flat_map need_text needs ++ rest) fits.0, needs_again needs rest fits.1) refl

need_list_takes : (bytes : List ℕ) (x : List Need × List ℕ) → AreBytes bytes → need_list_at bytes ≡ Some x
    → Splits bytes (needs_text x.0) x.1 × AreNeeds x.0
unfolding need_list_at
need_list_takes bytes x fits e =
    let a = after_found (needs_count.read bytes) (λ n. if_passes (are_ascending 0) (needs_at n.0 n.1)) x e in
    let p = passed (are_ascending 0) (needs_at a.0.0 a.0.1) x a.2 in
    let first = needs_count_exact.takes bytes a.0 fits a.1 in
    let second = needs_take a.0.0 a.0.1 x first.0.bytes_left p.0 in
    let whole = both_split bytes (number_text 2 a.0.0) a.0.1 (flat_map need_text x.0) x.1 first.0 second.0 in (
      subst (λ (k : ℕ). Splits bytes (number_text 2 k ++ flat_map need_text x.0) x.1) (sym second.1) whole,
      record {
        count = omega (arith, second.1, first.1);
        each = All-from_recursion IsNeed x.0 second.2;
        ascending = is_rising 0 x.0 p.1;
      },
    )

need_list_again : (needs : List Need) (rest : List ℕ) → AreNeeds needs
    → need_list_at (needs_text needs ++ rest) ≡ Some (needs, rest)
unfolding need_list_at
need_list_again needs rest fits =
    let passes : are_ascending 0 needs ≡ true = rising 0 needs (λ need more e. omega arith) fits.ascending in
    rw (
      append_assoc (number_text 2 (length needs)) (flat_map need_text needs) rest,
      needs_count_exact.again (length needs) (flat_map need_text needs ++ rest) fits.count,
      needs_again needs rest (recursion_from_All IsNeed needs fits.each),
      passes,
    ) refl

-- ---- bodies

data_exact : Exact data_body
data_exact = both_exact _ _ channel_exact (both_exact _ _ count_exact item_exact)

counts_exact : Exact counts_body
counts_exact = both_exact _ _ channel_exact (both_exact _ _ count_exact count_exact)

kept_exact : Exact kept_body
kept_exact = both_exact _ _ channel_exact count_exact

ask_exact : Exact ask_body
ask_exact = both_exact _ _ positive_exact (both_exact _ _ channel_exact positive_exact)

refused_exact : Exact refused_body
refused_exact = both_exact _ _ positive_exact (both_exact _ _ channel_exact reason_exact)

-- the bytes begin with the spelling of a body of this kind
record Says (kind : ℕ) (bytes : List ℕ) (x : Body × List ℕ) : Type 0 where
  pub takes : Splits bytes (body_text x.0) x.1
  pub body : IsBody x.0
  pub kind_is : kind ≡ kind_of x.0

-- what a choice found, one way or the other
by_test : {P : Type 0} (b : Bool) (here rest : Found Body) (x : Body × List ℕ) → cond b here rest ≡ Some x
    → (b ≡ true → here ≡ Some x → P) → (rest ≡ Some x → P) → P
by_test true here rest x e on_here on_rest = on_here refl e
by_test false here rest x e on_here on_rest = on_rest e

-- a body that is made of a field's value
says_as : {A : Type 0} (f : Field A) → Exact f → (make : A → Body) (kind k : ℕ)
    → ((a : A) → body_text (make a) ≡ f.text a)
    → ((a : A) → k ≡ kind_of (make a)) → ((a : A) → f.Fits a → IsBody (make a))
    → (bytes : List ℕ) (x : Body × List ℕ) → AreBytes bytes → nat_eq kind k ≡ true
    → read_as make (f.read bytes) ≡ Some x → Says kind bytes x
says_as {A = A} f exact make kind k text is_kind body bytes x fits test e =
    let w = was (λ (p : A × List ℕ). (make p.0, p.1)) (f.read bytes) x e in
    let t = exact.takes bytes w.0 fits w.1 in
    let made : Body × List ℕ = (make w.0.0, w.0.1) in
    subst (λ (y : Body × List ℕ). Says kind bytes y) w.2 (record {
      takes = subst (λ (spelled : List ℕ). Splits bytes spelled w.0.1) (sym (text w.0.0)) t.0;
      body = body w.0.0 t.1;
      kind_is = eqb-true kind k test ∙ is_kind w.0.0;
    })

data_says : (kind : ℕ) (bytes : List ℕ) (x : Body × List ℕ) → AreBytes bytes → nat_eq kind 1 ≡ true
    → read_as (λ x. Data x.0 x.1.0 x.1.1) (data_body.read bytes) ≡ Some x → Says kind bytes x
data_says kind bytes x =
    says_as data_body data_exact (λ x. Data x.0 x.1.0 x.1.1) kind 1 (λ a. refl) (λ a. refl)
    (λ a. λ f. (f.0, f.1.0, f.1.1)) bytes x

ack_says : (kind : ℕ) (bytes : List ℕ) (x : Body × List ℕ) → AreBytes bytes → nat_eq kind 2 ≡ true
    → read_as (λ x. Ack x.0 x.1.0 x.1.1) (counts_body.read bytes) ≡ Some x → Says kind bytes x
ack_says kind bytes x =
    says_as counts_body counts_exact (λ x. Ack x.0 x.1.0 x.1.1) kind 2 (λ a. refl) (λ a. refl)
    (λ a. λ f. (f.0, f.1.0, f.1.1)) bytes x

kept_says : (kind : ℕ) (bytes : List ℕ) (x : Body × List ℕ) → AreBytes bytes → nat_eq kind 3 ≡ true
    → read_as (λ x. Kept x.0 x.1) (kept_body.read bytes) ≡ Some x → Says kind bytes x
kept_says kind bytes x =
    says_as kept_body kept_exact (λ x. Kept x.0 x.1) kind 3 (λ a. refl) (λ a. refl) (λ a. λ f. f) bytes x

ask_says : (kind : ℕ) (bytes : List ℕ) (x : Body × List ℕ) → AreBytes bytes → nat_eq kind 4 ≡ true
    → read_as (λ x. Ask x.0 x.1.0 x.1.1) (ask_body.read bytes) ≡ Some x → Says kind bytes x
ask_says kind bytes x =
    says_as ask_body ask_exact (λ x. Ask x.0 x.1.0 x.1.1) kind 4 (λ a. refl) (λ a. refl)
    (λ a. λ f. (f.0, f.1.0, f.1.1)) bytes x

covered_says : (kind : ℕ) (bytes : List ℕ) (x : Body × List ℕ) → AreBytes bytes → nat_eq kind 6 ≡ true
    → read_as (λ x. Covered x.0 x.1.0 x.1.1) (ask_body.read bytes) ≡ Some x → Says kind bytes x
covered_says kind bytes x =
    says_as ask_body ask_exact (λ x. Covered x.0 x.1.0 x.1.1) kind 6 (λ a. refl) (λ a. refl)
    (λ a. λ f. (f.0, f.1.0, f.1.1)) bytes x

refused_says : (kind : ℕ) (bytes : List ℕ) (x : Body × List ℕ) → AreBytes bytes → nat_eq kind 7 ≡ true
    → read_as (λ x. Refused x.0 x.1.0 x.1.1) (refused_body.read bytes) ≡ Some x → Says kind bytes x
refused_says kind bytes x =
    says_as refused_body refused_exact (λ x. Refused x.0 x.1.0 x.1.1) kind 7 (λ a. refl) (λ a. refl)
    (λ a. λ f. (f.0, f.1.0)) bytes x

query_says : (kind : ℕ) (bytes : List ℕ) (x : Body × List ℕ) → AreBytes bytes → nat_eq kind 8 ≡ true
    → read_as (Query) (positive.read bytes) ≡ Some x → Says kind bytes x
query_says kind bytes x = says_as positive positive_exact (Query) kind 8 (λ a. refl) (λ a. refl) (λ a. λ f. f) bytes x

commit_says : (kind : ℕ) (bytes : List ℕ) (x : Body × List ℕ) → AreBytes bytes → nat_eq kind 9 ≡ true
    → read_as (Commit) (positive.read bytes) ≡ Some x → Says kind bytes x
commit_says kind bytes x = says_as positive positive_exact (Commit) kind 9 (λ a. refl) (λ a. refl) (λ a. λ f. f) bytes x

ended_says : (kind : ℕ) (bytes : List ℕ) (x : Body × List ℕ) → AreBytes bytes → nat_eq kind 10 ≡ true
    → read_as (Ended) (positive.read bytes) ≡ Some x → Says kind bytes x
ended_says kind bytes x = says_as positive positive_exact (Ended) kind 10 (λ a. refl) (λ a. refl) (λ a. λ f. f) bytes x

settled_says : (kind : ℕ) (bytes : List ℕ) (x : Body × List ℕ) → AreBytes bytes → nat_eq kind 11 ≡ true
    → read_as (Settled) (positive.read bytes) ≡ Some x → Says kind bytes x
settled_says kind bytes x =
    says_as positive positive_exact (Settled) kind 11 (λ a. refl) (λ a. refl) (λ a. λ f. f) bytes x

undone_says : (kind : ℕ) (bytes : List ℕ) (x : Body × List ℕ) → AreBytes bytes → nat_eq kind 12 ≡ true
    → read_as (λ x. Undone x.0 x.1.0 x.1.1) (counts_body.read bytes) ≡ Some x → Says kind bytes x
undone_says kind bytes x =
    says_as counts_body counts_exact (λ x. Undone x.0 x.1.0 x.1.1) kind 12 (λ a. refl) (λ a. refl)
    (λ a. λ f. (f.0, f.1.0, f.1.1)) bytes x

took_says : (kind : ℕ) (bytes : List ℕ) (x : Body × List ℕ) → AreBytes bytes → nat_eq kind 5 ≡ true
    → took_at bytes ≡ Some x → Says kind bytes x
took_says kind bytes x fits test e =
    let a = after_found (ask_body.read bytes)
    (λ a. need_list_at a.1 >>= λ b. Some (Took a.0.0 a.0.1.0 a.0.1.1 b.0, b.1)) x e in
    let b = after_found (need_list_at a.0.1) (λ b. Some (Took a.0.0.0 a.0.0.1.0 a.0.0.1.1 b.0, b.1)) x a.2 in
    let first = ask_exact.takes bytes a.0 fits a.1 in
    let second = need_list_takes a.0.1 b.0 first.0.bytes_left b.1 in
    let number = a.0.0.0 in
    let channel = a.0.0.1.0 in
    let count = a.0.0.1.1 in
    let whole = both_split bytes (ask_body.text a.0.0) a.0.1 (needs_text b.0.0) b.0.1 first.0 second.0 in
    let regrouped : ask_body.text a.0.0 ++ needs_text b.0.0 ≡ body_text (Took number channel count b.0.0)
    = append_assoc (number_text 8 number) (number_text 2 channel ++ number_text 8 count) (needs_text b.0.0)
    ∙ ap (λ (t : List ℕ). number_text 8 number ++ t)
    (append_assoc (number_text 2 channel) (number_text 8 count) (needs_text b.0.0)) in
    let made : Body × List ℕ = (Took number channel count b.0.0, b.0.1) in
    subst (λ (y : Body × List ℕ). Says kind bytes y) (is_found made x b.2) (record {
      takes = subst (λ (spelled : List ℕ). Splits bytes spelled b.0.1) regrouped whole;
      body = (first.1.0, first.1.1.0, first.1.1.1, second.1);
      kind_is = eqb-true kind 5 test;
    })

body_takes : (kind : ℕ) (bytes : List ℕ) (x : Body × List ℕ) → AreBytes bytes → body_at kind bytes ≡ Some x
    → Says kind bytes x
unfolding body_at
body_takes kind bytes x fits e =
    by_test _ _ _ x e (took_says kind bytes x fits) (λ e1.
    by_test (nat_eq kind 1) _ _ x e1 (data_says kind bytes x fits) (λ e2.
    by_test (nat_eq kind 2) _ _ x e2 (ack_says kind bytes x fits) (λ e3.
    by_test (nat_eq kind 3) _ _ x e3 (kept_says kind bytes x fits) (λ e4.
    by_test (nat_eq kind 4) _ _ x e4 (ask_says kind bytes x fits) (λ e5.
    by_test (nat_eq kind 6) _ _ x e5 (covered_says kind bytes x fits) (λ e6.
    by_test (nat_eq kind 7) _ _ x e6 (refused_says kind bytes x fits) (λ e7.
    by_test (nat_eq kind 8) _ _ x e7 (query_says kind bytes x fits) (λ e8.
    by_test (nat_eq kind 9) _ _ x e8 (commit_says kind bytes x fits) (λ e9.
    by_test (nat_eq kind 10) _ _ x e9 (ended_says kind bytes x fits) (λ e10.
    by_test (nat_eq kind 11) _ _ x e10 (settled_says kind bytes x fits) (λ e11.
    by_test (nat_eq kind 12) _ _ x e11 (undone_says kind bytes x fits) (λ e12.
    absurd cc))))))))))))

body_again : (body : Body) (rest : List ℕ) → IsBody body
    → body_at (kind_of body) (body_text body ++ rest) ≡ Some (body, rest)
unfolding body_at
body_again (Data channel position item) rest fits =
    ap (read_as (λ x. Data x.0 x.1.0 x.1.1))
    (data_exact.again (channel, (position, item)) rest (fits.0, (fits.1, fits.2)))
body_again (Ack channel epoch next) rest fits =
    ap (read_as (λ x. Ack x.0 x.1.0 x.1.1))
    (counts_exact.again (channel, (epoch, next)) rest (fits.0, (fits.1, fits.2)))
body_again (Kept channel count) rest fits =
    ap (read_as (λ x. Kept x.0 x.1)) (kept_exact.again (channel, count) rest fits)
body_again (Ask number channel count) rest fits =
    ap (read_as (λ x. Ask x.0 x.1.0 x.1.1)) (ask_exact.again (number, (channel, count)) rest (fits.0, (fits.1, fits.2)))
body_again (Took number channel count needs) rest fits =
    let regrouped : body_text (Took number channel count needs) ++ rest
    ≡ (number_text 8 number ++ (number_text 2 channel ++ number_text 8 count)) ++ (needs_text needs ++ rest)
    = simp append_assoc in
    ap took_at regrouped
    ∙ rw (
      ask_exact.again (number, (channel, count)) (needs_text needs ++ rest) (fits.0, (fits.1, fits.2)),
      need_list_again needs rest fits.3,
    ) refl
body_again (Covered number channel count) rest fits =
    ap (read_as (λ x. Covered x.0 x.1.0 x.1.1))
    (ask_exact.again (number, (channel, count)) rest (fits.0, (fits.1, fits.2)))
body_again (Refused number channel reason) rest fits =
    ap (read_as (λ x. Refused x.0 x.1.0 x.1.1))
    (refused_exact.again (number, (channel, reason)) rest (fits.0, (fits.1, tt)))
body_again (Query number) rest fits = ap (read_as (Query)) (positive_exact.again number rest fits)
body_again (Commit number) rest fits = ap (read_as (Commit)) (positive_exact.again number rest fits)
body_again (Ended number) rest fits = ap (read_as (Ended)) (positive_exact.again number rest fits)
body_again (Settled number) rest fits = ap (read_as (Settled)) (positive_exact.again number rest fits)
body_again (Undone channel epoch sent) rest fits =
    ap (read_as (λ x. Undone x.0 x.1.0 x.1.1))
    (counts_exact.again (channel, (epoch, sent)) rest (fits.0, (fits.1, fits.2)))

-- ---- packets

nodes_are : (from to : ℕ) → are_nodes from to ≡ true → (from ≤ LAST_NODE) × (to ≤ LAST_NODE) × (from ≢ to)
nodes_are from to e =
    let p = and_both (nat_le from LAST_NODE) (nat_le to LAST_NODE && not (nat_eq from to)) e in
    let q = and_both (nat_le to LAST_NODE) (not (nat_eq from to)) p.1 in
    (leb-true from LAST_NODE p.0, leb-true to LAST_NODE q.0, eqb-false from to (not_true (nat_eq from to) q.1))

are_nodes_of : (from to : ℕ) → from ≤ LAST_NODE → to ≤ LAST_NODE → from ≢ to → are_nodes from to ≡ true
are_nodes_of from to from_fits to_fits apart =
    both_and (nat_le from LAST_NODE) (nat_le to LAST_NODE && not (nat_eq from to)) (le-leb from LAST_NODE from_fits)
    (both_and (nat_le to LAST_NODE) (not (nat_eq from to)) (le-leb to LAST_NODE to_fits)
    (rw (ne_eqb from to apart) refl))

packet_takes : (bytes : List ℕ) (x : Packet × List ℕ) → AreBytes bytes → packet_at bytes ≡ Some x
    → (bytes ≡ packet_text x.0 ++ x.1) × IsPacket x.0
unfolding packet_at
packet_takes [] x fits e = absurd cc
packet_takes (kind ∷ []) x fits e = absurd cc
packet_takes (kind ∷ from ∷ []) x fits e = absurd cc
packet_takes (kind ∷ from ∷ to ∷ text) x fits e =
    let c = chosen (are_nodes from to)
    (option_map (λ y. (record { from = from; to = to; body = y.0 }, y.1)) (body_at kind text)) x e in
    let w = was (λ (y : Body × List ℕ). (record { from = from; to = to; body = y.0 }, y.1)) (body_at kind text) x c.1 in
    let says =
    body_takes kind text w.0
    (AreBytes-rest to text (AreBytes-rest from (to ∷ text) (AreBytes-rest kind (from ∷ to ∷ text) fits))) w.1 in
    let nodes = nodes_are from to c.0 in
    let made : Packet × List ℕ = (record { from = from; to = to; body = w.0.0 }, w.0.1) in
    subst (λ (y : Packet × List ℕ). (kind ∷ from ∷ to ∷ text ≡ packet_text y.0 ++ y.1) × IsPacket y.0) w.2 (
      ap (λ (t : List ℕ). kind ∷ from ∷ to ∷ t) says.takes.joined
          ∙ ap (λ (k : ℕ). k ∷ from ∷ to ∷ (body_text w.0.0 ++ w.0.1)) says.kind_is,
      record { from = nodes.0; to = nodes.1; apart = nodes.2; body = says.body },
    )

packet_again : (packet : Packet) (rest : List ℕ) → IsPacket packet
    → packet_at (packet_text packet ++ rest) ≡ Some (packet, rest)
unfolding packet_at
packet_again packet rest fits =
    rw (are_nodes_of packet.from packet.to fits.from fits.to fits.apart, body_again packet.body rest fits.body) refl

-- no spelling begins another
pub begins_none : (packet other : Packet) (spelling rest : List ℕ) → IsPacketText packet spelling
    → IsPacketText other (spelling ++ rest)
    → (rest ≡ []) × (other ≡ packet)
begins_none packet other spelling rest one two =
    let longer : packet_text packet ++ rest ≡ packet_text other ++ []
    = ap (λ (t : List ℕ). t ++ rest) (sym one.spelled) ∙ two.spelled ∙ sym (append-nil (packet_text other)) in
    let both : (packet, rest) ≡ (other, []) = is_found (packet, rest) (other, [])
    (sym (packet_again packet rest one.allowed) ∙ ap packet_at longer ∙ packet_again other [] two.allowed) in
    (ap (λ (x : Packet × List ℕ). x.1) both, sym (ap (λ (x : Packet × List ℕ). x.0) both))

-- what is read of all the bytes
pub whole_takes : (bytes : List ℕ) (packet : Packet) → AreBytes bytes → whole_at bytes ≡ Some packet
    → IsPacketText packet bytes
unfolding whole_at
whole_takes bytes packet fits e =
    let a = after_found (packet_at bytes) (λ x. cond (nat_eq (length x.1) 0) (Some x.0) None) packet e in
    let c = chosen (nat_eq (length a.0.1) 0) (Some a.0.0) packet a.2 in
    let t = packet_takes bytes a.0 fits a.1 in
    let nothing : a.0.1 ≡ [] = nil_from_length a.0.1 (eqb-true _ _ c.0) in
    subst (λ (p : Packet). IsPacketText p bytes) (is_found a.0.0 packet c.1) (record {
      allowed = t.1;
      spelled = t.0 ∙ ap (λ (r : List ℕ). packet_text a.0.0 ++ r) nothing ∙ append-nil (packet_text a.0.0);
    })

pub whole_again : (bytes : List ℕ) (packet : Packet) → IsPacketText packet bytes → whole_at bytes ≡ Some packet
unfolding whole_at
whole_again bytes packet text =
    let read : packet_at bytes ≡ Some (packet, [])
    = ap packet_at (text.spelled ∙ sym (append-nil (packet_text packet))) ∙ packet_again packet [] text.allowed in
    rw read refl

pub is_spelled : (bytes : List ℕ) (r : Result Packet PacketFault) → AreBytes bytes
    → Reads (λ (p : Packet). p) r (whole_at bytes) → IfOk r (λ packet. IsPacketText packet bytes)
is_spelled bytes (Ok packet) fits read = whole_takes bytes packet fits read
is_spelled bytes (Err fault) fits read = tt

pub is_read : (bytes : List ℕ) (r : Result Packet PacketFault) (packet : Packet)
    → Reads (λ (p : Packet). p) r (whole_at bytes) → IsPacketText packet bytes → IsReadUnlessMemory packet r
is_read bytes (Ok found) packet read text = is_found found packet (sym read ∙ whole_again bytes packet text)
is_read bytes (Err NoMemory) packet read text = refl
is_read bytes (Err BadPacket) packet read text = let e = sym read ∙ whole_again bytes packet text in absurd cc

pub is_refused : (bytes : List ℕ) (r : Result Packet PacketFault) (packet : Packet)
    → Reads (λ (p : Packet). p) r (whole_at bytes) → IsErrOf r BadPacket → ¬ (IsPacketText packet bytes)
is_refused bytes r packet read is text =
    let bad : Result Packet PacketFault = Err BadPacket in
    let none : whole_at bytes ≡ None =
    subst (λ (x : Result Packet PacketFault). Reads (λ (p : Packet). p) x (whole_at bytes)) is read in
    let e : None ≡ Some packet = sym none ∙ whole_again bytes packet text in
    absurd cc
