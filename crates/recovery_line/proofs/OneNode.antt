-- What one node keeps in each of the steps that it makes by itself.
use Rattle.std.proofs.Common.{◌≡◌, ◌⊎◌, inl, inr, ℕ, ◌<◌, ◌≤◌, Bool, true, false, Option, Some, None, List, [], ◌∷◌}
use Rattle.std.proofs.Common.{refl, sym, ap, ◌∙◌, subst, arith}
use Rattle.std.specs.Prelude.{◌≢◌}
use Rattle.recovery_line.specs.Images.{Image, AtMost, Net, IsLocal, IsOutput}
use Rattle.recovery_line.specs.Records.{Holds}
use Rattle.recovery_line.specs.Moves.{Takes, Drops}
use Rattle.recovery_line.specs.Nodes.{Live, Mode, Down, In_doubt, Running, current_of, live_of, Node, Unwritten, Works}
use Rattle.recovery_line.specs.Nodes.{Trims, Unneeded, Got, Released, Releases, Forgets, Starts, GivesUp, Concludes}
use Rattle.recovery_line.specs.Nodes.{NodeStep, Work, Trim, Release, Roll_back, Crash, Restore, Forget, Doubt, Start}
use Rattle.recovery_line.specs.Nodes.{Give_up, Conclude}
use Rattle.recovery_line.specs.Worlds.{Alone}
use Rattle.recovery_line.specs.Invariant.{IsImageOf, Permanent, Held, Current, NodeOk}
use Rattle.recovery_line.specs.Laws.{CanRestart}
use Rattle.recovery_line.proofs.Basics.{false_true, not_in_doubt, same_or_other, at_most_itself, at_most_next}
use Rattle.recovery_line.proofs.Basics.{some_not_none, one_inside, same_initiator, same_number, same_image, current_is}
use Rattle.recovery_line.proofs.Basics.{live_is}

-- the image can be node b's current one, over the record of a
pub record Fits (net : Net) (k : ℕ) (a b : Node) (j : Image) : Type 0 where
  pub after : AtMost a.disk.permanent j
  pub latest : (x n : ℕ) (i : Image) → Holds a.disk x n i → AtMost i j
  pub local : (c : ℕ) → IsLocal net c k → (j.base c ≤ j.received c) × (j.received c ≤ j.sent c)
  pub output : (c : ℕ) → IsOutput net c k → j.base c ≤ b.outlets c
  pub log : (c : ℕ) → j.base c ≤ j.sent c

-- the record stays, and what is current in the end fits
pub record RecordStays (net : Net) (k : ℕ) (a b : Node) : Type 0 where
  pub disk : b.disk ≡ a.disk
  pub outlets : (c : ℕ) → a.outlets c ≤ b.outlets c
  pub covered : (c : ℕ) → IsOutput net c k → b.outlets c ≤ a.disk.permanent.sent c
  pub current : (j : Image) → current_of b.mode ≡ Some j → Fits net k a b j
  pub own : (live : Live) → live_of b.mode ≡ Some live → (i : Image) × Holds a.disk k live.number i
  pub doubt : b.mode ≡ In_doubt → (x : ℕ) × (n : ℕ) × (i : Image) × (x ≢ k) × Holds a.disk x n i

pub record_stays_ok : (net : Net) (k : ℕ) (a b : Node) → NodeOk net k a → RecordStays net k a b → NodeOk net k b
record_stays_ok net k a b ok s = record {
  tentative = rw (s.disk) ok.tentative;
  current = λ i now. rw (s.disk) (s.current i now).after;
  latest = λ x n i j held now. (s.current j now).latest x n i (rw (s.disk) at held);
  used = rw (s.disk) ok.used;
  older = rw (s.disk) ok.older;
  own = λ live now. rw (s.disk) (s.own live now);
  local = local;
  output = output;
  covered = λ c is. rw (s.disk) (s.covered c is);
  log = log;
  doubt = λ now. rw (s.disk) (s.doubt now);
}
  where
    log : (c : ℕ) (i : Image) → IsImageOf b i → i.base c ≤ i.sent c
    log c i (Permanent same) = ok.log c i (Permanent (rw (s.disk) at same))
    log c i (Held x n held) = ok.log c i (Held x n (rw (s.disk) at held))
    log c i (Current now) = (s.current i now).log c

    local : (c : ℕ) (i : Image) → IsLocal net c k → IsImageOf b i
        → (i.base c ≤ i.received c) × (i.received c ≤ i.sent c)
    local c i is (Permanent same) = ok.local c i is (Permanent (rw (s.disk) at same))
    local c i is (Held x n held) = ok.local c i is (Held x n (rw (s.disk) at held))
    local c i is (Current now) = (s.current i now).local c is

    output : (c : ℕ) (i : Image) → IsOutput net c k → IsImageOf b i → i.base c ≤ b.outlets c
    output c i is (Permanent same) = let one = ok.output c i is (Permanent (rw (s.disk) at same)) in let two =
        s.outlets c in omega arith
    output c i is (Held x n held) = let one = ok.output c i is (Held x n (rw (s.disk) at held)) in let two =
        s.outlets c in omega arith
    output c i is (Current now) = (s.current i now).output c is

-- the current image fits, and so does the permanent one of a node that holds no other
pub current_fits : (net : Net) (k : ℕ) (a b : Node) (j : Image) → NodeOk net k a
    → ((c : ℕ) → a.outlets c ≤ b.outlets c) → current_of a.mode ≡ Some j → Fits net k a b j
current_fits net k a b j ok outlets now = record {
  after = ok.current j now;
  latest = λ x n i held. ok.latest x n i j held now;
  local = λ c is. ok.local c j is (Current now);
  output = λ c is. let one = ok.output c j is (Current now) in let two = outlets c in omega arith;
  log = λ c. ok.log c j (Current now);
}

pub permanent_fits : (net : Net) (k : ℕ) (a b : Node) → NodeOk net k a → ((c : ℕ) → a.outlets c ≤ b.outlets c)
    → a.disk.tentative ≡ None → Fits net k a b a.disk.permanent
permanent_fits net k a b ok outlets free = record {
  after = at_most_itself a.disk.permanent;
  latest = λ x n i held. absurd (some_not_none free held);
  local = λ c is. ok.local c a.disk.permanent is (Permanent refl);
  output = λ c is. let one = ok.output c a.disk.permanent is (Permanent refl) in let two = outlets c in omega arith;
  log = λ c. ok.log c a.disk.permanent (Permanent refl);
}

same_outlets : (a b : Node) → b.outlets ≡ a.outlets → (c : ℕ) → a.outlets c ≤ b.outlets c
same_outlets a b same c = let e = ap (λ (f : ℕ → ℕ). f c) same in omega arith

covers_still : (net : Net) (k : ℕ) (a b : Node) → NodeOk net k a → b.outlets ≡ a.outlets → (c : ℕ) → IsOutput net c k
    → b.outlets c ≤ a.disk.permanent.sent c
covers_still net k a b ok same c is = let e = ap (λ (f : ℕ → ℕ). f c) same in let one = ok.covered c is in omega arith

-- the images and the record stay, and a live instance keeps its number
pub images_stay_ok : (net : Net) (k : ℕ) (a b : Node) → NodeOk net k a → Unwritten a b
    → current_of b.mode ≡ current_of a.mode
    → ((live : Live) → live_of b.mode ≡ Some live → (i : Image) × Holds a.disk k live.number i) → b.mode ≢ In_doubt
    → NodeOk net k b
images_stay_ok net k a b ok same current own known = record_stays_ok net k a b ok (record {
  disk = same.disk;
  outlets = same_outlets a b same.outlets;
  covered = covers_still net k a b ok same.outlets;
  current = λ j now. current_fits net k a b j ok (same_outlets a b same.outlets) (sym current ∙ now);
  own = own;
  doubt = λ now. absurd (known now);
})

-- the permanent image becomes current, and nothing is live
pub restores_ok : (net : Net) (k : ℕ) (a b : Node) → NodeOk net k a → Unwritten a b → a.disk.tentative ≡ None
    → b.mode ≡ Running a.disk.permanent None → NodeOk net k b
restores_ok net k a b ok same free now = record_stays_ok net k a b ok (record {
  disk = same.disk;
  outlets = same_outlets a b same.outlets;
  covered = covers_still net k a b ok same.outlets;
  current = λ j is. let e = current_is b.mode a.disk.permanent j None now is in
      rw e (permanent_fits net k a b ok (same_outlets a b same.outlets) free);
  own = λ live is. absurd (some_not_none refl (live_is b.mode a.disk.permanent None live now is));
  doubt = λ in_doubt. absurd (not_in_doubt b.mode a.disk.permanent None now in_doubt);
})

-- nothing is current and nothing is live
pub stops_ok : (net : Net) (k : ℕ) (a b : Node) → NodeOk net k a → Unwritten a b → current_of b.mode ≡ None
    → live_of b.mode ≡ None
    → (b.mode ≡ In_doubt → (x : ℕ) × (n : ℕ) × (i : Image) × (x ≢ k) × Holds a.disk x n i) → NodeOk net k b
stops_ok net k a b ok same current live doubt = record_stays_ok net k a b ok (record {
  disk = same.disk;
  outlets = same_outlets a b same.outlets;
  covered = covers_still net k a b ok same.outlets;
  current = λ j is. absurd (some_not_none current is);
  own = λ l is. absurd (some_not_none live is);
  doubt = doubt;
})

pub works_ok : (net : Net) (k : ℕ) (a b : Node) (before later : Image) (live : Option Live) → NodeOk net k a
    → Works net k a b before later live → NodeOk net k b
works_ok net k a b before later live ok s = record_stays_ok net k a b ok (record {
  disk = s.same.disk;
  outlets = same_outlets a b s.same.outlets;
  covered = covers_still net k a b ok s.same.outlets;
  current = λ j is. let e = current_is b.mode later j live s.now is in rw e fits;
  own = λ l is. ok.own l (ap live_of s.was ∙ live_is b.mode later live l s.now is);
  doubt = λ in_doubt. absurd (not_in_doubt b.mode later live s.now in_doubt);
})
  where
    old : Fits net k a b before
    old = current_fits net k a b before ok (same_outlets a b s.same.outlets) (ap current_of s.was)

    rises : AtMost before later
    rises c = (s.received c, elim (s.base c) [ inl stays ↦ (omega arith) | inr goes ↦ goes.1 ], s.sent c)

    fits : Fits net k a b later
    fits = record {
      after = at_most_next a.disk.permanent before later old.after rises;
      latest = λ x n i held. at_most_next i before later (old.latest x n i held) rises;
      local = λ c is. (
        let had = (old.local c is).0 in let more = s.received c in elim (s.base c) [
          | inl stays ↦ (omega arith)
          | inr goes ↦ goes.2
        ],
        s.local c is,
      );
      output = λ c is. let had = old.output c is in elim (s.base c) [
        | inl stays ↦ (omega arith)
        | inr goes ↦ absurd (some_not_none is.to goes.0.to)
      ];
      log = λ c. let had = old.log c in let more = s.sent c in elim (s.base c) [
        | inl stays ↦ (omega arith)
        | inr goes ↦ let got = s.local c goes.0 in (omega (arith, goes.2, got))
      ];
    }

-- a log is trimmed, if of a local channel to what was got, and if of an output to what was released
pub trims_ok : (net : Net) (k : ℕ) (a b : Node) (c to : ℕ) (before later : Image) (live : Option Live) → NodeOk net k a
    → Trims a b c to before later live
    → (IsLocal net c k → to ≤ before.received c) → (IsOutput net c k → to ≤ a.outlets c) → NodeOk net k b
trims_ok net k a b c to before later live ok s local output = record_stays_ok net k a b ok (record {
  disk = s.same.disk;
  outlets = same_outlets a b s.same.outlets;
  covered = covers_still net k a b ok s.same.outlets;
  current = λ j is. let e = current_is b.mode later j live s.now is in rw e fits;
  own = λ l is. ok.own l (ap live_of s.was ∙ live_is b.mode later live l s.now is);
  doubt = λ in_doubt. absurd (not_in_doubt b.mode later live s.now in_doubt);
})
  where
    old : Fits net k a b before
    old = current_fits net k a b before ok (same_outlets a b s.same.outlets) (ap current_of s.was)

    rises : AtMost before later
    rises d =
        let one = ap (λ (f : ℕ → ℕ). f d) s.received in
        let two = ap (λ (f : ℕ → ℕ). f d) s.sent in (
          omega arith,
          elim (same_or_other d c) [
            | inl is ↦ rw is (let three = s.rises in let four = s.base in omega arith)
            | inr other ↦ let three = s.others d other in omega arith
          ],
          omega arith,
        )

    fits : Fits net k a b later
    fits = record {
      after = at_most_next a.disk.permanent before later old.after rises;
      latest = λ x n i held. at_most_next i before later (old.latest x n i held) rises;
      local = λ d is.
          let one = ap (λ (f : ℕ → ℕ). f d) s.received in
          let two = ap (λ (f : ℕ → ℕ). f d) s.sent in
          let three = old.local d is in (
            elim (same_or_other d c) [
              | inl at_c ↦ let four = s.base in let five = local (subst (λ (e : ℕ). IsLocal net e k) at_c is) in
                  rw at_c (let six = ap (λ (f : ℕ → ℕ). f c) s.received in omega arith)
              | inr other ↦ let four = s.others d other in omega arith
            ],
            omega arith,
          );
      output = λ d is. elim (same_or_other d c) [
        | inl at_c ↦ let four = s.base in let five = output (subst (λ (e : ℕ). IsOutput net e k) at_c is) in let six =
            ap (λ (f : ℕ → ℕ). f c) s.same.outlets in rw at_c (omega arith)
        | inr other ↦ let four = s.others d other in let five = old.output d is in omega arith
      ];
      log = λ d. let one = ap (λ (f : ℕ → ℕ). f d) s.sent in elim (same_or_other d c) [
        | inl at_c ↦ rw at_c
            (let two = ap (λ (f : ℕ → ℕ). f c) s.sent in let four = s.base in let five = s.within in omega arith)
        | inr other ↦ let four = s.others d other in let five = old.log d in omega arith
      ];
    }

releases_ok : (net : Net) (k : ℕ) (a b : Node) (c : ℕ) (current : Image) (live : Option Live) → NodeOk net k a
    → Releases net k a b c current live → NodeOk net k b
releases_ok net k a b c current live ok s = record_stays_ok net k a b ok (record {
  disk = s.disk;
  outlets = grows;
  covered = λ d is. elim (same_or_other d c) [
    | inl at_c ↦ rw at_c (let one = s.longer in let two = s.covered in omega arith)
    | inr other ↦ let one = s.others d other in let two = ok.covered d is in omega arith
  ];
  current = λ j now. current_fits net k a b j ok grows (sym (ap current_of s.mode) ∙ now);
  own = λ l now. ok.own l (sym (ap live_of s.mode) ∙ now);
  doubt = λ in_doubt. absurd (not_in_doubt a.mode current live s.running (sym s.mode ∙ in_doubt));
})
  where
    grows : (d : ℕ) → a.outlets d ≤ b.outlets d
    grows d = elim (same_or_other d c) [
      | inl at_c ↦ rw at_c (let one = s.longer in omega arith)
      | inr other ↦ let one = s.others d other in omega arith
    ]

-- an unneeded position bounds a local channel's log and an output's
unneeded_local : (net : Net) (k : ℕ) (a : Node) (current : Image) (c to : ℕ) → Unneeded net k a current c to
    → IsLocal net c k → to ≤ current.received c
unneeded_local net k a current c to (Got local le) is = le
unneeded_local net k a current c to (Released output le) is = absurd (some_not_none output.to is.to)

unneeded_output : (net : Net) (k : ℕ) (a : Node) (current : Image) (c to : ℕ) → Unneeded net k a current c to
    → IsOutput net c k → to ≤ a.outlets c
unneeded_output net k a current c to (Got local le) is = absurd (some_not_none is.to local.to)
unneeded_output net k a current c to (Released output le) is = le

-- the tentative image goes
pub record ImageGoes (k : ℕ) (a b : Node) (x n : ℕ) (image : Image) : Type 0 where
  pub drops : Drops a.disk b.disk x n image
  pub outlets : b.outlets ≡ a.outlets
  pub current : (j : Image) → current_of b.mode ≡ Some j → (current_of a.mode ≡ Some j) ⊎ (j ≡ a.disk.permanent)
  pub none_live : (live : Live) → live_of b.mode ≡ Some live → ⊥
  pub known : b.mode ≢ In_doubt

-- each image of b was one of a
pub image_was_there : (k : ℕ) (a b : Node) (x n : ℕ) (image : Image) → ImageGoes k a b x n image → (i : Image)
    → IsImageOf b i → IsImageOf a i
image_was_there k a b x n image s i (Permanent same) = Permanent (sym s.drops.permanent ∙ same)
image_was_there k a b x n image s i (Held y m held) = absurd (some_not_none s.drops.free held)
image_was_there k a b x n image s i (Current now) =
    elim (s.current i now) [ inl old ↦ Current old | inr is ↦ Permanent (sym is) ]

pub image_goes_ok : (net : Net) (k : ℕ) (a b : Node) (x n : ℕ) (image : Image) → NodeOk net k a
    → ImageGoes k a b x n image → NodeOk net k b
image_goes_ok net k a b x n image ok s = record {
  tentative = λ y m i held. absurd (some_not_none s.drops.free held);
  current =
      λ i now. rw (s.drops.permanent)
      (elim (s.current i now) [ inl old ↦ ok.current i old | inr is ↦ rw is (at_most_itself a.disk.permanent) ]);
  latest = λ y m i j held now. absurd (some_not_none s.drops.free held);
  used = rw (s.drops.highest, s.drops.decided) ok.used;
  older = λ m j i held now. absurd (some_not_none s.drops.free held);
  own = λ live now. absurd (s.none_live live now);
  local = λ c i is image_of. ok.local c i is (image_was_there k a b x n image s i image_of);
  output = λ c i is image_of. rw (s.outlets) (ok.output c i is (image_was_there k a b x n image s i image_of));
  covered = λ c is. rw (s.outlets, s.drops.permanent) (ok.covered c is);
  log = λ c i image_of. ok.log c i (image_was_there k a b x n image s i image_of);
  doubt = λ now. absurd (s.known now);
}

-- the tentative image becomes permanent
pub record BecomesPermanent (k : ℕ) (a b : Node) (x n : ℕ) (image : Image) : Type 0 where
  pub held : Holds a.disk x n image
  pub permanent : b.disk.permanent ≡ image
  pub free : b.disk.tentative ≡ None
  pub highest : b.disk.highest ≡ a.disk.highest
  pub decided : (m : ℕ) → b.disk.decided m ≡ true → m ≤ a.disk.highest k
  pub outlets : b.outlets ≡ a.outlets
  pub current : (j : Image) → current_of b.mode ≡ Some j → (current_of a.mode ≡ Some j) ⊎ (j ≡ image)
  pub none_live : (live : Live) → live_of b.mode ≡ Some live → ⊥
  pub known : b.mode ≢ In_doubt

-- each image of b was one of a
pub permanent_was_there : (k : ℕ) (a b : Node) (x n : ℕ) (image : Image) → BecomesPermanent k a b x n image
    → (i : Image) → IsImageOf b i → IsImageOf a i
permanent_was_there k a b x n image s i (Permanent same) = let e = sym s.permanent ∙ same in Held x n (rw (← e) s.held)
permanent_was_there k a b x n image s i (Held y m held) = absurd (some_not_none s.free held)
permanent_was_there k a b x n image s i (Current now) =
    elim (s.current i now) [ inl old ↦ Current old | inr is ↦ Held x n (rw is s.held) ]

pub becomes_permanent_ok : (net : Net) (k : ℕ) (a b : Node) (x n : ℕ) (image : Image) → NodeOk net k a
    → BecomesPermanent k a b x n image → NodeOk net k b
becomes_permanent_ok net k a b x n image ok s = record {
  tentative = λ y m i held. absurd (some_not_none s.free held);
  current =
      λ i now. rw (s.permanent)
      (elim (s.current i now) [ inl old ↦ ok.latest x n image i s.held old | inr is ↦ rw is (at_most_itself image) ]);
  latest = λ y m i j held now. absurd (some_not_none s.free held);
  used = λ m now. rw (s.highest) (s.decided m now);
  older = λ m j i held now. absurd (some_not_none s.free held);
  own = λ live now. absurd (s.none_live live now);
  local = λ c i is image_of. ok.local c i is (permanent_was_there k a b x n image s i image_of);
  output = λ c i is image_of. rw (s.outlets) (ok.output c i is (permanent_was_there k a b x n image s i image_of));
  covered =
      λ c is. rw (s.outlets, s.permanent)
      (let one = ok.covered c is in let two = ((ok.tentative x n image s.held).1 c).2 in omega arith);
  log = λ c i image_of. ok.log c i (permanent_was_there k a b x n image s i image_of);
  doubt = λ now. absurd (s.known now);
}

-- the current image becomes a tentative one
pub record CurrentIsTaken (k : ℕ) (a b : Node) (x n : ℕ) (image : Image) : Type 0 where
  pub takes : Takes a.disk b.disk x n image
  pub running : current_of a.mode ≡ Some image
  pub still : current_of b.mode ≡ Some image
  pub outlets : b.outlets ≡ a.outlets
  pub own : (live : Live) → live_of b.mode ≡ Some live → (i : Image) × Holds b.disk k live.number i

-- each image of b was one of a
pub taken_was_there : (k : ℕ) (a b : Node) (x n : ℕ) (image : Image) → CurrentIsTaken k a b x n image → (i : Image)
    → IsImageOf b i → IsImageOf a i
taken_was_there k a b x n image s i (Permanent same) = Permanent (sym s.takes.permanent ∙ same)
taken_was_there k a b x n image s i (Held y m held) =
    Current (rw (same_image b.disk y m x n i image held s.takes.holds) s.running)
taken_was_there k a b x n image s i (Current now) = Current (rw (one_inside now s.still) s.running)

pub current_is_taken_ok : (net : Net) (k : ℕ) (a b : Node) (x n : ℕ) (image : Image) → NodeOk net k a
    → CurrentIsTaken k a b x n image → NodeOk net k b
current_is_taken_ok net k a b x n image ok s = record {
  tentative = λ y m i held. let of = held_now y m i held in
      rw (of.0, of.1, of.2, s.takes.permanent) (s.takes.highest, ok.current image s.running);
  current = λ i now. rw (s.takes.permanent, one_inside now s.still) (ok.current image s.running);
  latest = λ y m i j held now. rw ((held_now y m i held).2, one_inside now s.still) (at_most_itself image);
  used = λ m now. let one = ok.used m (rw (s.takes.decided) at now) in let two = highest_grows k in omega arith;
  older = λ m j i held now. older m j (held_now k m i held).0 (held_now k m i held).1 (rw (s.takes.decided) at now);
  own = s.own;
  local = λ c i is image_of. ok.local c i is (taken_was_there k a b x n image s i image_of);
  output = λ c i is image_of. rw (s.outlets) (ok.output c i is (taken_was_there k a b x n image s i image_of));
  covered = λ c is. rw (s.outlets, s.takes.permanent) (ok.covered c is);
  log = λ c i image_of. ok.log c i (taken_was_there k a b x n image s i image_of);
  doubt = λ now. absurd (some_not_none (ap current_of now) s.still);
}
  where
    held_now : (y m : ℕ) (i : Image) → Holds b.disk y m i → (y ≡ x) × (m ≡ n) × (i ≡ image)
    held_now y m i held = (
      same_initiator b.disk y m x n i image held s.takes.holds,
      same_number b.disk y m x n i image held
          s.takes.holds,
      same_image b.disk y m x n i image held s.takes.holds,
    )

    highest_grows : (y : ℕ) → a.disk.highest y ≤ b.disk.highest y
    highest_grows y = elim (same_or_other y x) [
      | inl is ↦ rw is (let one = s.takes.new in let two = s.takes.highest in omega arith)
      | inr other ↦ let same = s.takes.others y other in omega arith
    ]

    older : (m j : ℕ) → k ≡ x → m ≡ n → a.disk.decided j ≡ true → j < m
    older m j own is now = let one = ok.used j now in let two : a.disk.highest k < n = rw own s.takes.new in omega arith

no_live_in : (m : Mode) (i : Image) → m ≡ Running i None → (live : Live) → live_of m ≡ Some live → ⊥
no_live_in m i now live is = some_not_none refl (live_is m i None live now is)

-- the four steps that write a record, each as its kind

pub forget_goes : (k : ℕ) (a b : Node) (x n : ℕ) (image : Image) → Forgets k a b x n image → ImageGoes k a b x n image
forget_goes k a b x n image s = record {
  drops = s.drops;
  outlets = s.outlets;
  current = λ j is. inr (current_is b.mode a.disk.permanent j None s.now is);
  none_live = no_live_in b.mode a.disk.permanent s.now;
  known = not_in_doubt b.mode a.disk.permanent None s.now;
}

pub give_up_goes : (k : ℕ) (a b : Node) (current image : Image) (live : Live) → GivesUp k a b current image live
    → ImageGoes k a b k live.number image
give_up_goes k a b current image live s = record {
  drops = s.drops;
  outlets = s.outlets;
  current = λ j is. inl (ap current_of s.was ∙ sym (ap current_of s.now) ∙ is);
  none_live = no_live_in b.mode current s.now;
  known = not_in_doubt b.mode current None s.now;
}

pub start_takes : (net : Net) (k : ℕ) (a b : Node) (current : Image) (live : Live) → Starts net k a b current live
    → CurrentIsTaken k a b k live.number current
start_takes net k a b current live s = record {
  takes = s.takes;
  running = ap current_of s.was;
  still = ap current_of s.now;
  outlets = s.outlets;
  own = λ l is. let e = one_inside is (ap live_of s.now) in (current, rw e s.takes.holds);
}

pub conclude_permanent : (net : Net) (k : ℕ) (a b : Node) (current image : Image) (live : Live) → NodeOk net k a
    → Concludes k a b current image live → BecomesPermanent k a b k live.number image
conclude_permanent net k a b current image live ok s = record {
  held = s.decides.held;
  permanent = s.decides.permanent;
  free = s.decides.free;
  highest = s.decides.highest;
  decided = λ m now. elim (same_or_other m live.number) [
    | inl is ↦ let used = (ok.tentative k live.number image s.decides.held).0 in omega arith
    | inr other ↦ ok.used m (sym (s.decides.others m other).0 ∙ now)
  ];
  outlets = s.outlets;
  current = λ j is. inl (ap current_of s.was ∙ sym (ap current_of s.now) ∙ is);
  none_live = no_live_in b.mode current s.now;
  known = not_in_doubt b.mode current None s.now;
}

pub down_not_doubt : Down ≢ In_doubt
down_not_doubt same = false_true (ap is_doubt same)
  where
    is_doubt : Mode → Bool
    is_doubt In_doubt = true
    is_doubt m = false

-- each step that a node makes by itself
pub node_step_ok : (net : Net) (k : ℕ) (a b : Node) → NodeOk net k a → NodeStep net k a b → NodeOk net k b
node_step_ok net k a b ok (Work before later live s) = works_ok net k a b before later live ok s
node_step_ok net k a b ok (Trim c to before later live bound s) =
    trims_ok net k a b c to before later live ok s (unneeded_local net k a before c to bound)
    (unneeded_output net k a before c to bound)
node_step_ok net k a b ok (Release c current live s) = releases_ok net k a b c current live ok s
node_step_ok net k a b ok (Roll_back current live s) = restores_ok net k a b ok s.same s.free s.now
node_step_ok net k a b ok (Crash s) =
    stops_ok net k a b ok s.same (ap current_of s.now) (ap live_of s.now)
    (λ now. absurd (down_not_doubt (sym s.now ∙ now)))
node_step_ok net k a b ok (Restore s) = restores_ok net k a b ok s.same s.free s.now
node_step_ok net k a b ok (Forget x n image s) = image_goes_ok net k a b x n image ok (forget_goes k a b x n image s)
node_step_ok net k a b ok (Doubt x n image s) =
    stops_ok net k a b ok s.same (ap current_of s.now) (ap live_of s.now) (λ now. (x, n, image, s.other, s.held))
node_step_ok net k a b ok (Start current live s) =
    current_is_taken_ok net k a b k live.number current ok (start_takes net k a b current live s)
node_step_ok net k a b ok (Give_up current image live s) =
    image_goes_ok net k a b k live.number image ok (give_up_goes k a b current image live s)
node_step_ok net k a b ok (Conclude current image live s) =
    becomes_permanent_ok net k a b k live.number image ok (conclude_permanent net k a b current image live ok s)

-- the permanent image and the outlets only grow
pub node_step_grows : (net : Net) (k : ℕ) (a b : Node) → NodeOk net k a → NodeStep net k a b
    → AtMost a.disk.permanent b.disk.permanent × ((c : ℕ) → a.outlets c ≤ b.outlets c)
node_step_grows net k a b ok (Work before later live s) =
    rw (s.same.disk, s.same.outlets) (at_most_itself a.disk.permanent, λ c. omega arith)
node_step_grows net k a b ok (Trim c to before later live bound s) =
    rw (s.same.disk, s.same.outlets) (at_most_itself a.disk.permanent, λ d. omega arith)
node_step_grows net k a b ok (Release c current live s) = (
  rw (s.disk) (at_most_itself a.disk.permanent),
  λ d. elim (same_or_other d c) [
    | inl at_c ↦ rw at_c (let one = s.longer in omega arith)
    | inr other ↦ let one = s.others d other in omega arith
  ],
)
node_step_grows net k a b ok (Roll_back current live s) =
    rw (s.same.disk, s.same.outlets) (at_most_itself a.disk.permanent, λ c. omega arith)
node_step_grows net k a b ok (Crash s) =
    rw (s.same.disk, s.same.outlets) (at_most_itself a.disk.permanent, λ c. omega arith)
node_step_grows net k a b ok (Restore s) =
    rw (s.same.disk, s.same.outlets) (at_most_itself a.disk.permanent, λ c. omega arith)
node_step_grows net k a b ok (Forget x n image s) =
    rw (s.drops.permanent, s.outlets) (at_most_itself a.disk.permanent, λ c. omega arith)
node_step_grows net k a b ok (Doubt x n image s) =
    rw (s.same.disk, s.same.outlets) (at_most_itself a.disk.permanent, λ c. omega arith)
node_step_grows net k a b ok (Start current live s) =
    rw (s.takes.permanent, s.outlets) (at_most_itself a.disk.permanent, λ c. omega arith)
node_step_grows net k a b ok (Give_up current image live s) =
    rw (s.drops.permanent, s.outlets) (at_most_itself a.disk.permanent, λ c. omega arith)
node_step_grows net k a b ok (Conclude current image live s) =
    rw (s.decides.permanent, s.outlets) ((ok.tentative k live.number image s.decides.held).1, λ c. omega arith)

-- and no other node's outlet changes
pub node_step_outlets : (net : Net) (k : ℕ) (a b : Node) → NodeStep net k a b → (c j : ℕ) → j ≢ k → IsOutput net c j
    → b.outlets c ≡ a.outlets c
node_step_outlets net k a b (Work before later live s) c j other is = ap (λ (f : ℕ → ℕ). f c) s.same.outlets
node_step_outlets net k a b (Trim d to before later live bound s) c j other is = ap (λ (f : ℕ → ℕ). f c) s.same.outlets
node_step_outlets net k a b (Release d current live s) c j other is = elim (same_or_other c d) [
  | inl this ↦ absurd (other (one_inside (rw this at is.from) s.output.from))
  | inr differs ↦ s.others c differs
]
node_step_outlets net k a b (Roll_back current live s) c j other is = ap (λ (f : ℕ → ℕ). f c) s.same.outlets
node_step_outlets net k a b (Crash s) c j other is = ap (λ (f : ℕ → ℕ). f c) s.same.outlets
node_step_outlets net k a b (Restore s) c j other is = ap (λ (f : ℕ → ℕ). f c) s.same.outlets
node_step_outlets net k a b (Forget x n image s) c j other is = ap (λ (f : ℕ → ℕ). f c) s.outlets
node_step_outlets net k a b (Doubt x n image s) c j other is = ap (λ (f : ℕ → ℕ). f c) s.same.outlets
node_step_outlets net k a b (Start current live s) c j other is = ap (λ (f : ℕ → ℕ). f c) s.outlets
node_step_outlets net k a b (Give_up current image live s) c j other is = ap (λ (f : ℕ → ℕ). f c) s.outlets
node_step_outlets net k a b (Conclude current image live s) c j other is = ap (λ (f : ℕ → ℕ). f c) s.outlets

pub node_stays_ok : (net : Net) (k : ℕ) (a b : Node) (nodes : List Node) → NodeOk net k a → Alone net k a nodes b
    → NodeOk net k b
node_stays_ok net k a b [] ok same = rw (← same) ok
node_stays_ok net k a b (c ∷ nodes) ok run = node_stays_ok net k c b nodes (node_step_ok net k a c ok run.0) run.1

pub node_never_falls_back : (net : Net) (k : ℕ) (a b : Node) (nodes : List Node) → NodeOk net k a
    → Alone net k a nodes b → AtMost a.disk.permanent b.disk.permanent × ((c : ℕ) → a.outlets c ≤ b.outlets c)
node_never_falls_back net k a b [] ok same = rw (← same) (at_most_itself a.disk.permanent, λ c. omega arith)
node_never_falls_back net k a b (c ∷ nodes) ok run =
    let one = node_step_grows net k a c ok run.0 in
    let two = node_never_falls_back net k c b nodes (node_step_ok net k a c ok run.0) run.1 in (
      at_most_next a.disk.permanent c.disk.permanent b.disk.permanent one.0 two.0,
      λ d. let three = one.1 d in
          let four = two.1 d in omega arith,
    )

pub node_is_sound : (net : Net) (k : ℕ) (a : Node) → NodeOk net k a → CanRestart net k a
node_is_sound net k a ok = record {
  no_orphan = λ c is. (ok.local c a.disk.permanent is (Permanent refl)).1;
  nothing_lost = λ c is. (ok.local c a.disk.permanent is (Permanent refl)).0;
  outputs = λ c is. ok.output c a.disk.permanent is (Permanent refl);
  covers = ok.covered;
  in_log = λ c i is now. (ok.output c i is (Current now), (ok.current i now c).2);
}
