use Rattle.std.proofs.Common.{◌≤◌, ◌+◌, ◌*◌, List, ℕ, length, subst, sym, ◌∙◌, arith}
use Rattle.std.proofs.lemmas.List.{with_items_is}
use Rattle.sector_disk.specs.declared.TheConstants.{SECTOR_BYTES}
use Rattle.sector_disk.specs.Disk.{IsOverwritten, SameOutside}
use Rattle.sector_disk.proofs.Writes.{overwritten_outside, write_crash}
use Rattle.std.proofs.lemmas.Grind.{elements}
use Rattle.sector_disk.proofs.sectors.Sectors.write.Goals as goal

pub returns-clause-elsewhere : goal.returns-clause-elsewhere
returns-clause-elsewhere c =
    let was = c.args.self.now in
    let at = SECTOR_BYTES * c.args.first in
    let len = length c.args.bytes.now in
    let inside : at + len ≤ length was.bytes.items = omega (arith, c.requires.inside, was.whole) in
    let written =
    subst (λ (l : List ℕ). IsOverwritten l at c.args.bytes.now c.overwrite.new.bytes) c.deref_mut.ensures.value
    c.overwrite.ensures in
    subst (SameOutside at len was.bytes.items)
    (sym (with_items_is was.bytes c.overwrite.new.bytes (c.overwrite.auto.bytes ∙ c.deref_mut.ensures.len)))
    (overwritten_outside at c.args.bytes.now _ _ inside written)

pub returns-clause-crash : goal.returns-clause-crash
returns-clause-crash c =
    write_crash c.args.first (length c.args.bytes.now) _ _ _ _ c.args.self.now.whole c.requires
    (returns-clause-elsewhere c) c.mark.ensures

pub invariant_of-self : goal.invariant_of-self
invariant_of-self c = grind (arith, elements)

pub returns-clause-bytes : goal.returns-clause-bytes
returns-clause-bytes c = grind (arith, elements)
