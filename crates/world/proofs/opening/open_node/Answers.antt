use Rattle.std.proofs.Common.{ℕ, rules, length, sym, ap, subst, ◌∙◌, arith}
use Rattle.std.proofs.lemmas.List.{length-replicate}
use Rattle.protocol.specs.Node.Common.{network_of, IsRecord, MAX_RETAINED_ITEMS, RecordView, image_length}
use Rattle.ckpt_codec.specs.SizeLaws.{IsRecordWithin}
use Rattle.protocol_laws.specs.Node.SizeLaws.{opening_within}
use Rattle.protocol_laws.specs.Node.LikeLaws.{opening_allowed}
use Rattle.world.specs.OpeningWorld.{HasRoom, IsNotOpened}
use Rattle.world.proofs.OpeningStores.{node_left, node_stands}
use Rattle.std.proofs.lemmas.Grind.{elements}
use Rattle.world.proofs.opening.open_node.Goals as goal

pub open_store-requires-clause-written : goal.open_store-requires-clause-written
open_store-requires-clause-written g c =
    let net = c.args.net.now in
    subst IsRecord (sym c.in-Ok.ensures)
    (opening_allowed (network_of net.program) c.args.nodes c.args.number net.valid c.requires.here c.requires.few)

pub open_store-requires-clause-bounded : goal.open_store-requires-clause-bounded
open_store-requires-clause-bounded g c =
    let net = c.args.net.now in
    subst (IsRecordWithin MAX_RETAINED_ITEMS) (sym c.in-Ok.ensures)
    (opening_within (network_of net.program) c.args.nodes c.args.number net.valid c.requires.few)

pub open_store-requires-clause-settled : goal.open_store-requires-clause-settled
open_store-requires-clause-settled g c = ap (λ (kept : RecordView). kept.decisions) c.in-Ok.ensures

pub run_from-requires-clause-listed : goal.run_from-requires-clause-listed
run_from-requires-clause-listed g c =
    let many = ap (λ (kept : RecordView). length kept.highest) (c.in-Ok-open_store.ensures.opened.shows ∙ c.in-Ok.ensures) in
    let whole = length-replicate {A = ℕ} c.args.nodes 0 in
    omega (arith, many, whole, c.requires.here)

pub run_from-requires-clause-named : goal.run_from-requires-clause-named
run_from-requires-clause-named g c =
    ap (λ (kept : RecordView). kept.node) (c.in-Ok-open_store.ensures.opened.shows ∙ c.in-Ok.ensures)

pub returns-in-Ok-run_from-clause-opened : goal.returns-in-Ok-run_from-clause-opened
returns-in-Ok-run_from-clause-opened g c = record {
  number_is = grind (arith, elements);
  view = grind (arith, elements);
  failures = grind (arith, elements);
  armed = grind (arith, elements);
  counted = grind (arith, elements);
  left = node_left _ _ c.in-Ok-run_from.node c.in-Ok-open_store.store _ _ c.in-Ok-run_from.ensures.same.1
      c.in-Ok.ensures c.in-Ok-open_store.ensures.opened.holds;
  formatted = node_stands _ _ c.in-Ok-run_from.node c.in-Ok-open_store.store _ _ c.args.version
      c.in-Ok-run_from.ensures.same.1 c.in-Ok.ensures c.in-Ok-open_store.ensures.opened.formatted;
  room = search rules;
  fits = subst (λ (r : RecordView). HasRoom (g.D.Disk.sector_count c.args.disk) (image_length r.permanent))
      c.in-Ok.ensures c.in-Ok-open_store.ensures.opened.fits;
}

pub returns-in-Err-clause-refused : goal.returns-in-Err-clause-refused
returns-in-Err-clause-refused g c =
    subst (λ (r : RecordView). IsNotOpened g.D.Disk.sector_count g.D.Disk.failure_count (image_length r.permanent)
    c.args.disk c.in-Err.refused.disk c.in-Err.refused.fault) c.in-Ok.ensures c.in-Err.ensures.refused
