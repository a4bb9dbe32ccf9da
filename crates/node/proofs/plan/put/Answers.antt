use Rattle.std.proofs.Common.{◌<◌, length, ap, subst, sym, ◌∙◌}
use Rattle.protocol.specs.Node.Common.{RecordView, Changes, record_in}
use Rattle.ckpt_store.proofs.Seen.{known_is}
use Rattle.ckpt_store.specs.Refusals.{has_effect}
use Rattle.ckpt_store.specs.Spelling.{AreOthers, IsLike}
use Rattle.node.specs.Planned.{MayBePut, cause_of, changed}
use Rattle.node.specs.declared.plan.Change.{Change}
use Rattle.node.proofs.Records.{some_known}
use Rattle.std.proofs.Common.{arith}
use Rattle.std.proofs.lemmas.Grind.{elements}
use Rattle.node.proofs.plan.put.Goals as goal

pub take_tentative-requires-clause-listed : goal.take_tentative-requires-clause-listed
take_tentative-requires-clause-listed g c = λ kept known.
    let may = subst (λ (change : Change). MayBePut change (record_in c.args.store.now)) c.in-Takes.is c.requires.may in
    subst (λ (r : RecordView). c.in-Takes.initiator < length r.highest)
    (known_is g.C.StableCell g.C.SlotCell c.args.store.now kept known) may.0

pub take_tentative-requires-clause-like : goal.take_tentative-requires-clause-like
take_tentative-requires-clause-like g c = λ kept known.
    let may = subst (λ (change : Change). MayBePut change (record_in c.args.store.now)) c.in-Takes.is c.requires.may in
    subst (λ (r : RecordView). IsLike r.permanent c.in-Takes.image)
    (known_is g.C.StableCell g.C.SlotCell c.args.store.now kept known) may.1

pub decide-requires : goal.decide-requires
decide-requires g c = λ kept known.
    subst (λ (r : RecordView). AreOthers r c.in-Decides.participants.items)
    (known_is g.C.StableCell g.C.SlotCell c.args.store.now kept known)
    (subst (λ (change : Change). MayBePut change (record_in c.args.store.now)) c.in-Decides.is c.requires.may)

pub returns-in-Confirms : goal.returns-in-Confirms
returns-in-Confirms g c =
    let old = c.args.store.now in
    let known = some_known g.C.StableCell g.C.SlotCell old c.requires.known in
    let may = subst (λ (change : Change). MayBePut change (record_in old)) c.in-Confirms.is c.requires.may in
    subst (λ (change : Change). Changes (cause_of change) (changed change) old c.confirm.new.self c.confirm.result)
    (sym c.in-Confirms.is)
    (c.confirm.ensures.change (ap (has_effect c.in-Confirms.number c.in-Confirms.node) known ∙ may))

pub returns-in-Decides : goal.returns-in-Decides
returns-in-Decides g c = grind (arith, elements)

pub returns-in-MakesPermanent : goal.returns-in-MakesPermanent
returns-in-MakesPermanent g c = grind (arith, elements)

pub returns-in-Drops : goal.returns-in-Drops
returns-in-Drops g c = grind (arith, elements)
