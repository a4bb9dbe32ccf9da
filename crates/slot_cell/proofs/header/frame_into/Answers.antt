use Rattle.std.proofs.Common.{◌≡◌, ◌∙◌, ℕ, length, replicate, ap, arith, rules}
use Rattle.std.proofs.lemmas.Nat.{from_be_bytes-to_be_bytes_8}
use Rattle.std.specs.Int.{w64, from_be_bytes}
use Rattle.slot_cell.proofs.Framing.{is_framed, placed}
use Rattle.slot_cell.proofs.header.frame_into.Goals as goal

pub returns : goal.returns
returns g =
    let value = g.args.value.now in
    let be = g.to_be_bytes.result in
    let long : length {A = ℕ} be ≡ 8 = search rules in
    is_framed value be g.place-2.new.bytes long
    (ap (from_be_bytes w64) g.to_be_bytes.ensures
    ∙ from_be_bytes-to_be_bytes_8 (length value) (omega (arith, g.requires.short)))
    g.requires.short
    (placed value be g.clear.new.bytes g.place.new.bytes g.place-2.new.bytes
    (g.clear.ensures ∙ ap (λ n. replicate n 0) g.requires.sector) long g.requires.short g.place.ensures
    g.place-2.ensures)
