use Rattle.std.proofs.Common.{◌∙◌, ap, arith, get_or, length, List}
use Rattle.kahn_net.specs.Common.{Code}
use Rattle.proc_code.specs.Translation.{FlatCode}
use Rattle.proc_code.specs.Laws.Sites.{process_entry, process_past}
use Rattle.proc_code.specs.declared.instruction.Site.{Site}
use Rattle.proc_code.proofs.code.Code.entry.Goals as goal

pub returns-in-Some : goal.returns-in-Some
returns-in-Some c process is =
    let table = c.deref.ensures.value ∙ ap (λ (f : FlatCode). f.sites) is in
    let row = c.in-Some.site.now in
    ap (λ (s : Site). s.entry) c.in-Some.ensures.lookup.1
    ∙ (ap (λ (l : List Site). (get_or l c.args.site row).entry) table
    ∙ process_entry process c.args.site row (omega (arith, c.in-Some.ensures.lookup.3.0, ap (length {A = Site}) table)))

pub returns-in-None : goal.returns-in-None
returns-in-None c process is =
    let table = c.deref.ensures.value ∙ ap (λ (f : FlatCode). f.sites) is in
    let last =
    process_past process c.args.site (omega (arith, c.in-None.ensures.lookup.3, ap (length {A = Site}) table)) in
    let code = ap (λ (f : FlatCode). length f.instructions) is in
    omega (arith, last, code, c.len.ensures, c.saturating_sub.ensures)
