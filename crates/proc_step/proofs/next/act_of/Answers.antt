use Rattle.std.proofs.Common.{List, ap, ◌≡◌, ◌∙◌, sym, arith, get_or, length}
use Rattle.kahn_net.specs.NextActs.{next_at}
use Rattle.kahn_net.specs.Common.{Code}
use Rattle.proc_code.specs.Translation.{FlatCode, next_by, process_sites}
use Rattle.proc_code.specs.Laws.Sites.{process_act, process_no_act}
use Rattle.proc_code.specs.declared.instruction.Site.{Site}
use Rattle.proc_step.proofs.next.act_of.Goals as goal
use Rattle.proc_step.proofs.next.act_of.Goals.{In-Some}

row_act : (c : In-Some) (process : Code) → c.deref.result.now ≡ process_sites process
    → next_by c.in-Some.row.now.act ≡ next_at process c.args.site
row_act c process table =
    let row = c.in-Some.row.now in
    ap (λ (s : Site). next_by s.act) c.in-Some.ensures.lookup.1
    ∙ (ap (λ (l : List Site). next_by (get_or l c.args.site row).act) table
    ∙ process_act process c.args.site row
    (omega (arith, c.in-Some.ensures.lookup.3.0, ap (length {A = Site}) table)))

pub returns-in-Get : goal.returns-in-Get
returns-in-Get c process is =
    ap next_by (sym c.in-Get.is) ∙ row_act c.before process (c.deref.ensures.value ∙ ap (λ (f : FlatCode). f.sites) is)

pub returns-in-Put : goal.returns-in-Put
returns-in-Put c process is =
    ap next_by (sym c.in-Put.is) ∙ row_act c.before process (c.deref.ensures.value ∙ ap (λ (f : FlatCode). f.sites) is)

pub returns-in-None : goal.returns-in-None
returns-in-None c process is =
    let table = c.deref.ensures.value ∙ ap (λ (f : FlatCode). f.sites) is in
    sym (process_no_act process c.args.site (omega (arith, c.in-None.ensures.lookup.3, ap (length {A = Site}) table)))
