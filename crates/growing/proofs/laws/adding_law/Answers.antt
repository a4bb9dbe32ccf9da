use Rattle.growing.proofs.Adding.{fed_has_items, fed_in_any_order, fed_in_parts, fed_is_later, fed_is_longer}
use Rattle.growing.proofs.Adding.{fed_nothing, fed_where_made, later_again, others_stay}
use Rattle.growing.proofs.laws.adding_law.Goals as goal

pub returns-clause-items : goal.returns-clause-items
returns-clause-items c = fed_has_items

pub returns-clause-others : goal.returns-clause-others
returns-clause-others c = others_stay

pub returns-clause-longer : goal.returns-clause-longer
returns-clause-longer c = fed_is_longer

pub returns-clause-later : goal.returns-clause-later
returns-clause-later c = fed_is_later

pub returns-clause-made : goal.returns-clause-made
returns-clause-made c = fed_where_made

pub returns-clause-nothing : goal.returns-clause-nothing
returns-clause-nothing c = fed_nothing

pub returns-clause-parts : goal.returns-clause-parts
returns-clause-parts c = fed_in_parts

pub returns-clause-order : goal.returns-clause-order
returns-clause-order c = fed_in_any_order

pub returns-clause-again : goal.returns-clause-again
returns-clause-again c = later_again
