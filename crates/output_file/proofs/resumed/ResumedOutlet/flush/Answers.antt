use Rattle.std.proofs.Common.{refl, ◌∙◌, arith, take}
use Rattle.output_file.proofs.Ahead.{none_ahead}
use Rattle.output_file.specs.Lines.{lines_of}
use Rattle.output_file.proofs.Placing.{all_put, put_behind}
use Rattle.output_file.proofs.resumed.ResumedOutlet.flush.Goals as goal

pub invariant_of-self : goal.invariant_of-self
invariant_of-self g c = record {
  within = c.args.self.now.within;
  held_within = c.args.self.now.held_within;
  nothing_ahead = c.args.self.now.nothing_ahead;
  differs = c.args.self.now.differs;
  written = c.put_block.ensures.written _ _ c.args.self.now.written;
  small = omega (arith, c.put_block.ensures.shrinks, c.args.self.now.small);
  room = omega (arith, c.put_block.ensures.room, c.args.self.now.room);
}

pub returns-then-put_block-clause-lines : goal.returns-then-put_block-clause-lines
returns-then-put_block-clause-lines g c =
    all_put c.args.self.now.items.items c.args.self.now.held _ _ _ _
    (c.put_block.ensures.written _ _ c.args.self.now.written) (c.if-put_block.ensures.all refl).0

pub returns-then-put_block-clause-order : goal.returns-then-put_block-clause-order
returns-then-put_block-clause-order g c = (c.put_block.ensures.written _ _ c.args.self.now.written).order

pub returns-then-put_block-clause-content : goal.returns-then-put_block-clause-content
returns-then-put_block-clause-content g c =
    put_behind (lines_of (take c.args.self.now.held c.args.self.now.items.items)) (g.F.LineFile.asked c.put_block.new.self.file)
    (returns-then-put_block-clause-order g c) ∙ returns-then-put_block-clause-lines g c

pub returns-then-put_block-clause-in_file : goal.returns-then-put_block-clause-in_file
returns-then-put_block-clause-in_file g c = record {
  took = refl;
  content = returns-then-put_block-clause-content g c;
  no_more = none_ahead c.args.self.now.items.items c.args.self.now.count c.args.self.now.held
      c.args.self.now.nothing_ahead;
}

pub returns-clause-order : goal.returns-clause-order
returns-clause-order g c = (c.put_block.ensures.written _ _ c.args.self.now.written).order

pub invariant_of-self-2 : goal.invariant_of-self-2
invariant_of-self-2 g c = record {
  within = c.args.self.now.within;
  held_within = c.args.self.now.held_within;
  nothing_ahead = c.args.self.now.nothing_ahead;
  differs = c.args.self.now.differs;
  written = c.put_block.ensures.written _ _ c.args.self.now.written;
  small = omega (arith, c.put_block.ensures.shrinks, c.args.self.now.small);
  room = omega (arith, c.put_block.ensures.room, c.args.self.now.room);
}
