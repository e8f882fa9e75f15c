use Rattle.cayley_terms.proofs.PascalSteps.{room_l, room_x, room_y, room_z, room_p, crossings_done}
use Rattle.cayley_terms.proofs.lowering.Lowering.pascal.Goals as goal

pub push-requires : goal.push-requires
push-requires c =
    room_l c.args.line c.args.five.now c.args.q c.args.self.now c.requires.five c.requires.room

pub crossing-requires : goal.crossing-requires
crossing-requires c =
    room_x c.args.line c.args.five.now c.args.q c.args.self.now c.requires.five
    (c.push.new.self, c.in_ok-l.l) (c.in_ok-l.ensures {u = tt}) c.requires.room

pub cut-requires : goal.cut-requires
cut-requires c =
    room_y c.args.line c.args.five.now c.args.q c.args.self.now c.requires.five
    (c.push.new.self, c.in_ok-l.l) (c.in_ok-l.ensures {u = tt})
    (c.crossing.new.self, c.in_ok-x.x) (c.in_ok-x.ensures {u = tt}) c.requires.room

pub crossing-requires-2 : goal.crossing-requires-2
crossing-requires-2 c =
    room_z c.args.line c.args.five.now c.args.q c.args.self.now c.requires.five
    (c.push.new.self, c.in_ok-l.l) (c.in_ok-l.ensures {u = tt})
    (c.crossing.new.self, c.in_ok-x.x) (c.in_ok-x.ensures {u = tt})
    (c.cut.new.self, c.in_ok-y.y) (c.in_ok-y.ensures {u = tt}) c.requires.room

pub push-requires-2 : goal.push-requires-2
push-requires-2 c =
    room_p c.args.line c.args.five.now c.args.q c.args.self.now c.requires.five
    (c.push.new.self, c.in_ok-l.l) (c.in_ok-l.ensures {u = tt})
    (c.crossing.new.self, c.in_ok-x.x) (c.in_ok-x.ensures {u = tt})
    (c.cut.new.self, c.in_ok-y.y) (c.in_ok-y.ensures {u = tt})
    (c.crossing-2.new.self, c.in_ok-z.z) (c.in_ok-z.ensures {u = tt}) c.requires.room

pub returns : goal.returns
returns c =
    crossings_done c.args.line c.args.five.now c.args.q c.args.self.now c.requires.five
    (c.push.new.self, c.in_ok-l.l) (c.in_ok-l.ensures {u = tt})
    (c.crossing.new.self, c.in_ok-x.x) (c.in_ok-x.ensures {u = tt})
    (c.cut.new.self, c.in_ok-y.y) (c.in_ok-y.ensures {u = tt})
    (c.crossing-2.new.self, c.in_ok-z.z) (c.in_ok-z.ensures {u = tt})
    (c.push-2.new.self, c.in_ok-side.side) (c.in_ok-side.ensures {u = tt})
