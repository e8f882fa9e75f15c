use Rattle.construction_reader.specs.Said.{objects}
use Rattle.cayley_terms.specs.Pairs.{pair_instr}
use Rattle.cayley_terms.proofs.StatementSteps.{chain_objects_room}
use Rattle.cayley_terms.proofs.lowering.Lowering.chain.Goals as goal

pub objects-requires : goal.objects-requires
objects-requires c =
    chain_objects_room (pair_instr c.args.pair) c.args.line (objects c.args.args.now) c.args.self.now c.requires
