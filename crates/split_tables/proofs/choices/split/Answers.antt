use Rattle.split_tables.proofs.Tables.{split_at}
use Rattle.split_tables.proofs.choices.split.Goals as goal

pub returns : goal.returns
returns c = split_at c.args.n c.args.k c.args.i c.table.result.now _ c.table.ensures c.requires.within
