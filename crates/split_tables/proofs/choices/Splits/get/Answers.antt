use Rattle.split_tables.proofs.Tables.{split_at}
use Rattle.split_tables.proofs.choices.Splits.get.Goals as goal

pub returns : goal.returns
returns g c = split_at g.row.N g.row.K c.args.i c.table.result.now _ c.table.ensures c.requires.within
