use Rattle.std.proofs.Common.{ℕ, ◌+◌, ◌<◌, List, length, arith}
use Rattle.tableau_order.specs.Standard.{row_at}
use Rattle.tableau_order.proofs.Splits.{row_of, next_not_above}
use Rattle.syzygies.proofs.Falls.{rewrites_once}
use Rattle.syzygies.proofs.place.at_place.Goals as goal

pub returns-clause-sign : goal.returns-clause-sign
returns-clause-sign g c =
    let rows : List (List ℕ) = c.args.rows.now in
    let i : ℕ = c.args.place.row in
    let within : i + 1 < length rows = c.requires.place.within in
    rewrites_once g.row.D c.args.place.column (row_at rows i) (row_at rows (i + 1)) c.requires.tableau.rank
    (row_of g.row.D rows c.requires.tableau.each i (omega arith))
    (row_of g.row.D rows c.requires.tableau.each (i + 1) within) (next_not_above g.row.D i rows c.requires.tableau within)
    c.requires.place.fall
