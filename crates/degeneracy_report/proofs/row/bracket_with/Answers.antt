use Rattle.std.proofs.Common.{ap, ap₂, sym, ◌∙◌, ◌++◌, ◌-◌, arith, List, ℕ}
use Rattle.bracket_terms.specs.Joins.{points_of}
use Rattle.bracket_terms.specs.Signed.{sorted_with_sign}
use Rattle.degeneracy_report.specs.Joined.{fresh_points}
use Rattle.degeneracy_report.proofs.RowLaws.{fresh_plus, plus_points, three_fresh}
use Rattle.degeneracy_report.proofs.row.bracket_with.Goals as goal

pub unreachable-requires : goal.unreachable-requires
unreachable-requires g c =
    let size : ℕ = c.args.extensor.now.size in
    let points : List ℕ = points_of c.args.extensor.now in
    c.in_default.not-Plus (points ++ fresh_points g.row.D size c.args.fresh)
    (c.sort.ensures.sorted
    ∙ ap sorted_with_sign
    (c.in_sequence.ensures
    ∙ ap₂ (λ (xs ys : List ℕ). xs ++ ys) c.used.ensures
    (three_fresh c.args.fresh (g.row.D - size) (omega (arith, c.requires.rank.1, c.requires.least))))
    ∙ fresh_plus c.args.fresh (g.row.D - size) points c.args.extensor.now.formed.increasing c.requires.points)

pub returns : goal.returns
returns g c =
    let size : ℕ = c.args.extensor.now.size in
    let points : List ℕ = points_of c.args.extensor.now in
    plus_points c.in-Plus.row (points ++ fresh_points g.row.D size c.args.fresh)
    (sym c.in-Plus.is ∙ c.sort.ensures.sorted
    ∙ ap sorted_with_sign
    (c.in_sequence.ensures
    ∙ ap₂ (λ (xs ys : List ℕ). xs ++ ys) c.used.ensures
    (three_fresh c.args.fresh (g.row.D - size) (omega (arith, c.requires.rank.1, c.requires.least))))
    ∙ fresh_plus c.args.fresh (g.row.D - size) points c.args.extensor.now.formed.increasing c.requires.points)
