use Rattle.std.proofs.Common.{refl, sym, ◌∙◌, true≢false}
use Rattle.coordinate_model.specs.Starts.{Entry}
use Rattle.bracket_poly.specs.Values.{entry_of}
use Rattle.bracket_terms.specs.Joins.{points_of}
use Rattle.shuffle_meet.specs.Seen.{seen}
use Rattle.shuffle_meet.proofs.JoinSteps.{join_none, adds_nothing, adds_full, adds_part, length-both, common_point, no_common_point}
use Rattle.shuffle_meet.proofs.joining.add_join.Goals as goal

pub returns-in_default-join_points-clause-added : goal.returns-in_default-join_points-clause-added
returns-in_default-join_points-clause-added g c =
    let e : Entry = entry_of c.args.left.now in
    let f : Entry = entry_of c.args.right.now in
    adds_nothing (seen c.args.starts.now.polys.entries) _ tt
    (join_none g.row.D e f (common_point c.args.left.now.0 c.args.right.now.0 (c.in_default-join_points.ensures.none.0 refl)))

pub returns-in-Some-clause-added : goal.returns-in-Some-clause-added
returns-in-Some-clause-added g c =
    let e : Entry = entry_of c.args.left.now in
    let f : Entry = entry_of c.args.right.now in
    adds_full g.row.D e f (seen c.args.starts.now.polys.entries) (seen c.add.new.self.polys.entries)
    (points_of c.no_points.result) _ c.add.result
    (length-both c.args.left.now.0 c.args.right.now.0 ∙ c.if-left-right.true) c.in-Some.ensures c.no_points.ensures.points
    c.add.ensures.added

pub returns-in-Some-join_points-clause-added : goal.returns-in-Some-join_points-clause-added
returns-in-Some-join_points-clause-added g c =
    let e : Entry = entry_of c.args.left.now in
    let f : Entry = entry_of c.args.right.now in
    adds_part g.row.D e f (seen c.args.starts.now.polys.entries) (seen c.add-else-left-right.new.self.polys.entries)
    c.in-Some-join_points.union c.in-Some-join_points.sign c.add-else-left-right.result
    (λ h. c.if-left-right.false (sym (length-both c.args.left.now.0 c.args.right.now.0) ∙ h))
    (no_common_point c.args.left.now.0 c.args.right.now.0 (λ h. true≢false (c.in-Some-join_points.ensures.none.1 h)))
    c.in-Some-join_points.ensures.joined c.add-else-left-right.ensures.added
