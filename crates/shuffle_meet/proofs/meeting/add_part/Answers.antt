use Rattle.std.proofs.Common.{rules, ◌++◌, ◌∙◌, sym}
use Rattle.bracket_terms.specs.Joins.{points_of}
use Rattle.bracket_poly.specs.Values.{entry_of}
use Rattle.split_tables.specs.Masks.{places_of}
use Rattle.shuffle_meet.specs.Seen.{seen}
use Rattle.shuffle_meet.proofs.MeetSteps.{signs_fit, signs_are, adds_split, size_below, size_of}
use Rattle.shuffle_meet.proofs.meeting.add_part.Goals as goal

pub overflow_mul-split : goal.overflow_mul-split
overflow_mul-split g c =
    signs_fit c.args.split.sign (places_of c.args.split.chosen ++ places_of c.args.split.rest)
    (points_of c.part.result ++ points_of c.args.right.now.0) _ c.requires.sign c.in-Some.ensures

pub add-requires : goal.add-requires
add-requires g c = (
  search rules,
  (
    search rules,
    (
      search rules,
      (
        size_of c.part-2.result _ c.args.starts.now.step c.part-2.ensures c.requires.rest
            ∙ sym (size_below g.row.D c.args.starts.now.step c.requires.few),
        (
          signs_are c.args.split.sign (places_of c.args.split.chosen ++ places_of c.args.split.rest)
              (points_of c.part.result ++ points_of c.args.right.now.0) _ c.requires.sign c.in-Some.ensures,
          c.requires.exponents,
        ),
      ),
    ),
  ),
)

pub returns-clause-added : goal.returns-clause-added
returns-clause-added g c =
    adds_split (entry_of c.args.left.now) (entry_of c.args.right.now) (places_of c.args.split.chosen, places_of c.args.split.rest)
    (seen c.args.starts.now.polys.entries) (seen c.add.new.self.polys.entries) (points_of c.part-2.result)
    (points_of c.part.result) c.args.split.sign _ c.add.result c.part-2.ensures c.part.ensures c.requires.sign
    c.in-Some.ensures c.add.ensures.added
