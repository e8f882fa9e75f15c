use Rattle.std.proofs.Common.{rules, ℕ, ◌-◌, ◌<◌, ◌≤◌, ◌∙◌, List, length, sym, subst}
use Rattle.coordinate_model.specs.Sequences.{splits, range}
use Rattle.coordinate_model.specs.Starts.{meet_product}
use Rattle.bracket_terms.specs.Joins.{points_of}
use Rattle.bracket_poly.specs.Values.{entry_of}
use Rattle.bracket_poly.proofs.Additions.{handed_on}
use Rattle.split_tables.specs.Masks.{places_of}
use Rattle.shuffle_meet.specs.Seen.{seen}
use Rattle.shuffle_meet.specs.Objects.{meets_with}
use Rattle.shuffle_meet.proofs.Added.{with_error}
use Rattle.shuffle_meet.proofs.JoinSteps.{adds_same}
use Rattle.shuffle_meet.proofs.Items.{next_item, stop_item, all_items}
use Rattle.shuffle_meet.proofs.MeetSteps.{HasParts, parts_at, entry_at, by_sizes}
use Rattle.shuffle_meet.proofs.meeting.add_meet.Goals as goal

pub add_part-requires : goal.add_part-requires
add_part-requires g c =
    let d : ℕ = g.row.D in
    let s : ℕ = c.args.right.now.0.size in
    let ts : List (List ℕ × List ℕ) = splits (d - s) (range c.args.left.now.0.size) in
    let inside : c.loop-i.i < length ts = subst (λ (n : ℕ). c.loop-i.i < n) c.split_count-i-end.ensures c.loop-i-test.true in
    let parts : HasParts d s c.args.starts.now.step (points_of c.args.left.now.0)
    (places_of c.split.result.chosen, places_of c.split.result.rest) =
    parts_at d s c.args.starts.now.step c.loop-i.i c.args.left.now.0 _ c.requires.second c.requires.sizes inside
    c.split.ensures.split in (
      search rules,
      (
        search rules,
        (
          subst (λ (n : ℕ). n < d) (sym c.loop-i.invariant.step) c.requires.few,
          (parts.chosen, (parts.rest ∙ sym c.loop-i.invariant.step, (c.split.ensures.sign, c.requires.exponents))),
        ),
      ),
    )

pub returns-in_err-add_part-clause-added : goal.returns-in_err-add_part-clause-added
returns-in_err-add_part-clause-added g c =
    let d : ℕ = g.row.D in
    let s : ℕ = c.args.right.now.0.size in
    let ts : List (List ℕ × List ℕ) = splits (d - s) (range c.args.left.now.0.size) in
    with_error (seen c.args.starts.now.polys.entries) (seen c.add_part.new.starts.polys.entries) _ c.from_residual.result
    c.in_err-add_part.field-0.0 (handed_on c.from_residual.result c.in_err-add_part.field-0.0 c.from_residual.ensures.1)
    (adds_same _ _ _ (meets_with d (entry_of c.args.left.now) (entry_of c.args.right.now)) _
    (by_sizes d c.args.left.now c.args.right.now)
    (stop_item (meet_product (entry_of c.args.left.now) (entry_of c.args.right.now)) ts _ _
    (seen c.add_part.new.starts.polys.entries) _ c.loop-i.i _ c.in_err-add_part.field-0.0
    (subst (λ (n : ℕ). c.loop-i.i < n) c.split_count-i-end.ensures c.loop-i-test.true)
    (entry_at ts c.loop-i.i _ c.split.ensures.split) c.loop-i.invariant.added c.in_err-add_part.ensures.added))

pub loop-i-preserved : goal.loop-i-preserved
loop-i-preserved g c =
    let d : ℕ = g.row.D in
    let s : ℕ = c.args.right.now.0.size in
    let ts : List (List ℕ × List ℕ) = splits (d - s) (range c.args.left.now.0.size) in
    record {
      step = c.add_part.ensures.step ∙ c.loop-i.invariant.step;
      added =
          next_item (meet_product (entry_of c.args.left.now) (entry_of c.args.right.now)) ts _ _ _ c.loop-i.i _ _
          (subst (λ (n : ℕ). c.loop-i.i < n) c.split_count-i-end.ensures c.loop-i-test.true)
          (entry_at ts c.loop-i.i _ c.split.ensures.split) c.loop-i.invariant.added c.in_ok-add_part.ensures.added;
    }

pub returns-clause-added : goal.returns-clause-added
returns-clause-added g c =
    let d : ℕ = g.row.D in
    let s : ℕ = c.args.right.now.0.size in
    let ts : List (List ℕ × List ℕ) = splits (d - s) (range c.args.left.now.0.size) in
    adds_same _ _ _ (meets_with d (entry_of c.args.left.now) (entry_of c.args.right.now)) _
    (by_sizes d c.args.left.now c.args.right.now)
    (all_items (meet_product (entry_of c.args.left.now) (entry_of c.args.right.now)) ts _ _ c.loop-i.i tt
    (subst (λ (n : ℕ). n ≤ c.loop-i.i) c.split_count-i-end.ensures c.loop-i-test.false) c.loop-i.invariant.added)
