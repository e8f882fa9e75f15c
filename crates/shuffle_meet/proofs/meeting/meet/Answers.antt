use Rattle.std.proofs.Common.{rules, arith, ◌≡◌, ℕ, ◌+◌, ◌-◌, ◌<◌, ◌≤◌, ◌∙◌, length, flat_map, take, refl, sym, subst}
use Rattle.std.specs.Prelude.{⊤}
use Rattle.std.specs.List.{AllByRecursion}
use Rattle.bracket_terms.specs.declared.extensor.Extensor.{Extensor}
use Rattle.bracket_poly.specs.declared.value.Value.{Value}
use Rattle.bracket_poly.specs.Kept.{TrackedOf}
use Rattle.bracket_poly.specs.Values.{entry_of, value_of}
use Rattle.shuffle_meet.specs.Objects.{met, meets_with}
use Rattle.shuffle_meet.proofs.Added.{Polys, HasAdded}
use Rattle.shuffle_meet.proofs.SeenLaws.{Entries, HaveSize}
use Rattle.coordinate_model.proofs.Splits.{all_so}
use Rattle.shuffle_meet.proofs.Pairs.{size_at, all_sizes, exponents_at, next_left, stop_left, all_left}
use Rattle.shuffle_meet.proofs.Answered.{if_ok, handed_back, answer_entries, limits_answered, error_answered, is_meet}
use Rattle.shuffle_meet.proofs.ObjectSizes.{meet_sizes}
use Rattle.shuffle_meet.proofs.meeting.meet.Goals as goal

-- the sizes of an entry and of others add up to the rank and the step
sizes_add_up : {d : ℕ} (x : Extensor × TrackedOf d) (ys : Entries d) (a b step : ℕ) → step ≡ a + b - d → d ≤ a + b → b < d
    → x.0.size ≡ a → HaveSize b ys
    → AllByRecursion (λ right. (right.0.size ≤ d) × (x.0.size + right.0.size ≡ d + step)) ys
sizes_add_up x ys a b step e many below h k =
    all_so (λ right. right.0.size ≡ b) _ (λ y l. (omega arith, omega arith)) ys k

pub add_meets-requires : goal.add_meets-requires
add_meets-requires g c =
    let d : ℕ = g.row.D in
    let a : Value d = c.args.a.now in
    let b : Value d = c.args.b.now in
    let step : c.loop-left.starts.step ≡ a.step + b.step - d = c.loop-left.invariant.step ∙ c.new-starts.ensures.step in
    let first : a.step < d = c.requires.steps.first_below in
    let second : b.step < d = c.requires.steps.second_below in
    let few : a.step + b.step - d < d = omega arith in (
      search rules,
      (
        search rules,
        (
          subst (λ (n : ℕ). n < d) (sym step) few,
          (
            sizes_add_up c.left-item.result c.items.result.now a.step b.step c.loop-left.starts.step step
                c.requires.steps.many second
                (size_at d a b c.items-left-items.result.now c.items.result.now c.items-left-items.ensures c.items.ensures
                c.loop-left.left-index c.left-item.result first c.loop-left-test.true c.left-item.is)
                (all_sizes d a b c.items-left-items.result.now c.items.result.now c.items-left-items.ensures c.items.ensures
                second),
            exponents_at d a b c.items-left-items.result.now c.items.result.now c.items-left-items.ensures c.items.ensures
                c.loop-left.left-index c.left-item.result c.requires.exponents c.loop-left-test.true c.left-item.is,
          ),
        ),
      ),
    )

pub returns-in_err-add_meets-clause-limits : goal.returns-in_err-add_meets-clause-limits
returns-in_err-add_meets-clause-limits g c =
    let d : ℕ = g.row.D in
    error_answered {Y = ⊤} _ _ (met c.args.a.now c.args.b.now) c.from_residual.result c.in_err-add_meets.field-0.0
    c.new-starts.ensures.none (handed_back c.from_residual.result c.in_err-add_meets.field-0.0 c.from_residual.ensures.1)
    (stop_left d c.args.a.now c.args.b.now c.items-left-items.result.now c.items.result.now c.items-left-items.ensures
    c.items.ensures (meets_with g.row.D) _ _ _ c.loop-left.left-index c.left-item.result c.in_err-add_meets.field-0.0
    c.loop-left-test.true c.left-item.is c.loop-left.invariant.added c.in_err-add_meets.ensures.added)

pub loop-left-preserved : goal.loop-left-preserved
loop-left-preserved g c =
    let d : ℕ = g.row.D in
    record {
      step = c.add_meets.ensures.step ∙ c.loop-left.invariant.step;
      added =
          next_left d c.args.a.now c.args.b.now c.items-left-items.result.now c.items.result.now c.items-left-items.ensures
          c.items.ensures (meets_with g.row.D) _ _ _ c.loop-left.left-index c.left-item.result _ c.loop-left-test.true c.left-item.is
          c.loop-left.invariant.added c.in_ok-add_meets.ensures.added;
    }

-- all products are added at the end
all_added : (d : ℕ) (a b : Value d) (xs : Entries d) (old now : Polys) (i : ℕ) → xs ≡ a.entries → length xs ≤ i
    → HasAdded old (flat_map (λ left. flat_map (meets_with d (entry_of left)) (value_of b.entries)) (take i a.entries)) now
    → HasAdded old (met a b) now
all_added d a b xs old now i e l h = all_left d a b xs b.entries e refl (meets_with d) old now i l h

pub returns-clause-limits : goal.returns-clause-limits
returns-clause-limits g c =
    limits_answered _ _ (met c.args.a.now c.args.b.now) c.finish.result c.new-starts.ensures.none
    (all_added g.row.D c.args.a.now c.args.b.now c.items-left-items.result.now _ _ c.loop-left.left-index
    c.items-left-items.ensures c.loop-left-test.false c.loop-left.invariant.added)
    c.finish.ensures.memory

pub returns-clause-entries : goal.returns-clause-entries
returns-clause-entries g c =
    answer_entries (met c.args.a.now c.args.b.now) _ c.loop-left.starts.polys.entries c.finish.result
    c.new-starts.ensures.none
    (all_added g.row.D c.args.a.now c.args.b.now c.items-left-items.result.now _ _ c.loop-left.left-index
    c.items-left-items.ensures c.loop-left-test.false c.loop-left.invariant.added)
    c.finish.ensures.entries

pub returns-clause-coordinates : goal.returns-clause-coordinates
returns-clause-coordinates g c =
    if_ok _ _ c.finish.result
    (answer_entries (met c.args.a.now c.args.b.now) _ c.loop-left.starts.polys.entries c.finish.result
    c.new-starts.ensures.none
    (all_added g.row.D c.args.a.now c.args.b.now c.items-left-items.result.now _ _ c.loop-left.left-index
    c.items-left-items.ensures c.loop-left-test.false c.loop-left.invariant.added)
    c.finish.ensures.entries)
    (λ v e. is_meet g.row.D c.args.a.now c.args.b.now v c.requires.rank c.requires.steps e)

pub returns-clause-sizes : goal.returns-clause-sizes
returns-clause-sizes g c =
    if_ok _ _ c.finish.result
    (answer_entries (met c.args.a.now c.args.b.now) _ c.loop-left.starts.polys.entries c.finish.result
    c.new-starts.ensures.none
    (all_added g.row.D c.args.a.now c.args.b.now c.items-left-items.result.now _ _ c.loop-left.left-index
    c.items-left-items.ensures c.loop-left-test.false c.loop-left.invariant.added)
    c.finish.ensures.entries)
    (λ v e. meet_sizes g.row.D c.args.a.now c.args.b.now v e)
