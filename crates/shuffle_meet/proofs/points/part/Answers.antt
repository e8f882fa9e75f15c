use Rattle.std.proofs.Common.{◌≡◌, ℕ, ◌≤◌, ◌<◌, ◌+◌, List, length, ap, ◌∙◌, sym, subst, arith, slice_set, get_or, true, false}
use Rattle.bracket_terms.specs.Joins.{points_of}
use Rattle.bracket_terms.proofs.ExtensorLaws.{length-points_of}
use Rattle.shuffle_meet.proofs.Parts.{IsFront, marked, front_taken, front_left, marked_where, unmarked_where, front_all, extensor_of}
use Rattle.shuffle_meet.proofs.points.part.Goals as goal
use Rattle.shuffle_meet.proofs.points.part.Goals.{then-places-place-eq1, else-places-place-eq1}

-- one place more
next : (mask : ℕ) (xs items : List ℕ) (i size later : ℕ) (points left : List ℕ) → IsFront mask xs i size points → items ≡ xs
    → i < length items → length xs ≤ 4 → marked mask i ≡ true → later ≡ size + 1
    → left ≡ slice_set points size (get_or items i 0) → IsFront mask xs (i + 1) later left
next mask xs items i size later points left f same h few e m n =
    subst (λ (k : ℕ). IsFront mask xs (i + 1) k left) (sym m)
    (subst (IsFront mask xs (i + 1) (size + 1))
    (sym (n ∙ ap (λ (ys : List ℕ). slice_set points size (get_or ys i 0)) same))
    (front_taken mask xs i size points f (subst (λ (ys : List ℕ). i < length ys) same h) few e))

stays : (mask : ℕ) (xs items : List ℕ) (i size later : ℕ) (points left : List ℕ) → IsFront mask xs i size points → items ≡ xs
    → i < length items → marked mask i ≡ false → later ≡ size → left ≡ points → IsFront mask xs (i + 1) later left
stays mask xs items i size later points left f same h e m n =
    subst (λ (k : ℕ). IsFront mask xs (i + 1) k left) (sym m)
    (subst (IsFront mask xs (i + 1) size) (sym n)
    (front_left mask xs i size points f (subst (λ (ys : List ℕ). i < length ys) same h) e))

pub loop-place-preserved : goal.loop-place-preserved
loop-place-preserved c =
    let xs : List ℕ = points_of c.args.extensor.now in
    let few : length xs ≤ 4 =
    omega (
      arith,
      length-points_of c.args.extensor.now.size c.args.extensor.now.points c.args.extensor.now.formed,
      c.args.extensor.now.formed.few,
    ) in
    elim c.if-places-place-eq1.branch [
      | then-places-place-eq1 w ↦
          next c.args.places xs c.used-point-items.result.now c.loop-place.place c.loop-place.size _ c.loop-place.points _
          c.loop-place.invariant c.used-point-items.ensures c.loop-place-test.true few
          (marked_where c.args.places c.loop-place.place w.if-places-place-eq1.true) w.size-is w.points-is
      | else-places-place-eq1 w ↦
          stays c.args.places xs c.used-point-items.result.now c.loop-place.place c.loop-place.size _ c.loop-place.points _
          c.loop-place.invariant c.used-point-items.ensures c.loop-place-test.true
          (unmarked_where c.args.places c.loop-place.place w.if-places-place-eq1.false) w.size-is w.points-is
    ]

pub invariant_of-result : goal.invariant_of-result
invariant_of-result c =
    let same : length c.used-point-items.result.now ≡ length (points_of c.args.extensor.now) =
    ap length c.used-point-items.ensures in
    let long : length (points_of c.args.extensor.now) ≡ c.args.extensor.now.size =
    length-points_of c.args.extensor.now.size c.args.extensor.now.points c.args.extensor.now.formed in
    let few : c.args.extensor.now.size ≤ 4 = c.args.extensor.now.formed.few in
    record {
      formed =
          extensor_of c.args.places (points_of c.args.extensor.now) c.loop-place.place c.loop-place.size c.loop-place.points
          c.loop-place.invariant c.args.extensor.now.formed.increasing (omega arith) (omega arith);
    }

pub returns : goal.returns
returns c =
    let same : length c.used-point-items.result.now ≡ length (points_of c.args.extensor.now) =
    ap length c.used-point-items.ensures in
    let long : length (points_of c.args.extensor.now) ≡ c.args.extensor.now.size =
    length-points_of c.args.extensor.now.size c.args.extensor.now.points c.args.extensor.now.formed in
    let few : c.args.extensor.now.size ≤ 4 = c.args.extensor.now.formed.few in
    front_all c.args.places (points_of c.args.extensor.now) c.loop-place.place c.loop-place.size c.loop-place.points
    c.loop-place.invariant (omega arith) (omega arith)
