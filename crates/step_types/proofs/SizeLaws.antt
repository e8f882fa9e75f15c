-- How large the objects of a good construction are.
use Rattle.std.proofs.Common.{◌≡◌, ℕ, ◌<◌, true, false, cond, List, [], ◌∷◌, Option, Some, None, Ok, sym, ap, ◌∙◌, subst, refl, arith, nat_lt}
use Rattle.std.specs.Prelude.{◌==◌}
use Rattle.std.specs.List.{AllByRecursion}
use Rattle.std.proofs.lemmas.Bool.{ltb-true, eqb-true}
use Rattle.construction_reader.specs.declared.types.ObjectKind.{ObjectKind}
use Rattle.construction_reader.specs.declared.types.ObjectKind.TheVariants.{Point, Line, Plane}
use Rattle.construction_reader.specs.Said.{Row, Sentence, Account}
use Rattle.step_types.specs.declared.measure.Measure.{Measure}
use Rattle.step_types.specs.Outcome.{◌>>=◌}
use Rattle.step_types.specs.Measures.{free_point, of_step, kind_step}
use Rattle.step_types.specs.Known.{Known, nothing, names_made, entries_of}
use Rattle.step_types.specs.Forms.{recipe_measure, sentence_measure}
use Rattle.step_types.specs.Rules.{recipe_fits, measured}
use Rattle.step_types.specs.Checks.{outcome, IsGood, objects_in, objects_of}
use Rattle.step_types.specs.Good.{IsSized}
use Rattle.step_types.proofs.GoodLaws.{measure_behind, first_taken, IsMeasured, measured_so, each_append, both_true}

some_step : (step : ℕ) (o : Option Measure) (m : Measure) → (o >>= of_step step) ≡ Some m → m.step ≡ step
unfolding of_step
some_step step None m e = absurd cc
some_step step (Some x) m e =
    (elim (x.step == step) as (λ b. (b ≡ true → x.step ≡ step) → cond b (Some x) None ≡ Some m → m.step ≡ step) [
      | true ↦ λ same kept. let one : x ≡ m = cc in ap (λ y. y.step) (sym one) ∙ same refl
      | false ↦ λ same kept. absurd cc
    ]) (eqb-true x.step step) e

least_step : (kind : ObjectKind) → 0 < kind_step kind
least_step Point = omega arith
least_step Line = omega arith
least_step Plane = omega arith

sized_entries : (rank : ℕ) (m : Measure) (names : List (List ℕ)) → IsSized rank m
    → AllByRecursion (λ entry. IsSized rank entry.1) (entries_of m names)
sized_entries rank m [] sized = tt
sized_entries rank m (name ∷ names) sized = (sized, sized_entries rank m names sized)

sized_made : (rank : ℕ) (known : Known) (s : Sentence) (m : Measure) → 1 < rank → IsMeasured rank known s m
    → AllByRecursion (λ entry. IsSized rank entry.1) (entries_of m (names_made s))
unfolding sentence_measure
sized_made rank known (Sentence.Free names) m more so =
    let one : free_point ≡ m = let whole = so.measure in cc in
    let step : m.step ≡ 1 = ap (λ y. y.step) (sym one) in
    sized_entries rank m names
    (record { least = omega arith; below = omega arith; rows = so.rows; degree = so.degree })
sized_made rank known (Sentence.Define kind name recipe) m more so =
    let step = some_step (kind_step kind) (recipe_measure rank known.made recipe) m so.measure in
    let fits = both_true (nat_lt (kind_step kind) rank) (recipe_fits rank recipe) so.fits in
    let below = ltb-true (kind_step kind) rank fits.0 in
    let least = least_step kind in
    (record { least = omega arith; below = omega arith; rows = so.rows; degree = so.degree }, tt)
sized_made rank known (Sentence.Conclude claim) m more so = tt

sized_at_end : (rank : ℕ) (known last : Known) (rows : List Row) → 1 < rank
    → AllByRecursion (λ entry. IsSized rank entry.1) known.made → outcome rank known rows ≡ Ok last
    → AllByRecursion (λ entry. IsSized rank entry.1) last.made
unfolding outcome
sized_at_end rank known last [] more sized e =
    let same : known ≡ last = cc in
    subst (λ k. AllByRecursion (λ entry. IsSized rank entry.1) k.made) same sized
sized_at_end rank known last (row ∷ rows) more sized e =
    let first = first_taken rank known last row rows e in
    let measure = measure_behind known first.0 row (measured rank known row.sentence) first.1.0 in
    let so = measured_so rank known row.sentence measure.0 measure.1.0 in
    let all = each_append (λ entry. IsSized rank entry.1) known.made (entries_of measure.0 (names_made row.sentence))
    sized (sized_made rank known row.sentence measure.0 more so) in
    sized_at_end rank first.0 last rows more
    (subst (λ k. AllByRecursion (λ entry. IsSized rank entry.1) k.made) (sym measure.1.1) all) first.1.1

-- each object of a good construction has its step and size
pub all_sized : (c : Account) → 1 < c.rank → IsGood c → AllByRecursion (λ entry. IsSized c.rank entry.1) (objects_of c)
all_sized c more good =
    subst (λ r. AllByRecursion (λ entry. IsSized c.rank entry.1) (objects_in r)) (sym good.1)
    (sized_at_end c.rank nothing good.0 c.rows more tt good.1)
