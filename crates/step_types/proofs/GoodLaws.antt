-- What follows for a construction in which no statement has a fault.
use Rattle.std.proofs.Common.{◌≡◌, ◌⊎◌, inl, inr, ℕ, ◌≤◌, zero, Bool, true, false, not, ◌&&◌, cond, List, [], ◌∷◌, ◌++◌, map, Option, Some, None, is_some, Result, Ok, Err, sym, ap, ◌∙◌, subst, refl, arith, append_assoc, append-nil, nat_lt}
use Rattle.std.specs.Prelude.{Contains}
use Rattle.std.specs.List.{AllByRecursion, list_all}
use Rattle.std.proofs.lemmas.List.{map-append}
use Rattle.std.proofs.lemmas.List.Elements.{Contains-append_left, Contains-append_right}
use Rattle.std.proofs.lemmas.Bool.{ltb-false}
use Rattle.std.proofs.lemmas.Slice.Eq.{bytes_eq-Decides}
use Rattle.construction_reader.specs.Words.{◌is◌}
use Rattle.construction_reader.specs.Outcome.{◌>>=◌}
use Rattle.construction_reader.specs.Said.{Object, Row, Sentence, Account, sentences_of}
use Rattle.construction_reader.specs.Grammar.{params_of}
use Rattle.step_types.specs.declared.measure.Measure.{Measure}
use Rattle.step_types.specs.declared.fault.StepKind.{StepKind}
use Rattle.step_types.specs.declared.fault.StepKind.TheVariants.{Rank, Twice, Unknown, Rows, Degree}
use Rattle.step_types.specs.declared.fault.StepFault.{StepFault}
use Rattle.step_types.specs.Known.{Known, nothing, found, names_made, entries_of, known_with}
use Rattle.step_types.specs.Forms.{sentence_measure}
use Rattle.step_types.specs.Rules.{fits_rank, is_twice, knows, sentence_args, within, measured}
use Rattle.step_types.specs.Checks.{behind, taken, outcome, checked, IsGood, IsFault, objects_in, objects_of}
use Rattle.step_types.specs.Good.{IsFirstFault, names_in, names_of, all_made, IsFaultless}

-- ---- one row

-- a row without a fault has a measure
pub measure_behind : (known next : Known) (row : Row) (m : Result Measure StepKind) → behind known row m ≡ Ok next
    → (measure : Measure) × ((m ≡ Ok measure) × (next ≡ known_with known row.sentence measure))
measure_behind known next row (Ok measure) e = (measure, (refl, cc))
measure_behind known next row (Err kind) e = absurd cc

-- a faulty row has a kind
kind_behind : (known : Known) (row : Row) (fault : StepFault) (m : Result Measure StepKind)
    → behind known row m ≡ Err fault → (row.line ≡ fault.line) × (m ≡ Err fault.kind)
kind_behind known row fault (Ok measure) e = absurd cc
kind_behind known row fault (Err kind) e =
    let made : StepFault = record { line = row.line; kind = kind } in
    let same : made ≡ fault = cc in
    (ap (λ f. f.line) same, ap (λ f. Err f.kind) same)

-- the first row has no fault, where the rows have none
pub first_taken : (rank : ℕ) (known last : Known) (row : Row) (rows : List Row)
    → outcome rank known (row ∷ rows) ≡ Ok last → (next : Known) × ((taken rank known row ≡ Ok next) × (outcome rank next rows ≡ Ok last))
unfolding outcome
first_taken rank known last row rows e =
    elim (taken rank known row) as (λ r. (r >>= λ next. outcome rank next rows) ≡ Ok last
    → (next : Known) × ((r ≡ Ok next) × (outcome rank next rows ≡ Ok last))) [
      | Ok next ↦ λ (same : outcome rank next rows ≡ Ok last). (next, (refl, same))
      | Err fault ↦ λ same. absurd cc
    ] e

-- what is not a fault is the next choice
no_fault : (b : Bool) (kind : StepKind) (other : Result Measure StepKind) (m : Measure)
    → cond b (Err kind) other ≡ Ok m → (b ≡ false) × (other ≡ Ok m)
no_fault true kind other m e = absurd cc
no_fault false kind other m e = (refl, e)

not_false : (b : Bool) → not b ≡ false → b ≡ true
not_false true e = refl
not_false false e = absurd cc

limits : (o : Option Measure) (m : Measure) → within o ≡ Ok m → (o ≡ Some m) × ((m.rows ≤ 64) × (m.degree ≤ 1000))
unfolding within
limits None m e = absurd cc
limits (Some x) m e =
    let rows = no_fault (nat_lt 64 x.rows) Rows (cond (nat_lt 1000 x.degree) (Err Degree) (Ok x)) m e in
    let degree = no_fault (nat_lt 1000 x.degree) Degree (Ok x) m rows.1 in
    let same : x ≡ m = cc in (
      ap Some same,
      (
        subst (λ y. y.rows ≤ 64) same (ltb-false _ _ rows.0),
        subst (λ y. y.degree ≤ 1000) same (ltb-false _ _ degree.0),
      ),
    )

-- what is known of a sentence that has this measure
pub record IsMeasured (rank : ℕ) (known : Known) (s : Sentence) (m : Measure) : Type 0 where
  pub fits : fits_rank rank s ≡ true
  pub knows_args : list_all (knows known) (sentence_args s) ≡ true
  pub measure : sentence_measure rank known.made s ≡ Some m
  pub rows : m.rows ≤ 64
  pub degree : m.degree ≤ 1000

pub measured_so : (rank : ℕ) (known : Known) (s : Sentence) (m : Measure) → measured rank known s ≡ Ok m
    → IsMeasured rank known s m
unfolding measured
measured_so rank known s m e =
    let fits = no_fault (not (fits_rank rank s)) Rank _ m e in
    let once = no_fault (is_twice known s) Twice _ m fits.1 in
    let knows_args = no_fault (not (list_all (knows known) (sentence_args s))) Unknown _ m once.1 in
    let small = limits (sentence_measure rank known.made s) m knows_args.1 in
    record {
      fits = not_false _ fits.0;
      knows_args = not_false _ knows_args.0;
      measure = small.0;
      rows = small.1.0;
      degree = small.1.1;
    }

-- ---- all rows

-- the parameters at the end are those of the sentences
pub params_at_end : (rank : ℕ) (known last : Known) (rows : List Row) → outcome rank known rows ≡ Ok last
    → last.params ≡ params_of known.params (sentences_of rows)
unfolding outcome
params_at_end rank known last [] e =
    let same : known ≡ last = cc in
    ap (λ k. k.params) (sym same)
params_at_end rank known last (row ∷ rows) e =
    let first = first_taken rank known last row rows e in
    let measure = measure_behind known first.0 row (measured rank known row.sentence) first.1.0 in
    params_at_end rank first.0 last rows first.1.1
    ∙ ap (λ k. params_of k.params (sentences_of rows)) measure.1.1

-- the names of objects of one measure
names-entries : (m : Measure) (names : List (List ℕ)) → map (λ entry. entry.0) (entries_of m names) ≡ names
names-entries m [] = refl
names-entries m (name ∷ names) = ap (λ ns. name ∷ ns) (names-entries m names)

-- the objects at the end are those before, and behind them those of the sentences
pub made_at_end : (rank : ℕ) (known last : Known) (rows : List Row) → outcome rank known rows ≡ Ok last
    → names_of last.made ≡ names_of known.made ++ all_made rows
unfolding outcome
made_at_end rank known last [] e =
    let same : known ≡ last = cc in
    ap (λ k. names_of k.made) (sym same) ∙ sym (append-nil (names_of known.made))
made_at_end rank known last (row ∷ rows) e =
    let first = first_taken rank known last row rows e in
    let measure = measure_behind known first.0 row (measured rank known row.sentence) first.1.0 in
    let made : names_of first.0.made ≡ names_of known.made ++ names_made row.sentence =
    ap (λ k. names_of k.made) measure.1.1
    ∙ map-append (λ (entry : List ℕ × Measure). entry.0) known.made (entries_of measure.0 (names_made row.sentence))
    ∙ ap (λ ns. names_of known.made ++ ns) (names-entries measure.0 (names_made row.sentence)) in
    made_at_end rank first.0 last rows first.1.1 ∙ ap (λ ns. ns ++ all_made rows) made
    ∙ append_assoc (names_of known.made) (names_made row.sentence) (all_made rows)

-- the rows before a row have no fault, and it has none
pub reached : (rank : ℕ) (known last : Known) (front : List Row) (row : Row) (back : List Row)
    → outcome rank known (front ++ row ∷ back) ≡ Ok last → (there : Known) × ((outcome rank known front ≡ Ok there)
    × ((measure : Measure) × (measured rank there row.sentence ≡ Ok measure)))
unfolding outcome
reached rank known last [] row back e =
    let first = first_taken rank known last row back e in
    let measure = measure_behind known first.0 row (measured rank known row.sentence) first.1.0 in
    (known, (refl, (measure.0, measure.1.0)))
reached rank known last (before ∷ front) row back e =
    let first = first_taken rank known last before (front ++ row ∷ back) e in
    let more = reached rank first.0 last front row back first.1.1 in
    (more.0, (ap (λ t. t >>= λ next. outcome rank next front) first.1.0 ∙ more.1.0, more.1.1))

-- ---- names that are known

-- a true choice is of two that are true
pub both_true : (a b : Bool) → (a && b) ≡ true → (a ≡ true) × (b ≡ true)
both_true true b e = (refl, e)
both_true false b e = absurd cc

-- what is found is one of the names
pub found_name : (name : List ℕ) (made : List (List ℕ × Measure)) → is_some (found name made) ≡ true
    → Contains (names_of made) name
found_name name [] e = absurd cc
found_name name (entry ∷ made) e =
    let decides = bytes_eq-Decides name entry.0 in
    (elim (name is entry.0) as (λ b. (b ≡ true → name ≡ entry.0)
    → is_some (cond b (Some entry.1) (found name made)) ≡ true
    → Contains (entry.0 ∷ names_of made) name) [
      | true ↦ λ same found_here.
          Contains-append_left (entry.0 ∷ []) (names_of made) name (zero, omega arith, sym (same refl))
      | false ↦ λ same found_behind.
          Contains-append_right (entry.0 ∷ []) (names_of made) name (found_name name made found_behind)
    ]) decides.0 e

-- what holds of each of both holds of each of them together
pub each_append : {A : Type 0} (P : A → Type 0) (xs ys : List A) → AllByRecursion P xs → AllByRecursion P ys
    → AllByRecursion P (xs ++ ys)
each_append P [] ys left right = right
each_append P (x ∷ xs) ys left right = (left.0, each_append P xs ys left.1 right)

-- each name of a known object is one of the names
known_names : (known : Known) (o : Object) → knows known o ≡ true
    → AllByRecursion (λ name. Contains (names_of known.made) name) (names_in o)
known_names known (Object.Named name) e = (found_name name known.made e, tt)
known_names known (Object.Join a b) e =
    let two = both_true (knows known a) (knows known b) e in
    each_append (λ name. Contains (names_of known.made) name) (names_in a) (names_in b) (known_names known a two.0)
    (known_names known b two.1)
known_names known (Object.Meet a b) e =
    let two = both_true (knows known a) (knows known b) e in
    each_append (λ name. Contains (names_of known.made) name) (names_in a) (names_in b) (known_names known a two.0)
    (known_names known b two.1)

known_args : (known : Known) (objects : List Object) → list_all (knows known) objects ≡ true
    → AllByRecursion (λ o. AllByRecursion (λ name. Contains (names_of known.made) name) (names_in o)) objects
known_args known [] e = tt
known_args known (o ∷ objects) e =
    let two = both_true (knows known o) (list_all (knows known) objects) e in
    (known_names known o two.0, known_args known objects two.1)

-- ---- the laws

-- each row of a good construction has no fault and speaks of what was made before
pub faultless : (c : Account) (front : List Row) (row : Row) (back : List Row) → IsGood c
    → c.rows ≡ front ++ row ∷ back → IsFaultless c front row
faultless c front row back good split =
    let there = reached c.rank nothing good.0 front row back
    (ap (outcome c.rank nothing) (sym split) ∙ good.1) in
    let so = measured_so c.rank there.0 row.sentence there.1.1.0 there.1.1.1 in
    let made : names_of there.0.made ≡ all_made front = made_at_end c.rank nothing there.0 front there.1.0 in
    record {
      known = there.0;
      measure = there.1.1.0;
      reached = there.1.0;
      measured_so = there.1.1.1;
      rows = so.rows;
      degree = so.degree;
      before =
          subst (λ (names : List (List ℕ)).
          AllByRecursion (λ o. AllByRecursion (λ name. Contains names name) (names_in o)) (sentence_args row.sentence))
          made (known_args there.0 (sentence_args row.sentence) so.knows_args);
    }

-- the objects of a good construction are those that its statements make
pub all_objects : (c : Account) → IsGood c → names_of (objects_of c) ≡ all_made c.rows
all_objects c good =
    ap (λ r. names_of (objects_in r)) good.1 ∙ made_at_end c.rank nothing good.0 c.rows good.1

-- a construction is good or has a fault
pub either : (c : Account) → IsGood c ⊎ ((fault : StepFault) × IsFault c fault)
either c =
    elim (checked c) as (λ r. ((known : Known) × (r ≡ Ok known)) ⊎ ((fault : StepFault) × (r ≡ Err fault))) [
      | Ok known ↦ inl (known, refl)
      | Err fault ↦ inr (fault, refl)
    ]

-- and not both
pub not_both : (c : Account) (fault : StepFault) → IsGood c → IsFault c fault → ⊥
not_both c fault good faulty =
    let both : Ok good.0 ≡ Err fault = sym good.1 ∙ faulty in cc

first_at : (rank : ℕ) (known : Known) (rows : List Row) (fault : StepFault) → outcome rank known rows ≡ Err fault
    → (front : List Row) × ((row : Row) × ((back : List Row) × ((there : Known) × ((rows ≡ front ++ row ∷ back)
    × ((outcome rank known front ≡ Ok there)
    × ((row.line ≡ fault.line) × (measured rank there row.sentence ≡ Err fault.kind)))))))
unfolding outcome
first_at rank known [] fault e = absurd cc
first_at rank known (row ∷ rows) fault e =
    elim (taken rank known row) as (λ r. taken rank known row ≡ r → (r >>= λ next. outcome rank next rows) ≡ Err fault
    → (front : List Row) × ((at : Row) × ((back : List Row) × ((there : Known) × ((row ∷ rows ≡ front ++ at ∷ back)
    × ((outcome rank known front ≡ Ok there)
    × ((at.line ≡ fault.line) × (measured rank there at.sentence ≡ Err fault.kind)))))))) [
      | Ok next ↦ λ takes behind_it.
          let more = first_at rank next rows fault behind_it in (
            row ∷ more.0,
            (
              more.1.0,
              (
                more.1.1.0,
                (
                  more.1.1.1.0,
                  (
                    ap (λ rs. row ∷ rs) more.1.1.1.1.0,
                    (ap (λ t. t >>= λ n. outcome rank n more.0) takes ∙ more.1.1.1.1.1.0, more.1.1.1.1.1.1),
                  ),
                ),
              ),
            ),
          )
      | Err other ↦ λ takes same. (
        [],
        (
          row,
          (
            rows,
            (
              known,
              (
                refl,
                (
                  refl,
                  kind_behind known row fault (measured rank known row.sentence) (takes ∙ same),
                ),
              ),
            ),
          ),
        ),
      )
    ] refl e

-- the fault of a construction is that of its first faulty row
pub first : (c : Account) (fault : StepFault) → IsFault c fault → IsFirstFault c fault
first c fault e =
    let at = first_at c.rank nothing c.rows fault e in
    record {
      front = at.0;
      row = at.1.0;
      known = at.1.1.1.0;
      reached = record { back = at.1.1.0; split = at.1.1.1.1.0; faultless = at.1.1.1.1.1.0 };
      line = at.1.1.1.1.1.1.0;
      kind = at.1.1.1.1.1.1.1;
    }

decides : (rank : ℕ) (known there : Known) (front : List Row) (row : Row) (back : List Row) (fault : StepFault)
    → outcome rank known front ≡ Ok there → row.line ≡ fault.line → measured rank there row.sentence ≡ Err fault.kind
    → outcome rank known (front ++ row ∷ back) ≡ Err fault
unfolding outcome
decides rank known there [] row back fault faultless line kind =
    let same : known ≡ there = cc in
    ap (λ k. behind known row (measured rank k row.sentence) >>= λ next. outcome rank next back) same
    ∙ ap (λ m. behind known row m >>= λ next. outcome rank next back) kind
    ∙ ap (λ n. Err (record { line = n; kind = fault.kind })) line
decides rank known there (before ∷ front) row back fault faultless line kind =
    let first = first_taken rank known there before front faultless in
    ap (λ t. t >>= λ next. outcome rank next (front ++ row ∷ back)) first.1.0
    ∙ decides rank first.0 there front row back fault first.1.1 line kind

-- and the first faulty row is the fault of the construction
pub is_fault : (c : Account) (fault : StepFault) → IsFirstFault c fault → IsFault c fault
is_fault c fault at =
    ap (outcome c.rank nothing) at.reached.split
    ∙ decides c.rank nothing at.known at.front at.row at.reached.back fault at.reached.faultless at.line at.kind
