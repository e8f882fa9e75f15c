-- Points by their names, one after the other, and brackets of points that rise.
use Rattle.std.proofs.Common.{◌≡◌, ℕ, zero, suc, ◌+◌, ◌-◌, ◌<◌, ◌≤◌, ◌==◌, ◌%◌, true, false, List, [], ◌∷◌, ◌++◌, map}
use Rattle.std.proofs.Common.{length, take, get_or, replicate, refl, sym, ap, ap₂, ◌∙◌, arith, append_assoc}
use Rattle.std.proofs.Common.{append-nil}
use Rattle.std.specs.Prelude.{slice_set, nat_lt, count_by}
use Rattle.std.specs.Cmp.{nat_cmp_total}
use Rattle.std.specs.List.{AllByRecursion}
use Rattle.std.specs.Ordering.{nat_cmp}
use Rattle.std.proofs.Math.Seq.{set-append_seam}
use Rattle.std.proofs.lemmas.Bool.{le-ltb}
use Rattle.std.proofs.lemmas.List.{take_more, map_push}
use Rattle.coordinate_model.specs.Sequences.{inversions, is_odd, repeats}
use Rattle.coordinate_model.specs.Syzygy.{sorted}
use Rattle.coordinate_model.proofs.Counts.{many, one_if}
use Rattle.coordinate_model.proofs.Exponents.{IsAscending}
use Rattle.coordinate_model.proofs.Increasing.{IsIncreasing, increasing_all}
use Rattle.coordinate_model.proofs.Orders.{IsLeast}
use Rattle.coordinate_model.proofs.Sorting.{gt-lt, count-many}
use Rattle.coordinate_model.proofs.StdSort.{increasing-repeats}
use Rattle.coordinate_model.proofs.WordLemmas.{ordered_ascending}
use Rattle.bracket_terms.specs.Signed.{sorted_with_sign}
use Rattle.bracket_terms.specs.declared.signed.Signed.{Signed}
use Rattle.bracket_terms.specs.declared.signed.Signed.TheVariants.{Plus}
use Rattle.step_types.specs.declared.names.Names.{Names}
use Rattle.proof_text.specs.declared.spelling.Row as code
use Rattle.proof_text.specs.Forms.{IsRowOf}
use Rattle.proof_text.specs.Meant.{points_meant, is_rising}
use Rattle.proof_text.specs.Seen.{row_seen}
use Rattle.proof_text.proofs.OrderLaws.{rising_increases}

-- one place more is written
pub one_written : (f : List ℕ → ℕ) (words : List (List ℕ)) (word : List ℕ) (n i : ℕ) (points : List ℕ)
    → i < length words
    → length words ≤ n → word ≡ get_or words i word → points ≡ map f (take i words) ++ replicate (n - i) 0
    → slice_set points i (f word) ≡ map f (take (i + 1) words) ++ replicate (n - (i + 1)) 0
one_written f words word n i points below room here so_far =
    let done : List ℕ = map f (take i words) in
    let rest : List ℕ = replicate (n - (i + 1)) 0 in
    let one : n - i ≡ suc (n - (i + 1)) = omega arith in
    let left : replicate (n - i) 0 ≡ 0 ∷ rest = ap (λ m. replicate m 0) one in
    let long : length done ≡ i = length-map-take f words i (omega arith) in
    ap (λ ps. slice_set ps i (f word)) (so_far ∙ ap (λ r. done ++ r) left)
    ∙ ap (λ j. slice_set (done ++ (0 ∷ rest)) j (f word)) (sym long)
    ∙ set-append_seam done 0 rest (f word)
    ∙ sym (append_assoc done (f word ∷ []) rest)
    ∙ ap (λ ps. ps ++ rest) (sym (map_push f (take i words) word)
    ∙ ap (λ w. map f (take i words ++ w ∷ [])) here ∙ ap (map f) (sym (take_more words i word below)))
  where
    length-map-take : (f : List ℕ → ℕ) (words : List (List ℕ)) (i : ℕ) → i ≤ length words
        → length (map f (take i words)) ≡ i
    length-map-take f words zero h = refl
    length-map-take f [] (suc i) h = absurd (omega arith)
    length-map-take f (w ∷ words) (suc i) h = ap suc (length-map-take f words i (omega arith))

-- ---- brackets

none_below : (p : ℕ) (ps : List ℕ) → AllByRecursion (λ q. p < q) ps → many (λ q. nat_lt q p) ps ≡ 0
none_below p [] h = refl
none_below p (q ∷ ps) h =
    let l : p < q = h.0 in
    let here : one_if (nat_lt q p) ≡ 0 = ap one_if (le-ltb q p (omega arith)) in
    let rest : many (λ q. nat_lt q p) ps ≡ 0 = none_below p ps h.1 in
    omega arith

no_inversion : (ps : List ℕ) → IsIncreasing ps → inversions ps ≡ 0
no_inversion [] h = refl
no_inversion (p ∷ ps) h =
    let here : count_by (λ q. nat_lt q p) ps ≡ 0 = count-many (λ q. nat_lt q p) ps ∙ none_below p ps h.0 in
    let rest : inversions ps ≡ 0 = no_inversion ps h.1 in
    omega arith

least : (p : ℕ) (ps : List ℕ) → AllByRecursion (λ q. p < q) ps → IsLeast nat_cmp_total p ps
least p [] h = tt
least p (q ∷ ps) h =
    let l : p < q = h.0 in
    (gt-lt p q ∙ le-ltb q p (omega arith), least p ps h.1)

ascends : (ps : List ℕ) → IsIncreasing ps → IsAscending nat_cmp_total ps
ascends [] h = tt
ascends (p ∷ ps) h = (least p ps h.0, ascends ps h.1)

-- the bracket of points that rise is that of these points
pub rising_plus : {d : ℕ} (points : List ℕ) → is_rising points ≡ true
    → ◌≡◌ {A = Signed d} (sorted_with_sign points) (Plus points)
rising_plus points rises =
    let increases = rising_increases points rises in
    let all = increasing_all points increases in
    let once : repeats points ≡ false = increasing-repeats points increases in
    let even : is_odd points ≡ false = ap (λ n. n % 2 == 1) (no_inversion points all) in
    let same : sorted points ≡ points = ordered_ascending nat_cmp nat_cmp_total points (ascends points all) in
    rw (once, even, same) refl

pub plus_points : {d : ℕ} (points others : List ℕ) → ◌≡◌ {A = Signed d} (Plus points) (Plus others) → points ≡ others
plus_points points others e = cc

-- ---- rows

-- a row of the term has so many names
pub row_count : (d : ℕ) (rows : List code.Row) (i : ℕ) (row : code.Row) → AllByRecursion (IsRowOf d) (map row_seen rows)
    → i < length rows → row ≡ get_or rows i row → length row.names.items ≡ d
row_count d [] i row each below here = absurd (omega arith)
row_count d (r ∷ rows) zero row each below here = ap (λ (q : code.Row). length q.names.items) here ∙ each.0.count
row_count d (r ∷ rows) (suc i) row each below here = row_count d rows i row each.1 (omega arith) here

-- the points of one row more
pub row_pushed : (names : Names) (d : ℕ) (done : List (List ℕ)) (rows : List code.Row) (i : ℕ) (row : code.Row)
    (points : List ℕ) → done ≡ map (points_meant names) (map row_seen (take i rows)) → i < length rows
    → row ≡ get_or rows i row → length row.names.items ≡ d
    → points ≡ points_meant names row.names.items ++ replicate (d - length row.names.items) 0
    → done ++ points ∷ [] ≡ map (points_meant names) (map row_seen (take (i + 1) rows))
row_pushed names d done rows i row points so_far below here count same =
    let none : d - length row.names.items ≡ 0 = omega arith in
    let whole : points ≡ points_meant names row.names.items =
    same ∙ ap (λ n. points_meant names row.names.items ++ replicate n 0) none
    ∙ append-nil (points_meant names row.names.items) in
    ap₂ (λ ps p. ps ++ p ∷ []) so_far whole
    ∙ sym (map_push (points_meant names) (map row_seen (take i rows)) (row_seen row))
    ∙ ap (map (points_meant names)) (sym (map_push row_seen (take i rows) row)
    ∙ ap (λ (q : code.Row). map row_seen (take i rows ++ q ∷ [])) here ∙ ap (map row_seen)
    (sym (take_more rows i row below)))
