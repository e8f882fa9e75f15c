-- Terms and uses of syzygies by their spelling.
use Rattle.std.proofs.Common.{◌≡◌, ℕ, ◌-◌, ◌^◌, ◌<◌, Bool, true, false, List, ◌∷◌, ◌++◌, map, length}
use Rattle.std.proofs.Common.{Ok, Err, ℤ, sym, ap, subst, ◌∙◌}
use Rattle.std.specs.Prelude.{◌&&◌}
use Rattle.std.specs.List.{list_all}
use Rattle.std.proofs.lemmas.List.Folds.{list_all-map}
use Rattle.coordinate_model.specs.Sequences.{IsRank}
use Rattle.coordinate_model.specs.Key.{Key, row_cmp}
use Rattle.coordinate_model.specs.Words.{ordered}
use Rattle.coordinate_model.proofs.KeySumLaws as sums
use Rattle.bracket_terms.specs.Uses.{IsLogUse, use_by}
use Rattle.step_types.specs.declared.names.Names.{Names}
use Rattle.proof_text.specs.declared.fault.ProofKind.TheVariants as kind
use Rattle.proof_text.specs.declared.spelling.Spelt as code_spelt
use Rattle.proof_text.specs.declared.fault.LineError.{LineError}
use Rattle.proof_text.specs.declared.fault.LineError.TheVariants as errors
use Rattle.proof_text.specs.Numbers.{is_counted}
use Rattle.proof_text.specs.Forms.{Form, Power, Spelt, IsForm, IsRowOf}
use Rattle.proof_text.specs.Meant.{is_among, place_of, points_meant, exponents_meant, integer_meant, use_meant}
use Rattle.proof_text.specs.Meant.{is_rising, is_ascending, is_ordered}
use Rattle.proof_text.specs.Kinds.{powers_named, is_named, is_unnamed, is_misnumbered}
use Rattle.proof_text.specs.Seen.{row_seen, spelt_seen}
use Rattle.proof_text.specs.Shapes.{powers_of}
use Rattle.proof_text.specs.Ordered.{ordered_rows, ordered_key, ordered_use}
use Rattle.proof_text.specs.Outcome.{AreNames}
use Rattle.proof_text.specs.Taken.{Refuses}
use Rattle.proof_text.proofs.FormLaws.{not_false}
use Rattle.proof_text.proofs.NumberLaws.{and_true}
use Rattle.proof_text.proofs.NameLaws.{place_below}
use Rattle.proof_text.proofs.OrderLaws.{ascending_sorted}
use Rattle.proof_text.proofs.TakenSteps.{given_ok, given_err}
use Rattle.proof_text.proofs.UseLaws.{use_read}

-- ---- parameters

named_powers : (names : Names) (t : code_spelt.Spelt) → is_named names (spelt_seen t) ≡ true
    → list_all (λ (power : Power). is_among names.params power.name) (powers_of t.behind).0 ≡ true
named_powers names t named =
    (and_true (powers_named names (powers_of t.behind).0)
    (list_all (λ row. list_all (is_among names.free) row) (map row_seen t.rows.items)) named).0

pub term_powers_named : (names : Names) (t : code_spelt.Spelt) → is_unnamed names (Form.Term (spelt_seen t)) ≡ false
    → list_all (λ (power : Power). is_among names.params power.name) (powers_of t.behind).0 ≡ true
term_powers_named names t named = named_powers names t (not_false _ named)

pub use_powers_named : (names : Names) (t : code_spelt.Spelt) (alpha beta gamma : List (List ℕ))
    → is_unnamed names (Form.Use (spelt_seen t) alpha beta gamma) ≡ false
    → list_all (λ (power : Power). is_among names.params power.name) (powers_of t.behind).0 ≡ true
use_powers_named names t alpha beta gamma named =
    named_powers names t
    (and_true (is_named names (spelt_seen t)) (list_all (is_among names.free) (alpha ++ (beta ++ gamma)))
    (not_false _ named)).0

pub powers_numbered : (t : code_spelt.Spelt) → is_misnumbered (Form.Term (spelt_seen t)) ≡ false
    → list_all (λ (power : Power). is_counted 1000 power.digits) (powers_of t.behind).0 ≡ true
powers_numbered t numbered =
    (and_true (is_counted (2 ^ 127 - 1) t.digits)
    (list_all (λ power. is_counted 1000 power.digits) (powers_of t.behind).0)
    (not_false _ numbered)).1

-- what holds of all holds of the first and of the others
pub all_parts : {A : Type 0} (p : A → Bool) (all : List A) (x : A) (xs : List A) → list_all p all ≡ true → all ≡ x ∷ xs
    → (p x ≡ true) × (list_all p xs ≡ true)
all_parts p all x xs each here = and_true (p x) (list_all p xs) (sym (ap (list_all p) here) ∙ each)

-- the first parameter has a place
pub first_place : (names : Names) (powers : List Power) (power : Power) (rest : List Power)
    → list_all (λ (power : Power). is_among names.params power.name) powers ≡ true → powers ≡ power ∷ rest
    → place_of names.params power.name < length names.params
first_place names powers power rest named here =
    place_below names.params power.name
    (all_parts (λ (power : Power). is_among names.params power.name) powers power rest named here).0

-- ---- orders

pub ordered_is : (names : Names) (t : code_spelt.Spelt) (rows : List (List ℕ)) → rows ≡ map (points_meant names)
    (map row_seen t.rows.items)
    → is_ordered names (spelt_seen t)
    ≡ list_all is_rising rows && is_ascending rows
    && is_rising (map (λ (power : Power). place_of names.params power.name) (powers_of t.behind).0)
ordered_is names t rows same =
    let last = is_rising (map (λ (power : Power). place_of names.params power.name) (powers_of t.behind).0) in
    ap (λ bs. bs && is_ascending (map (points_meant names) (map row_seen t.rows.items)) && last)
    (sym (list_all-map is_rising (points_meant names) (map row_seen t.rows.items)))
    ∙ ap (λ rs. list_all is_rising rs && is_ascending rs && last) (sym same)

-- rows that are found rise in each
pub found_rising : (names : Names) (t : code_spelt.Spelt) (rows : List (List ℕ)) → rows ≡ map (points_meant names)
    (map row_seen t.rows.items)
    → is_ordered names (spelt_seen t) ≡ true → list_all is_rising rows ≡ true
found_rising names t rows same good =
    (and_true (list_all is_rising rows) (is_ascending rows)
    (and_true (list_all is_rising rows && is_ascending rows)
    (is_rising (map (λ (power : Power). place_of names.params power.name) (powers_of t.behind).0))
    (sym (ordered_is names t rows same) ∙ good)).0).0

-- ---- keys

pub key_made : (names : Names) (t : Spelt (List (List ℕ))) (rows made : List (List ℕ)) (exponents : List ℕ)
    → ordered_rows names t ≡ Ok rows → exponents ≡ exponents_meant names t.powers → made ≡ ordered row_cmp rows
    → ordered_key names t ≡ Ok (record { exponents = exponents; rows = made })
key_made names t rows made exponents found es rs =
    let here = given_ok _ (map (points_meant names) t.rows) rows kind.Order found in
    let ascends : is_ascending (map (points_meant names) t.rows) ≡ true =
    (and_true (list_all (λ row. is_rising (points_meant names row)) t.rows)
    (is_ascending (map (points_meant names) t.rows))
    (and_true (list_all (λ row. is_rising (points_meant names row)) t.rows
    && is_ascending (map (points_meant names) t.rows))
    (is_rising (map (λ power. place_of names.params power.name) t.powers)) here.0).0).1 in
    let same : made ≡ map (points_meant names) t.rows =
    rs ∙ ap (ordered row_cmp) (sym here.1) ∙ sums.ordered_rows (map (points_meant names) t.rows)
    (ascending_sorted (map (points_meant names) t.rows) ascends) in
    let key : ◌≡◌ {A = Key} (record {
      exponents = exponents_meant names t.powers;
      rows = map
          (points_meant names) t.rows;
    })
    (record { exponents = exponents; rows = made }) = λ j. record { exponents = sym es j; rows = sym same j } in
    rw here.0 (ap Ok key)

-- ---- uses

pub use_missed : (e : LineError) (names : Names) (t : Spelt (List (List ℕ))) (alpha beta gamma : List (List ℕ))
    → Refuses e (ordered_rows names t) → Refuses e (ordered_use names t alpha beta gamma)
use_missed errors.Memory names t alpha beta gamma wrong = tt
use_missed (errors.Fault found) names t alpha beta gamma wrong =
    let here = given_err _ (map (points_meant names) t.rows) kind.Order found wrong in
    rw here.0 (ap Err here.1)

pub use_formed : (d : ℕ) (names : Names) (t : Spelt (List (List ℕ))) (alpha beta gamma : List (List ℕ))
    (rows : List (List ℕ))
    → IsRank d → AreNames d names → IsForm (IsRowOf d) d (Form.Use t alpha beta gamma)
    → is_unnamed names (Form.Use t alpha beta gamma) ≡ false → is_misnumbered (Form.Term t) ≡ false
    → ordered_rows names t ≡ Ok rows → (m : ℤ) (es : List ℕ) (rest : List (List ℕ)) (a b g : List ℕ)
    → m ≡ integer_meant t.is_negative t.digits → es ≡ exponents_meant names t.powers → rest ≡ rows
    → a ≡ points_meant names alpha → b ≡ points_meant names beta → g ≡ points_meant names gamma
    → IsLogUse d (use_by m es rest a b g)
use_formed d names t alpha beta gamma rows rank good formed named numbered found m es rest a b g sm se sr sa sb sg =
    let here = given_ok _ (map (points_meant names) t.rows) rows kind.Order found in
    let both = and_true (is_named names t) (list_all (is_among names.free) (alpha ++ (beta ++ gamma)))
    (not_false _ named) in
    let read = use_read names t alpha beta gamma (subst IsRank (sym good.rank) rank) good.few_params
    (subst (λ n. IsForm (IsRowOf n) n (Form.Use t alpha beta gamma)) (sym good.rank) formed)
    both.0 both.1 (not_false _ numbered) here.0 in
    let whole : rest ≡ map (points_meant names) t.rows = sr ∙ sym here.1 in
    let same : use_meant names t alpha beta gamma ≡ use_by m es rest a b g =
    λ j. use_by (sym sm j) (sym se j) (sym whole j) (sym sa j) (sym sb j) (sym sg j) in
    subst (IsLogUse d) same (subst (λ n. IsLogUse n (use_meant names t alpha beta gamma)) good.rank read.told.formed)
