-- Lines of forms have no LF, so their text is cut into them again.
use Rattle.std.proofs.Common.{◌≡◌, ℕ, Bool, true, false, not, List, [], ◌∷◌, ◌++◌, map, refl, ap, ◌∙◌, append_assoc, arith, codes}
use Rattle.std.specs.Prelude.{◌==◌}
use Rattle.std.specs.List.{list_all, AllByRecursion}
use Rattle.std.proofs.lemmas.Bool.{not-true}
use Rattle.std.proofs.lemmas.List.Folds.{list_all-append}
use Rattle.proof_text.specs.Cut.{Line, cut, onto_first}
use Rattle.proof_text.specs.Lines.{text_of, behind_spaces, spaced}
use Rattle.proof_text.specs.Numbers.{is_number, is_run}
use Rattle.proof_text.specs.Forms.{Part, Power, Spelt, Form, PlainForm, signed_word, power_word, row_word, spelt_words, form_words, form_line, IsPower, AreRuns, IsRowOf, IsSpelt, IsForm}
use Rattle.proof_text.proofs.NumberLaws.{and_true, some_digits}
use Rattle.proof_text.proofs.FormAgain.{lacks, lacks-append, digits_lack, runs_lack}

-- ---- the cut

-- these lines, each ended by LF
abbrev pub closed_lines : List (List ℕ) → List Line
closed_lines lines = map (λ line. record { bytes = line; closed = true }) lines

cut_line : (line rest : List ℕ) → lacks 10 line ≡ true → cut (line ++ 10 ∷ rest) ≡ record { bytes = line; closed = true } ∷ cut rest
unfolding cut
cut_line [] rest none = refl
cut_line (b ∷ line) rest none =
    let both = and_true (not (b == 10)) (lacks 10 line) none in
    rw (not-true (b == 10) both.0) (ap (onto_first b) (cut_line line rest both.1))

pub cut_text : (lines : List (List ℕ)) → list_all (lacks 10) lines ≡ true → cut (text_of lines) ≡ closed_lines lines
unfolding cut
cut_text [] none = refl
cut_text (line ∷ lines) none =
    let both = and_true (lacks 10 line) (list_all (lacks 10) lines) none in
    ap cut (append_assoc line (10 ∷ []) (text_of lines)) ∙ cut_line line (text_of lines) both.0
    ∙ ap (λ ls. record { bytes = line; closed = true } ∷ ls) (cut_text lines both.1)

-- ---- words

behind_lack : (words : List (List ℕ)) → list_all (lacks 10) words ≡ true → lacks 10 (behind_spaces words) ≡ true
behind_lack [] none = refl
behind_lack (word ∷ words) none =
    let both = and_true (lacks 10 word) (list_all (lacks 10) words) none in
    lacks-append 10 word (behind_spaces words) both.0 (behind_lack words both.1)

spaced_lack : (words : List (List ℕ)) → list_all (lacks 10) words ≡ true → lacks 10 (spaced words) ≡ true
spaced_lack [] none = refl
spaced_lack (word ∷ words) none =
    let both = and_true (lacks 10 word) (list_all (lacks 10) words) none in
    lacks-append 10 word (behind_spaces words) both.0 (behind_lack words both.1)

number_lacks : (digits : List ℕ) → is_number digits ≡ true → lacks 10 digits ≡ true
number_lacks digits number = digits_lack 10 digits (λ h. omega (arith, h.0)) (some_digits digits number).1

run_lacks : (name : List ℕ) → is_run name ≡ true → lacks 10 name ≡ true
run_lacks name run = runs_lack 10 name refl (and_true _ _ run).1

runs_lack_all : (names : List (List ℕ)) → AreRuns names → list_all (lacks 10) names ≡ true
runs_lack_all [] runs = refl
runs_lack_all (name ∷ names) runs =
    let both = and_true (is_run name) (list_all is_run names) runs in rw (run_lacks name both.0) (runs_lack_all names both.1)

both_lack : (xs ys : List (List ℕ)) → list_all (lacks 10) xs ≡ true → list_all (lacks 10) ys ≡ true
    → list_all (lacks 10) (xs ++ ys) ≡ true
both_lack xs ys e h = list_all-append (lacks 10) xs ys ∙ rw (e, h) refl

powers_lack : (powers : List Power) → AllByRecursion IsPower powers → list_all (lacks 10) (map power_word powers) ≡ true
powers_lack [] good = refl
powers_lack (power ∷ powers) good =
    rw (lacks-append 10 power.name (94 ∷ power.digits) (run_lacks power.name good.0.name) (number_lacks power.digits good.0.digits))
    (powers_lack powers good.1)

rows_lack : (d : ℕ) (rows : List (List (List ℕ))) → AllByRecursion (IsRowOf d) rows → list_all (lacks 10) (map row_word rows) ≡ true
rows_lack d [] good = refl
rows_lack d (row ∷ rows) good =
    rw (lacks-append 10 (spaced row) (93 ∷ []) (spaced_lack row (runs_lack_all row good.0.each)) refl) (rows_lack d rows good.1)

sign_lacks : (is_negative : Bool) (digits : List ℕ) → is_number digits ≡ true → lacks 10 (signed_word is_negative digits) ≡ true
sign_lacks true digits number = number_lacks digits number
sign_lacks false digits number = number_lacks digits number

spelt_lacks : (d most : ℕ) (t : Spelt (List (List ℕ))) → IsSpelt (IsRowOf d) most t → list_all (lacks 10) (spelt_words row_word t) ≡ true
spelt_lacks d most t good =
    rw (sign_lacks t.is_negative t.digits good.digits)
    (both_lack (map power_word t.powers) (map row_word t.rows) (powers_lack t.powers good.powers) (rows_lack d t.rows good.rows))

-- ---- lines

words_lack : (d : ℕ) (form : PlainForm) → IsForm (IsRowOf d) d form → list_all (lacks 10) (form_words row_word form) ≡ true
words_lack d Form.Proof good = refl
words_lack d (Form.Rank digits) good = rw (number_lacks digits good) refl
words_lack d (Form.Free names) good = runs_lack_all names good.1
words_lack d (Form.Params names) good = runs_lack_all names good
words_lack d (Form.Object number step) good = rw (number_lacks number good.0, number_lacks step good.1) refl
words_lack d (Form.Scalar names) good = runs_lack_all names good
words_lack d (Form.Opens Part.Start) good = refl
words_lack d (Form.Opens Part.End) good = refl
words_lack d Form.Zero good = refl
words_lack d (Form.Term t) good = spelt_lacks d 64 t good
words_lack d (Form.Use t alpha beta gamma) good =
    both_lack (spelt_words row_word t) (codes ";" ∷ (alpha ++ (codes ";" ∷ (beta ++ (codes ";" ∷ gamma))))) (spelt_lacks d 62 t good.0)
    (both_lack alpha (codes ";" ∷ (beta ++ (codes ";" ∷ gamma))) (runs_lack_all alpha good.1)
    (both_lack beta (codes ";" ∷ gamma) (runs_lack_all beta good.2) (runs_lack_all gamma good.3)))
words_lack d (Form.Verdict true) good = refl
words_lack d (Form.Verdict false) good = refl

pub line_lacks : (d : ℕ) (form : PlainForm) → IsForm (IsRowOf d) d form → lacks 10 (form_line form) ≡ true
line_lacks d form good = spaced_lack (form_words row_word form) (words_lack d form good)
