-- What a run of a construction decides.
use Rattle.std.proofs.Common.{◌≡◌, ℕ, ◌-◌, ◌<◌, ◌==◌, Bool, true, false, List, [], ◌∷◌, ◌++◌, map, flat_map, length}
use Rattle.std.proofs.Common.{codes, Option, None, Some, refl, sym, ap, ◌∙◌, subst, arith, append_assoc, append-nil}
use Rattle.std.proofs.Common.{length-append}
use Rattle.std.specs.Prelude.{slice_get, decimal}
use Rattle.std.specs.List.{AllByRecursion}
use Rattle.std.proofs.Math.Seq.{get_or-append_seam}
use Rattle.std.proofs.lemmas.Bool.Decides.{Decides-eqb}
use Rattle.std.proofs.lemmas.Grind.{flat_map-append}
use Rattle.std.proofs.lemmas.Option.{slice_get-get_or}
use Rattle.coordinate_model.specs.Sequences.{IsRank}
use Rattle.coordinate_model.specs.Sums.{Terms, sum_value}
use Rattle.coordinate_model.specs.Key.{Key, key_value}
use Rattle.coordinate_model.specs.Polynomial.{Polynomials}
use Rattle.coordinate_model.specs.Placement.{value_at}
use Rattle.coordinate_model.specs.BracketPolynomial.{BracketPolynomial, KeySums, IsNormal, value}
use Rattle.coordinate_model.proofs.Independence.{same_normal}
use Rattle.coordinate_model.proofs.PolynomialRing.{value_at-hom}
use Rattle.construction_reader.specs.Said.{Account}
use Rattle.construction_reader.specs.TextOf.{TextOf}
use Rattle.step_types.specs.Checks.{names_of, IsGood}
use Rattle.step_types.specs.declared.names.Names.{Names}
use Rattle.bracket_poly.specs.Sections.{Rewritten, Worked}
use Rattle.cayley_terms.specs.Meaning.{conclusion_polynomial}
use Rattle.cayley_run.specs.Runs.{Log}
use Rattle.cayley_run.specs.RunLaws.{IsEndOf, EndsWell, AllEndWell, LastEnds}
use Rattle.proof_text.specs.Lines.{spaced}
use Rattle.proof_text.specs.Forms.{verdict_word}
use Rattle.proof_text.specs.Terms.{point_names, polynomial_lines}
use Rattle.proof_text.specs.Proofs.{use_line, end_lines, section_lines, object_lines, head_lines}
use Rattle.prover.specs.declared.status.Status.TheVariants.{Proved, Refuted}
use Rattle.prover.specs.Modes.Prove.{ProveDecides, proof, verdict}
use Rattle.prover.specs.Runs.{last_of, end_in, last_end, is_zero, ends_in_zero}

-- ---- the last item

pub last_of-push : {A : Type 0} (xs : List A) (x : A) → last_of (xs ++ x ∷ []) ≡ Some x
last_of-push xs x =
    let one : length (xs ++ x ∷ []) - 1 ≡ length xs = omega (arith, length-append xs (x ∷ [])) in
    let within : length xs < length (xs ++ x ∷ []) = omega (arith, length-append xs (x ∷ [])) in
    ap (slice_get (xs ++ x ∷ [])) one ∙ slice_get-get_or (xs ++ x ∷ []) (length xs) x within
    ∙ ap Some (get_or-append_seam xs x [] x)

pub all_last : {A : Type 0} (P : A → Type 0) (xs : List A) (x : A) → AllByRecursion P (xs ++ x ∷ []) → P x
all_last P [] x all = all.0
all_last P (y ∷ xs) x all = all_last P xs x all.1

-- with what the last object ends
abbrev in_object : Option Worked → Option BracketPolynomial
in_object o = elim o [ None ↦ None | Some object ↦ end_in object.sections ]

-- with what a log ends
pub end_of : (log : Log) (end : BracketPolynomial) → LastEnds log end → last_end log.objects ≡ Some end
end_of log end e =
    let object : Worked = record { number = e.number; step = e.step; sections = e.section ∷ [] } in
    ap last_end e.last ∙ ap in_object (last_of-push e.front object) ∙ e.ends

abbrev tests : Option BracketPolynomial → Bool
tests o = elim o [ None ↦ false | Some polynomial ↦ is_zero polynomial ]

-- and whether that is zero
pub zero_end : (log : Log) (end : BracketPolynomial) → LastEnds log end → ends_in_zero log.objects ≡ is_zero end
zero_end log end e = ap tests (end_of log end e)

-- and its last section is well ended
pub well_ended : (d : ℕ) (log : Log) (end : BracketPolynomial) → AllEndWell d log.objects → LastEnds log end → IsNormal d 64 end
well_ended d log end all e =
    let object : Worked = record { number = e.number; step = e.step; sections = e.section ∷ [] } in
    let each : AllByRecursion (λ (o : Worked). AllByRecursion (EndsWell d) o.sections) (e.front ++ object ∷ []) =
    subst (AllEndWell d) e.last all in
    let last : EndsWell d e.section =
    (all_last (λ (o : Worked). AllByRecursion (EndsWell d) o.sections) e.front object each).0 in
    let is : IsEndOf d e.section.start end = rw e.ends at last in is.normal

-- ---- the lines

-- the lines of an object of one section that has an end
object_ends : (names : Names) (number step : ℕ) (s : Rewritten) (end : BracketPolynomial) → s.end ≡ Some end
    → (front : List (List ℕ))
    × (object_lines names (record { number = number; step = step; sections = s ∷ [] })
    ≡ front ++ (codes "end" ∷ polynomial_lines names end))
object_ends names number step s end is =
    let title = spaced (codes "object" ∷ decimal number ∷ codes "step" ∷ decimal step ∷ []) in
    let scalar = spaced (codes "scalar" ∷ point_names names s.scalar) in
    let start = polynomial_lines names s.start in
    let uses = map (use_line names) s.uses in (
      title ∷ scalar ∷ codes "start" ∷ (start ++ uses),
      ap (λ (ls : List (List ℕ)). title ∷ ls)
          (append-nil (section_lines names s)
          ∙ ap (λ (ls : List (List ℕ)). scalar ∷ codes "start" ∷ ls)
          (ap (λ (o : Option BracketPolynomial). start ++ (uses ++ end_lines names o)) is
          ∙ sym (append_assoc start uses (codes "end" ∷ polynomial_lines names end)))),
    )

lines_end : {A : Type 0} (head : List (List ℕ)) (f : A → List (List ℕ)) (xs : List A) (x : A) (front tail last : List (List ℕ))
    → f x ≡ front ++ tail
    → head ++ (flat_map f (xs ++ x ∷ []) ++ last) ≡ (head ++ (flat_map f xs ++ front)) ++ (tail ++ last)
lines_end head f xs x front tail last e =
    let before = flat_map f xs in
    let object : flat_map f (x ∷ []) ≡ front ++ tail = append-nil (f x) ∙ e in
    ap (λ ls. head ++ (ls ++ last)) (flat_map-append f xs (x ∷ []) ∙ ap (λ ls. before ++ ls) object)
    ∙ ap (λ ls. head ++ ls) (append_assoc before (front ++ tail) last
    ∙ ap (λ ls. before ++ ls) (append_assoc front tail last) ∙ sym (append_assoc before front (tail ++ last)))
    ∙ sym (append_assoc head (before ++ front) (tail ++ last))

-- ---- zero

-- a list without a term is empty, by the test of its length
none_left : (ts : Terms Key) → length ts ≡ 0 → ts ≡ []
none_left [] e = refl
none_left (t ∷ ts) e = absurd (omega arith)

tested : (b : Bool) → verdict b ≡ Proved → b ≡ true
tested true e = refl
tested false e = absurd cc

pub is_proved : (ts : Terms Key) → verdict (length ts == 0) ≡ Proved → ts ≡ []
is_proved ts e = none_left ts ((Decides-eqb (length ts) 0).0 (tested (length ts == 0) e))

not_tested : (b : Bool) → verdict b ≡ Refuted → b ≡ true → ⊥
not_tested true e is = cc
not_tested false e is = cc

pub not_refuted : (ts : Terms Key) → verdict (length ts == 0) ≡ Refuted → ts ≡ [] → ⊥
not_refuted ts e none =
    let zero : length ts ≡ 0 = ap (λ (xs : Terms Key). length xs) none in
    not_tested (length ts == 0) e ((Decides-eqb (length ts) 0).1 zero)

pub zero_value : (f : BracketPolynomial) → f.terms ≡ [] → value f ≡ Polynomials.𝟘
unfolding value
zero_value f none = ap (sum_value Polynomials key_value) none

pub no_terms : (d : ℕ) (f : BracketPolynomial) → IsRank d → IsNormal d 64 f → value f ≡ Polynomials.𝟘 → f.terms ≡ []
no_terms d f rank normal zero =
    ap (λ (g : BracketPolynomial). g.terms)
    (same_normal d 64 rank f KeySums.𝟘 normal tt (zero ∙ sym (zero_value KeySums.𝟘 refl)))

-- ---- what is decided

pub decided : (c : Account) (log : Log) (end : BracketPolynomial) → IsGood c → IsRank c.rank → AllEndWell c.rank log.objects
    → LastEnds log end → value end ≡ conclusion_polynomial c → (text : List ℕ) → TextOf text c
    → ProveDecides text (proof (names_of c) log.objects None)
decided c log end good rank well e same text gives =
    let names = names_of c in
    let normal = well_ended c.rank log end well e in
    let object : Worked = record { number = e.number; step = e.step; sections = e.section ∷ [] } in
    let at_end = object_ends names e.number e.step e.section end e.ends in
    let test : ends_in_zero log.objects ≡ is_zero end = zero_end log end e in
    let zero : verdict (ends_in_zero log.objects) ≡ Proved → conclusion_polynomial c ≡ Polynomials.𝟘 =
    λ (is : verdict (ends_in_zero log.objects) ≡ Proved). sym same ∙ zero_value end (is_proved end.terms (ap verdict (sym test) ∙ is)) in
    record {
      account = c;
      gives = record { gives = gives; good = good };
      polynomial = end;
      normal = normal;
      same_value = same;
      front = head_lines names ++ (flat_map (object_lines names) e.front ++ at_end.0);
      ends = ap (λ (b : Bool). head_lines names ++ (flat_map (object_lines names) log.objects ++ verdict_word b ∷ [])) test
          ∙ ap (λ (os : List Worked). head_lines names ++ (flat_map (object_lines names) os ++ verdict_word (is_zero end) ∷ [])) e.last
          ∙ lines_end (head_lines names) (object_lines names) e.front object at_end.0
          (codes "end" ∷ polynomial_lines names end) (verdict_word (is_zero end) ∷ []) at_end.1;
      proved = zero;
      everywhere = λ is at. ap (value_at at) (zero is) ∙ (value_at-hom at).to_zero;
      refuted = λ is none. not_refuted end.terms (ap verdict (sym test) ∙ is) (no_terms c.rank end rank normal (same ∙ none));
    }
