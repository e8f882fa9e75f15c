-- A proof has no more sections and uses than its text has bytes.
use Rattle.std.proofs.Common.{◌≡◌, ℕ, suc, ◌+◌, ◌<◌, ◌≤◌, List, [], ◌∷◌, ◌++◌, map, length, Result, Ok, Err, IfOk, ap}
use Rattle.std.proofs.Common.{◌∙◌, ◌^◌, arith, length-append}
use Rattle.std.specs.Prelude.{flat_map, sum_by}
use Rattle.std.proofs.lemmas.List.Sums.{sum_by-cons}
use Rattle.std.specs.List.{AllByRecursion}
use Rattle.bracket_terms.specs.LogUses.{use_of}
use Rattle.bracket_poly.specs.declared.section.Section.{Section}
use Rattle.bracket_poly.specs.declared.section.ObjectLog.{ObjectLog}
use Rattle.bracket_poly.specs.Sections.{rewritten_of, worked_of}
use Rattle.step_types.specs.declared.names.Names.{Names}
use Rattle.proof_text.specs.declared.fault.ProofError.{ProofError}
use Rattle.proof_text.specs.declared.proof.Proof.{Proof}
use Rattle.proof_text.specs.Lines.{text_of}
use Rattle.proof_text.specs.Forms.{verdict_word}
use Rattle.proof_text.specs.Proofs.{use_line, end_lines, section_lines, object_lines, head_lines}
use Rattle.proof_text.specs.Terms.{polynomial_lines}
use Rattle.proof_text.specs.Told.{proof_lines, TextOf}
use Rattle.proof_text.specs.Outcome.{told_of, IsCountable}
use Rattle.proof_text.proofs.NameLaws.{length-map}

-- each line has its LF
long_text : (lines : List (List ℕ)) → length lines ≤ length (text_of lines)
long_text [] = omega arith
long_text (line ∷ lines) =
    omega (arith, long_text lines, length-append (line ++ 10 ∷ []) (text_of lines), length-append line (10 ∷ []))

module _ {d : ℕ} (names : Names) where
  abbrev lines_of_sections : List (Section d) → List (List ℕ)
  lines_of_sections ss = flat_map (section_lines names) (map rewritten_of ss)

  abbrev lines_of_objects : List (ObjectLog d) → List (List ℕ)
  lines_of_objects os = flat_map (object_lines names) (map worked_of os)

  abbrev count_of : List (ObjectLog d) → ℕ
  count_of os = sum_by (λ o. length o.sections) os

  -- a section has more lines than uses
  long_section : (s : Section d) → length s.uses < length (section_lines names (rewritten_of s))
  long_section s =
      let uses = map (use_line names) (map use_of s.uses) in
      let many : length uses ≡ length s.uses = length-map (use_line names) (map use_of s.uses)
      ∙ length-map use_of s.uses in
      omega (
        arith,
        many,
        length-append (polynomial_lines names s.start.tracked.sum) (uses ++ end_lines names (rewritten_of s).end),
        length-append uses (end_lines names (rewritten_of s).end),
      )

  cut_sections : (s : Section d) (ss : List (Section d))
      → length (lines_of_sections (s ∷ ss)) ≡ length (section_lines names (rewritten_of s))
      + length (lines_of_sections ss)
  cut_sections s ss = length-append (section_lines names (rewritten_of s)) (lines_of_sections ss)

  cut_objects : (o : ObjectLog d) (os : List (ObjectLog d))
      → length (lines_of_objects (o ∷ os)) ≡ suc (length (lines_of_sections o.sections)) + length (lines_of_objects os)
  cut_objects o os = length-append (object_lines names (worked_of o)) (lines_of_objects os)

  count_more : (o : ObjectLog d) (os : List (ObjectLog d)) → count_of (o ∷ os) ≡ length o.sections + count_of os
  count_more o os = sum_by-cons (λ (p : ObjectLog d). length p.sections) o os

  many_sections : (ss : List (Section d)) → length ss ≤ length (lines_of_sections ss)
  many_sections [] = omega arith
  many_sections (s ∷ ss) =
      let whole = cut_sections s ss in
      let here = long_section s in
      let rest = many_sections ss in
      omega (arith, whole, here, rest)

  few_uses : (n : ℕ) (ss : List (Section d)) → length (lines_of_sections ss) < n
      → AllByRecursion (λ s. length s.uses < n) ss
  few_uses n [] h = tt
  few_uses n (s ∷ ss) h =
      let whole = cut_sections s ss in
      let here = long_section s in
      let one : length s.uses < n = omega (arith, whole, here, h) in
      let less : length (lines_of_sections ss) < n = omega (arith, whole, here, h) in
      (one, few_uses n ss less)

  many_objects : (os : List (ObjectLog d)) → count_of os ≤ length (lines_of_objects os)
  many_objects [] = omega arith
  many_objects (o ∷ os) =
      let whole = cut_objects o os in
      let here = many_sections o.sections in
      let rest = many_objects os in
      let both = count_more o os in
      omega (arith, whole, here, rest, both)

  few_all : (n : ℕ) (os : List (ObjectLog d)) → length (lines_of_objects os) < n
      → AllByRecursion (λ o. AllByRecursion (λ s. length s.uses < n) o.sections) os
  few_all n [] h = tt
  few_all n (o ∷ os) h =
      let whole = cut_objects o os in
      let one : length (lines_of_sections o.sections) < n = omega (arith, whole, h) in
      let less : length (lines_of_objects os) < n = omega (arith, whole, h) in
      (few_uses n o.sections one, few_all n os less)

  proof_cut : (p : Proof d) → length (lines_of_objects p.objects) ≤ length (proof_lines names (told_of p))
  proof_cut p =
      let head : length (proof_lines names (told_of p))
      ≡ length (head_lines names) + length (lines_of_objects p.objects ++ verdict_word p.proved ∷ []) =
      length-append (head_lines names) (lines_of_objects p.objects ++ verdict_word p.proved ∷ []) in
      let body : length (lines_of_objects p.objects ++ verdict_word p.proved ∷ [])
      ≡ length (lines_of_objects p.objects) + length (verdict_word p.proved ∷ []) =
      length-append (lines_of_objects p.objects) (verdict_word p.proved ∷ []) in
      omega (arith, head, body)

  -- what is told by a text of at most 2^30 bytes can be counted
  pub countable : (bytes : List ℕ) (p : Proof d) → bytes ≡ text_of (proof_lines names (told_of p))
      → length bytes ≤ 1073741824
      → IsCountable p
  countable bytes p text short =
      let whole = long_text (proof_lines names (told_of p)) in
      let here : length bytes ≡ length (text_of (proof_lines names (told_of p))) = ap length text in
      let inner = proof_cut p in
      let few : length (lines_of_objects p.objects) < 2 ^ 32 = omega (arith, whole, here, inner, short) in
      let many = many_objects p.objects in
      record { sections = omega (arith, many, few); uses = few_all (2 ^ 32) p.objects few }

pub are_countable : {d : ℕ} (names : Names) (steps bytes : List ℕ) (r : Result (Proof d) ProofError)
    → length bytes ≤ 1073741824
    → IfOk r (λ p. TextOf names steps bytes (told_of p)) → IfOk r IsCountable
are_countable names steps bytes (Ok p) short found = countable names bytes p found.text short
are_countable names steps bytes (Err e) short found = tt
