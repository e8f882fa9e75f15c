-- The bytes that are read are the text of what is read.
use Rattle.std.proofs.Common.{◌≡◌, ◌≢◌, ℕ, ◌+◌, true, false, List, [], ◌∷◌, ◌++◌, map, Result, Ok, Err, refl, sym, ap, subst, ◌∙◌, append_assoc, append-nil, inl, inr}
use Rattle.std.specs.Prelude.{◌==◌}
use Rattle.std.specs.List.{AllByRecursion}
use Rattle.std.proofs.lemmas.Bool.{cases_Bool, eqb-true}
use Rattle.step_types.specs.declared.names.Names.{Names}
use Rattle.proof_text.specs.declared.fault.ProofKind.{ProofKind}
use Rattle.proof_text.specs.declared.fault.ProofKind.TheVariants as kind
use Rattle.proof_text.specs.declared.fault.ProofFault.{ProofFault}
use Rattle.proof_text.specs.Cut.{Line, cut, onto_first}
use Rattle.proof_text.specs.Lines.{text_of}
use Rattle.proof_text.specs.Forms.{Form, PlainForm, form_line}
use Rattle.proof_text.specs.Kinds.{has}
use Rattle.proof_text.specs.Told.{Told, proof_lines, IsProof, TextOf}
use Rattle.proof_text.specs.State.{Place, State, at_first, ready, after, told}
use Rattle.proof_text.specs.Faults.{HasKind, IsFine}
use Rattle.proof_text.specs.Readings.{is_over, takes_line, reads, read_of}
use Rattle.proof_text.proofs.FormLaws.{either_if}
use Rattle.proof_text.proofs.LineLaws.{line_taken, over_is}
use Rattle.proof_text.proofs.ReadLaws.{result_cases}
use Rattle.proof_text.proofs.GoodStates as good
use Rattle.proof_text.proofs.MoveLaws as move
use Rattle.proof_text.proofs.MoveAll.{moved_good}

-- ---- lines

abbrev AreClosed : List Line → Type 0
AreClosed lines = AllByRecursion (λ line. line.closed ≡ true) lines

abbrev bytes_of : List Line → List (List ℕ)
bytes_of lines = map (λ line. line.bytes) lines

onto_closed : (b : ℕ) (lines : List Line) → AreClosed (onto_first b lines)
    → AreClosed lines × (text_of (bytes_of (onto_first b lines)) ≡ b ∷ text_of (bytes_of lines))
onto_closed b [] closed = let never = closed.0 in absurd cc
onto_closed b (line ∷ lines) closed = (closed, refl)

-- lines that all end are those of the text that they make
closed_text : (bytes : List ℕ) → AreClosed (cut bytes) → bytes ≡ text_of (bytes_of (cut bytes))
unfolding cut
closed_text [] closed = refl
closed_text (b ∷ bytes) closed = elim (cases_Bool (b == 10)) [
  | inl it ↦
      let rest : AreClosed (cut bytes) = (rw it at closed).1 in
      rw it (ap (λ bs. b ∷ bs) (closed_text bytes rest) ∙ ap (λ c. c ∷ text_of (bytes_of (cut bytes))) (eqb-true b 10 it))
  | inr other ↦
      let more = onto_closed b (cut bytes) (rw other at closed) in
      rw other (ap (λ bs. b ∷ bs) (closed_text bytes more.0) ∙ sym more.1)
]

module _ (names : Names) (steps : List ℕ) where
  -- ---- one line

  -- a form without a fault is right where it is ready
  right_of_fine : (s : State) (line : Line) (form : PlainForm) → IsFine names steps s line form
      → move.IsRight names steps (ready form s) form
  right_of_fine s line form fine = record {
    formed = fine.stands.has_form.formed;
    stands = fine.stands.may_stand;
    header = no kind.Header (fine.none kind.Header);
    object = no kind.Object (fine.none kind.Object);
    named = no kind.Name (fine.none kind.Name);
    numbered = no kind.Number (fine.none kind.Number);
    ordered = no kind.Order (fine.none kind.Order);
    judged = no kind.Verdict (fine.none kind.Verdict);
  }
    where
      no : (found : ProofKind)
          → ((s.place ≢ Place.Over) × (other : PlainForm) × Rattle.proof_text.specs.Faults.MayStand names steps s line.bytes other
          × (has names steps (ready other s) other found ≡ true) → ⊥)
          → has names steps (ready form s) form found ≡ false
      no found none = elim (cases_Bool (has names steps (ready form s) form found)) [
        | inl wrong ↦ absurd (none ((λ over. fine.none kind.Ended over), form, fine.stands, wrong))
        | inr right ↦ right
      ]

  closed_if_fine : (s : State) (line : Line) (form : PlainForm) → IsFine names steps s line form → line.closed ≡ true
  closed_if_fine s line form fine = elim (cases_Bool line.closed) [
    | inl closed ↦ closed
    | inr unclosed ↦ absurd (fine.none kind.Shape ((λ over. fine.none kind.Ended over), inl unclosed))
  ]

  ready_good : (form : PlainForm) (s : State) → good.IsGoodAt names steps s.place s
      → good.HasLines names steps (ready form s) (good.so_far names steps s.place s)
  ready_good (Form.Term t) s held = record { good = held; lines = refl }
  ready_good Form.Zero s held = record { good = held; lines = refl }
  ready_good form s held = good.ended_good names steps s.place s held

  pub after_good : (s : State) (form : PlainForm) → move.Knows names steps → move.IsRight names steps (ready form s) form
      → good.IsGoodAt names steps s.place s
      → good.HasLines names steps (after names s form) (good.so_far names steps s.place s ++ form_line form ∷ [])
  after_good s form know right held =
      let ended = ready_good form s held in
      let it = moved_good names steps (ready form s).place (ready form s) form know right ended.good in
      record { good = it.good; lines = it.lines ∙ ap (λ ls. ls ++ form_line form ∷ []) ended.lines }

  -- ---- all lines

  -- what lines behind those that have been read tell
  record Tells (s : State) (lines : List Line) (t : Told) : Type 0 where
    closed : AreClosed lines
    text : good.so_far names steps s.place s ++ bytes_of lines ≡ proof_lines names t
    proof : IsProof names steps t

  reads_good : (s : State) (n : ℕ) (lines : List Line) (t : Told) → move.Knows names steps
      → good.IsGoodAt names steps s.place s → reads names steps n lines s ≡ Ok t → Tells s lines t
  unfolding reads
  reads_good s n [] t know held e = elim (either_if (is_over s.place) _ _ (Ok t) e) [
    | inl over ↦
        let same : told s ≡ t = let e = over.1 in cc in
        let place = over_is names steps s.place over.0 in
        subst (Tells s []) same (record {
          closed = tt;
          text = append-nil (good.so_far names steps s.place s) ∙ ap (λ p. good.so_far names steps p s) place;
          proof = subst (λ p. good.IsGoodAt names steps p s) place held;
        })
    | inr unended ↦ let never = unended.1 in absurd cc
  ]
  reads_good s n (line ∷ lines) t know held e = elim (result_cases (takes_line names steps line s)) [
    | inl taken ↦
        let fine = line_taken names steps s taken.0 line know.rank.0 taken.1 in
        let it = after_good s fine.0 know (right_of_fine s line fine.0 fine.1) held in
        let rest : reads names steps (n + 1) lines (after names s fine.0) ≡ Ok t =
        ap (reads names steps (n + 1) lines) (sym fine.2) ∙ step_ok taken.0 taken.1 in
        let more = reads_good (after names s fine.0) (n + 1) lines t know it.good rest in
        record {
          closed = (closed_if_fine s line fine.0 fine.1, more.closed);
          text =
              ap (λ l. good.so_far names steps s.place s ++ (l ∷ bytes_of lines)) fine.1.stands.has_form.spelt
              ∙ sym (append_assoc (good.so_far names steps s.place s) (form_line fine.0 ∷ []) (bytes_of lines))
              ∙ ap (λ ls. ls ++ bytes_of lines) (sym it.lines) ∙ more.text;
          proof = more.proof;
        }
    | inr refused ↦ let never = step_err refused.0 refused.1 in absurd cc
  ]
    where
      step_ok : (q : State) → takes_line names steps line s ≡ Ok q → reads names steps (n + 1) lines q ≡ Ok t
      step_ok q taken = sym (rw (taken, reads) refl) ∙ e

      step_err : (found : ProofKind) → takes_line names steps line s ≡ Err found
          → ◌≡◌ {A = Result Told ProofFault} (Err (record { line = n; kind = found })) (Ok t)
      step_err found refused = sym (rw (refused, reads) refl) ∙ e

  -- what is read has that text
  pub read_text : (bytes : List ℕ) (t : Told) → move.Knows names steps → read_of names steps bytes ≡ Ok t
      → TextOf names steps bytes t
  unfolding read_of
  read_text bytes t know e =
      let it = reads_good at_first 1 (cut bytes) t know refl e in
      record { text = closed_text bytes it.closed ∙ ap text_of it.text; good = it.proof }
