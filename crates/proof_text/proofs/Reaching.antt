-- Lines of forms without a fault lead from one state to another.
use Rattle.std.proofs.Common.{◌≡◌, ℕ, ◌+◌, ◌≤◌, Bool, true, false, List, [], ◌∷◌, ◌++◌, Ok, refl, ap, subst, ◌∙◌, append_assoc, codes, inl, inr, ◌⊎◌}
use Rattle.std.specs.Prelude.{None, ◌||◌}
use Rattle.std.specs.List.{list_all}
use Rattle.std.proofs.lemmas.Bool.{cases_Bool}
use Rattle.std.proofs.lemmas.List.{map-append}
use Rattle.std.proofs.lemmas.List.Folds.{list_all-append}
use Rattle.step_types.specs.declared.names.Names.{Names}
use Rattle.construction_reader.specs.Words.{◌is◌}
use Rattle.construction_reader.proofs.ObjectLaws.{is_same}
use Rattle.proof_text.specs.Cut.{Line}
use Rattle.proof_text.specs.Forms.{PlainForm, form_line, IsRowOf, IsForm, is_stopped}
use Rattle.proof_text.specs.Shapes.{form_of, words_of, spelt_of, signed_of}
use Rattle.proof_text.specs.State.{State, ready, after}
use Rattle.proof_text.specs.Readings.{is_over, takes_line, takes_ready, takes_form, reads}
use Rattle.proof_text.proofs.FormAgain.{lacks}
use Rattle.proof_text.proofs.FormAlso.{line_again}
use Rattle.proof_text.proofs.LineFeeds.{closed_lines, line_lacks}
use Rattle.proof_text.proofs.MoveLaws as move

-- the line of a stop has no form
stopped_none : (d : ℕ) (line : List ℕ) → is_stopped line ≡ true → form_of d line ≡ None
unfolding form_of words_of spelt_of signed_of
stopped_none d line stopped = elim (or_true (line is codes "stopped turns") _ stopped) [
  | inl it ↦ ap (form_of d) (is_same line (codes "stopped turns") it)
  | inr more ↦ elim (or_true (line is codes "stopped coefficient") _ more) [
    | inl it ↦ ap (form_of d) (is_same line (codes "stopped coefficient") it)
    | inr last ↦ elim (or_true (line is codes "stopped keys") _ last) [
      | inl it ↦ ap (form_of d) (is_same line (codes "stopped keys") it)
      | inr never ↦ absurd cc
    ]
  ]
]
  where
    or_true : (a b : Bool) → a || b ≡ true → (a ≡ true) ⊎ (b ≡ true)
    or_true true b e = inl refl
    or_true false b e = inr e

no_stop : (d : ℕ) (form : PlainForm) → 2 ≤ d → IsForm (IsRowOf d) d form → is_stopped (form_line form) ≡ false
no_stop d form low formed = elim (cases_Bool (is_stopped (form_line form))) [
  | inl stopped ↦ let none = stopped_none d (form_line form) stopped in let some = line_again d form low formed in absurd cc
  | inr going ↦ going
]

module _ (names : Names) (steps : List ℕ) where
  -- the line of a form that is right is taken
  pub line_right : (s : State) (form : PlainForm) → 2 ≤ names.rank → is_over s.place ≡ false
      → move.IsRight names steps (ready form s) form
      → takes_line names steps (record { bytes = form_line form; closed = true }) s ≡ Ok (after names s form)
  unfolding takes_line takes_ready
  line_right s form low going right =
      rw (going, no_stop names.rank form low right.formed)
      (ap (takes_form names steps s) (line_again names.rank form low right.formed)
      ∙ rw (right.stands, right.header, right.object, right.named, right.numbered, right.ordered, right.judged) refl)

  -- whatever follows, these lines lead from s to q, and none of them has an LF
  pub record Reaches (s : State) (lines : List (List ℕ)) (q : State) : Type 0 where
    pub whole : list_all (lacks 10) lines ≡ true
    pub leads : (n : ℕ) (rest : List Line) → (m : ℕ) × (reads names steps n (closed_lines lines ++ rest) s ≡ reads names steps m rest q)

  pub reach_none : (s : State) → Reaches s [] s
  reach_none s = record { whole = refl; leads = λ n rest. (n, refl) }

  pub reach_both : (s q r : State) (lines others : List (List ℕ)) → Reaches s lines q → Reaches q others r → Reaches s (lines ++ others) r
  reach_both s q r lines others first then_on = record {
    whole = list_all-append (lacks 10) lines others ∙ rw (first.whole, then_on.whole) refl;
    leads = λ n rest. let a = first.leads n (closed_lines others ++ rest) in
        let b = then_on.leads a.0 rest in (
          b.0,
          ap (λ ls. reads names steps n (ls ++ rest) s) (map-append _ lines others)
              ∙ ap (λ ls. reads names steps n ls s) (append_assoc (closed_lines lines) (closed_lines others) rest)
              ∙ a.1 ∙ b.1,
        );
  }

  pub reach_to : (s q r : State) (lines : List (List ℕ)) → Reaches s lines q → q ≡ r → Reaches s lines r
  reach_to s q r lines reaches same = subst (Reaches s lines) same reaches

  pub reach_lines : (s q : State) (lines others : List (List ℕ)) → Reaches s lines q → lines ≡ others → Reaches s others q
  reach_lines s q lines others reaches same = subst (λ ls. Reaches s ls q) same reaches

  -- with the line of a form one is at what is read with it
  pub reach_one : (s : State) (form : PlainForm) → 2 ≤ names.rank → is_over s.place ≡ false
      → move.IsRight names steps (ready form s) form → Reaches s (form_line form ∷ []) (after names s form)
  unfolding reads
  reach_one s form low going right = record {
    whole = rw (line_lacks names.rank form right.formed) refl;
    leads = λ n rest. (n + 1, rw (line_right s form low going right, reads) refl);
  }
