-- Rows that are too many stay too many.
use Rattle.std.proofs.Common.{◌≡◌, ℕ, ◌+◌, ◌<◌, ◌≤◌, List, [], ◌∷◌, ◌++◌, length, length-append, refl, ap, ◌∙◌, arith, inl, inr, ◌⊎◌}
use Rattle.std.specs.Prelude.{Option, Some, None, ◌==◌}
use Rattle.std.proofs.lemmas.Bool.{cases_Bool, lt-leb}
use Rattle.proof_text.specs.declared.fault.FormError.{FormError}
use Rattle.proof_text.specs.declared.fault.FormError.TheVariants as errors
use Rattle.proof_text.specs.Found.{Misses}
use Rattle.proof_text.specs.Shapes.{◌then◌, few, Rows, row_of, with_row, with_word, whole_rows, rows_from}
use Rattle.proof_text.proofs.FormLaws.{then_some, either_if}

either_option : {A : Type 0} (o : Option A) → (o ≡ None) ⊎ ((x : A) × (o ≡ Some x))
either_option None = inl refl
either_option (Some x) = inr (x, refl)

over : (most : ℕ) (rows : List (List (List ℕ))) → most < length rows → few most rows ≡ None
over most rows more = rw (lt-leb (length rows) most more) refl

-- a word takes no row away
kept : (d : ℕ) (word : List ℕ) (rows next : Rows) → with_word d word rows ≡ Some next → length rows.done ≤ length next.done
unfolding with_word
kept d word rows next e =
    elim (either_if (length rows.before + 1 == d) _ _ (Some next) e) [
      | inl full ↦
          let row = then_some (row_of (rows.before ++ word ∷ [])) _ next full.1 in
          let same : with_row rows row.0 ≡ next = let e = row.2 in cc in
          omega (arith, ap (λ (r : Rows). length r.done) same, length-append rows.done (row.0 ∷ []))
      | inr half ↦
          let same : record rows { before = rows.before ++ word ∷ [] } ≡ next = let e = half.1 in cc in
          omega (arith, ap (λ (r : Rows). length r.done) same)
    ]

pub rows_many : (d most : ℕ) (words : List (List ℕ)) (rows : Rows) → most < length rows.done
    → (rows_from d words rows then few most) ≡ None
unfolding rows_from whole_rows
rows_many d most [] rows more = elim (cases_Bool (length rows.before == 0)) [
  | inl none ↦ rw none (over most rows.done more)
  | inr some ↦ rw some refl
]
rows_many d most (word ∷ words) rows more = elim (either_option (with_word d word rows)) [
  | inl none ↦ ap (λ found. (found then λ next. rows_from d words next) then few most) none
  | inr some ↦
      ap (λ found. (found then λ next. rows_from d words next) then few most) some.1
      ∙ rows_many d most words some.0 (omega (arith, kept d word rows some.0 some.1))
]

pub misses_then : {A B : Type 0} (e : FormError) (o : Option A) (f : A → Option B) → Misses e o → Misses e (o then f)
misses_then errors.Memory o f miss = tt
misses_then errors.Shapeless o f miss = ap (λ o. o then f) miss
