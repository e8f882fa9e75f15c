-- The sums with a term, taken out of a map of all: they are the entries of a value.
use Rattle.std.specs.Prelude.{◌≡◌, ℕ, ◌<◌, ◌≤◌, Bool, true, false, cond, T, [], ◌∷◌, ◌++◌, filter, length}
use Rattle.std.specs.List.{AllByRecursion}
use Rattle.std.specs.List.Sorted.{IsStrictlySortedBy}
use Rattle.std.specs.FinMap.{is_sorted}
use Rattle.std.specs.FinMap.Entries.{below_all}
use Rattle.std.specs.Map.{keys_of}
use Rattle.std.specs.declared.cmp.Ordering.TheVariants.{Less}
use Rattle.std.proofs.Common.{refl, sym, ap, subst, ◌∙◌, arith, append-nil, append_assoc}
use Rattle.std.proofs.lemmas.List.Elements.{filter-append}
use Rattle.coordinate_model.specs.Sums.{Terms}
use Rattle.coordinate_model.specs.Key.{Key, row_cmp}
use Rattle.coordinate_model.specs.Value.{HasStep}
use Rattle.coordinate_model.specs.Starts.{has_term}
use Rattle.coordinate_model.proofs.Bools.{both, is_less}
use Rattle.bracket_terms.specs.declared.extensor.Extensor.{Extensor}
use Rattle.bracket_terms.specs.Joins.{points_of}
use Rattle.bracket_terms.proofs.ExtensorLaws.{length-points_of}
use Rattle.bracket_poly.specs.Kept.{TrackedOf}
use Rattle.bracket_poly.specs.Values.{entry_of, value_of, extensor_size, IsValue}
use Rattle.shuffle_meet.specs.Seen.{AreOfStep}
use Rattle.shuffle_meet.proofs.SeenLaws.{Entries, HaveSize, extensor_cmp, cmp_points}

-- whether a sum of the code has a term
abbrev pub has_sum : {d : ℕ} → Extensor × TrackedOf d → Bool
has_sum e = has_term (entry_of e)

-- ---- the loop

-- those entries that the loop has seen and that have a term; the others are left
pub record Sifted {d : ℕ} (all done left items : Entries d) : Type 0 where
  pub split : all ≡ done ++ left
  pub kept : items ≡ filter has_sum done

has_where : (ts : Terms Key) → 0 < length ts → elim ts [ [] ↦ false | t ∷ us ↦ true ] ≡ true
has_where [] h = absurd (omega arith)
has_where (t ∷ ts) h = refl

none_where : (ts : Terms Key) → length ts ≤ 0 → elim ts [ [] ↦ false | t ∷ us ↦ true ] ≡ false
none_where [] h = refl
none_where (t ∷ ts) h = absurd (omega arith)

module _ {d : ℕ} (all done left later items : Entries d) (e : Extensor × TrackedOf d) (n : ℕ) (s : Sifted all done left items)
    (next : left ≡ e ∷ later) (count : n ≡ length e.1.tracked.sum.terms) where
  seen_one : all ≡ (done ++ e ∷ []) ++ later
  seen_one = s.split ∙ ap (λ es. done ++ es) next ∙ sym (append_assoc done (e ∷ []) later)

  kept_one : (b : Bool) → has_sum e ≡ b → filter has_sum (done ++ e ∷ []) ≡ filter has_sum done ++ cond b (e ∷ []) []
  kept_one b h = filter-append has_sum done (e ∷ []) ∙ ap (λ c. filter has_sum done ++ cond c (e ∷ []) []) h

  pub takes_entry : (new : Entries d) → 0 < n → new ≡ items ++ e ∷ [] → Sifted all (done ++ e ∷ []) later new
  takes_entry new h p = record {
    split = seen_one;
    kept = p ∙ ap (λ es. es ++ e ∷ []) s.kept
        ∙ sym (kept_one true (has_where e.1.tracked.sum.terms (subst (λ (m : ℕ). 0 < m) count h)));
  }

  pub leaves_entry : n ≤ 0 → Sifted all (done ++ e ∷ []) later items
  leaves_entry h = record {
    split = seen_one;
    kept = s.kept ∙ sym (append-nil (filter has_sum done))
        ∙ sym (kept_one false (none_where e.1.tracked.sum.terms (subst (λ (m : ℕ). m ≤ 0) count h)));
  }

pub all_sifted : {d : ℕ} (all done left items : Entries d) → Sifted all done left items → left ≡ []
    → items ≡ filter has_sum all
all_sifted all done left items s e =
    s.kept ∙ ap (filter has_sum) (sym (s.split ∙ ap (λ es. done ++ es) e ∙ append-nil done))

-- ---- what is kept is a value

-- what holds of all entries holds of those that are kept
all_kept : {d : ℕ} (P : Extensor × TrackedOf d → Type 0) (es : Entries d) → AllByRecursion P es
    → AllByRecursion (λ e. P e × (has_sum e ≡ true)) (filter has_sum es)
all_kept P [] h = tt
all_kept P (e ∷ es) h = step (has_sum e) refl (all_kept P es h.1)
  where
    step : (b : Bool) → has_sum e ≡ b → AllByRecursion (λ f. P f × (has_sum f ≡ true)) (filter has_sum es)
        → AllByRecursion (λ f. P f × (has_sum f ≡ true)) (cond b (e ∷ filter has_sum es) (filter has_sum es))
    step true q ih = ((h.0, q), ih)
    step false q ih = ih

module _ {d : ℕ} (n : ℕ) where
  sizes_of : (es : Entries d) → AllByRecursion (λ e. (e.0.size ≡ n) × (has_sum e ≡ true)) es → HasStep n (value_of es)
  sizes_of [] h = tt
  sizes_of (e ∷ es) h =
      (length-points_of e.0.size e.0.points e.0.formed ∙ h.0.0, sizes_of es h.1)

  terms_of_all : (es : Entries d) → AllByRecursion (λ e. (e.0.size ≡ n) × (has_sum e ≡ true)) es
      → AllByRecursion (λ e. has_term e ≡ true) (value_of es)
  terms_of_all [] h = tt
  terms_of_all (e ∷ es) h = (h.0.1, terms_of_all es h.1)

  -- the entries that are kept stand above what all of them stand above
  above_kept : (x : Extensor) (es : Entries d) → x.size ≡ n → HaveSize n es
      → AllByRecursion (λ k. extensor_cmp x k ≡ Less) (keys_of es)
      → T (below_all row_cmp (points_of x) (value_of (filter has_sum es)))
  above_kept x [] size h a = tt
  above_kept x (e ∷ es) size h a = step (has_sum e) (above_kept x es size h.1 a.1)
    where
      step : (b : Bool) → T (below_all row_cmp (points_of x) (value_of (filter has_sum es)))
          → T (below_all row_cmp (points_of x) (value_of (cond b (e ∷ filter has_sum es) (filter has_sum es))))
      step true ih = both _ _ (is_less _ (sym (cmp_points x e.0 (size ∙ sym h.0)) ∙ a.0)) ih
      step false ih = ih

  sorted_kept : (es : Entries d) → HaveSize n es → IsStrictlySortedBy extensor_cmp (keys_of es)
      → T (is_sorted row_cmp (value_of (filter has_sum es)))
  unfolding IsStrictlySortedBy
  sorted_kept [] h a = tt
  sorted_kept (e ∷ es) h a = step (has_sum e) (sorted_kept es h.1 a.1)
    where
      step : (b : Bool) → T (is_sorted row_cmp (value_of (filter has_sum es)))
          → T (is_sorted row_cmp (value_of (cond b (e ∷ filter has_sum es) (filter has_sum es))))
      step true ih = both _ _ (above_kept e.0 es h.0 h.1 a.0) ih
      step false ih = ih

pub kept_value : (d step : ℕ) (es items : Entries d) → AreOfStep d step es
    → IsStrictlySortedBy extensor_cmp (keys_of es) → items ≡ filter has_sum es → IsValue d step items
kept_value d step es items h sorted e =
    let n : ℕ = extensor_size d step in
    let parts : AllByRecursion (λ f. (f.0.size ≡ n) × (has_sum f ≡ true)) (filter has_sum es) =
    all_kept (λ f. f.0.size ≡ n) es h.sizes in
    subst (IsValue d step) (sym e) (record {
      rank = h.rank;
      within = h.within;
      sizes = sizes_of n (filter has_sum es) parts;
      ascending = sorted_kept n es h.sizes sorted;
      terms = terms_of_all n (filter has_sum es) parts;
    })
