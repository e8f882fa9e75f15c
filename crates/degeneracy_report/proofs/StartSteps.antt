-- The steps that make the join with fresh points.
use Rattle.std.proofs.Common.{◌≡◌, ℕ, ◌+◌, ◌<◌, ◌≤◌, List, [], ◌∷◌, ◌++◌, length, map, drop, flat_map, sym, ap, subst, ◌∙◌, arith, get_or}
use Rattle.std.proofs.lemmas.Bool.{ne_eqb}
use Rattle.std.proofs.lemmas.List.{drop_more, drop_all}
use Rattle.std.specs.Prelude.{ℤ, ⊤, Ok, Err, Result, cond}
use Rattle.std.specs.List.{AllByRecursion}
use Rattle.coordinate_model.specs.Sums.{Terms}
use Rattle.coordinate_model.specs.Key.{Key}
use Rattle.coordinate_model.specs.Starts.{Entry}
use Rattle.coordinate_model.specs.Value.{Value as Entries, HasStep}
use Rattle.bracket_terms.specs.declared.extensor.Extensor.{Extensor}
use Rattle.bracket_terms.specs.Joins.{points_of}
use Rattle.bracket_terms.proofs.ExtensorLaws.{length-points_of}
use Rattle.bracket_poly.specs.Answers.{AddsTerms, IsStop}
use Rattle.bracket_poly.specs.Kept.{TrackedOf}
use Rattle.bracket_poly.specs.Makings.{adding}
use Rattle.bracket_poly.specs.Tracked.{Tracked, nothing}
use Rattle.bracket_poly.specs.Values.{entry_of, value_of}
use Rattle.bracket_poly.specs.declared.error.PolyError.{PolyError}
use Rattle.bracket_poly.specs.declared.value.Value.{Value}
use Rattle.bracket_poly.proofs.Additions.{SoFar, one_by_one, next_item, all_items, error_item}
use Rattle.bracket_poly.proofs.Makings.{adds_ok, adds_err, holds_at}
use Rattle.degeneracy_report.specs.Joined.{IsBefore, with_row, joined_terms, start_terms, fresh_points}

-- a term with one row more, alone
abbrev pub row_term : List ℕ → Key × ℤ → Terms Key
row_term row t = (with_row row t.0, t.1) ∷ []

-- the terms of an entry, one by one
pub entry_terms : (row points : List ℕ) (e : Entry) → row ≡ e.0 ++ points → flat_map (row_term row) e.1.terms ≡ joined_terms points e
entry_terms row points e same =
    one_by_one (λ t. (with_row row t.0, t.1)) e.1.terms
    ∙ ap (λ (r : List ℕ). map (λ t. (with_row r t.0, t.1)) e.1.terms) same

-- ---- the entries of a value

-- the entries of a value that is neither a scalar nor full have its step
pub has_step : {d : ℕ} (v : Value d) → v.step < d → HasStep v.step (value_of v.entries)
has_step {d} v most =
    subst (λ (n : ℕ). HasStep n (value_of v.entries)) (ap (λ b. cond b 0 v.step) (ne_eqb v.step d (λ e. omega arith)))
    v.formed.sizes

-- and so have their extensors
sized : {d : ℕ} (v : Value d) → v.step < d → AllByRecursion (λ e. e.0.size ≡ v.step) v.entries
sized {d} v most = each v.entries (has_step v most)
  where
    each : (es : List (Extensor × TrackedOf d)) → HasStep v.step (value_of es) → AllByRecursion (λ e. e.0.size ≡ v.step) es
    each [] s = tt
    each (e ∷ es) s = (sym (length-points_of e.0.size e.0.points e.0.formed) ∙ s.0, each es s.1)

-- an entry that can be joined with the fresh points
pub record IsReadyEntry (d step fresh : ℕ) (e : Extensor × TrackedOf d) : Type 0 where
  pub size : e.0.size ≡ step
  pub least : 1 ≤ e.0.size
  pub most : e.0.size < d
  pub points : AllByRecursion (λ p. p < fresh) (points_of e.0)

-- so are those of a value
ready : {d : ℕ} (v : Value d) (fresh : ℕ) → 1 ≤ v.step → v.step < d → AllByRecursion (IsBefore fresh) (value_of v.entries)
    → AllByRecursion (IsReadyEntry d v.step fresh) v.entries
ready {d} v fresh least most before = each v.entries (sized v most) before
  where
    each : (es : List (Extensor × TrackedOf d)) → AllByRecursion (λ e. e.0.size ≡ v.step) es
        → AllByRecursion (IsBefore fresh) (value_of es) → AllByRecursion (IsReadyEntry d v.step fresh) es
    each [] s b = tt
    each (e ∷ es) s b = (
      let same : e.0.size ≡ v.step = s.0 in
          record { size = same; least = omega arith; most = omega arith; points = b.0.extensor },
      each es s.1 b.1,
    )

-- and the one at a place
pub ready_at : {d : ℕ} (v : Value d) (fresh : ℕ) (es : List (Extensor × TrackedOf d)) (i : ℕ) (x : Extensor × TrackedOf d)
    → 1 ≤ v.step → v.step < d → AllByRecursion (IsBefore fresh) (value_of v.entries) → es ≡ v.entries → i < length es
    → x ≡ get_or es i x → IsReadyEntry d v.step fresh x
ready_at {d} v fresh es i x least most before same here is =
    holds_at (IsReadyEntry d v.step fresh) es i x
    (subst (AllByRecursion (IsReadyEntry d v.step fresh)) (sym same) (ready v fresh least most before)) here is

-- the points that an entry lacks are those that the value lacks
pub entry_added : {X : Type 0} (d fresh step : ℕ) (e : Extensor × TrackedOf d) → e.0.size ≡ step → (old new : Tracked)
    (r : Result X PolyError) → AddsTerms old (joined_terms (fresh_points d e.0.size fresh) (entry_of e)) r new
    → AddsTerms old (joined_terms (fresh_points d step fresh) (entry_of e)) r new
entry_added d fresh step e same old new r a =
    subst (λ (n : ℕ). AddsTerms old (joined_terms (fresh_points d n fresh) (entry_of e)) r new) same a

-- ---- a loop over the entries of the code, by their places

module _ {d : ℕ} (points : List ℕ) (es : List (Extensor × TrackedOf d)) (i : ℕ) where
  -- the entries from a place on
  abbrev pub left_from : ℕ → Entries
  left_from n = value_of (drop n es)

  first_left : (x : Extensor × TrackedOf d) → i < length es → x ≡ get_or es i x → left_from i ≡ entry_of x ∷ left_from (i + 1)
  first_left x h e = ap value_of (drop_more es i x h) ∙ ap (λ y. entry_of y ∷ left_from (i + 1)) (sym e)

  pub next_entry : (old now new : Tracked) (x : Extensor × TrackedOf d) → i < length es → x ≡ get_or es i x
      → SoFar (joined_terms points) old now (value_of es) (left_from i)
      → AddsTerms {X = ⊤} now (joined_terms points (entry_of x)) (Ok tt) new
      → SoFar (joined_terms points) old new (value_of es) (left_from (i + 1))
  next_entry old now new x h e s a =
      next_item (joined_terms points) old now new (value_of es) (left_from i) (left_from (i + 1)) (entry_of x) tt s
      (first_left x h e) a

  pub stop_entry : (now new : Tracked) (x : Extensor × TrackedOf d) (error : PolyError) → i < length es → x ≡ get_or es i x
      → SoFar (joined_terms points) nothing now (value_of es) (left_from i)
      → AddsTerms {X = ⊤} now (joined_terms points (entry_of x)) (Err error) new
      → IsStop error (adding nothing (start_terms points (value_of es)))
  stop_entry now new x error h e s a =
      adds_err {X = ⊤} nothing new (start_terms points (value_of es)) error
      (error_item (joined_terms points) nothing now new (value_of es) (left_from i) (left_from (i + 1)) (entry_of x) error s
      (first_left x h e) a)

  pub last_entry : (now : Tracked) → length es ≤ i
      → SoFar (joined_terms points) nothing now (value_of es) (left_from i)
      → adding nothing (start_terms points (value_of es)) ≡ Ok now
  last_entry now h s =
      adds_ok {X = ⊤} nothing now (start_terms points (value_of es)) tt
      (all_items (joined_terms points) {X = ⊤} nothing now (value_of es) (left_from i) tt s (ap value_of (drop_all i es h)))
