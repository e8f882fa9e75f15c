-- The extensors of sections are those of the first starts, and the value that sections end with has some of them.
use Rattle.std.proofs.Common.{◌≡◌, ℕ, ◌-◌, ◌<◌, ◌≤◌, Bool, true, false, cond, List, [], ◌∷◌, ◌++◌, map, length, refl, sym, ap}
use Rattle.std.proofs.Common.{◌∙◌, append_assoc, append-nil, replicate, arith, subst}
use Rattle.std.proofs.Common.{is_lt}
use Rattle.std.specs.Prelude.{T, Option, Some, None, pos}
use Rattle.std.specs.FinMap.{is_sorted}
use Rattle.std.specs.FinMap.Entries.{below_all}
use Rattle.std.specs.List.{AllByRecursion, cons_option}
use Rattle.coordinate_model.specs.Sequences.{IsRank}
use Rattle.coordinate_model.specs.BracketPolynomial.{BracketPolynomial}
use Rattle.coordinate_model.specs.Key.{Key, row_cmp}
use Rattle.coordinate_model.specs.Sums.{Terms, sum_of, single}
use Rattle.coordinate_model.specs.Starts.{Entry, has_term}
use Rattle.coordinate_model.specs.Value.{Value, HasStep}
use Rattle.coordinate_model.proofs.Bools.{both, first, second}
use Rattle.coordinate_model.proofs.Ranks.{by_rank}
use Rattle.bracket_terms.specs.declared.extensor.Extensor.{Extensor}
use Rattle.bracket_terms.specs.Joins.{points_of}
use Rattle.bracket_poly.specs.Kept.{TrackedOf}
use Rattle.bracket_poly.specs.Sections.{Rewritten, entry_from, value_from}
use Rattle.bracket_poly.specs.Tracked.{nothing, plus_term}
use Rattle.bracket_poly.specs.Values.{IsValue, entry_of, value_of, extensor_size}
use Rattle.cayley_terms.specs.Starts.{one_of}
use Rattle.straightening.specs.Runs.{Stop}
use Rattle.cayley_run.specs.Sections.{Work, work, rewritten, Sections, in_front, run_starts}
use Rattle.shuffle_meet.specs.Stops.{Start}
use Rattle.cayley_run.specs.Making.{AreStarts}
use Rattle.cayley_run.specs.Ready.{AreSections, start_entry}
use Rattle.cayley_run.specs.Seen.{starts_of}
use Rattle.shuffle_meet.proofs.StartSums.{entries_at}

-- ---- the value that sections end with

-- what holds without a section's end, and with it where it has a term
from_one : (Q : Value → Type 0) (s : Rewritten) (v : Value) → Q v
    → ((f : BracketPolynomial) → has_term (s.scalar, f) ≡ true → Q ((s.scalar, f) ∷ v)) → Q (cons_option (entry_from s) v)
from_one Q s v none some = by_end s.end
  where
    by_test : (f : BracketPolynomial) (b : Bool) → has_term (s.scalar, f) ≡ b
        → Q (cons_option (cond b (Some (s.scalar, f)) None) v)
    by_test f true e = some f e
    by_test f false e = none

    by_end : (o : Option BracketPolynomial)
        → Q (cons_option (elim o as (λ _. Option Entry) [
          | None ↦ None
          | Some f ↦ cond (has_term (s.scalar, f)) (Some (s.scalar, f)) None
        ]) v)
    by_end None = none
    by_end (Some f) = by_test f (has_term (s.scalar, f)) refl

value_below : (x : List ℕ) (ss : List Rewritten) → T (below_all row_cmp x (map start_entry ss))
    → T (below_all row_cmp x (value_from ss))
value_below x [] h = tt
value_below x (s ∷ ss) h =
    let rest = value_below x ss (second (is_lt (row_cmp x s.scalar)) (below_all row_cmp x (map start_entry ss)) h) in
    from_one (λ v. T (below_all row_cmp x v)) s (value_from ss) rest
    (λ f e. both (is_lt (row_cmp x s.scalar)) (below_all row_cmp x (value_from ss))
    (first (is_lt (row_cmp x s.scalar)) (below_all row_cmp x (map start_entry ss)) h) rest)

value_sorted : (ss : List Rewritten) → T (is_sorted row_cmp (map start_entry ss)) → T (is_sorted row_cmp (value_from ss))
value_sorted [] h = tt
value_sorted (s ∷ ss) h =
    let below = first (below_all row_cmp s.scalar (map start_entry ss)) (is_sorted row_cmp (map start_entry ss)) h in
    let rest =
    value_sorted ss (second (below_all row_cmp s.scalar (map start_entry ss)) (is_sorted row_cmp (map start_entry ss)) h) in
    from_one (λ v. T (is_sorted row_cmp v)) s (value_from ss) rest
    (λ f e. both (below_all row_cmp s.scalar (value_from ss)) (is_sorted row_cmp (value_from ss))
    (value_below s.scalar ss below) rest)

value_sizes : (n : ℕ) (ss : List Rewritten) → AllByRecursion (λ s. length s.scalar ≡ n) ss → HasStep n (value_from ss)
value_sizes n [] h = tt
value_sizes n (s ∷ ss) h =
    let rest = value_sizes n ss h.1 in
    from_one (HasStep n) s (value_from ss) rest (λ f e. (h.0, rest))

value_terms : (ss : List Rewritten) → AllByRecursion (λ e. has_term e ≡ true) (value_from ss)
value_terms [] = tt
value_terms (s ∷ ss) =
    from_one (λ v. AllByRecursion (λ e. has_term e ≡ true) v) s (value_from ss) (value_terms ss)
    (λ f e. (e, value_terms ss))

-- entries that are the value of sections are a value
pub value_formed : (d step : ℕ) (ss : List Rewritten) (entries : List (Extensor × TrackedOf d)) → IsRank d → step ≤ d
    → AreSections d step ss → value_of entries ≡ value_from ss → IsValue d step entries
value_formed d step ss entries rank within h e = record {
  rank = rank;
  within = within;
  sizes = rw e (value_sizes (extensor_size d step) ss h.sizes);
  ascending = rw e (value_sorted ss h.ascending);
  terms = rw e (value_terms ss);
}

-- the value without one more section that adds nothing to it, and with one that does
pub value_without : (done : Value) (s : Rewritten) (rest : List Rewritten) → entry_from s ≡ None
    → done ++ value_from rest ≡ done ++ value_from (s ∷ rest)
value_without done s rest e = ap (λ o. done ++ cons_option o (value_from rest)) (sym e)

pub value_with : (done : Value) (s : Rewritten) (rest : List Rewritten) (e : Entry) → entry_from s ≡ Some e
    → (done ++ e ∷ []) ++ value_from rest ≡ done ++ value_from (s ∷ rest)
value_with done s rest e h =
    append_assoc done (e ∷ []) (value_from rest) ∙ ap (λ o. done ++ cons_option o (value_from rest)) (sym h)

-- where no section is left, the whole value is done
pub value_done : (done : Value) (ss : List Rewritten) (rest : List Rewritten) → done ++ value_from rest ≡ value_from ss
    → rest ≡ [] → done ≡ value_from ss
value_done done ss rest h e =
    sym (append-nil done) ∙ ap (λ xs. done ++ value_from xs) (sym e) ∙ h

-- the entry by a section's end
abbrev by_end : Rewritten → Option BracketPolynomial → Option Entry
by_end s o = elim o [
  | None ↦ None
  | Some f ↦ cond (has_term (s.scalar, f)) (Some (s.scalar, f)) None
]

-- a section that has no end, and one that ends with or without a term
pub from_none : (s : Rewritten) → s.end ≡ None → entry_from s ≡ None
from_none s e = ap (by_end s) e

pub from_some : (s : Rewritten) (f : BracketPolynomial) → s.end ≡ Some f → 0 < length f.terms
    → entry_from s ≡ Some (s.scalar, f)
from_some s f e h = ap (by_end s) e ∙ by_terms f.terms h
  where
    by_terms : (ts : Terms Key) → 0 < length ts
        → cond {A = Option Entry} (elim ts as (λ _. Bool) [ [] ↦ false | t ∷ us ↦ true ]) (Some (s.scalar, f)) None
        ≡ Some (s.scalar, f)
    by_terms [] h = absurd (omega arith)
    by_terms (t ∷ ts) h = refl

pub from_zero : (s : Rewritten) (f : BracketPolynomial) → s.end ≡ Some f → length f.terms ≤ 0 → entry_from s ≡ None
from_zero s f e h = ap (by_end s) e ∙ by_terms f.terms h
  where
    by_terms : (ts : Terms Key) → length ts ≤ 0
        → cond {A = Option Entry} (elim ts as (λ _. Bool) [ [] ↦ false | t ∷ us ↦ true ]) (Some (s.scalar, f)) None ≡ None
    by_terms [] h = refl
    by_terms (t ∷ ts) h = absurd (omega arith)

-- ---- the value of a free point

-- 1, added to nothing
pub one_added : (plus_term nothing (record { exponents = replicate 64 0; rows = [] }, pos 1)).sum ≡ one_of 64
unfolding single
one_added = refl

one_has_term : has_term ([], one_of 64) ≡ true
unfolding single sum_of
one_has_term = refl

free_entry : (d point : ℕ) (x : Extensor) (p : TrackedOf d) → IsRank d → points_of x ≡ point ∷ []
    → p.tracked.sum ≡ one_of 64 → IsValue d 1 ((x, p) ∷ [])
free_entry d point x p rank e h = record {
  rank = rank;
  within = by_rank (λ d. 1 ≤ d) (omega arith) (omega arith) (omega arith) d rank;
  sizes =
      (ap (λ xs. length xs) e ∙ by_rank (λ d. 1 ≡ extensor_size d 1) refl refl refl d rank, tt);
  ascending = tt;
  terms = (ap (λ f. has_term ([], f)) h ∙ one_has_term, tt);
}

pub free_formed : (d point : ℕ) (old new : List (Extensor × TrackedOf d)) (x : Extensor) (p : TrackedOf d)
    → old ≡ [] → new ≡ old ++ (x, p) ∷ [] → IsRank d → points_of x ≡ point ∷ [] → p.tracked.sum ≡ one_of 64
    → IsValue d 1 new
free_formed d point old new x p none only rank e h =
    subst (IsValue d 1) (sym (only ∙ ap (λ es. es ++ (x, p) ∷ []) none)) (free_entry d point x p rank e h)

-- ---- the sections of starts

-- what holds of the first section alone, and of it before others
first_one : (Q : Sections → Type 0) (left : ℕ) (start : Start) (w : Work) (others : Sections)
    → ((stop : Stop) → Q (record { sections = rewritten start w ∷ []; left = left; stop = Some stop }))
    → Q (in_front (rewritten start w) others)
    → Q (elim w.turns.stop as (λ _. Sections) [
      | Some stop ↦ record { sections = rewritten start w ∷ []; left = left; stop = Some stop }
      | None ↦ in_front (rewritten start w) others
    ])
first_one Q left start w others some none = by_stop w.turns.stop
  where
    by_stop : (o : Option Stop)
        → Q (elim o as (λ _. Sections) [
          | Some stop ↦ record { sections = rewritten start w ∷ []; left = left; stop = Some stop }
          | None ↦ in_front (rewritten start w) others
        ])
    by_stop (Some stop) = some stop
    by_stop None = none

sections_sizes : (n : ℕ) (contract : Bool) (budget : ℕ) (starts : List Start) → AllByRecursion (λ e. length e.0 ≡ n)
    (entries_at starts)
    → AllByRecursion (λ s. length s.scalar ≡ n) (run_starts contract budget starts).sections
sections_sizes n contract budget [] h = tt
sections_sizes n contract budget (start ∷ starts) h =
    let w : Work = work contract budget start.1 in
    let left : ℕ = budget - length w.turns.uses in
    first_one (λ ss. AllByRecursion (λ s. length s.scalar ≡ n) ss.sections) left start w
    (run_starts contract left starts)
    (λ stop. (h.0, tt)) (h.0, sections_sizes n contract left starts h.1)

sections_below : (x : List ℕ) (contract : Bool) (budget : ℕ) (starts : List Start) → T
    (below_all row_cmp x (entries_at starts))
    → T (below_all row_cmp x (map start_entry (run_starts contract budget starts).sections))
sections_below x contract budget [] h = tt
sections_below x contract budget (start ∷ starts) h =
    let w : Work = work contract budget start.1 in
    let left : ℕ = budget - length w.turns.uses in
    let here = first (is_lt (row_cmp x start.0)) (below_all row_cmp x (entries_at starts)) h in
    let rest =
    sections_below x contract left starts
    (second (is_lt (row_cmp x start.0)) (below_all row_cmp x (entries_at starts)) h) in
    first_one (λ ss. T (below_all row_cmp x (map start_entry ss.sections))) left start w
    (run_starts contract left starts)
    (λ stop. both (is_lt (row_cmp x start.0)) true here tt)
    (both (is_lt (row_cmp x start.0))
    (below_all row_cmp x (map start_entry (run_starts contract left starts).sections)) here rest)

sections_sorted : (contract : Bool) (budget : ℕ) (starts : List Start) → T (is_sorted row_cmp (entries_at starts))
    → T (is_sorted row_cmp (map start_entry (run_starts contract budget starts).sections))
sections_sorted contract budget [] h = tt
sections_sorted contract budget (start ∷ starts) h =
    let w : Work = work contract budget start.1 in
    let left : ℕ = budget - length w.turns.uses in
    let below = first (below_all row_cmp start.0 (entries_at starts)) (is_sorted row_cmp (entries_at starts)) h in
    let rest =
    sections_sorted contract left starts
    (second (below_all row_cmp start.0 (entries_at starts)) (is_sorted row_cmp (entries_at starts)) h) in
    first_one (λ ss. T (is_sorted row_cmp (map start_entry ss.sections))) left start w (run_starts contract left starts)
    (λ stop. tt)
    (both (below_all row_cmp start.0 (map start_entry (run_starts contract left starts).sections))
    (is_sorted row_cmp (map start_entry (run_starts contract left starts).sections))
    (sections_below start.0 contract left starts below) rest)

-- the sections of starts whose extensors are those of a value
pub sections_of_starts : (d step : ℕ) (contract : Bool) (budget : ℕ) (starts : List Start)
    → AllByRecursion (λ e. length e.0 ≡ extensor_size d step) (entries_at starts)
    → T (is_sorted row_cmp (entries_at starts)) → AreSections d step (run_starts contract budget starts).sections
sections_of_starts d step contract budget starts sizes ascending = record {
  sizes = sections_sizes (extensor_size d step) contract budget starts sizes;
  ascending = sections_sorted contract budget starts ascending;
}

-- and no sections are such
pub no_sections : (d step : ℕ) → AreSections d step []
no_sections d step = record { sizes = tt; ascending = tt }

-- ---- the starts of a value of the code

entries-same : {d : ℕ} (es : List (Extensor × TrackedOf d)) → entries_at (starts_of es) ≡ value_of es
entries-same [] = refl
entries-same {d = d} (e ∷ es) = ap (λ v. entry_of {d = d} e ∷ v) (entries-same es)

-- the sections of starts have their extensors
pub sections_of_entries : {d : ℕ} (step : ℕ) (contract : Bool) (budget : ℕ) (entries : List (Extensor × TrackedOf d))
    → AreStarts d step entries → AreSections d step (run_starts contract budget (starts_of entries)).sections
sections_of_entries {d = d} step contract budget entries h =
    sections_of_starts d step contract budget (starts_of entries)
    (subst (λ v. HasStep (extensor_size d step) v) (sym (entries-same entries)) h.sizes)
    (subst (λ v. T (is_sorted row_cmp v)) (sym (entries-same entries)) h.ascending)

-- and so have those that the code has of them
pub sections_made : {d : ℕ} (step : ℕ) (contract : Bool) (budget : ℕ) (entries : List (Extensor × TrackedOf d))
    (ss : Sections) → AreStarts d step entries → ss ≡ run_starts contract budget (starts_of entries)
    → AreSections d step ss.sections
sections_made {d = d} step contract budget entries ss h r =
    subst (λ xs. AreSections d step xs.sections) (sym r) (sections_of_entries step contract budget entries h)
