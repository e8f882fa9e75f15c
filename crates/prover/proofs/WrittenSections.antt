-- The sections of starts, where nothing stopped them: each is accepted as it is read back, and within the
-- limits of a text.
use Rattle.std.proofs.Common.{◌≡◌, ℕ, zero, suc, ◌+◌, ◌-◌, ◌<◌, ◌≤◌, Bool, true, false, cond, T, List, [], ◌∷◌, ◌++◌}
use Rattle.std.proofs.Common.{map, length, drop}
use Rattle.std.proofs.Common.{Option, Some, None, refl, sym, ap, ap₂, subst, ◌∙◌, arith, Less}
use Rattle.std.specs.Prelude.{◌||◌, slice_index, IfSome}
use Rattle.std.proofs.lemmas.List.{length-map}
use Rattle.std.specs.Cmp.{Equal-is}
use Rattle.std.specs.FinMap.{is_sorted}
use Rattle.std.specs.List.{AllByRecursion, IsDistinct, cons_option}
use Rattle.std.specs.List.Sorted.{IsStrictlyIncreasing}
use Rattle.std.specs.Ordering.{eq_by_cmp}
use Rattle.coordinate_model.specs.Sequences.{IsRank}
use Rattle.coordinate_model.specs.Sums.{Terms}
use Rattle.coordinate_model.specs.Key.{Key, key_cmp, IsRow, IsKey, points}
use Rattle.coordinate_model.specs.BracketPolynomial.{BracketPolynomial, IsNormal}
use Rattle.coordinate_model.specs.Starts.{Entry, has_term}
use Rattle.coordinate_model.specs.Syzygy.{Use}
use Rattle.coordinate_model.proofs.Bools.{first, second}
use Rattle.coordinate_model.proofs.KeyProducts.{key_same}
use Rattle.coordinate_model.proofs.KeySizes.{each_row}
use Rattle.coordinate_model.proofs.Splits.{all_so, all_both, all_front, all_back}
use Rattle.step_types.specs.declared.measure.Measure.{Measure}
use Rattle.step_types.specs.declared.names.Names.{Names}
use Rattle.bracket_poly.specs.Sections.{Rewritten, Worked, value_from}
use Rattle.bracket_poly.specs.Tracked.{Tracked, fits, has_met, met_limit}
use Rattle.bracket_poly.specs.Values.{extensor_size}
use Rattle.bracket_poly.proofs.TrackedLaws.{true_test}
use Rattle.straightening.specs.Runs.{Stop}
use Rattle.straightening.proofs.TermLists.{all_above, greater_differs}
use Rattle.cayley_run.specs.Bounds.{AreExponents, IsKeyWithin, IsPolynomialWithin, IsUseWithin, IsSectionWithin}
use Rattle.cayley_run.specs.Sections.{Work, work, rewritten, Sections, in_front, run_starts}
use Rattle.cayley_run.proofs.WorkLaws.{work_is}
use Rattle.log_checker.specs.Accepted.{IsAccepted, start_entry, claimed_entry}
use Rattle.log_checker.specs.Claims.{Claim, end_or_zero}
use Rattle.proof_text.specs.Told.{IsKeyTold, IsSumTold, IsUseTold, IsEndTold, IsSectionTold}
use Rattle.shuffle_meet.specs.Stops.{Start}
use Rattle.prover.specs.Checked.{claim_read}
use Rattle.prover.proofs.WrittenLimits.{IsWithinLimits, IsFewerMet, fewer_keys}
use Rattle.prover.proofs.WrittenUses.{IsGoing, IsSmallUse, Works, works, none_refused, multiples_are}

abbrev same : Key → Key → Bool
same = eq_by_cmp key_cmp

-- what objects claim that are read back
abbrev pub claims_back : List Worked → List (List Claim)
claims_back objects = map (λ o. map claim_read o.sections) objects

-- ---- the keys of the terms

abbrev keys_of : Terms Key → List Key
keys_of ts = map (λ t. t.0) ts

-- a key of a term is met
term_met : (met : List Key) (ts : Terms Key) (k : Key) → AllByRecursion (λ t. T (has_met met t.0)) ts
    → has_met (keys_of ts) k ≡ true → has_met met k ≡ true
term_met met [] k h e = cc
term_met met (t ∷ ts) k h e = step (same k t.0) refl (λ g. term_met met ts k h.1 g) e
  where
    step : (b : Bool) → same k t.0 ≡ b → (has_met (keys_of ts) k ≡ true → has_met met k ≡ true)
        → (b || has_met (keys_of ts) k) ≡ true → has_met met k ≡ true
    step true f ih g =
        subst (λ (x : Key). has_met met x ≡ true) (sym (key_same k t.0 ((Equal-is (key_cmp k t.0)).0 f)))
        (true_test (has_met met t.0) h.0)
    step false f ih g = ih g

keys_differ : (k : Key) (ts : Terms Key) → AllByRecursion (λ t. key_cmp k t.0 ≡ Less) ts
    → AllByRecursion (λ x. same k x ≡ false) (keys_of ts)
keys_differ k [] h = tt
keys_differ k (t ∷ ts) h = (greater_differs k t.0 h.0, keys_differ k ts h.1)

keys_once : (ts : Terms Key) → T (is_sorted key_cmp ts) → IsDistinct (eq_by_cmp key_cmp) (keys_of ts)
unfolding IsDistinct
keys_once [] h = tt
keys_once (t ∷ ts) h = (keys_differ t.0 ts (all_above t.0 ts (first _ _ h)), keys_once ts (second _ _ h))

-- a polynomial that is read back has met fewer keys
fewer_met : (p : Tracked) → IsWithinLimits p → IsFewerMet p (record { sum = p.sum; met = keys_of p.sum.terms })
fewer_met p h = record {
  same_sum = refl;
  met = λ k e. term_met p.met p.sum.terms k h.terms_met e;
  once = keys_once p.sum.terms (first _ _ p.sum.canonical);
}

-- it has not too many terms
few_terms : (p : Tracked) → IsWithinLimits p → length p.sum.terms ≤ met_limit
few_terms p h =
    let f = fewer_met p h in
    let a : length (keys_of p.sum.terms) ≤ length p.met = fewer_keys p.met (keys_of p.sum.terms) f.once f.met in
    let b : length (keys_of p.sum.terms) ≡ length p.sum.terms = length-map p.sum.terms (λ t. t.0) in
    let c : length p.met ≤ met_limit = h.few in
    omega arith

-- ---- a section

-- the section is how the start was rewritten, and nothing stopped that
pub record IsWritten (contract : Bool) (start : Start) (s : Rewritten) : Type 0 where
  pub budget : ℕ
  pub is : s ≡ rewritten start (work contract budget start.1)
  pub ended : (work contract budget start.1).turns.stop ≡ None

module _ (d : ℕ) (rank : IsRank d) (contract : Bool) (start : Start) (going : IsGoing d start.1) where
  module _ (budget : ℕ) (ended : (work contract budget start.1).turns.stop ≡ None) where
    abbrev done : Work
    done = work contract budget start.1

    goes : Works d rank start.1 done
    goes = works d rank contract budget start.1 going

    end_is : (rewritten start done).end ≡ Some done.turns.last.sum
    end_is =
        ap (λ (o : Option Stop). elim o as (λ _. Option BracketPolynomial) [
          | Some stop ↦ None
          | None ↦ Some done.turns.last.sum
        ]) ended

    claimed : end_or_zero (rewritten start done).end ≡ done.turns.last.sum
    claimed = ap end_or_zero end_is

    accepted_here : IsAccepted d (claim_read (rewritten start done))
    accepted_here = record {
      within =
          none_refused 1 start.1 (record { sum = start.1.sum; met = keys_of start.1.sum.terms }) done.turns.last
          (done.passes.uses ++ done.turns.uses) going.within (fewer_met start.1 going.within) goes.adds;
      sums =
          multiples_are start.1.sum start.1 done.turns.last (done.passes.uses ++ done.turns.uses) refl goes.adds
          ∙ sym claimed;
      normal =
          subst (IsNormal d 64) (sym claimed) ((work_is d 64 contract budget start.1 rank going.keys).normal ended);
    }

  -- it is accepted
  pub accepted : (s : Rewritten) → IsWritten contract start s → IsAccepted d (claim_read s)
  accepted s w = subst (λ (r : Rewritten). IsAccepted d (claim_read r)) (sym w.is) (accepted_here w.budget w.ended)

-- ---- limits

none_behind : (m : ℕ) (es : List ℕ) → ((i : ℕ) → m ≤ i → slice_index es i ≡ 0) → AllByRecursion (λ e. e ≡ 0) (drop m es)
none_behind zero [] h = tt
none_behind zero (e ∷ es) h = (h 0 (omega arith), none_behind zero es (λ i l. h (suc i) (omega arith)))
none_behind (suc m) [] h = tt
none_behind (suc m) (e ∷ es) h = none_behind m es (λ i l. h (suc i) (omega arith))

module _ (names : Names) (size : Measure) (rows : size.rows ≤ 64) (degree : size.degree ≤ 1000) where
  small_exponents : (es : List ℕ) → AreExponents (length names.params) size.degree es
      → AllByRecursion (λ e. e ≤ 1000) es
  small_exponents es h = all_so (λ e. e ≤ size.degree) (λ e. e ≤ 1000) (λ e l. omega arith) es h.small

  key_told : (k : Key) → IsKey names.rank 64 k × IsKeyWithin (length names.free) (length names.params) size k
      → IsKeyTold names 64 k
  key_told k h = record {
    formed = h.0;
    within = record {
      points_below = h.1.points;
      no_others = none_behind (length names.params) k.exponents h.1.exponents.parameters;
      few_rows = let f : length k.rows ≤ size.rows = h.1.few in omega arith;
      small = small_exponents k.exponents h.1.exponents;
    };
  }

  sum_told : (p : Tracked) → IsGoing names.rank p
      → IsPolynomialWithin (length names.free) (length names.params) size p.sum → IsSumTold names p.sum
  sum_told p h w = record {
    keys =
        all_so (λ t. IsKey names.rank 64 t.0 × IsKeyWithin (length names.free) (length names.params) size t.0)
        (λ t. IsKeyTold names 64 t.0) (λ t i. key_told t.0 i) p.sum.terms
        (all_both (λ t. IsKey names.rank 64 t.0)
        (λ t. IsKeyWithin (length names.free) (length names.params) size t.0) p.sum.terms h.keys w);
    small =
        all_so (λ t. T (fits t.1)) (λ t. fits t.1 ≡ true) (λ t i. true_test (fits t.1) i) p.sum.terms h.within.small;
    few = few_terms p h.within;
  }

  use_told : (u : Use) → IsSmallUse names.rank u × IsUseWithin (length names.free) (length names.params) size u
      → IsUseTold names u
  use_told u h =
      let P : ℕ → Type 0 = λ (point : ℕ). point < length names.free in
      let parts : AllByRecursion P (u.alpha ++ (u.beta ++ u.gamma)) = all_back P (points u.rest) _ h.1.points in
      let behind : AllByRecursion P (u.beta ++ u.gamma) = all_back P u.alpha _ parts in
      record {
        formed = h.0.formed;
        small = true_test (fits u.multiplier) h.0.small;
        key = record {
          points_below = each_row P u.rest (all_front P (points u.rest) _ h.1.points);
          no_others = none_behind (length names.params) u.exponents h.1.exponents.parameters;
          few_rows = let f : length u.rest + 2 ≤ size.rows = h.1.few in omega arith;
          small = small_exponents u.exponents h.1.exponents;
        };
        alpha = all_front P u.alpha _ parts;
        beta = all_front P u.beta _ behind;
        gamma = all_back P u.beta u.gamma behind;
      }

  module _ (rank : IsRank names.rank) (contract : Bool) (step : ℕ) (start : Start) (going : IsGoing names.rank start.1)
      (row : IsRow (extensor_size names.rank step) start.0) where
    told_here : (budget : ℕ) → (work contract budget start.1).turns.stop ≡ None
        → IsSectionWithin (length names.free) (length names.params) size
        (rewritten start (work contract budget start.1))
        → IsSectionTold names step (rewritten start (work contract budget start.1))
    told_here budget ended h =
        let done : Work = work contract budget start.1 in
        let goes : Works names.rank rank start.1 done = works names.rank rank contract budget start.1 going in
        let end_same : (rewritten start done).end ≡ Some done.turns.last.sum =
        end_is names.rank rank contract start going budget ended in
        let within : IfSome (Some done.turns.last.sum)
        (IsPolynomialWithin (length names.free) (length names.params) size) =
        subst (λ (o : Option BracketPolynomial). IfSome o
        (IsPolynomialWithin (length names.free) (length names.params) size)) end_same h.end in
        record {
          scalar = row;
          points = h.extensor;
          start = sum_told start.1 going h.start;
          uses =
              all_so (λ u. IsSmallUse names.rank u × IsUseWithin (length names.free) (length names.params) size u)
              (IsUseTold names) use_told (done.passes.uses ++ done.turns.uses)
              (all_both (IsSmallUse names.rank) (IsUseWithin (length names.free) (length names.params) size)
              (done.passes.uses ++ done.turns.uses) goes.uses h.uses);
          end =
              subst (IsEndTold names) (sym end_same) (sum_told done.turns.last goes.last within);
        }

    -- the section is within the limits of a text
    pub told : (s : Rewritten) → IsWritten contract start s
        → IsSectionWithin (length names.free) (length names.params) size s → IsSectionTold names step s
    told s w h =
        subst (IsSectionTold names step) (sym w.is)
        (told_here w.budget w.ended
        (subst (IsSectionWithin (length names.free) (length names.params) size) w.is h))

-- ---- sections one after another

-- a section for each start
abbrev pub AreWritten : Bool → List Start → List Rewritten → Type 0
AreWritten contract [] [] = Unit {0}
AreWritten contract [] (s ∷ ss) = ⊥
AreWritten contract (start ∷ starts) [] = ⊥
AreWritten contract (start ∷ starts) (s ∷ ss) = IsWritten contract start s × AreWritten contract starts ss

abbrev starts_by : ℕ → Start → Work → Sections → Option Stop → Sections
starts_by left start w others o = elim o [
  | Some stop ↦ record { sections = rewritten start w ∷ []; left = left; stop = Some stop }
  | None ↦ in_front (rewritten start w) others
]

pub starts_written : (contract : Bool) (budget : ℕ) (starts : List Start)
    → (run_starts contract budget starts).stop ≡ None
    → AreWritten contract starts (run_starts contract budget starts).sections
starts_written contract budget [] e = tt
starts_written contract budget (start ∷ starts) e =
    step (work contract budget start.1).turns.stop refl e (λ k. starts_written contract left starts k)
  where
    left : ℕ
    left = budget - length (work contract budget start.1).turns.uses

    step : (o : Option Stop) → (work contract budget start.1).turns.stop ≡ o
        → (starts_by left start (work contract budget start.1) (run_starts contract left starts) o).stop ≡ None
        → ((run_starts contract left starts).stop ≡ None
        → AreWritten contract starts (run_starts contract left starts).sections)
        → AreWritten contract (start ∷ starts)
        (starts_by left start (work contract budget start.1) (run_starts contract left starts) o).sections
    step (Some stop) s k ih = cc
    step None s k ih = (record { budget = budget; is = refl; ended = s }, ih k)

-- they begin with the starts
pub same_entries : (contract : Bool) (starts : List Start) (ss : List Rewritten) → AreWritten contract starts ss
    → map start_entry starts ≡ map claimed_entry (map claim_read ss)
same_entries contract [] [] h = refl
same_entries contract [] (s ∷ ss) h = absurd h
same_entries contract (start ∷ starts) [] h = absurd h
same_entries contract (start ∷ starts) (s ∷ ss) h =
    ap₂ (λ (e : Entry) (es : List Entry). e ∷ es) (sym (ap (λ (r : Rewritten). (r.scalar, r.start)) h.0.is))
    (same_entries contract starts ss h.1)

pub all_accepted : (d : ℕ) (rank : IsRank d) (contract : Bool) (starts : List Start) (ss : List Rewritten)
    → AllByRecursion (λ start. IsGoing d start.1) starts → AreWritten contract starts ss
    → AllByRecursion (IsAccepted d) (map claim_read ss)
all_accepted d rank contract [] [] g h = tt
all_accepted d rank contract [] (s ∷ ss) g h = absurd h
all_accepted d rank contract (start ∷ starts) [] g h = absurd h
all_accepted d rank contract (start ∷ starts) (s ∷ ss) g h =
    (accepted d rank contract start g.0 s h.0, all_accepted d rank contract starts ss g.1 h.1)

-- a start of an object of this step
pub record IsStartOf (d step : ℕ) (start : Start) : Type 0 where
  pub going : IsGoing d start.1
  pub row : IsRow (extensor_size d step) start.0

pub all_told : (names : Names) (size : Measure) → size.rows ≤ 64 → size.degree ≤ 1000 → IsRank names.rank
    → (contract : Bool) (step : ℕ) (starts : List Start) (ss : List Rewritten)
    → AllByRecursion (IsStartOf names.rank step) starts → AreWritten contract starts ss
    → AllByRecursion (IsSectionWithin (length names.free) (length names.params) size) ss
    → AllByRecursion (IsSectionTold names step) ss
all_told names size rows degree rank contract step [] [] g h w = tt
all_told names size rows degree rank contract step [] (s ∷ ss) g h w = absurd h
all_told names size rows degree rank contract step (start ∷ starts) [] g h w = absurd h
all_told names size rows degree rank contract step (start ∷ starts) (s ∷ ss) g h w = (
  told names size rows degree rank contract step start g.0.going g.0.row s h.0 w.0,
  all_told names size rows degree rank contract step starts ss g.1 h.1 w.1,
)

-- the extensors of the value that they end with are those of starts
pub value_rises : (contract : Bool) (starts : List Start) (ss : List Rewritten)
    → AllByRecursion (λ start. IsStrictlyIncreasing start.0) starts → AreWritten contract starts ss
    → AllByRecursion (λ (e : Entry). IsStrictlyIncreasing e.0) (value_from ss)
value_rises contract [] [] g h = tt
value_rises contract [] (s ∷ ss) g h = absurd h
value_rises contract (start ∷ starts) [] g h = absurd h
value_rises contract (start ∷ starts) (s ∷ ss) g h =
    by_end s.end
    (subst (λ (r : Rewritten). IsStrictlyIncreasing r.scalar) (sym h.0.is) g.0)
    (value_rises contract starts ss g.1 h.1)
  where
    by_term : (b : Bool) (f : BracketPolynomial) → IsStrictlyIncreasing s.scalar
        → AllByRecursion (λ (e : Entry). IsStrictlyIncreasing e.0) (value_from ss)
        → AllByRecursion (λ (e : Entry). IsStrictlyIncreasing e.0)
        (cons_option (cond b (Some (s.scalar, f)) None) (value_from ss))
    by_term true f r ih = (r, ih)
    by_term false f r ih = ih

    by_end : (o : Option BracketPolynomial) → IsStrictlyIncreasing s.scalar
        → AllByRecursion (λ (e : Entry). IsStrictlyIncreasing e.0) (value_from ss)
        → AllByRecursion (λ (e : Entry). IsStrictlyIncreasing e.0) (cons_option (elim o as (λ _. Option Entry) [
          | None ↦ None
          | Some f ↦ cond (has_term (s.scalar, f)) (Some (s.scalar, f)) None
        ]) (value_from ss))
    by_end None r ih = ih
    by_end (Some f) r ih = by_term (has_term (s.scalar, f)) f r ih
