-- With a line that has no fault what is read stays good, and its lines have this one more.
use Rattle.std.proofs.Common.{◌≡◌, ℕ, zero, suc, ◌+◌, ◌^◌, ◌<◌, ◌≤◌, Bool, true, false, List, [], ◌∷◌, ◌++◌, length, length-append, map, take, refl, sym, ap, subst, ◌∙◌, arith, append_assoc, append-nil, codes, ℤ}
use Rattle.std.specs.Prelude.{decimal, flat_map, slice_index, nat_lt, ◌==◌, ◌&&◌, ◌||◌}
use Rattle.std.specs.List.{AllByRecursion, list_all}
use Rattle.std.proofs.lemmas.Bool.{ltb-true, eqb-true, ne_eqb}
use Rattle.std.proofs.lemmas.List.{map_push}
use Rattle.std.proofs.lemmas.List.Concat.{flat_map-append}
use Rattle.coordinate_model.specs.Sequences.{IsRank}
use Rattle.coordinate_model.specs.Sums.{Terms, is_zero}
use Rattle.coordinate_model.specs.Key.{Key}
use Rattle.coordinate_model.specs.BracketPolynomial.{BracketPolynomial}
use Rattle.bracket_poly.specs.Sections.{Worked}
use Rattle.bracket_poly.specs.Tracked.{fits, met_limit}
use Rattle.bracket_poly.specs.Values.{extensor_size}
use Rattle.step_types.specs.declared.names.Names.{Names}
use Rattle.construction_reader.proofs.ObjectLaws.{is_same}
use Rattle.construction_reader.specs.Words.{◌is◌}
use Rattle.proof_text.specs.Lines.{spaced}
use Rattle.proof_text.specs.Numbers.{is_number, is_padded, number_of, writes}
use Rattle.proof_text.specs.Forms.{Part, Spelt, Form, PlainForm, form_line, IsRowOf, IsForm}
use Rattle.proof_text.specs.Meant.{is_among, points_meant, use_meant, is_rising}
use Rattle.proof_text.specs.Terms.{polynomial_lines}
use Rattle.proof_text.specs.Proofs.{use_line, object_lines, head_lines}
use Rattle.proof_text.specs.Kinds.{are_same, is_other_header, is_other_object, is_named, is_unnamed, is_misnumbered, is_behind_terms, is_behind_sections, is_disordered, is_misjudged}
use Rattle.proof_text.specs.Told.{IsKeyTold, IsSumTold, IsUseTold, IsObjectTold, AreObjectsTold}
use Rattle.proof_text.specs.State.{Place, State, begun, may_stand, moved, with_term, with_object}
use Rattle.proof_text.proofs.FormLaws.{not_false}
use Rattle.proof_text.proofs.NumberLaws.{and_true}
use Rattle.proof_text.proofs.DecimalLaws.{decimal_of_number}
use Rattle.proof_text.proofs.NameLaws.{all_at, names_again, points_below}
use Rattle.proof_text.proofs.OrderLaws.{rising_increases}
use Rattle.proof_text.proofs.BehindLaws.{term_last}
use Rattle.proof_text.proofs.TermLaws.{KnowsNames}
use Rattle.proof_text.proofs.UseLaws.{use_read}
use Rattle.proof_text.proofs.GoodStates as good

-- ---- numbers and names

number_written : (digits : List ℕ) (n : ℕ) → writes digits n ≡ true → is_padded digits ≡ false → n < 10 ^ 64
    → (decimal (number_of digits) ≡ digits) × (number_of digits ≡ n)
number_written digits n w plain small =
    let both = and_true (is_number digits) (number_of digits == n) w in
    let same = eqb-true (number_of digits) n both.1 in
    (decimal_of_number digits both.0 plain (omega arith), same)

same_names : (names others : List (List ℕ)) → are_same names others ≡ true → names ≡ others
same_names [] [] same = refl
same_names [] (other ∷ others) same = absurd cc
same_names (name ∷ names) [] same = absurd cc
same_names (name ∷ names) (other ∷ others) same =
    let both = and_true (name is other) (are_same names others) same in
    ap (λ n. n ∷ names) (is_same name other both.0) ∙ ap (λ ns. other ∷ ns) (same_names names others both.1)

-- ---- objects that have begun

pub none_begun : (s : State) → s.number ≡ 0 → begun s ≡ []
none_begun s none = rw none refl

pub some_begun : (s : State) → s.number ≡ length s.objects + 1 → begun s ≡ s.objects ++ good.this_object s ∷ []
some_begun s count = rw (ne_eqb s.number 0 (λ e. omega arith)) refl

take_more : (steps : List ℕ) (n m : ℕ) → m ≡ n + 1 → n < length steps → take m steps ≡ take n steps ++ slice_index steps n ∷ []
take_more [] n m one below = absurd (omega arith)
take_more (x ∷ steps) n zero one below = absurd (omega arith)
take_more (x ∷ steps) zero (suc m) one below = let none : m ≡ 0 = omega arith in ap (λ k. x ∷ take k steps) none
take_more (x ∷ steps) (suc n) (suc m) one below = ap (λ xs. x ∷ xs) (take_more steps n m (omega arith) (omega arith))

module _ (names : Names) where
  objects_snoc : (n : ℕ) (steps : List ℕ) (os : List Worked) (step : ℕ) (o : Worked) → AreObjectsTold names n steps os
      → IsObjectTold names (length os + n) step o → AreObjectsTold names n (steps ++ step ∷ []) (os ++ o ∷ [])
  objects_snoc n [] [] step o all this = (subst (λ m. IsObjectTold names m step o) (zero_more n) this, tt)
    where
      zero_more : (n : ℕ) → 0 + n ≡ n
      zero_more n = omega arith
  objects_snoc n [] (p ∷ os) step o all this = absurd all
  objects_snoc n (k ∷ steps) [] step o all this = absurd all
  objects_snoc n (k ∷ steps) (p ∷ os) step o all this =
      (all.0, objects_snoc (n + 1) steps os step o all.1 (subst (λ m. IsObjectTold names m step o) (one_on (length os) n) this))
    where
      one_on : (m n : ℕ) → suc m + n ≡ m + (n + 1)
      one_on m n = omega arith

  -- with an object more the polynomial is told of
  pub sum_more : (t : Key × ℤ) (f : BracketPolynomial) → IsSumTold names f → IsKeyTold names 64 t.0 → fits t.1 ≡ true
      → is_zero t.1 ≡ false → is_behind_terms t.0 f.terms ≡ true → length f.terms < met_limit
      → IsSumTold names (with_term t f)
  sum_more t f sum key small some behind room =
      let same = term_last t f some behind in
      record {
        keys = subst (λ (ts : Terms Key). AllByRecursion (λ u. IsKeyTold names 64 u.0) ts) (sym same)
            (snoc (λ u. IsKeyTold names 64 u.0) f.terms t sum.keys key);
        small = subst (λ (ts : Terms Key). AllByRecursion (λ u. fits u.1 ≡ true) ts) (sym same)
            (snoc (λ u. fits u.1 ≡ true) f.terms t sum.small small);
        few = omega (arith, ap length same, length-append f.terms (t ∷ []));
      }
    where
      snoc : (P : Key × ℤ → Type 0) (xs : Terms Key) (x : Key × ℤ) → AllByRecursion P xs → P x → AllByRecursion P (xs ++ x ∷ [])
      snoc P [] x all p = (p, tt)
      snoc P (y ∷ xs) x all p = (all.0, snoc P xs x all.1 p)

module _ (names : Names) (steps : List ℕ) where
  -- what is known of names and steps
  pub record Knows : Type 0 where
    pub rank : IsRank names.rank
    pub names_known : KnowsNames names
    pub few_steps : length steps < 2 ^ 32
    pub steps_within : AllByRecursion (λ step. step ≤ names.rank) steps

  -- a form that has no fault
  pub record IsRight (s : State) (form : PlainForm) : Type 0 where
    pub formed : IsForm (IsRowOf names.rank) names.rank form
    pub stands : may_stand steps s form ≡ true
    pub header : is_other_header names form ≡ false
    pub object : is_other_object steps s form ≡ false
    pub named : is_unnamed names form ≡ false
    pub numbered : is_misnumbered form ≡ false
    pub ordered : is_disordered names s form ≡ false
    pub judged : is_misjudged s form ≡ false

  abbrev pub RightAt : Place → State → PlainForm → Type 0
  RightAt place s form = IsRight (record s { place = place }) form

  -- whether objects are still to come
  abbrev more : State → Bool
  more s = nat_lt (length (begun s)) (length steps)

  -- it stays good, with the line of the form
  abbrev pub Goes : Place → State → PlainForm → Type 0
  Goes place s form =
      good.HasLines names steps (moved names (record s { place = place }) form) (good.so_far names steps place s ++ form_line form ∷ [])

  -- ---- the head

  pub rank_good : (s : State) (digits : List ℕ) → Knows → RightAt Place.AtRank s (Form.Rank digits) → good.IsHead names steps s
      → Goes Place.AtRank s (Form.Rank digits)
  rank_good s digits know right head =
      let w = number_written digits names.rank (not_false _ right.header) right.numbered (omega (arith, know.rank.1)) in
      let same : decimal names.rank ≡ digits = ap decimal (sym w.1) ∙ w.0 in
      record { good = head; lines = ap (λ ds. codes "proof 1" ∷ spaced (codes "rank" ∷ ds ∷ []) ∷ []) same }

  pub free_good : (s : State) (free : List (List ℕ)) → RightAt Place.AtFree s (Form.Free free) → good.IsHead names steps s
      → Goes Place.AtFree s (Form.Free free)
  free_good s free right head =
      let same = same_names free names.free (not_false _ right.header) in
      record {
        good = (head, subst (λ (ns : List (List ℕ)). 0 < length ns) same right.formed.0);
        lines =
            ap (λ ns. codes "proof 1" ∷ spaced (codes "rank" ∷ decimal names.rank ∷ []) ∷ spaced (codes "free" ∷ ns) ∷ []) (sym same);
      }

  pub params_good : (s : State) (params : List (List ℕ)) → RightAt Place.AtParams s (Form.Params params)
      → good.IsGoodAt names steps Place.AtParams s → Goes Place.AtParams s (Form.Params params)
  params_good s params right head =
      let same = same_names params names.params (not_false _ right.header) in
      record {
        good = head;
        lines =
            ap (λ ns. codes "proof 1" ∷ spaced (codes "rank" ∷ decimal names.rank ∷ []) ∷ spaced (codes "free" ∷ names.free)
            ∷ spaced (codes "params" ∷ ns) ∷ []) (sym same);
      }

  -- ---- objects

  object_good : (place : Place) (s : State) (number step : List ℕ) (lines : List (List ℕ)) → Knows → RightAt place s (Form.Object number step)
      → more s ≡ true → 0 < length names.free → AreObjectsTold names 1 (take (length (begun s)) steps) (begun s)
      → lines ≡ head_lines names ++ flat_map (object_lines names) (begun s)
      → good.HasLines names steps (with_object (number_of number) (number_of step) s) (lines ++ form_line (Form.Object number step) ∷ [])
  object_good place s number step lines know right to_come some front same =
      let below : length (begun s) < length steps = ltb-true _ _ to_come in
      let next = and_true (writes number (length (begun s) + 1)) (writes step (slice_index steps (length (begun s)))) (not_false _ right.object) in
      let plain = neither (is_padded number) (is_padded step) right.numbered in
      let within : slice_index steps (length (begun s)) ≤ names.rank = all_at (λ k. k ≤ names.rank) steps (length (begun s)) 0 know.steps_within below in
      let n = number_written number (length (begun s) + 1) next.0 plain.0 (omega (arith, know.few_steps)) in
      let k = number_written step (slice_index steps (length (begun s))) next.1 plain.1 (omega (arith, know.rank.1)) in
      record {
        good = record {
          some_point = some;
          count = n.1;
          more = below;
          front = front;
          this = record { number_is = n.1; step_is = k.1; sections = tt; ascending = tt };
        };
        lines =
            append-nil _
            ∙ ap (λ ds. head_lines names ++ (flat_map (object_lines names) (begun s) ++ (spaced (codes "object" ∷ ds ∷ codes "step" ∷ decimal (number_of step) ∷ []) ∷ []))) n.0
            ∙ ap (λ ds. head_lines names ++ (flat_map (object_lines names) (begun s) ++ (spaced (codes "object" ∷ number ∷ codes "step" ∷ ds ∷ []) ∷ []))) k.0
            ∙ sym (ap (λ ls. ls ++ form_line (Form.Object number step) ∷ []) same
            ∙ append_assoc (head_lines names) (flat_map (object_lines names) (begun s)) (form_line (Form.Object number step) ∷ []));
      }
    where
      neither : (a b : Bool) → a || b ≡ false → (a ≡ false) × (b ≡ false)
      neither true b e = absurd cc
      neither false b e = (refl, e)

  -- the objects of a body that have begun are told of
  pub begun_told : (s : State) → good.IsBody names steps s → AreObjectsTold names 1 (take (length (begun s)) steps) (begun s)
  begun_told s body =
      let is_begun = some_begun s body.count in
      let count : length (begun s) ≡ length s.objects + 1 =
      ap (λ os. length os) is_begun ∙ length-append s.objects (good.this_object s ∷ []) in
      subst (λ (os : List Worked). AreObjectsTold names 1 (take (length (begun s)) steps) os) (sym is_begun)
      (subst (λ (ks : List ℕ). AreObjectsTold names 1 ks (s.objects ++ good.this_object s ∷ []))
      (sym (take_more steps (length s.objects) (length (begun s)) count body.more))
      (objects_snoc names 1 (take (length s.objects) steps) s.objects (slice_index steps (length s.objects)) (good.this_object s) body.front body.this))

  -- their lines are those that are done
  pub begun_lines : (s : State) → good.IsBody names steps s
      → good.done_lines names steps s ≡ head_lines names ++ flat_map (object_lines names) (begun s)
  begun_lines s body =
      sym (ap (λ os. head_lines names ++ flat_map (object_lines names) os) (some_begun s body.count)
      ∙ ap (λ ls. head_lines names ++ ls) (flat_map-append (object_lines names) s.objects (good.this_object s ∷ [])
      ∙ ap (λ ls. flat_map (object_lines names) s.objects ++ ls) (append-nil (object_lines names (good.this_object s)))))

  pub first_good : (s : State) (number step : List ℕ) → Knows → RightAt Place.AtObject s (Form.Object number step) → more s ≡ true
      → good.IsGoodAt names steps Place.AtObject s → Goes Place.AtObject s (Form.Object number step)
  first_good s number step know right to_come head =
      let none = none_begun s head.0 in
      object_good Place.AtObject s number step (head_lines names) know right to_come head.1
      (subst (λ (os : List Worked). AreObjectsTold names 1 (take (length os) steps) os) (sym none) (none_told steps))
      (sym (ap (λ os. head_lines names ++ flat_map (object_lines names) os) none ∙ append-nil (head_lines names)))
    where
      none_told : (steps : List ℕ) → AreObjectsTold names 1 (take 0 steps) []
      none_told [] = tt
      none_told (x ∷ steps) = tt

  pub next_good : (s : State) (number step : List ℕ) → Knows → RightAt Place.AtSection s (Form.Object number step) → more s ≡ true
      → good.IsBody names steps s → Goes Place.AtSection s (Form.Object number step)
  next_good s number step know right to_come body =
      object_good Place.AtSection s number step (good.done_lines names steps s ++ []) know right to_come body.some_point (begun_told s body)
      (append-nil (good.done_lines names steps s) ∙ begun_lines s body)

  -- ---- sections

  pub scalar_good : (s : State) (words : List (List ℕ)) → RightAt Place.AtSection s (Form.Scalar words) → good.IsBody names steps s
      → Goes Place.AtSection s (Form.Scalar words)
  scalar_good s words right body =
      let points = points_meant names words in
      let named = not_false _ right.named in
      let order = and_true ((length points == extensor_size names.rank s.step) && is_rising points) (is_behind_sections points s.sections) (not_false _ right.ordered) in
      let size = and_true (length points == extensor_size names.rank s.step) (is_rising points) order.0 in
      record {
        good = (
          body,
          record {
            size = (eqb-true (length points) (extensor_size names.rank s.step) size.0, rising_increases points size.1);
            points = points_below names words named;
            behind = order.1;
          },
        );
        lines =
            ap (λ ws. good.done_lines names steps s ++ spaced (codes "scalar" ∷ ws) ∷ []) (names_again names words named)
            ∙ ap (λ ls. ls ++ form_line (Form.Scalar words) ∷ []) (sym (append-nil (good.done_lines names steps s)));
      }

  pub start_good : (s : State) → good.IsGoodAt names steps Place.AtStart s → Goes Place.AtStart s (Form.Opens Part.Start)
  start_good s opened = record {
    good = (opened.0, opened.1, refl);
    lines = sym (append_assoc (good.done_lines names steps s) (good.scalar_line names steps s ∷ []) (codes "start" ∷ []));
  }

  pub end_good : (s : State) → good.IsGoodAt names steps Place.AtUses s → Goes Place.AtUses s (Form.Opens Part.End)
  end_good s started = record {
    good = (started.0, started.1, started.2, refl);
    lines =
        ap (λ ls. good.done_lines names steps s ++ (good.scalar_line names steps s ∷ codes "start" ∷ ls))
        (sym (append_assoc (polynomial_lines names s.start) (map (use_line names) s.uses) (codes "end" ∷ [])))
        ∙ sym (append_assoc (good.done_lines names steps s) (good.open_lines names steps Place.AtUses s) (codes "end" ∷ []));
  }

  pub use_good : (s : State) (t : Spelt (List (List ℕ))) (alpha beta gamma : List (List ℕ)) → Knows
      → RightAt Place.AtUses s (Form.Use t alpha beta gamma) → good.IsGoodAt names steps Place.AtUses s
      → Goes Place.AtUses s (Form.Use t alpha beta gamma)
  use_good s t alpha beta gamma know right started =
      let named = and_true (is_named names t) (list_all (is_among names.free) (alpha ++ (beta ++ gamma))) (not_false _ right.named) in
      let read = use_read names t alpha beta gamma know.rank know.names_known.few right.formed named.0 named.1
      (not_false _ right.numbered) (not_false _ right.ordered) in
      let u = use_meant names t alpha beta gamma in
      record {
        good = (started.0, started.1, (started.2.0, snoc (IsUseTold names) s.uses u started.2.1 read.told));
        lines =
            ap (λ ls. good.done_lines names steps s ++ (good.scalar_line names steps s ∷ codes "start" ∷ (polynomial_lines names s.start ++ ls)))
            (map_push (use_line names) s.uses u ∙ ap (λ l. map (use_line names) s.uses ++ l ∷ []) read.written)
            ∙ ap (λ ls. good.done_lines names steps s ++ (good.scalar_line names steps s ∷ codes "start" ∷ ls))
            (sym (append_assoc (polynomial_lines names s.start) (map (use_line names) s.uses) (form_line (Form.Use t alpha beta gamma) ∷ [])))
            ∙ sym (append_assoc (good.done_lines names steps s) (good.open_lines names steps Place.AtUses s) (form_line (Form.Use t alpha beta gamma) ∷ []));
      }
    where
      snoc : {A : Type 0} (P : A → Type 0) (xs : List A) (x : A) → AllByRecursion P xs → P x → AllByRecursion P (xs ++ x ∷ [])
      snoc P [] x all p = (p, tt)
      snoc P (y ∷ xs) x all p = (all.0, snoc P xs x all.1 p)
