-- What an accepted proof means, by the instructions of its program one after another: the last end is the conclusion.
use Rattle.std.proofs.Common.{◌≡◌, ℕ, ◌+◌, ◌-◌, ◌<◌, ◌≤◌, ◌==◌, ◌||◌, Bool, true, false, cond, List, [], ◌∷◌, ◌++◌}
use Rattle.std.proofs.Common.{map, zip}
use Rattle.std.proofs.Common.{length, get_or, refl, sym, ap, ap₂, subst, ◌∙◌, arith, append_assoc, append-nil, eq-eqb}
use Rattle.std.specs.Prelude.{Option, Some, None, Result, Ok, Err}
use Rattle.std.specs.List.{AllByRecursion}
use Rattle.std.proofs.Math.Seq.{get_or-append_seam}
use lib.ListN.{length-append}
use Rattle.coordinate_model.specs.Sequences.{IsRank, columns, subsets}
use Rattle.coordinate_model.specs.Polynomial.{Polynomials}
use Rattle.coordinate_model.specs.BracketPolynomial.{parameter_of, value}
use Rattle.coordinate_model.specs.Starts.{Product, join_products, meet_products, on_products}
use Rattle.coordinate_model.specs.Starts.{starts as starts_value}
use Rattle.coordinate_model.specs.Value.{Value, coordinates}
use Rattle.coordinate_model.proofs.Hom.{map-append}
use Rattle.coordinate_model.proofs.Splits.{all_append}
use Rattle.coordinate_model.proofs.StartSizes.{IsEntry}
use Rattle.coordinate_model.proofs.ValueLaws.{coordinates-scalar}
use Rattle.step_types.specs.declared.measure.Measure.{Measure}
use Rattle.bracket_poly.specs.Tracked.{Tracked, Limit}
use Rattle.conic_points.specs.Makings.{made_conic}
use Rattle.cayley_terms.specs.declared.instr.Instr.{Instr}
use Rattle.cayley_terms.specs.declared.instr.Instr.TheVariants.{Free, Join, Meet, On, Conic}
use Rattle.cayley_terms.specs.Figures.{Figure, no_figure, scalar}
use Rattle.cayley_terms.specs.Instrs.{made_behind, instr_measure, instr_figure}
use Rattle.cayley_terms.specs.Meaning.{Variables}
use Rattle.cayley_terms.specs.Programs.{EndsInOne, IsInner, IsLast}
use Rattle.cayley_terms.specs.Starts.{free_value}
use Rattle.shuffle_meet.specs.Stops.{Start}
use Rattle.shuffle_meet.specs.SectionStarts.{is_conclusion, section_starts}
use Rattle.shuffle_meet.proofs.StartSums.{entries_at}
use Rattle.log_checker.specs.Claims.{Claim, ended_value}
use Rattle.log_checker.specs.Objects.{point_of}
use Rattle.log_checker.specs.Starts.{starts_by, start_made}
use Rattle.log_checker.specs.Accepted.{IsAccepted, IsObjectAccepted, AreAccepted, start_entry, claimed_entry}
use Rattle.log_checker.specs.SectionLaws.{AcceptedKeepsValue}
use Rattle.log_checker.specs.ProofLaws.{HaveUses, AllHaveUses, AcceptedProofConcludes}
use Rattle.log_checker.proofs.AcceptedObjects.{starts_are, accepted_coordinates, accepted_entries, EndsOne, one_section}
use Rattle.log_checker.proofs.Instructions.{point_is, last_makes, none_left, object_next, point_next}
use Rattle.log_checker.proofs.ConicStarts.{conic_same}
use Rattle.log_checker.proofs.ObjectWork.{Made, measures_of, figures_of, values_of, IsMade, plane_point, not_full}
use Rattle.log_checker.proofs.ObjectWork.{at_scalar}
use Rattle.log_checker.proofs.ObjectWork.{IsWork, join_work, meet_work, on_work, free_coordinates, free_entry}
use Rattle.log_checker.proofs.ObjectWork.{made_at, holds_at}
use Rattle.log_checker.proofs.StartFacts.{IsStart, starts-are, starts-same, one_start}

-- ---- what instructions make, alone

abbrev pub new_behind : {X : Type 0} → (List X → Instr → X) → List X → List Instr → List X
new_behind f before [] = []
new_behind f before (instr ∷ instrs) = f before instr ∷ new_behind f (before ++ f before instr ∷ []) instrs

pub made-new : {X : Type 0} (f : List X → Instr → X) (before : List X) (instrs : List Instr)
    → made_behind f before instrs ≡ before ++ new_behind f before instrs
unfolding made_behind
made-new f before [] = sym (append-nil before)
made-new {X} f before (instr ∷ instrs) =
    made-new f (before ++ f before instr ∷ []) instrs
    ∙ append_assoc before (f before instr ∷ []) (new_behind f (before ++ f before instr ∷ []) instrs)

made-first : {X : Type 0} (f : List X → Instr → X) (before : List X) (instr : Instr) (instrs : List Instr)
    → made_behind f before (instr ∷ instrs) ≡ made_behind f (before ++ f before instr ∷ []) instrs
unfolding made_behind
made-first f before instr instrs = refl

made-none : {X : Type 0} (f : List X → Instr → X) (before : List X) → made_behind f before [] ≡ before
unfolding made_behind
made-none f before = refl

pub length-new : {X : Type 0} (f : List X → Instr → X) (before : List X) (instrs : List Instr)
    → length (new_behind f before instrs) ≡ length instrs
length-new f before [] = refl
length-new f before (instr ∷ instrs) =
    let e = length-new f (before ++ f before instr ∷ []) instrs in omega arith

-- the instructions with their steps, behind these measures
abbrev pub with_steps : ℕ → List Measure → List Instr → List (Instr × ℕ)
with_steps d before instrs = zip instrs (map (λ m. m.step) (new_behind (instr_measure d) before instrs))

-- ---- one object

-- the sections are one, which ends with the coordinate of the object
pub record EndsFigure (d : ℕ) (figure : Figure Polynomials) (claims : List Claim) : Type 0 where
  pub claim : Claim
  pub only : claims ≡ claim ∷ []
  pub accepted : IsAccepted d claim
  pub same : value claim.end ≡ scalar Polynomials d figure

module _ (keeps : AcceptedKeepsValue) (d : ℕ) (rank : IsRank d) where
  module _ (step a : ℕ) (ps : List Product) (figure : Figure Polynomials) (w : IsWork d step a ps figure)
      (starts : List Start) (claims : List Claim) (made : starts_by d step ps ≡ Ok starts)
      (same : map start_entry starts ≡ map claimed_entry claims) (h : AllByRecursion (IsAccepted d) claims)
      (u : HaveUses d claims) where
    starts_here : section_starts d step ps ≡ starts
    starts_here = starts_are d step ps starts made

    coordinates_are : (K : List ℕ) → coordinates (ended_value claims) K ≡ coordinates (entries_at starts) K
    coordinates_are K = accepted_coordinates keeps d rank starts claims same h u K

    starts_have : (K : List ℕ) → coordinates (entries_at starts) K ≡ coordinates (starts_value ps) K
    starts_have K =
        ap (λ ss. coordinates (entries_at ss) K) (sym starts_here) ∙ starts-same d a step rank ps w.sized w.none K

    inner_by : (m : Measure) → m.step ≡ step → 1 ≤ step → step < d → a ≡ figure.step
        → IsMade d (record { measure = m; figure = figure; value = ended_value claims })
    inner_by m e least below size = record {
      step = e ∙ w.steps;
      least = subst (λ s. 1 ≤ s) w.steps least;
      below = subst (λ s. s < d) w.steps below;
      is_value = λ i z l.
          let K = get_or (subsets d figure.step) i z in coordinates_are K ∙ starts_have K ∙ w.same i z l;
      entries =
          subst (λ s. AllByRecursion (IsEntry d 64 s) (ended_value claims)) size
          (accepted_entries keeps d rank a starts claims same h
          (subst (AllByRecursion (IsStart d a)) starts_here (starts-are d a step rank ps w.sized w.none)));
    }

    last_by : is_conclusion d step ≡ true → EndsFigure d figure claims
    last_by c =
        let one = one_start d a step rank ps w.sized w.none c in
        let only : starts ≡ ([], one.0) ∷ [] = sym starts_here ∙ one.1 in
        let ends : EndsOne keeps d rank one.0.sum claims =
        one_section keeps d rank ([], one.0) claims (ap (λ ss. map start_entry ss) (sym only) ∙ same) h u in
        let K = cond (figure.step == 0) [] (columns d) in
        record {
          claim = ends.claim;
          only = ends.only;
          accepted = ends.accepted;
          same =
              ends.same ∙ sym (coordinates-scalar one.0.sum K)
              ∙ ap (λ ss. coordinates (entries_at ss) K) (sym only) ∙ starts_have K
              ∙ at_scalar d figure.step (λ K. coordinates (starts_value ps) K ≡ figure.coordinates K) rank
              (ap (is_conclusion d) (sym w.steps) ∙ c) w.same;
        }

  -- a conclusion whose start is made at once
  made_by : (figure : Figure Polynomials) (r : Result Tracked Limit) (starts : List Start) (claims : List Claim)
      → start_made r ≡ Ok starts → map start_entry starts ≡ map claimed_entry claims
      → AllByRecursion (IsAccepted d) claims
      → HaveUses d claims → ((f : Tracked) → r ≡ Ok f → (K : List ℕ) → value f.sum ≡ figure.coordinates K)
      → EndsFigure d figure claims
  made_by figure (Err limit) starts claims made same h u values = absurd cc
  made_by figure (Ok f) starts claims made same h u values =
      let only : ([], f) ∷ [] ≡ starts = cc in
      let ends : EndsOne keeps d rank f.sum claims =
      one_section keeps d rank ([], f) claims (ap (λ ss. map start_entry ss) only ∙ same) h u in
      record {
        claim = ends.claim;
        only = ends.only;
        accepted = ends.accepted;
        same = ends.same ∙ values f refl (cond (figure.step == 0) [] (columns d));
      }

  module _ (made : List Made) (all : AllByRecursion (IsMade d) made) where
    abbrev at : ℕ → Made
    at n = made_at made n

    is_at : (n : ℕ) → n < length (measures_of made) → IsMade d (made_at made n)
    is_at n h = holds_at made (IsMade d) all n h

    -- the step of the instruction
    abbrev step_of : Instr → ℕ
    step_of instr = (instr_measure d (measures_of made) instr).step

    abbrev figure_of : Instr → Figure Polynomials
    figure_of instr = instr_figure Variables d (figures_of made) instr

    -- what it makes, with this value
    abbrev pub made_of : Instr → Value → Made
    made_of instr v = record { measure = instr_measure d (measures_of made) instr; figure = figure_of instr; value = v }

    pub free_made : (i : ℕ) → IsMade d (made_of (Free i) (free_value 64 i))
    free_made i = record {
      step = refl;
      least = omega arith;
      below = let l = rank.0 in omega arith;
      is_value = λ k z l. free_coordinates 64 i (get_or (subsets d 1) k z);
      entries = (free_entry d 64 i, tt);
    }

    pub inner_object : (instr : Instr) (claims : List Claim) → IsInner d (measures_of made) instr
        → point_of instr ≡ None → IsObjectAccepted d (values_of made) instr (step_of instr) claims → HaveUses d claims
        → IsMade d (made_of instr (ended_value claims))
    inner_object (Free i) claims h none o u = absurd cc
    inner_object (Join a b) claims h none o u =
        let x : IsMade d (at a) = is_at a h.earlier.0 in
        let y : IsMade d (at b) = is_at b h.earlier.1.0 in
        let e : step_of (Join a b) ≡ (at a).figure.step + (at b).figure.step = ap₂ ◌+◌ x.step y.step in
        let s : step_of (Join a b) < d = h.steps in
        let few : (at a).figure.step + (at b).figure.step < d = subst (λ n. n < d) e s in
        inner_by (step_of (Join a b))
        (cond ((at a).figure.step + (at b).figure.step == d) 0 ((at a).figure.step + (at b).figure.step))
        (join_products d (at a).value (at b).value) (figure_of (Join a b))
        (join_work d rank (at a) (at b) x y (omega arith)) o.starts claims o.made o.same o.sections u
        (instr_measure d (measures_of made) (Join a b)) refl h.sized.least s
        (not_full d ((at a).figure.step + (at b).figure.step) few)
    inner_object (Meet a b) claims h none o u =
        let x : IsMade d (at a) = is_at a h.earlier.0 in
        let y : IsMade d (at b) = is_at b h.earlier.1.0 in
        let e : (at a).measure.step + (at b).measure.step ≡ (at a).figure.step +
        (at b).figure.step = ap₂ ◌+◌ x.step y.step in
        let s : d < (at a).measure.step + (at b).measure.step = h.steps in
        let more : d < (at a).figure.step + (at b).figure.step = subst (λ n. d < n) e s in
        inner_by (step_of (Meet a b)) ((at a).figure.step + (at b).figure.step - d)
        (meet_products d (at a).value (at b).value) (figure_of (Meet a b))
        (meet_work d rank (at a) (at b) x y (omega arith)) o.starts claims o.made o.same o.sections u
        (instr_measure d (measures_of made) (Meet a b)) refl h.sized.least h.sized.below refl
    inner_object (On a b s t) claims h none o u =
        let x : IsMade d (at a) = is_at a h.earlier.0 in
        let y : IsMade d (at b) = is_at b h.earlier.1.0 in
        let steps = h.steps in
        inner_by 1 1 (on_products (parameter_of 64 s) (parameter_of 64 t) (at a).value (at b).value)
        (figure_of (On a b s t))
        (on_work d rank (at a) (at b) x y s t steps.2 steps.3 (sym x.step ∙ steps.0) (sym y.step
        ∙ steps.1)) o.starts claims
        o.made o.same o.sections u (instr_measure d (measures_of made) (On a b s t)) refl (omega arith)
        (let l = rank.0 in omega arith) refl
    inner_object (Conic p1 p2 p3 p4 p5 p6) claims h none o u = absurd h.steps

    pub last_object : (instr : Instr) (claims : List Claim) → IsLast d (measures_of made) instr
        → IsObjectAccepted d (values_of made) instr (step_of instr) claims → HaveUses d claims
        → EndsFigure d (figure_of instr) claims
    last_object (Free i) claims h o u = absurd h.steps
    last_object (Join a b) claims h o u =
        let x : IsMade d (at a) = is_at a h.earlier.0 in
        let y : IsMade d (at b) = is_at b h.earlier.1.0 in
        let e : step_of (Join a b) ≡ (at a).figure.step + (at b).figure.step = ap₂ ◌+◌ x.step y.step in
        let s : step_of (Join a b) ≡ d = h.steps in
        let few : (at a).figure.step + (at b).figure.step ≡ d = sym e ∙ s in
        last_by (step_of (Join a b))
        (cond ((at a).figure.step + (at b).figure.step == d) 0 ((at a).figure.step + (at b).figure.step))
        (join_products d (at a).value (at b).value) (figure_of (Join a b))
        (join_work d rank (at a) (at b) x y (omega arith)) o.starts claims o.made o.same o.sections u
        (either (step_of (Join a b) == 0) (step_of (Join a b) == d) (eq-eqb (step_of (Join a b)) d s))
      where
        either : (p q : Bool) → q ≡ true → (p || q) ≡ true
        either true q f = refl
        either false q f = f
    last_object (Meet a b) claims h o u =
        let x : IsMade d (at a) = is_at a h.earlier.0 in
        let y : IsMade d (at b) = is_at b h.earlier.1.0 in
        let e : (at a).measure.step + (at b).measure.step ≡ (at a).figure.step +
        (at b).figure.step = ap₂ ◌+◌ x.step y.step in
        let s : (at a).measure.step + (at b).measure.step ≡ d = h.steps in
        let more : (at a).figure.step + (at b).figure.step ≡ d = sym e ∙ s in
        last_by (step_of (Meet a b)) ((at a).figure.step + (at b).figure.step - d)
        (meet_products d (at a).value (at b).value) (figure_of (Meet a b))
        (meet_work d rank (at a) (at b) x y (omega arith)) o.starts claims o.made o.same o.sections u
        (ap (λ p. p || (step_of (Meet a b) == d))
        (eq-eqb (step_of (Meet a b)) 0 (let z : step_of (Meet a b) ≡ 0 = omega arith in z)))
    last_object (On a b s t) claims h o u = absurd h.steps
    last_object (Conic p1 p2 p3 p4 p5 p6) claims h o u =
        let l = h.earlier in
        let t = h.steps.1 in
        let three : d ≡ 3 = h.steps.0 in
        let x1 = plane_point d (at p1) (is_at p1 l.0) three t.0 in
        let x2 = plane_point d (at p2) (is_at p2 l.1.0) three t.1.0 in
        let x3 = plane_point d (at p3) (is_at p3 l.1.1.0) three t.1.1.0 in
        let x4 = plane_point d (at p4) (is_at p4 l.1.1.1.0) three t.1.1.1.0 in
        let x5 = plane_point d (at p5) (is_at p5 l.1.1.1.1.0) three t.1.1.1.1.0 in
        let x6 = plane_point d (at p6) (is_at p6 l.1.1.1.1.1.0) three t.1.1.1.1.1.0 in
        made_by (figure_of (Conic p1 p2 p3 p4 p5 p6))
        (made_conic (at p1).value (at p2).value (at p3).value (at p4).value (at p5).value (at p6).value) o.starts claims
        o.made o.same o.sections u
        (λ f e K. conic_same (at p1).value (at p2).value (at p3).value (at p4).value (at p5).value (at p6).value
        (at p1).figure (at p2).figure (at p3).figure (at p4).figure (at p5).figure (at p6).figure x1 x2 x3 x4 x5 x6 f e)

  -- ---- all objects

  -- the objects that are made in all
  abbrev all_figures : List Made → List Instr → List (Figure Polynomials)
  all_figures made instrs = made_behind (instr_figure Variables d) (figures_of made) instrs

  -- the last of these objects has one section, which ends with the coordinate of the last figure
  pub record EndsLast (figures : List (Figure Polynomials)) (objects : List (List Claim)) : Type 0 where
    pub front : List (List Claim)
    pub last : Claim
    pub is_last : objects ≡ front ++ (last ∷ []) ∷ []
    pub accepted : IsAccepted d last
    pub same : value last.end ≡ scalar Polynomials d (get_or figures (length figures - 1) (no_figure Polynomials))

  at_last : (fs : List (Figure Polynomials)) (f : Figure Polynomials)
      → get_or (fs ++ f ∷ []) (length (fs ++ f ∷ []) - 1) (no_figure Polynomials) ≡ f
  at_last fs f =
      ap (λ n. get_or (fs ++ f ∷ []) n (no_figure Polynomials))
      (let l : length (fs ++ f ∷ []) ≡ length fs + 1 = length-append fs (f ∷ []) in
      let e : length (fs ++ f ∷ []) - 1 ≡ length fs = omega arith in e)
      ∙ get_or-append_seam fs f [] (no_figure Polynomials)

  last_ends : (made : List Made) → AllByRecursion (IsMade d) made → (instr : Instr) (objects : List (List Claim))
      → IsLast d (measures_of made) instr → AllHaveUses d objects
      → AreAccepted d (values_of made) ((instr, (instr_measure d (measures_of made) instr).step) ∷ []) objects
      → EndsLast (figures_of made ++ instr_figure Variables d (figures_of made) instr ∷ []) objects
  last_ends made all instr objects h u accepted =
      let o = object_next d (values_of made) instr (instr_measure d (measures_of made) instr).step [] objects
      (last_makes d (measures_of made) instr h) accepted in
      let uses = subst (AllHaveUses d) o.is_first u in
      let ends : EndsFigure d (instr_figure Variables d (figures_of made) instr) o.claims =
      last_object made all instr o.claims h o.object uses.0 in
      let others : o.others ≡ [] = none_left d (values_of made ++ ended_value o.claims ∷ []) o.others o.rest in
      record {
        front = [];
        last = ends.claim;
        is_last = o.is_first ∙ ap₂ (λ c cs. c ∷ cs) ends.only others;
        accepted = ends.accepted;
        same =
            ends.same
            ∙ ap (λ f. scalar Polynomials d f)
            (sym (at_last (figures_of made) (instr_figure Variables d (figures_of made) instr)));
      }

  -- one object in front changes nothing
  in_front : (figures : List (Figure Polynomials)) (objects : List (List Claim)) (claims : List Claim)
      (others : List (List Claim)) → objects ≡ claims ∷ others → EndsLast figures others → EndsLast figures objects
  in_front figures objects claims others e h = record {
    front = claims ∷ h.front;
    last = h.last;
    is_last = e ∙ ap (λ os. claims ∷ os) h.is_last;
    accepted = h.accepted;
    same = h.same;
  }

  -- from these objects on
  abbrev Goes : List Instr → Type 0
  Goes instrs =
      (made : List Made) → AllByRecursion (IsMade d) made → (objects : List (List Claim))
      → EndsInOne d (measures_of made) instrs → AllHaveUses d objects
      → AreAccepted d (values_of made) (with_steps d (measures_of made) instrs) objects
      → EndsLast (all_figures made instrs) objects

  module _ (made : List Made) (all : AllByRecursion (IsMade d) made) (instr next : Instr) (instrs : List Instr)
      (goes : Goes (next ∷ instrs)) where
    abbrev m : Measure
    m = instr_measure d (measures_of made) instr

    abbrev later : List (Instr × ℕ)
    later = with_steps d (measures_of made ++ m ∷ []) (next ∷ instrs)

    -- behind one more that is made
    goes_behind : (v : Value) → IsMade d (made_of made all instr v) → (objects : List (List Claim))
        → EndsInOne d (measures_of made ++ m ∷ []) (next ∷ instrs) → AllHaveUses d objects
        → AreAccepted d (values_of made ++ v ∷ []) later objects
        → EndsLast (all_figures made (instr ∷ next ∷ instrs)) objects
    goes_behind v h objects ends u accepted =
        let x : Made = made_of made all instr v in
        let measures : measures_of (made ++ x ∷ []) ≡ measures_of made ++ m ∷ [] =
        map-append (λ (y : Made). y.measure) made (x ∷ []) in
        let values : values_of (made ++ x ∷ []) ≡ values_of made ++ v ∷ [] =
        map-append (λ (y : Made). y.value) made (x ∷ []) in
        subst (λ fs. EndsLast fs objects)
        (ap (λ fs. made_behind (instr_figure Variables d) fs (next ∷ instrs))
        (map-append (λ (y : Made). y.figure) made (x ∷ []))
        ∙ sym (made-first (instr_figure Variables d) (figures_of made) instr (next ∷ instrs)))
        (goes (made ++ x ∷ []) (all_append (IsMade d) made (x ∷ []) all (h, tt)) objects
        (subst (λ ms. EndsInOne d ms (next ∷ instrs)) (sym measures) ends) u
        (subst (λ ms. AreAccepted d (values_of (made ++ x ∷ [])) (with_steps d ms (next ∷ instrs)) objects)
        (sym measures)
        (subst (λ vs. AreAccepted d vs later objects) (sym values) accepted)))

    behind_object : (objects : List (List Claim)) → IsInner d (measures_of made) instr → point_of instr ≡ None
        → EndsInOne d (measures_of made ++ m ∷ []) (next ∷ instrs) → AllHaveUses d objects
        → AreAccepted d (values_of made) ((instr, m.step) ∷ later) objects
        → EndsLast (all_figures made (instr ∷ next ∷ instrs)) objects
    behind_object objects h none ends u accepted =
        let o = object_next d (values_of made) instr m.step later objects none accepted in
        let uses = subst (AllHaveUses d) o.is_first u in
        in_front (all_figures made (instr ∷ next ∷ instrs)) objects o.claims o.others o.is_first
        (goes_behind (ended_value o.claims) (inner_object made all instr o.claims h none o.object uses.0) o.others
        ends uses.1
        o.rest)

  pub goes_on : (instrs : List Instr) → Goes instrs
  goes_on [] made all objects h u accepted = absurd h
  goes_on (instr ∷ []) made all objects h u accepted =
      subst (λ fs. EndsLast fs objects)
      (sym (made-first (instr_figure Variables d) (figures_of made) instr []
      ∙ made-none (instr_figure Variables d) (figures_of made ++ instr_figure Variables d
      (figures_of made) instr ∷ [])))
      (last_ends made all instr objects h u accepted)
  goes_on (instr ∷ next ∷ instrs) made all objects h u accepted = by_point (point_of instr) refl (goes_on
      (next ∷ instrs))
    where
      by_point : (o : Option ℕ) → point_of instr ≡ o → Goes (next ∷ instrs)
          → EndsLast (all_figures made (instr ∷ next ∷ instrs)) objects
      by_point None e ih = behind_object made all instr next instrs ih objects h.0 e h.1 u accepted
      by_point (Some i) e ih =
          let same : instr ≡ Free i = point_is instr i e in
          goes_behind made all instr next instrs ih (free_value 64 i)
          (subst (λ x. IsMade d (made_of made all x (free_value 64 i))) (sym same) (free_made made all i)) objects h.1 u
          (point_next d (values_of made) instr i (instr_measure d (measures_of made) instr).step
          (with_steps d (measures_of made ++ instr_measure d (measures_of made) instr ∷ [])
          (next ∷ instrs)) objects e accepted)

-- ---- programs

pub proof_concludes : AcceptedKeepsValue → AcceptedProofConcludes
proof_concludes keeps p objects uses accepted =
    let ends = goes_on keeps p.rank p.formed.rank p.instrs [] tt objects p.formed.each uses there in
    record {
      front = ends.front;
      last = ends.last;
      is_last = ends.is_last;
      accepted = ends.accepted;
      same =
          ends.same
          ∙ ap (λ n. scalar Polynomials p.rank
          (get_or (made_behind (instr_figure Variables p.rank) [] p.instrs) (n - 1) (no_figure Polynomials)))
          (ap (λ fs. length fs) (made-new (instr_figure Variables p.rank) [] p.instrs)
          ∙ length-new (instr_figure Variables p.rank) [] p.instrs);
    }
  where
    there : AreAccepted p.rank [] (with_steps p.rank [] p.instrs) objects
    there =
        subst (λ (ns : List ℕ). AreAccepted p.rank [] (zip p.instrs ns) objects)
        (p.formed.stepped ∙ ap (λ (ms : List Measure). map (λ m. m.step) ms)
        (made-new (instr_measure p.rank) [] p.instrs))
        accepted
