-- One instruction more of those that are checked: it makes a free point, or an object.
use Rattle.std.proofs.Common.{◌≡◌, ◌⊎◌, ℕ, suc, ◌+◌, List, [], ◌∷◌, ◌++◌, length, refl, sym, subst}
use Rattle.std.specs.Prelude.{Some, None}
use Rattle.coordinate_model.specs.Value.{Value}
use Rattle.step_types.specs.declared.measure.Measure.{Measure}
use Rattle.cayley_terms.specs.declared.instr.Instr.{Instr}
use Rattle.cayley_terms.specs.declared.instr.Instr.TheVariants.{Free, Join, Meet, On, Conic}
use Rattle.cayley_terms.specs.Programs.{IsLast}
use Rattle.cayley_terms.specs.Starts.{free_value}
use Rattle.log_checker.specs.declared.refusal.ProofRefusal.{ProofRefusal}
use Rattle.log_checker.specs.Accepted.{IsObjectAccepted, AreAccepted}
use Rattle.log_checker.specs.Claims.{Claim, ended_value}
use Rattle.log_checker.specs.Objects.{point_of, object_steps}
use Rattle.log_checker.specs.ProofRefused.{IsObjectRefused, AreRefused}
use Rattle.log_checker.specs.Starts.{starts_of}

pub point_is : (instr : Instr) (i : ℕ) → point_of instr ≡ Some i → instr ≡ Free i
point_is (Free j) i e = let same : j ≡ i = cc in λ k. Free (same k)
point_is (Join a b) i e = absurd cc
point_is (Meet a b) i e = absurd cc
point_is (On a b s t) i e = absurd cc
point_is (Conic p1 p2 p3 p4 p5 p6) i e = absurd cc

-- the conclusion is no free point
pub last_makes : (d : ℕ) (before : List Measure) (instr : Instr) → IsLast d before instr → point_of instr ≡ None
last_makes d before (Free i) h = absurd h.steps
last_makes d before (Join a b) h = refl
last_makes d before (Meet a b) h = refl
last_makes d before (On a b s t) h = refl
last_makes d before (Conic p1 p2 p3 p4 p5 p6) h = refl

-- how many objects instructions make, with one more
pub steps_next : (instr : Instr) (step : ℕ) (others : List (Instr × ℕ)) → point_of instr ≡ None
    → length (object_steps ((instr, step) ∷ others)) ≡ suc (length (object_steps others))
steps_next (Free i) step others e = absurd cc
steps_next (Join a b) step others e = refl
steps_next (Meet a b) step others e = refl
steps_next (On a b s t) step others e = refl
steps_next (Conic p1 p2 p3 p4 p5 p6) step others e = refl

pub steps_point : (instr : Instr) (i step : ℕ) (others : List (Instr × ℕ)) → point_of instr ≡ Some i
    → length (object_steps ((instr, step) ∷ others)) ≡ length (object_steps others)
steps_point (Free j) i step others e = refl
steps_point (Join a b) i step others e = absurd cc
steps_point (Meet a b) i step others e = absurd cc
steps_point (On a b s t) i step others e = absurd cc
steps_point (Conic p1 p2 p3 p4 p5 p6) i step others e = absurd cc

-- where no instruction is left there is no object
pub none_left : (d : ℕ) (values : List Value) (objects : List (List Claim)) → AreAccepted d values [] objects
    → objects ≡ []
none_left d values [] h = refl
none_left d values (claims ∷ objects) h = absurd h

module _ (d : ℕ) (values : List Value) where
  -- ---- accepted

  pub record Next (instr : Instr) (step : ℕ) (instrs : List (Instr × ℕ)) (objects : List (List Claim)) : Type 0 where
    pub claims : List Claim
    pub others : List (List Claim)
    pub is_first : objects ≡ claims ∷ others
    pub object : IsObjectAccepted d values instr step claims
    pub rest : AreAccepted d (values ++ ended_value claims ∷ []) instrs others

  pub object_next : (instr : Instr) (step : ℕ) (instrs : List (Instr × ℕ)) (objects : List (List Claim))
      → point_of instr ≡ None → AreAccepted d values ((instr, step) ∷ instrs) objects → Next instr step instrs objects
  object_next (Free i) step instrs objects e h = absurd cc
  object_next (Join a b) step instrs [] e h = absurd h
  object_next (Meet a b) step instrs [] e h = absurd h
  object_next (On a b s t) step instrs [] e h = absurd h
  object_next (Conic p1 p2 p3 p4 p5 p6) step instrs [] e h = absurd h
  object_next (Join a b) step instrs (claims ∷ others) e h =
      record { claims = claims; others = others; is_first = refl; object = h.0; rest = h.1 }
  object_next (Meet a b) step instrs (claims ∷ others) e h =
      record { claims = claims; others = others; is_first = refl; object = h.0; rest = h.1 }
  object_next (On a b s t) step instrs (claims ∷ others) e h =
      record { claims = claims; others = others; is_first = refl; object = h.0; rest = h.1 }
  object_next (Conic p1 p2 p3 p4 p5 p6) step instrs (claims ∷ others) e h =
      record { claims = claims; others = others; is_first = refl; object = h.0; rest = h.1 }

  pub accepted_next : (instr : Instr) (step : ℕ) (instrs : List (Instr × ℕ)) (claims : List Claim)
      (others : List (List Claim)) → point_of instr ≡ None → AreAccepted d values ((instr, step) ∷ instrs)
      (claims ∷ others)
      → IsObjectAccepted d values instr step claims × AreAccepted d (values ++ ended_value claims ∷ []) instrs others
  accepted_next (Free i) step instrs claims others e h = absurd cc
  accepted_next (Join a b) step instrs claims others e h = h
  accepted_next (Meet a b) step instrs claims others e h = h
  accepted_next (On a b s t) step instrs claims others e h = h
  accepted_next (Conic p1 p2 p3 p4 p5 p6) step instrs claims others e h = h

  pub object_accepted : (instr : Instr) (step : ℕ) (instrs : List (Instr × ℕ)) (claims : List Claim)
      (others : List (List Claim)) → point_of instr ≡ None → IsObjectAccepted d values instr step claims
      → AreAccepted d (values ++ ended_value claims ∷ []) instrs others
      → AreAccepted d values ((instr, step) ∷ instrs) (claims ∷ others)
  object_accepted (Free i) step instrs claims others e h k = absurd cc
  object_accepted (Join a b) step instrs claims others e h k = (h, k)
  object_accepted (Meet a b) step instrs claims others e h k = (h, k)
  object_accepted (On a b s t) step instrs claims others e h k = (h, k)
  object_accepted (Conic p1 p2 p3 p4 p5 p6) step instrs claims others e h k = (h, k)

  pub point_next : (instr : Instr) (i step : ℕ) (instrs : List (Instr × ℕ)) (objects : List (List Claim))
      → point_of instr ≡ Some i → AreAccepted d values ((instr, step) ∷ instrs) objects
      → AreAccepted d (values ++ free_value 64 i ∷ []) instrs objects
  point_next instr i step instrs objects e h =
      subst (λ x. AreAccepted d values ((x, step) ∷ instrs) objects) (point_is instr i e) h

  pub point_accepted : (instr : Instr) (i step : ℕ) (instrs : List (Instr × ℕ)) (objects : List (List Claim))
      → point_of instr ≡ Some i → AreAccepted d (values ++ free_value 64 i ∷ []) instrs objects
      → AreAccepted d values ((instr, step) ∷ instrs) objects
  point_accepted instr i step instrs objects e h =
      subst (λ x. AreAccepted d values ((x, step) ∷ instrs) objects) (sym (point_is instr i e)) h

  -- ---- refused

  -- an object is refused, or one behind it
  pub object_refused : (instr : Instr) (step : ℕ) (instrs : List (Instr × ℕ)) (claims : List Claim)
      (others : List (List Claim)) (object section : ℕ) (r : ProofRefusal d) → point_of instr ≡ None
      → IsObjectRefused (starts_of d values instr step) claims object section r
      ⊎ (IsObjectAccepted d values instr step claims
      × AreRefused (values ++ ended_value claims ∷ []) instrs others (object + 1) (section + length claims) r)
      → AreRefused values ((instr, step) ∷ instrs) (claims ∷ others) object section r
  object_refused (Free i) step instrs claims others object section r e h = absurd cc
  object_refused (Join a b) step instrs claims others object section r e h = h
  object_refused (Meet a b) step instrs claims others object section r e h = h
  object_refused (On a b s t) step instrs claims others object section r e h = h
  object_refused (Conic p1 p2 p3 p4 p5 p6) step instrs claims others object section r e h = h

  pub refused_next : (instr : Instr) (step : ℕ) (instrs : List (Instr × ℕ)) (claims : List Claim)
      (others : List (List Claim)) (object section : ℕ) (r : ProofRefusal d) → point_of instr ≡ None
      → AreRefused values ((instr, step) ∷ instrs) (claims ∷ others) object section r
      → IsObjectRefused (starts_of d values instr step) claims object section r
      ⊎ (IsObjectAccepted d values instr step claims
      × AreRefused (values ++ ended_value claims ∷ []) instrs others (object + 1) (section + length claims) r)
  refused_next (Free i) step instrs claims others object section r e h = absurd cc
  refused_next (Join a b) step instrs claims others object section r e h = h
  refused_next (Meet a b) step instrs claims others object section r e h = h
  refused_next (On a b s t) step instrs claims others object section r e h = h
  refused_next (Conic p1 p2 p3 p4 p5 p6) step instrs claims others object section r e h = h

  pub refused_none : (instr : Instr) (step : ℕ) (instrs : List (Instr × ℕ)) (object section : ℕ) (r : ProofRefusal d)
      → point_of instr ≡ None → AreRefused values ((instr, step) ∷ instrs) [] object section r → ⊥
  refused_none (Free i) step instrs object section r e h = absurd cc
  refused_none (Join a b) step instrs object section r e h = h
  refused_none (Meet a b) step instrs object section r e h = h
  refused_none (On a b s t) step instrs object section r e h = h
  refused_none (Conic p1 p2 p3 p4 p5 p6) step instrs object section r e h = h

  pub point_refused : (instr : Instr) (i step : ℕ) (instrs : List (Instr × ℕ)) (objects : List (List Claim))
      (object section : ℕ) (r : ProofRefusal d) → point_of instr ≡ Some i
      → AreRefused (values ++ free_value 64 i ∷ []) instrs objects object section r
      → AreRefused values ((instr, step) ∷ instrs) objects object section r
  point_refused instr i step instrs objects object section r e h =
      subst (λ x. AreRefused values ((x, step) ∷ instrs) objects object section r) (sym (point_is instr i e)) h

  pub refused_point : (instr : Instr) (i step : ℕ) (instrs : List (Instr × ℕ)) (objects : List (List Claim))
      (object section : ℕ) (r : ProofRefusal d) → point_of instr ≡ Some i
      → AreRefused values ((instr, step) ∷ instrs) objects object section r
      → AreRefused (values ++ free_value 64 i ∷ []) instrs objects object section r
  refused_point instr i step instrs objects object section r e h =
      subst (λ x. AreRefused values ((x, step) ∷ instrs) objects object section r) (point_is instr i e) h
