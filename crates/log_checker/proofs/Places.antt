-- One instruction more of those that are checked, where the code stands.
use Rattle.std.proofs.Common.{◌≡◌, inl, inr, ℕ, zero, suc, ◌+◌, ◌<◌, ◌^◌, List, [], ◌∷◌, ◌++◌, drop, length, get_or}
use Rattle.std.proofs.Common.{refl, sym, ap, subst, ◌∙◌, arith}
use Rattle.std.proofs.lemmas.List.{drop_more, length-map}
use Rattle.std.proofs.lemmas.List.Sums.{sum_by-cons}
use Rattle.std.specs.Prelude.{None, Result, Ok, Err, OnOk, IfErr, sum_by}
use Rattle.std.specs.List.{AllByRecursion}
use Rattle.coordinate_model.specs.Value.{Value}
use Rattle.coordinate_model.proofs.Splits.{all_append}
use Rattle.bracket_poly.specs.declared.section.ObjectLog.{ObjectLog}
use Rattle.bracket_poly.specs.declared.section.Section.{Section}
use Rattle.cayley_terms.specs.declared.instr.Instr.{Instr}
use Rattle.cayley_terms.specs.declared.instr.Instr.TheVariants.{Free, Join, Meet, On, Conic}
use Rattle.cayley_terms.specs.Starts.{free_value}
use Rattle.log_checker.specs.declared.refusal.ProofRefusal.{ProofRefusal}
use Rattle.log_checker.specs.Accepted.{AreAccepted, IsObjectAccepted}
use Rattle.log_checker.specs.Checked.{UnlessMemory}
use Rattle.log_checker.specs.Claims.{Claim, claim_of, claims_of, ended_value, object_claims}
use Rattle.log_checker.specs.Objects.{point_of}
use Rattle.log_checker.specs.ProofRefused.{AreRefused, IsObjectRefused}
use Rattle.log_checker.specs.Ready.{IsSmall}
use Rattle.log_checker.specs.Seen.{GoesOn, IsCheckable, IsRefusedHere, Place, objects_behind}
use Rattle.log_checker.specs.Starts.{starts_of}
use Rattle.log_checker.proofs.Ended.{ended_small, free_small}
use Rattle.log_checker.proofs.Instructions.{object_accepted, object_refused}
use Rattle.log_checker.proofs.Paired.{unless_so}

-- how many sections objects have
abbrev pub sections_in : {d : ℕ} → List (ObjectLog d) → ℕ
sections_in objects = sum_by (λ o. length o.sections) objects

-- an instruction that is no free point
pub no_point : (instr : Instr) → ((i : ℕ) → instr ≡ Free i → ⊥) → point_of instr ≡ None
no_point (Free i) h = absurd (h i refl)
no_point (Join a b) h = refl
no_point (Meet a b) h = refl
no_point (On a b s t) h = refl
no_point (Conic p1 p2 p3 p4 p5 p6) h = refl

-- the values stay small
pub small_behind_point : (values new : List Value) (i : ℕ) → new ≡ values ++ free_value 64 i ∷ []
    → AllByRecursion IsSmall values → AllByRecursion IsSmall new
small_behind_point values new i e h =
    subst (AllByRecursion IsSmall) (sym e) (all_append IsSmall values (free_value 64 i ∷ []) h (free_small i, tt))

pub small_behind_object : {d : ℕ} (values new : List Value) (sections : List (Section d))
    → new ≡ values ++ ended_value (claims_of sections) ∷ [] → AllByRecursion IsCheckable sections
    → AllByRecursion IsSmall values → AllByRecursion IsSmall new
small_behind_object values new sections e c h =
    subst (AllByRecursion IsSmall) (sym e)
    (all_append IsSmall values (ended_value (claims_of sections) ∷ []) h (ended_small sections c, tt))

-- one object more is checked behind it
behind-object : (instr : Instr) → point_of instr ≡ None → (n : ℕ) → n + 1 ≡ objects_behind instr n
behind-object (Free i) h n = absurd cc
behind-object (Join a b) h n = refl
behind-object (Meet a b) h n = refl
behind-object (On a b s t) h n = refl
behind-object (Conic p1 p2 p3 p4 p5 p6) h n = refl

module _ {d : ℕ} (old : Place) (instr : Instr) (step : ℕ) (objects : List (ObjectLog d)) where
  -- behind a free point
  pub point_goes : (i : ℕ) (new : Place) → instr ≡ Free i
      → new ≡ record { values = old.values ++ free_value 64 i ∷ []; objects = old.objects; sections = old.sections }
      → GoesOn old instr step objects new
  point_goes i new is same =
      subst (λ x. GoesOn old x step objects new) (sym is)
      (subst (GoesOn old (Free i) step objects) (sym same)
      (record { count = refl; accepted = λ left h. h; refused = λ left r h. h }))

  module _ (o : ObjectLog d) (none : point_of instr ≡ None) (below : old.objects < length objects)
      (there : o ≡ get_or objects old.objects o) where
    objects_left : drop old.objects objects ≡ o ∷ drop (old.objects + 1) objects
    objects_left = drop_more objects old.objects o below ∙ ap (λ x. x ∷ drop (old.objects + 1) objects) (sym there)

    abbrev others : List (List Claim)
    others = drop (old.objects + 1) (object_claims objects)

    claims_left : drop old.objects (object_claims objects) ≡ claims_of o.sections ∷ others
    claims_left =
        drop_more (object_claims objects) old.objects (claims_of o.sections)
        (let l : length (object_claims objects) ≡ length objects = length-map objects (λ x. claims_of x.sections) in
        omega arith)
        ∙ ap (λ x. x ∷ others) (same_there objects old.objects below there)
      where
        same_there : (xs : List (ObjectLog d)) (k : ℕ) → k < length xs → o ≡ get_or xs k o
            → get_or (object_claims xs) k (claims_of o.sections) ≡ claims_of o.sections
        same_there [] k l e = absurd (omega arith)
        same_there (x ∷ xs) zero l e = ap (λ (y : ObjectLog d). claims_of y.sections) (sym e)
        same_there (x ∷ xs) (suc k) l e = same_there xs k (omega arith) e

    abbrev next : Place
    next = record {
      values = old.values ++ ended_value (claims_of o.sections) ∷ [];
      objects = old.objects + 1;
      sections = old.sections + length o.sections;
    }

    next_number : next.sections + 1 ≡ old.sections + 1 + length (claims_of o.sections)
    next_number =
        let l : length (claims_of o.sections) ≡ length o.sections = length-map o.sections claim_of in
        omega arith

    -- the object is refused so
    abbrev IsObjectRefusedHere : ProofRefusal d → Type 0
    IsObjectRefusedHere =
        IsObjectRefused (starts_of d old.values instr step) (claims_of o.sections) (old.objects + 1) (old.sections + 1)

    -- behind an object that is accepted
    object_goes : IsObjectAccepted d old.values instr step (claims_of o.sections) → GoesOn old instr step objects next
    object_goes a = record {
      count = behind-object instr none old.objects;
      accepted = λ left h.
          subst (λ cs. AreAccepted d old.values ((instr, step) ∷ left) cs) (sym claims_left)
          (object_accepted d old.values instr step left (claims_of o.sections) others none a h);
      refused = λ left r h.
          subst (λ cs. AreRefused old.values ((instr, step) ∷ left) cs (old.objects + 1) (old.sections + 1) r)
          (sym claims_left)
          (object_refused d old.values instr step left (claims_of o.sections) others (old.objects + 1)
          (old.sections + 1) r none
          (inr (a, subst (λ n. AreRefused next.values left others (old.objects + 1 + 1) n r) next_number h)));
    }

    -- at an object that is refused
    object_stops : (r : ProofRefusal d) → IsObjectRefusedHere r → IsRefusedHere old instr step objects r
    object_stops r h left =
        subst (λ cs. AreRefused old.values ((instr, step) ∷ left) cs (old.objects + 1) (old.sections + 1) r)
        (sym claims_left)
        (object_refused d old.values instr step left (claims_of o.sections) others (old.objects + 1)
        (old.sections + 1) r none (inl h))

    -- the number of sections of the object, and of those behind it
    pub sections_left : sections_in (drop old.objects objects)
        ≡ length o.sections + sections_in (drop (old.objects + 1) objects)
    sections_left =
        ap sections_in objects_left ∙ sum_by-cons (λ x. length x.sections) o (drop (old.objects + 1) objects)

    -- what holds of all objects holds of this one
    pub of_object : (P : ObjectLog d → Type 0) → AllByRecursion P objects → P o
    of_object P h = by_place objects old.objects below there h
      where
        by_place : (xs : List (ObjectLog d)) (k : ℕ) → k < length xs → o ≡ get_or xs k o → AllByRecursion P xs → P o
        by_place [] k l e h = absurd (omega arith)
        by_place (x ∷ xs) zero l e h = subst P (sym e) h.0
        by_place (x ∷ xs) (suc k) l e h = by_place xs k (omega arith) e h.1

    -- so it is with the result of the code
    module _ {X : Type 0} (new : Place) (result : Result X (ProofRefusal d)) where
      abbrev Values : Type 0
      Values = new.values ≡ old.values ++ ended_value (claims_of o.sections) ∷ []

      abbrev Objects : Type 0
      Objects = new.objects ≡ old.objects + 1

      abbrev Sections : Type 0
      Sections = new.sections ≡ old.sections + length o.sections

      pub next_goes : OnOk result (IsObjectAccepted d old.values instr step (claims_of o.sections)) → OnOk result Values
          → OnOk result Objects → OnOk result Sections → OnOk result (GoesOn old instr step objects new)
      next_goes = by_result result
        where
          by_result : (r : Result X (ProofRefusal d))
              → OnOk r (IsObjectAccepted d old.values instr step (claims_of o.sections)) → OnOk r Values
              → OnOk r Objects → OnOk r Sections → OnOk r (GoesOn old instr step objects new)
          by_result (Ok x) a v n m =
              subst (GoesOn old instr step objects)
              (sym (λ j. record { values = v j; objects = n j; sections = m j })) (object_goes a)
          by_result (Err e) a v n m = tt

      pub next_small : AllByRecursion IsCheckable o.sections → AllByRecursion IsSmall old.values → OnOk result Values
          → OnOk result (AllByRecursion IsSmall new.values)
      next_small c h = by_result result
        where
          by_result : (r : Result X (ProofRefusal d)) → OnOk r Values → OnOk r (AllByRecursion IsSmall new.values)
          by_result (Ok x) v = small_behind_object old.values new.values o.sections v c h
          by_result (Err e) v = tt

      pub next_room : old.sections + sections_in (drop old.objects objects) < 2 ^ 32 → OnOk result Objects
          → OnOk result Sections
          → OnOk result (new.sections + sections_in (drop new.objects objects) < 2 ^ 32)
      next_room room = by_result result
        where
          by_result : (r : Result X (ProofRefusal d)) → OnOk r Objects → OnOk r Sections
              → OnOk r (new.sections + sections_in (drop new.objects objects) < 2 ^ 32)
          by_result (Ok x) n m =
              subst (λ k. new.sections + sections_in (drop k objects) < 2 ^ 32) (sym n)
              (let l = sections_left in
              let e : new.sections ≡ old.sections + length o.sections = m in
              omega arith)
          by_result (Err e) n m = tt

      pub next_refused : IfErr result (UnlessMemory IsObjectRefusedHere)
          → IfErr result (UnlessMemory (IsRefusedHere old instr step objects))
      next_refused = by_result result
        where
          by_result : (r : Result X (ProofRefusal d)) → IfErr r (UnlessMemory IsObjectRefusedHere)
              → IfErr r (UnlessMemory (IsRefusedHere old instr step objects))
          by_result (Ok x) h = tt
          by_result (Err e) h = unless_so IsObjectRefusedHere (IsRefusedHere old instr step objects) object_stops e h
