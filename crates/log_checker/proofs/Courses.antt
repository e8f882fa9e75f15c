-- The check of a proof, instruction by instruction, and what it comes to behind the last.
use Rattle.std.proofs.Common.{◌≡◌, ◌↔◌, ℕ, zero, suc, ◌+◌, ◌^◌, ◌<◌, ◌≤◌, List, [], ◌∷◌, ◌++◌, map, zip, drop}
use Rattle.std.proofs.Common.{length, get_or, refl, sym, ap, subst, ◌∙◌, arith}
use Rattle.std.proofs.Math.ListN.{drop_of_length-le}
use Rattle.std.proofs.lemmas.List.{drop_more, length-map, length-drop}
use Rattle.std.specs.Prelude.{None, Result, Ok, Err, IfErr, IsErrAnd}
use Rattle.std.specs.List.{AllByRecursion}
use Rattle.coordinate_model.specs.BracketPolynomial.{value}
use Rattle.coordinate_model.specs.Key.{key_cmp}
use Rattle.coordinate_model.specs.NormalLaws.{Independent}
use Rattle.coordinate_model.specs.Polynomial.{Polynomials}
use Rattle.coordinate_model.specs.Sums.{empty}
use Rattle.coordinate_model.proofs.BracketPolynomialLaws.{value-hom}
use Rattle.bracket_poly.specs.declared.section.ObjectLog.{ObjectLog}
use Rattle.bracket_poly.specs.declared.section.Section.{Section}
use Rattle.step_types.specs.declared.measure.Measure.{Measure}
use Rattle.cayley_terms.specs.declared.instr.Instr.{Instr}
use Rattle.cayley_terms.specs.declared.instr.Instr.TheVariants.{Free, Join, Meet, On, Conic}
use Rattle.cayley_terms.specs.declared.program.Program.{Program}
use Rattle.cayley_terms.specs.Instrs.{instr_measure}
use Rattle.cayley_terms.specs.Kept.{polynomial_of}
use Rattle.log_checker.specs.declared.refusal.ProofRefusal.{ProofRefusal}
use Rattle.log_checker.specs.declared.refusal.ProofRefusal.TheVariants as refusal
use Rattle.log_checker.specs.Accepted.{AreAccepted, IsProofAccepted}
use Rattle.log_checker.specs.Bounds.{HasNumbers, IsClaimWithin, IsRefusalWithin, RefusalIsWithin}
use Rattle.log_checker.specs.Checked.{AreObjectsOf, HasSmallEnd, UnlessMemory}
use Rattle.log_checker.specs.Claims.{Claim, claims_of, object_claims}
use Rattle.log_checker.specs.Objects.{object_steps, point_of, program_steps}
use Rattle.log_checker.specs.ProofLaws.{AcceptedProofConcludes, AllHaveUses, Concludes, HaveUses}
use Rattle.log_checker.specs.ProofRefused.{IsProofRefused}
use Rattle.log_checker.specs.Ready.{IsReady, IsSmall}
use Rattle.log_checker.specs.Seen.{GoesOn, IsCheckable, IsRefusedHere, IsRestAccepted, IsRestRefused, Place}
use Rattle.log_checker.specs.Seen.{objects_behind}
use Rattle.log_checker.proofs.Instructions.{steps_next}
use Rattle.log_checker.proofs.Paired.{unless_so}
use Rattle.log_checker.proofs.Places.{sections_in}
use Rattle.log_checker.proofs.ProgramMeaning.{length-new, made-new}
use Rattle.log_checker.proofs.SectionFacts.{section_uses}
use Rattle.log_checker.proofs.Ways.{IsWay, next_makes, way_begins, way_goes_on}

-- ---- what holds of all objects

-- those of a proof that is asked for can be checked
pub all_checkable : {d : ℕ} (objects : List (ObjectLog d))
    → AllByRecursion (λ o. AllByRecursion HasSmallEnd o.sections) objects
    → AllByRecursion (λ o. AllByRecursion (λ s. length s.uses < 2 ^ 32) o.sections) objects
    → AllByRecursion (λ o. AllByRecursion IsCheckable o.sections) objects
all_checkable [] h k = tt
all_checkable (o ∷ objects) h k = (each o.sections h.0 k.0, all_checkable objects h.1 k.1)
  where
    each : {d : ℕ} (ss : List (Section d)) → AllByRecursion HasSmallEnd ss → AllByRecursion
        (λ s. length s.uses < 2 ^ 32) ss
        → AllByRecursion IsCheckable ss
    each [] h k = tt
    each (s ∷ ss) h k = (record { end = h.0; few = k.0 }, each ss h.1 k.1)

-- their uses are well formed
all_uses : {d : ℕ} (objects : List (ObjectLog d)) → AllHaveUses d (object_claims objects)
all_uses [] = tt
all_uses {d = d} (o ∷ objects) = (each o.sections, all_uses objects)
  where
    each : (ss : List (Section d)) → HaveUses d (claims_of ss)
    each [] = tt
    each (s ∷ ss) = (section_uses s, each ss)

steps_few : (instrs : List (Instr × ℕ)) → length (object_steps instrs) ≤ length instrs
steps_few [] = omega arith
steps_few ((Free i, step) ∷ instrs) = let h = steps_few instrs in omega arith
steps_few ((Join a b, step) ∷ instrs) = let h = steps_few instrs in omega arith
steps_few ((Meet a b, step) ∷ instrs) = let h = steps_few instrs in omega arith
steps_few ((On a b s t, step) ∷ instrs) = let h = steps_few instrs in omega arith
steps_few ((Conic p1 p2 p3 p4 p5 p6, step) ∷ instrs) = let h = steps_few instrs in omega arith

zip_few : {A B : Type 0} (xs : List A) (ys : List B) → length (zip xs ys) ≤ length xs
zip_few [] ys = omega arith
zip_few (x ∷ xs) [] = omega arith
zip_few (x ∷ xs) (y ∷ ys) = let h = zip_few xs ys in omega arith

-- there are fewer than 2^32
pub few_objects : {d : ℕ} (p : Program) (objects : List (ObjectLog d)) → AreObjectsOf p objects
    → length objects < 2 ^ 32
few_objects p objects h =
    let a : length (map (λ o. o.step) objects) ≡ length objects = length-map objects (λ o. o.step) in
    let b : length (map (λ o. o.step) objects) ≡ length (program_steps p) = ap (λ (ns : List ℕ). length ns) h.steps in
    let c = steps_few (zip p.instrs p.steps) in
    let e = zip_few p.instrs p.steps in
    let f : length p.instrs < 2 ^ 32 = p.formed.few in
    omega arith

-- ---- on the way

-- so far the check has come: these instructions are left, with their steps
pub record IsGoing {d : ℕ} (p : Program) (objects : List (ObjectLog d)) (place : Place) (steps : List ℕ)
    (instrs : List Instr) (later : List ℕ) : Type 0 where
  pub accepted : IsRestAccepted place (zip instrs later) objects
      → AreAccepted d [] (zip p.instrs p.steps) (object_claims objects)
  pub refused : (r : ProofRefusal d) → IsRestRefused place (zip instrs later) objects r
      → IsProofRefused p (object_claims objects) r
  pub way : IsWay d steps instrs later
  pub small : AllByRecursion IsSmall place.values
  pub left : map (λ o. o.step) (drop place.objects objects) ≡ object_steps (zip instrs later)
  pub room : place.sections + sections_in (drop place.objects objects) < 2 ^ 32

abbrev pub at_start : Place
at_start = record { values = []; objects = 0; sections = 0 }

pub going_begins : {d : ℕ} (p : Program) (objects : List (ObjectLog d)) (place : Place) (steps : List ℕ) → p.rank ≡ d
    → AreObjectsOf p objects → sections_in objects < 2 ^ 32 → place ≡ at_start → steps ≡ []
    → IsGoing p objects place steps p.instrs p.steps
going_begins {d = d} p objects place steps rank h few e f =
    subst (λ x. IsGoing p objects x steps p.instrs p.steps) (sym e)
    (subst (λ ns. IsGoing p objects at_start ns p.instrs p.steps) (sym f)
    (record {
      accepted = λ k. k;
      refused = λ r k. k;
      way = subst (λ n. IsWay n [] p.instrs p.steps) rank (way_begins p);
      small = tt;
      left = h.steps;
      room = omega arith;
    }))

pub length-steps : (p : Program) → length p.steps ≡ length p.instrs
length-steps p =
    ap (λ (ns : List ℕ). length ns)
    (p.formed.stepped ∙ ap (λ (ms : List Measure). map (λ m. m.step) ms) (made-new (instr_measure p.rank) [] p.instrs))
    ∙ length-map _ (λ m. m.step) ∙ length-new (instr_measure p.rank) [] p.instrs

abbrev tail : {A : Type 0} → List A → List A
tail [] = []
tail (x ∷ xs) = xs

drop_suc : {A : Type 0} (xs : List A) (k : ℕ) → drop (suc k) xs ≡ tail (drop k xs)
drop_suc [] zero = refl
drop_suc [] (suc k) = refl
drop_suc (x ∷ xs) zero = refl
drop_suc (x ∷ xs) (suc k) = drop_suc xs k

drop_next : {A : Type 0} (xs : List A) (k : ℕ) → drop (k + 1) xs ≡ tail (drop k xs)
drop_next xs k = let e : k + 1 ≡ suc k = omega arith in ap (λ n. drop n xs) e ∙ drop_suc xs k

tail_map : {d : ℕ} (xs : List (ObjectLog d)) → map (λ o. o.step) (tail xs) ≡ tail (map (λ o. o.step) xs)
tail_map [] = refl
tail_map (x ∷ xs) = refl

behind_one : {d : ℕ} (objects : List (ObjectLog d)) (k step : ℕ) (others : List ℕ)
    → map (λ o. o.step) (drop k objects) ≡ step ∷ others → map (λ o. o.step) (drop (k + 1) objects) ≡ others
behind_one objects k step others e =
    ap (λ os. map (λ o. o.step) os) (drop_next objects k) ∙ tail_map (drop k objects) ∙ ap tail e

-- the objects that are left behind one more instruction
left_next : {d : ℕ} (objects : List (ObjectLog d)) (k : ℕ) (instr : Instr) (step : ℕ) (left : List (Instr × ℕ))
    → map (λ o. o.step) (drop k objects) ≡ object_steps ((instr, step) ∷ left)
    → map (λ o. o.step) (drop (objects_behind instr k) objects) ≡ object_steps left
left_next objects k (Free i) step left e = e
left_next objects k (Join a b) step left e = behind_one objects k step (object_steps left) e
left_next objects k (Meet a b) step left e = behind_one objects k step (object_steps left) e
left_next objects k (On a b s t) step left e = behind_one objects k step (object_steps left) e
left_next objects k (Conic p1 p2 p3 p4 p5 p6) step left e = behind_one objects k step (object_steps left) e

-- the code's lists of the instructions and their steps, and the number of the next one
module _ {d : ℕ} (p : Program) (objects : List (ObjectLog d)) (rank : p.rank ≡ d) (place : Place) (steps : List ℕ)
    (k : ℕ) (instrs : List Instr) (later : List ℕ) (same_instrs : instrs ≡ p.instrs) (same_steps : later ≡ p.steps)
    (below : k < length instrs) (h : IsGoing p objects place steps (drop k p.instrs) (drop k p.steps)) where
  abbrev instr : Instr
  instr = get_or instrs k (Free 0)

  abbrev step : ℕ
  step = get_or later k 0

  -- it has a step
  pub step_below : k < length later
  step_below =
      let a : length later ≡ length p.steps = ap (λ (ns : List ℕ). length ns) same_steps in
      let b : length instrs ≡ length p.instrs = ap (λ (xs : List Instr). length xs) same_instrs in
      let c = length-steps p in
      omega arith

  abbrev rest : List (Instr × ℕ)
  rest = zip (drop (k + 1) p.instrs) (drop (k + 1) p.steps)

  instr_there : drop k p.instrs ≡ instr ∷ drop (k + 1) p.instrs
  instr_there =
      subst (λ (xs : List Instr). drop k xs ≡ instr ∷ drop (k + 1) xs) same_instrs (drop_more instrs k (Free 0) below)

  later_there : drop k p.steps ≡ step ∷ drop (k + 1) p.steps
  later_there =
      subst (λ (ns : List ℕ). drop k ns ≡ step ∷ drop (k + 1) ns) same_steps (drop_more later k 0 step_below)

  there : IsGoing p objects place steps (instr ∷ drop (k + 1) p.instrs) (step ∷ drop (k + 1) p.steps)
  there =
      subst (λ xs. IsGoing p objects place steps xs (step ∷ drop (k + 1) p.steps)) instr_there
      (subst (λ ns. IsGoing p objects place steps (drop k p.instrs) ns) later_there h)

  -- its object can be made
  pub next_ready : IsReady d steps place.values instr step
  next_ready = record {
    small = h.small;
    makes = next_makes d steps instr (drop (k + 1) p.instrs) step (drop (k + 1) p.steps) there.way;
  }

  -- where it makes one, there is an object left
  pub next_there : point_of instr ≡ None → place.objects < length objects
  next_there e =
      let a = steps_next instr step rest e in
      let b : length (map (λ o. o.step) (drop place.objects objects)) ≡ length (object_steps ((instr, step) ∷ rest)) =
      ap (λ (ns : List ℕ). length ns) there.left in
      let c : length (map (λ o. o.step) (drop place.objects objects)) ≡ length (drop place.objects objects) =
      length-map (drop place.objects objects) (λ o. o.step) in
      let f = length-drop place.objects objects in
      omega arith

  -- the check goes on behind it
  pub going_on : (new : Place) (new_steps : List ℕ) → GoesOn place instr step objects new
      → AllByRecursion IsSmall new.values → new_steps ≡ steps ++ step ∷ []
      → new.sections + sections_in (drop new.objects objects) < 2 ^ 32
      → IsGoing p objects new new_steps (drop (k + 1) p.instrs) (drop (k + 1) p.steps)
  going_on new new_steps goes small stepped room = record {
    accepted = λ r. there.accepted (goes.accepted rest r);
    refused = λ r e. there.refused r (goes.refused rest r e);
    way =
        subst (λ ns. IsWay d ns (drop (k + 1) p.instrs) (drop (k + 1) p.steps)) (sym stepped)
        (way_goes_on d steps instr (drop (k + 1) p.instrs) step (drop (k + 1) p.steps) there.way);
    small = small;
    left =
        ap (λ n. map (λ o. o.step) (drop n objects)) goes.count
        ∙ left_next objects place.objects instr step rest there.left;
    room = room;
  }

  -- or the proof is refused there
  pub refused_there : (r : ProofRefusal d) → UnlessMemory (IsRefusedHere place instr step objects) r
      → UnlessMemory (IsProofRefused p (object_claims objects)) r
  refused_there =
      unless_so (IsRefusedHere place instr step objects) (IsProofRefused p (object_claims objects))
      (λ r e. there.refused r (e rest))

-- an error that is passed on is so
pub passed_on : {X : Type 0} {d : ℕ} (P : ProofRefusal d → Type 0) (r : Result X (ProofRefusal d))
    (error : ProofRefusal d)
    → IsErrAnd r (λ e. e ≡ error) → P error → IfErr r P
passed_on P (Ok x) error h k = absurd h
passed_on P (Err e) error h k = subst P (sym h) k

-- the key of a refusal has points and parameters of the program and of the proof
pub cause_within : (law : RefusalIsWithin) (n m : ℕ) {d : ℕ} (p : Program) (objects : List (List Claim))
    → AllByRecursion (HasNumbers n m) p.instrs → AllByRecursion (AllByRecursion (IsClaimWithin n m)) objects
    → (r : ProofRefusal d) → UnlessMemory (IsProofRefused p objects) r → IsRefusalWithin n m r
cause_within law n m {d} p objects h k (refusal.Start section x computed written) e =
    law d n m p objects (refusal.Start section x computed written) h k e
cause_within law n m {d} p objects h k (refusal.Section section fault) e =
    law d n m p objects (refusal.Section section fault) h k e
cause_within law n m p objects h k (refusal.Scalars object) e = tt
cause_within law n m p objects h k (refusal.ObjectCoefficient object) e = tt
cause_within law n m p objects h k (refusal.ObjectKeys object) e = tt
cause_within law n m p objects h k refusal.Memory e = tt

-- ---- behind the last

none_left : {d : ℕ} (objects : List (ObjectLog d)) → map (λ o. o.step) objects ≡ [] → objects ≡ []
none_left [] e = refl
none_left (o ∷ objects) e = absurd cc

drop_claims : {d : ℕ} (objects : List (ObjectLog d)) (k : ℕ)
    → drop k (object_claims objects) ≡ object_claims (drop k objects)
drop_claims [] zero = refl
drop_claims [] (suc k) = refl
drop_claims (o ∷ objects) zero = refl
drop_claims (o ∷ objects) (suc k) = drop_claims objects k

-- the proof is accepted
pub accepted_there : {d : ℕ} (p : Program) (objects : List (ObjectLog d)) (rank : p.rank ≡ d) (place : Place)
    (steps : List ℕ) (k : ℕ) → length p.instrs ≤ k → IsGoing p objects place steps (drop k p.instrs) (drop k p.steps)
    → IsProofAccepted p (object_claims objects)
accepted_there {d = d} p objects rank place steps k e h =
    subst (λ n. AreAccepted n [] (zip p.instrs p.steps) (object_claims objects)) (sym rank) (last.accepted all)
  where
    last : IsGoing p objects place steps [] (drop k p.steps)
    last =
        subst (λ xs. IsGoing p objects place steps xs (drop k p.steps)) (drop_of_length-le p.instrs e) h

    none : drop place.objects (object_claims objects) ≡ []
    none =
        drop_claims objects place.objects
        ∙ ap (λ os. object_claims os) (none_left (drop place.objects objects) last.left)

    all : IsRestAccepted place [] objects
    all = subst (AreAccepted d place.values []) (sym none) tt

-- ---- the conclusion

-- it ends with the conclusion
pub concludes_so : {d : ℕ} (law : AcceptedProofConcludes) (p : Program) (objects : List (ObjectLog d)) → p.rank ≡ d
    → IsProofAccepted p (object_claims objects) → Concludes p (object_claims objects)
concludes_so law p objects rank h =
    law p (object_claims objects) (subst (λ n. AllHaveUses n (object_claims objects)) (sym rank) (all_uses objects)) h

-- the last end is zero exactly where the conclusion polynomial is
pub zero_exact : (independent : Independent) (p : Program) (objects : List (List Claim)) (c : Concludes p objects)
    (Zero : Type 0) → (Zero ↔ (c.last.end ≡ empty key_cmp)) → (Zero ↔ (polynomial_of p ≡ Polynomials.𝟘))
zero_exact independent p objects c Zero h = (
  λ z. sym c.same ∙ ap value (h.0 z) ∙ value-hom.to_zero,
  λ e.
      h.1
      (independent p.rank 64 c.last.end (empty key_cmp) p.formed.rank c.accepted.normal tt
      (c.same ∙ e ∙ sym value-hom.to_zero)),
)
