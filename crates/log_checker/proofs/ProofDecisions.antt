-- A proof is accepted or has one refusal, by its objects and their sections one after another.
use Rattle.std.proofs.Common.{◌≡◌, ◌⊎◌, inl, inr, ℕ, ◌+◌, List, [], ◌∷◌, ◌++◌, map, zip, length, refl, sym}
use Rattle.std.proofs.Common.{ap, subst}
use Rattle.std.proofs.Common.{◌∙◌, arith}
use Rattle.std.proofs.lemmas.Bool.{cases_eq}
use Rattle.std.specs.Prelude.{Option, Some, None, Result, Ok, Err, ℤ}
use Rattle.std.specs.List.{AllByRecursion}
use Rattle.coordinate_model.specs.BracketPolynomial.{BracketPolynomial, IsBracketPolynomial}
use Rattle.coordinate_model.specs.Key.{Key}
use Rattle.coordinate_model.specs.Starts.{Entry}
use Rattle.coordinate_model.specs.Value.{Value}
use Rattle.bracket_poly.specs.Tracked.{Limit}
use Rattle.cayley_terms.specs.declared.instr.Instr.{Instr}
use Rattle.cayley_terms.specs.Starts.{free_value}
use Rattle.shuffle_meet.specs.Stops.{Start}
use Rattle.log_checker.specs.declared.fault.CheckFault.{CheckFault}
use Rattle.log_checker.specs.declared.refusal.ProofRefusal.{ProofRefusal}
use Rattle.log_checker.specs.declared.refusal.ProofRefusal.TheVariants as refusal
use Rattle.log_checker.specs.Accepted.{IsAccepted, IsObjectAccepted, AreAccepted, start_entry}
use Rattle.log_checker.specs.Accepted.{claimed_entry}
use Rattle.log_checker.specs.Claims.{Claim, ended_value}
use Rattle.log_checker.specs.Differences.{IsLeastDifference}
use Rattle.log_checker.specs.Objects.{point_of, object_steps}
use Rattle.log_checker.specs.ProofLaws.{ProofNotBoth, OneRefusal, ProofEither, HaveEnds}
use Rattle.log_checker.specs.ProofRefused.{HaveScalars, IsSectionRefused, AreSectionsRefused, IsObjectRefused}
use Rattle.log_checker.specs.ProofRefused.{AreRefused}
use Rattle.log_checker.specs.ProofRefused.{limit_refusal}
use Rattle.log_checker.specs.Refused.{IsSectionFault}
use Rattle.log_checker.specs.Starts.{starts_of}
use Rattle.log_checker.proofs.Decisions.{find_difference}
use Rattle.log_checker.proofs.Instructions.{accepted_next, object_accepted, point_next, point_accepted}
use Rattle.log_checker.proofs.Instructions.{object_refused, refused_next, refused_none, refused_point, point_refused}
use Rattle.log_checker.proofs.Instructions.{steps_next, steps_point}
use Rattle.log_checker.proofs.ObjectSteps.{sections_are}
use Rattle.log_checker.specs.Seen.{AreSame}
use Rattle.log_checker.proofs.SectionFacts.{differs_not, one_difference, section_not_both, one_section_fault}
use Rattle.log_checker.proofs.SectionFacts.{section_either}

-- ---- lists

same_head : {A : Type 0} (x y : A) (xs ys : List A) → x ∷ xs ≡ y ∷ ys → (x ≡ y) × (xs ≡ ys)
same_head x y xs ys e = (cc, cc)

decide_list : {A : Type 0} → ((x y : A) → (x ≡ y) ⊎ (x ≡ y → ⊥)) → (xs ys : List A) → (xs ≡ ys) ⊎ (xs ≡ ys → ⊥)
decide_list f [] [] = inl refl
decide_list f [] (y ∷ ys) = inr (λ e. absurd cc)
decide_list f (x ∷ xs) [] = inr (λ e. absurd cc)
decide_list f (x ∷ xs) (y ∷ ys) = by_both (f x y) (decide_list f xs ys)
  where
    by_both : (x ≡ y) ⊎ (x ≡ y → ⊥) → (xs ≡ ys) ⊎ (xs ≡ ys → ⊥) → (x ∷ xs ≡ y ∷ ys) ⊎ (x ∷ xs ≡ y ∷ ys → ⊥)
    by_both (inl e) (inl k) = inl (λ j. e j ∷ k j)
    by_both (inl e) (inr n) = inr (λ k. n (same_head x y xs ys k).1)
    by_both (inr n) k = inr (λ e. n (same_head x y xs ys e).0)

decide_scalars : (xs ys : List (List ℕ)) → (xs ≡ ys) ⊎ (xs ≡ ys → ⊥)
decide_scalars xs ys = decide_list (λ a b. decide_list (λ m n. cases_eq m n) a b) xs ys

-- ---- one section

-- what begins with the start and is accepted is not refused
section_not : {d : ℕ} (start : BracketPolynomial) (c : Claim) (number : ℕ) (r : ProofRefusal d) → start ≡ c.start.sum
    → IsAccepted d c → IsSectionRefused start c number r → ⊥
section_not start c number (refusal.Start section k x y) e h i = differs_not start c.start.sum k x y e i.1
section_not {d} start c number (refusal.Section section fault) e h i = section_not_both d c fault h i.2
section_not start c number (refusal.Scalars object) e h i = i
section_not start c number (refusal.ObjectCoefficient object) e h i = i
section_not start c number (refusal.ObjectKeys object) e h i = i
section_not start c number refusal.Memory e h i = i

one_start : {d : ℕ} (start : BracketPolynomial) (c : Claim) (number : ℕ) (r s : ProofRefusal d)
    → IsSectionRefused start c number r → IsSectionRefused start c number s → r ≡ s
one_start start c number (refusal.Start m k x y) (refusal.Start n l v w) h i =
    let e = one_difference start c.start.sum k l x y v w h.1 i.1 in
    let u : m ≡ n = h.0 ∙ sym i.0 in
    λ j. refusal.Start (u j) (e.0 j) (e.1 j) (e.2 j)
one_start start c number (refusal.Start m k x y) (refusal.Section n fault) h i =
    absurd (differs_not start c.start.sum k x y i.1 h.1)
one_start start c number (refusal.Section m fault) (refusal.Start n l v w) h i =
    absurd (differs_not start c.start.sum l v w h.1 i.1)
one_start {d} start c number (refusal.Section m fault) (refusal.Section n other) h i =
    let e = one_section_fault d c fault other h.2 i.2 in
    let u : m ≡ n = h.0 ∙ sym i.0 in
    λ j. refusal.Section (u j) (e j)
one_start start c number (refusal.Start m k x y) (refusal.Scalars o) h i = absurd i
one_start start c number (refusal.Start m k x y) (refusal.ObjectCoefficient o) h i = absurd i
one_start start c number (refusal.Start m k x y) (refusal.ObjectKeys o) h i = absurd i
one_start start c number (refusal.Start m k x y) refusal.Memory h i = absurd i
one_start start c number (refusal.Section m fault) (refusal.Scalars o) h i = absurd i
one_start start c number (refusal.Section m fault) (refusal.ObjectCoefficient o) h i = absurd i
one_start start c number (refusal.Section m fault) (refusal.ObjectKeys o) h i = absurd i
one_start start c number (refusal.Section m fault) refusal.Memory h i = absurd i
one_start start c number (refusal.Scalars o) s h i = absurd h
one_start start c number (refusal.ObjectCoefficient o) s h i = absurd h
one_start start c number (refusal.ObjectKeys o) s h i = absurd h
one_start start c number refusal.Memory s h i = absurd h

-- whether a section is accepted, or why it is refused
section_or : (d : ℕ) (start : BracketPolynomial) (c : Claim) (number : ℕ) → IsBracketPolynomial d 64 c.end
    → ((start ≡ c.start.sum) × IsAccepted d c) ⊎ ((r : ProofRefusal d) × IsSectionRefused start c number r)
section_or d start c number keys = by_start (find_difference start c.start.sum)
  where
    by_end : start ≡ c.start.sum → IsAccepted d c ⊎ ((fault : CheckFault d) × IsSectionFault c fault)
        → ((start ≡ c.start.sum) × IsAccepted d c) ⊎ ((r : ProofRefusal d) × IsSectionRefused start c number r)
    by_end e (inl h) = inl (e, h)
    by_end e (inr x) = inr (refusal.Section number x.0, (refl, e, x.1))

    by_start : (start ≡ c.start.sum) ⊎ ((k : Key) × (x : ℤ) × (y : ℤ) × IsLeastDifference start c.start.sum k x y)
        → ((start ≡ c.start.sum) × IsAccepted d c) ⊎ ((r : ProofRefusal d) × IsSectionRefused start c number r)
    by_start (inl e) = by_end e (section_either d c keys)
    by_start (inr x) = inr (refusal.Start number x.0 x.1 x.2, (refl, x.3))

-- ---- the sections of an object

sections_not : {d : ℕ} (starts : List Start) (claims : List Claim) (number : ℕ) (r : ProofRefusal d)
    → AreSame d starts claims → AreSectionsRefused starts claims number r → ⊥
sections_not [] claims number r h i = i
sections_not (start ∷ starts) [] number r h i = i
sections_not {d} (start ∷ starts) (c ∷ claims) number r h (inl i) = section_not start.1.sum c number r h.0 h.1 i
sections_not (start ∷ starts) (c ∷ claims) number r h (inr i) = sections_not starts claims (number + 1) r h.2 i.2

one_section : {d : ℕ} (starts : List Start) (claims : List Claim) (number : ℕ) (r s : ProofRefusal d)
    → AreSectionsRefused starts claims number r → AreSectionsRefused starts claims number s → r ≡ s
one_section [] claims number r s h i = absurd h
one_section (start ∷ starts) [] number r s h i = absurd h
one_section (start ∷ starts) (c ∷ claims) number r s (inl h) (inl i) = one_start start.1.sum c number r s h i
one_section (start ∷ starts) (c ∷ claims) number r s (inl h) (inr i) =
    absurd (section_not start.1.sum c number r i.0 i.1 h)
one_section (start ∷ starts) (c ∷ claims) number r s (inr h) (inl i) =
    absurd (section_not start.1.sum c number s h.0 h.1 i)
one_section (start ∷ starts) (c ∷ claims) number r s (inr h) (inr i) =
    one_section starts claims (number + 1) r s h.2 i.2

sections_or : (d : ℕ) (starts : List Start) (claims : List Claim) (number : ℕ) → HaveScalars starts claims
    → AllByRecursion (λ c. IsBracketPolynomial d 64 c.end) claims
    → AreSame d starts claims ⊎ ((r : ProofRefusal d) × AreSectionsRefused starts claims number r)
sections_or d [] [] number e keys = inl tt
sections_or d [] (c ∷ claims) number e keys = absurd cc
sections_or d (start ∷ starts) [] number e keys = absurd cc
sections_or d (start ∷ starts) (c ∷ claims) number e keys =
    by_one (section_or d start.1.sum c number keys.0) (sections_or d starts claims (number + 1)
    (same_head start.0 c.scalar (map (λ x. x.0) starts) (map (λ x. x.scalar) claims) e).1 keys.1)
  where
    by_one : ((start.1.sum ≡ c.start.sum) × IsAccepted d c)
        ⊎ ((r : ProofRefusal d) × IsSectionRefused start.1.sum c number r)
        → AreSame d starts claims ⊎ ((r : ProofRefusal d) × AreSectionsRefused starts claims (number + 1) r)
        → AreSame d (start ∷ starts) (c ∷ claims)
        ⊎ ((r : ProofRefusal d) × AreSectionsRefused (start ∷ starts) (c ∷ claims) number r)
    by_one (inl h) (inl k) = inl (h.0, h.1, k)
    by_one (inl h) (inr x) = inr (x.0, inr (h.0, h.1, x.1))
    by_one (inr x) k = inr (x.0, inl x.1)

-- ---- one object

same_scalars : (starts : List Start) (claims : List Claim) → map start_entry starts ≡ map claimed_entry claims
    → HaveScalars starts claims
same_scalars [] [] e = refl
same_scalars [] (c ∷ claims) e = absurd cc
same_scalars (start ∷ starts) [] e = absurd cc
same_scalars (start ∷ starts) (c ∷ claims) e =
    let head : start.0 ≡ c.scalar = ap (λ (x : Entry). x.0) (same_head (start_entry start) (claimed_entry c)
    (map start_entry starts) (map claimed_entry claims) e).0 in
    let tail = same_scalars starts claims (same_head (start_entry start) (claimed_entry c) (map start_entry starts)
    (map claimed_entry claims) e).1 in
    λ j. head j ∷ tail j

same_sections : (d : ℕ) (starts : List Start) (claims : List Claim) → map start_entry starts ≡ map claimed_entry claims
    → AllByRecursion (IsAccepted d) claims → AreSame d starts claims
same_sections d [] [] e h = tt
same_sections d [] (c ∷ claims) e h = absurd cc
same_sections d (start ∷ starts) [] e h = absurd cc
same_sections d (start ∷ starts) (c ∷ claims) e h =
    let both = same_head (start_entry start) (claimed_entry c) (map start_entry starts) (map claimed_entry claims) e in
    (ap (λ (x : Entry). x.1) both.0, h.0, same_sections d starts claims both.1 h.1)

module _ {d : ℕ} (values : List Value) (instr : Instr) (step : ℕ) (claims : List Claim) (object section : ℕ) where
  object_not : (r : ProofRefusal d) → IsObjectAccepted d values instr step claims
      → IsObjectRefused (starts_of d values instr step) claims object section r → ⊥
  object_not r h i = by_starts (subst (λ made. IsObjectRefused made claims object section r) h.made i)
    where
      by_starts : IsObjectRefused (Ok h.starts) claims object section r → ⊥
      by_starts (inl k) = k.0 (same_scalars h.starts claims h.same)
      by_starts (inr k) = sections_not h.starts claims section r (same_sections d h.starts claims h.same h.sections) k.1

  one_object : (made : Result (List Start) Limit) (r s : ProofRefusal d) → IsObjectRefused made claims object section r
      → IsObjectRefused made claims object section s → r ≡ s
  one_object (Err limit) r s h i = h ∙ sym i
  one_object (Ok starts) r s (inl h) (inl i) = h.1 ∙ sym i.1
  one_object (Ok starts) r s (inl h) (inr i) = absurd (h.0 i.0)
  one_object (Ok starts) r s (inr h) (inl i) = absurd (i.0 h.0)
  one_object (Ok starts) r s (inr h) (inr i) = one_section starts claims section r s h.1 i.1

  object_or : AllByRecursion (λ c. IsBracketPolynomial d 64 c.end) claims
      → IsObjectAccepted d values instr step claims
      ⊎ ((r : ProofRefusal d) × IsObjectRefused (starts_of d values instr step) claims object section r)
  object_or keys = by_made (starts_of d values instr step) refl
    where
      Answer : Result (List Start) Limit → Type 0
      Answer made = IsObjectAccepted d values instr step claims
          ⊎ ((r : ProofRefusal d) × IsObjectRefused made claims object section r)

      by_sections : (starts : List Start) → starts_of d values instr step ≡ Ok starts → HaveScalars starts claims
          → AreSame d starts claims ⊎ ((r : ProofRefusal d) × AreSectionsRefused starts claims section r)
          → Answer (Ok starts)
      by_sections starts e s (inl h) =
          let a = sections_are d starts claims s h in
          inl (record { starts = starts; made = e; same = a.0; sections = a.1 })
      by_sections starts e s (inr x) = inr (x.0, inr (s, x.1))

      by_scalars : (starts : List Start) → starts_of d values instr step ≡ Ok starts
          → HaveScalars starts claims ⊎ (HaveScalars starts claims → ⊥) → Answer (Ok starts)
      by_scalars starts e (inl s) = by_sections starts e s (sections_or d starts claims section s keys)
      by_scalars starts e (inr n) = inr (refusal.Scalars object, inl (n, refl))

      by_made : (made : Result (List Start) Limit) → starts_of d values instr step ≡ made
          → Answer (starts_of d values instr step)
      by_made (Err limit) e = subst Answer (sym e) (inr (limit_refusal object limit, refl))
      by_made (Ok starts) e =
          subst Answer (sym e)
          (by_scalars starts e (decide_scalars (map (λ s. s.0) starts) (map (λ c. c.scalar) claims)))

-- ---- all objects

not_both : (d : ℕ) (values : List Value) (instrs : List (Instr × ℕ)) (objects : List (List Claim)) (object section : ℕ)
    (r : ProofRefusal d) → AreAccepted d values instrs objects → AreRefused values instrs objects object section r → ⊥
not_both d values [] objects object section r h i = i
not_both d values (x ∷ instrs) objects object section r h i =
    by_point (point_of x.0) refl objects h i (λ vs os o s a b. not_both d vs instrs os o s r a b)
  where
    Others : Type 0
    Others =
        (vs : List Value) (os : List (List Claim)) (o s : ℕ) → AreAccepted d vs instrs os
        → AreRefused vs instrs os o s r → ⊥

    by_refusal : (claims : List Claim) (others : List (List Claim)) → IsObjectAccepted d values x.0 x.1 claims
        → AreAccepted d (values ++ ended_value claims ∷ []) instrs others
        → IsObjectRefused (starts_of d values x.0 x.1) claims object section r
        ⊎ (IsObjectAccepted d values x.0 x.1 claims
        × AreRefused (values ++ ended_value claims ∷ []) instrs others (object + 1) (section + length claims) r)
        → Others → ⊥
    by_refusal claims others a k (inl i) ih = object_not values x.0 x.1 claims object section r a i
    by_refusal claims others a k (inr i) ih =
        ih (values ++ ended_value claims ∷ []) others (object + 1) (section + length claims) k i.1

    by_point : (o : Option ℕ) → point_of x.0 ≡ o → (objects : List (List Claim))
        → AreAccepted d values (x ∷ instrs) objects → AreRefused values (x ∷ instrs) objects object section r
        → Others → ⊥
    by_point (Some p) e objects h i ih =
        ih (values ++ free_value 64 p ∷ []) objects object section
        (point_next d values x.0 p x.1 instrs objects e h) (refused_point d values x.0 p x.1 instrs objects object
        section r e i)
    by_point None e [] h i ih = refused_none d values x.0 x.1 instrs object section r e i
    by_point None e (claims ∷ others) h i ih =
        let a = accepted_next d values x.0 x.1 instrs claims others e h in
        by_refusal claims others a.0 a.1 (refused_next d values x.0 x.1 instrs claims others object section r e i) ih

one_refusal_from : (d : ℕ) (values : List Value) (instrs : List (Instr × ℕ)) (objects : List (List Claim))
    (object section : ℕ) (r s : ProofRefusal d) → AreRefused values instrs objects object section r
    → AreRefused values instrs objects object section s → r ≡ s
one_refusal_from d values [] objects object section r s h i = absurd h
one_refusal_from d values (x ∷ instrs) objects object section r s h i =
    by_point (point_of x.0) refl objects h i (λ vs os o n a b. one_refusal_from d vs instrs os o n r s a b)
  where
    Others : Type 0
    Others =
        (vs : List Value) (os : List (List Claim)) (o n : ℕ) → AreRefused vs instrs os o n r
        → AreRefused vs instrs os o n s
        → r ≡ s

    -- the object is refused, or accepted and a later one is refused
    Here : List Claim → List (List Claim) → ProofRefusal d → Type 0
    Here claims others r =
        IsObjectRefused (starts_of d values x.0 x.1) claims object section r
        ⊎ (IsObjectAccepted d values x.0 x.1 claims
        × AreRefused (values ++ ended_value claims ∷ []) instrs others (object + 1) (section + length claims) r)

    by_both : (claims : List Claim) (others : List (List Claim)) → Here claims others r → Here claims others s → Others
        → r ≡ s
    by_both claims others (inl a) (inl b) ih =
        one_object values x.0 x.1 claims object section (starts_of d values x.0 x.1) r s a b
    by_both claims others (inl a) (inr b) ih = absurd (object_not values x.0 x.1 claims object section r b.0 a)
    by_both claims others (inr a) (inl b) ih = absurd (object_not values x.0 x.1 claims object section s a.0 b)
    by_both claims others (inr a) (inr b) ih =
        ih (values ++ ended_value claims ∷ []) others (object + 1) (section + length claims) a.1 b.1

    by_point : (o : Option ℕ) → point_of x.0 ≡ o → (objects : List (List Claim))
        → AreRefused values (x ∷ instrs) objects object section r
        → AreRefused values (x ∷ instrs) objects object section s → Others → r ≡ s
    by_point (Some p) e objects h i ih =
        ih (values ++ free_value 64 p ∷ []) objects object section
        (refused_point d values x.0 p x.1 instrs objects object section r e h)
        (refused_point d values x.0 p x.1 instrs objects object section s e i)
    by_point None e [] h i ih = absurd (refused_none d values x.0 x.1 instrs object section r e h)
    by_point None e (claims ∷ others) h i ih =
        by_both claims others (refused_next d values x.0 x.1 instrs claims others object section r e h)
        (refused_next d values x.0 x.1 instrs claims others object section s e i) ih

either_from : (d : ℕ) (values : List Value) (instrs : List (Instr × ℕ)) (objects : List (List Claim))
    (object section : ℕ) → length objects ≡ length (object_steps instrs) → HaveEnds d objects
    → AreAccepted d values instrs objects ⊎ ((r : ProofRefusal d) × AreRefused values instrs objects object section r)
either_from d values [] [] object section e h = inl tt
either_from d values [] (claims ∷ objects) object section e h = absurd (omega arith)
either_from d values (x ∷ instrs) objects object section e h =
    by_point (point_of x.0) refl objects e h (λ vs os o n l k. either_from d vs instrs os o n l k)
  where
    Answer : List (List Claim) → Type 0
    Answer objects =
        AreAccepted d values (x ∷ instrs) objects
        ⊎ ((r : ProofRefusal d) × AreRefused values (x ∷ instrs) objects object section r)

    Others : Type 0
    Others =
        (vs : List Value) (os : List (List Claim)) (o n : ℕ) → length os ≡ length (object_steps instrs) → HaveEnds d os
        → AreAccepted d vs instrs os ⊎ ((r : ProofRefusal d) × AreRefused vs instrs os o n r)

    behind_point : (p : ℕ) → point_of x.0 ≡ Some p → (objects : List (List Claim))
        → AreAccepted d (values ++ free_value 64 p ∷ []) instrs objects
        ⊎ ((r : ProofRefusal d) × AreRefused (values ++ free_value 64 p ∷ []) instrs objects object section r)
        → Answer objects
    behind_point p e objects (inl a) = inl (point_accepted d values x.0 p x.1 instrs objects e a)
    behind_point p e objects (inr y) =
        inr (y.0, point_refused d values x.0 p x.1 instrs objects object section y.0 e y.1)

    behind_object : point_of x.0 ≡ None → (claims : List Claim) (others : List (List Claim))
        → IsObjectAccepted d values x.0 x.1 claims
        → AreAccepted d (values ++ ended_value claims ∷ []) instrs others
        ⊎ ((r : ProofRefusal d)
        × AreRefused (values ++ ended_value claims ∷ []) instrs others (object + 1) (section + length claims) r)
        → Answer (claims ∷ others)
    behind_object e claims others a (inl k) = inl (object_accepted d values x.0 x.1 instrs claims others e a k)
    behind_object e claims others a (inr y) =
        inr (y.0, object_refused d values x.0 x.1 instrs claims others object section y.0 e (inr (a, y.1)))

    by_object : point_of x.0 ≡ None → (claims : List Claim) (others : List (List Claim))
        → length others ≡ length (object_steps instrs) → HaveEnds d others
        → IsObjectAccepted d values x.0 x.1 claims
        ⊎ ((r : ProofRefusal d) × IsObjectRefused (starts_of d values x.0 x.1) claims object section r) → Others
        → Answer (claims ∷ others)
    by_object e claims others l k (inl a) ih =
        behind_object e claims others a
        (ih (values ++ ended_value claims ∷ []) others (object + 1) (section + length claims) l k)
    by_object e claims others l k (inr y) ih =
        inr (y.0, object_refused d values x.0 x.1 instrs claims others object section y.0 e (inl y.1))

    by_point : (o : Option ℕ) → point_of x.0 ≡ o → (objects : List (List Claim))
        → length objects ≡ length (object_steps (x ∷ instrs)) → HaveEnds d objects → Others → Answer objects
    by_point (Some p) e objects l k ih =
        behind_point p e objects
        (ih (values ++ free_value 64 p ∷ []) objects object section (l ∙ steps_point x.0 p x.1 instrs e) k)
    by_point None e [] l k ih = absurd (let n = steps_next x.0 x.1 instrs e in omega arith)
    by_point None e (claims ∷ others) l k ih =
        by_object e claims others (let n = steps_next x.0 x.1 instrs e in omega arith) k.1
        (object_or values x.0 x.1 claims object section k.0) ih

-- ---- proofs

pub proof_not_both : ProofNotBoth
proof_not_both d p objects r rank h i =
    not_both d [] (zip p.instrs p.steps) objects 1 1 r
    (subst (λ n. AreAccepted n [] (zip p.instrs p.steps) objects) rank h) i

pub one_refusal : OneRefusal
one_refusal d p objects r s h i = one_refusal_from d [] (zip p.instrs p.steps) objects 1 1 r s h i

pub proof_either : ProofEither
proof_either d p objects rank l h = by_answer (either_from d [] (zip p.instrs p.steps) objects 1 1 l h)
  where
    by_answer : AreAccepted d [] (zip p.instrs p.steps) objects
        ⊎ ((r : ProofRefusal d) × AreRefused [] (zip p.instrs p.steps) objects 1 1 r)
        → AreAccepted p.rank [] (zip p.instrs p.steps) objects
        ⊎ ((r : ProofRefusal d) × AreRefused [] (zip p.instrs p.steps) objects 1 1 r)
    by_answer (inl a) = inl (subst (λ n. AreAccepted n [] (zip p.instrs p.steps) objects) (sym rank) a)
    by_answer (inr x) = inr x
