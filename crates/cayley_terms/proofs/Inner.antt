-- Lists of instructions that make points, lines and planes.
use Rattle.std.proofs.Common.{◌≡◌, ℕ, List, [], ◌∷◌, ◌++◌, length, Option, None, Some, ap, subst, refl, arith}
use Rattle.step_types.specs.declared.measure.Measure.{Measure}
use Rattle.cayley_terms.specs.declared.instr.Instr.{Instr}
use Rattle.cayley_terms.specs.Instrs.{made_behind, instr_measure}
use Rattle.cayley_terms.specs.Programs.{IsInner, IsLast, EndsInOne}
use Rattle.cayley_terms.specs.Kept.{ends}
use Rattle.cayley_terms.proofs.Made.{made-none, made-one}

-- each instruction makes a point, a line or a plane, behind those of these measures
abbrev pub AreInner : ℕ → List Measure → List Instr → Type 0
AreInner d before [] = Unit {0}
AreInner d before (i ∷ instrs) = IsInner d before i × AreInner d (before ++ instr_measure d before i ∷ []) instrs

-- one more at the end
pub inner_push : (d : ℕ) (before : List Measure) (instrs : List Instr) (i : Instr) → AreInner d before instrs
    → IsInner d (made_behind (instr_measure d) before instrs) i → AreInner d before (instrs ++ i ∷ [])
inner_push d before [] i all last = (subst (λ ms. IsInner d ms i) (made-none (instr_measure d) before) last, tt)
inner_push d before (first ∷ instrs) i all last = (
  all.0,
  inner_push d (before ++ instr_measure d before first ∷ []) instrs i all.1
      (subst (λ ms. IsInner d ms i) (made-one (instr_measure d) before first instrs) last),
)

-- the conclusion at the end
pub last_push : (d : ℕ) (before : List Measure) (instrs : List Instr) (i : Instr) → AreInner d before instrs
    → IsLast d (made_behind (instr_measure d) before instrs) i → EndsInOne d before (instrs ++ i ∷ [])
last_push d before [] i all last = subst (λ ms. IsLast d ms i) (made-none (instr_measure d) before) last
last_push d before (first ∷ []) i all last = (
  all.0,
  last_push d (before ++ instr_measure d before first ∷ []) [] i all.1
      (subst (λ ms. IsLast d ms i) (made-one (instr_measure d) before first []) last),
)
last_push d before (first ∷ next ∷ instrs) i all last = (
  all.0,
  last_push d (before ++ instr_measure d before first ∷ []) (next ∷ instrs) i all.1
      (subst (λ ms. IsLast d ms i) (made-one (instr_measure d) before first (next ∷ instrs)) last),
)

-- ---- marks

-- where nothing ends at the last place
pub ends-none : {X : Type 0} (marks : List (Option ℕ)) (xs : List X) (x : X) → length marks ≡ length xs
    → ends (marks ++ None ∷ []) (xs ++ x ∷ []) ≡ ends marks xs
ends-none [] [] x same = refl
ends-none [] (y ∷ xs) x same = absurd (omega arith)
ends-none (mark ∷ marks) [] x same = absurd (omega arith)
ends-none (None ∷ marks) (y ∷ xs) x same = ends-none marks xs x (omega arith)
ends-none (Some k ∷ marks) (y ∷ xs) x same = ap (λ es. (k, y) ∷ es) (ends-none marks xs x (omega arith))

-- where a definition ends at the last place
pub ends-some : {X : Type 0} (marks : List (Option ℕ)) (xs : List X) (k : ℕ) (x : X) → length marks ≡ length xs
    → ends (marks ++ Some k ∷ []) (xs ++ x ∷ []) ≡ ends marks xs ++ (k, x) ∷ []
ends-some [] [] k x same = refl
ends-some [] (y ∷ xs) k x same = absurd (omega arith)
ends-some (mark ∷ marks) [] k x same = absurd (omega arith)
ends-some (None ∷ marks) (y ∷ xs) k x same = ends-some marks xs k x (omega arith)
ends-some (Some j ∷ marks) (y ∷ xs) k x same = ap (λ es. (j, y) ∷ es) (ends-some marks xs k x (omega arith))
