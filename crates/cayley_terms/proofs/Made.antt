-- What instructions make, one after the other.
use Rattle.std.proofs.Common.{◌≡◌, ℕ, ◌+◌, ◌<◌, List, [], ◌∷◌, ◌++◌, length, get_or, ap, ◌∙◌, refl, arith, length-append}
use Rattle.std.proofs.Math.ListN.{get_or-append}
use Rattle.std.proofs.Math.Seq.{get_or-append_seam}
use Rattle.std.proofs.lemmas.List.Sums.{fold-append}
use Rattle.cayley_terms.specs.declared.instr.Instr.{Instr}
use Rattle.cayley_terms.specs.Instrs.{one_more, made_behind}

module _ {X : Type 0} (f : List X → Instr → X) where
  -- behind both
  pub made-append : (before : List X) (instrs js : List Instr)
      → made_behind f before (instrs ++ js) ≡ made_behind f (made_behind f before instrs) js
  unfolding made_behind
  made-append before instrs js = fold-append (one_more f) before instrs js

  pub made-push : (before : List X) (instrs : List Instr) (i : Instr)
      → made_behind f before (instrs ++ i ∷ []) ≡ made_behind f before instrs ++ f (made_behind f before instrs) i ∷ []
  unfolding made_behind
  made-push before instrs i = fold-append (one_more f) before instrs (i ∷ [])

  pub made-none : (before : List X) → made_behind f before [] ≡ before
  unfolding made_behind
  made-none before = refl

  pub made-one : (before : List X) (i : Instr) (instrs : List Instr)
      → made_behind f before (i ∷ instrs) ≡ made_behind f (before ++ f before i ∷ []) instrs
  unfolding made_behind
  made-one before i instrs = refl

  -- as many as there are instructions
  pub length-made : (before : List X) (instrs : List Instr) → length (made_behind f before instrs) ≡ length before + length instrs
  unfolding made_behind
  length-made before [] = omega arith
  length-made before (i ∷ instrs) =
      let more = length-made (before ++ f before i ∷ []) instrs in
      omega (arith, more, length-append before (f before i ∷ []))

  -- what was made before stays
  pub made-before : (before : List X) (instrs : List Instr) (n : ℕ) (x : X) → n < length before
      → get_or (made_behind f before instrs) n x ≡ get_or before n x
  unfolding made_behind
  made-before before [] n x less = refl
  made-before before (i ∷ instrs) n x less =
      let more = f before i ∷ [] in
      let further : n < length (before ++ more) = omega (arith, length-append before more) in
      made-before (before ++ more) instrs n x further ∙ get_or-append before more x n less

  -- what was made of the front stays
  pub made-front : (instrs js : List Instr) (n : ℕ) (x : X) → n < length instrs
      → get_or (made_behind f [] (instrs ++ js)) n x ≡ get_or (made_behind f [] instrs) n x
  made-front instrs js n x less =
      let enough : n < length (made_behind f [] instrs) = omega (arith, length-made [] instrs) in
      ap (λ (made : List X). get_or made n x) (made-append [] instrs js) ∙ made-before (made_behind f [] instrs) js n x enough

  -- what the last instruction makes
  pub made-last : (instrs : List Instr) (i : Instr) (x : X)
      → get_or (made_behind f [] (instrs ++ i ∷ [])) (length instrs) x ≡ f (made_behind f [] instrs) i
  made-last instrs i x =
      ap (λ (made : List X). get_or made (length instrs) x) (made-push [] instrs i)
      ∙ ap (λ n. get_or (made_behind f [] instrs ++ f (made_behind f [] instrs) i ∷ []) n x)
      (let same = length-made [] instrs in let e : length instrs ≡ length (made_behind f [] instrs) = omega (arith, same) in e)
      ∙ get_or-append_seam (made_behind f [] instrs) (f (made_behind f [] instrs) i) [] x
