-- Runs of a program end alike, whatever their budgets are, with contraction and without.
use Rattle.std.specs.Prelude.{◌≡◌, ℕ, List, [], ◌∷◌, None}
use Rattle.bracket_poly.specs.Sections.{Rewritten, Worked}
use Rattle.cayley_terms.specs.declared.program.Program.{Program}
use Rattle.cayley_run.specs.Runs.{run_of}
use Rattle.cayley_run.specs.declared.answer.Options.{Options}

-- two sections have the same extensor, start and end; their uses may differ
pub record AreSectionsAlike (s t : Rewritten) : Type 0 where
  pub scalar : s.scalar ≡ t.scalar
  pub start : s.start ≡ t.start
  pub end : s.end ≡ t.end

-- two lists of sections are alike, one by one
abbrev pub AllSectionsAlike : List Rewritten → List Rewritten → Type 0
AllSectionsAlike [] [] = Unit {0}
AllSectionsAlike [] (t ∷ ts) = ⊥
AllSectionsAlike (s ∷ ss) [] = ⊥
AllSectionsAlike (s ∷ ss) (t ∷ ts) = AreSectionsAlike s t × AllSectionsAlike ss ts

-- two objects have the same number and step, and sections that are alike
pub record AreObjectsAlike (o p : Worked) : Type 0 where
  pub number : o.number ≡ p.number
  pub step : o.step ≡ p.step
  pub sections : AllSectionsAlike o.sections p.sections

-- two lists of objects are alike, one by one
abbrev pub AllObjectsAlike : List Worked → List Worked → Type 0
AllObjectsAlike [] [] = Unit {0}
AllObjectsAlike [] (p ∷ ps) = ⊥
AllObjectsAlike (o ∷ os) [] = ⊥
AllObjectsAlike (o ∷ os) (p ∷ ps) = AreObjectsAlike o p × AllObjectsAlike os ps

-- two runs of a program that nothing stopped have objects that are alike
abbrev pub RunsEndAlike : Type 0
RunsEndAlike =
    (a b : Options) (p : Program) → (run_of a p).stop ≡ None → (run_of b p).stop ≡ None
    → AllObjectsAlike (run_of a p).objects (run_of b p).objects
