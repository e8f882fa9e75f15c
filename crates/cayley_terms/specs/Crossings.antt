-- Where two lines meet, in a straight list.
use Rattle.std.specs.Prelude.{ℕ, None}
use Rattle.cayley_terms.specs.declared.instr.Instr.TheVariants as instr
use Rattle.cayley_terms.specs.Straight.{Step, ◌>>=◌, pushed}

-- the line through two, and where this line meets it
abbrev pub cut_lowered : ℕ → ℕ → ℕ → ℕ → Step ℕ
cut_lowered line l a b = do
  other ← pushed line None (instr.Join a b)
  pushed line None (instr.Meet l other)

-- the line through a and b, the line through c and d, and where they meet
abbrev pub crossing_lowered : ℕ → ℕ → ℕ → ℕ → ℕ → Step ℕ
crossing_lowered line a b c d = do
  first ← pushed line None (instr.Join a b)
  cut_lowered line first c d
