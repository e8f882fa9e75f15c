-- What the run of a program wrote, where nothing stopped it, is accepted, and is a proof within the limits of a text.
use Rattle.std.proofs.Common.{◌≡◌, ℕ, ◌<◌, Bool, List, [], ◌∷◌, ◌++◌, map, zip, length, replicate, refl, sym, ap}
use Rattle.std.proofs.Common.{subst, ◌∙◌, arith}
use Rattle.std.specs.Prelude.{None}
use Rattle.std.specs.List.{AllByRecursion}
use Rattle.coordinate_model.specs.Sequences.{IsRank}
use Rattle.coordinate_model.specs.BracketPolynomial.{BracketPolynomial}
use Rattle.coordinate_model.proofs.Splits.{all_so}
use Rattle.step_types.specs.declared.measure.Measure.{Measure}
use Rattle.step_types.specs.declared.names.Names.{Names}
use Rattle.bracket_poly.specs.Sections.{Worked}
use Rattle.cayley_terms.specs.declared.instr.Instr.{Instr}
use Rattle.cayley_terms.specs.declared.instr.Instr.TheVariants.{Free, Join, Meet, On, Conic}
use Rattle.cayley_terms.specs.declared.program.Program.{Program}
use Rattle.cayley_terms.specs.Instrs.{instr_measure, measures}
use Rattle.cayley_terms.specs.Kept.{IsNamed}
use Rattle.cayley_terms.specs.Programs.{IsInner, IsLast, EndsInOne}
use Rattle.cayley_run.specs.Bounds.{HasNumbers}
use Rattle.cayley_run.specs.RunLaws.{RunMeans, LastEnds}
use Rattle.cayley_run.specs.Runs.{Log, at_start, run_on, run_of}
use Rattle.cayley_run.specs.declared.answer.Options.{Options}
use Rattle.cayley_run.proofs.RunBounds.{named_numbers}
use Rattle.cayley_run.proofs.RunMeaning.{new_behind, made-new}
use Rattle.cayley_run.proofs.RunReady as ready
use Rattle.log_checker.specs.Accepted.{AreAccepted}
use Rattle.log_checker.specs.Objects.{program_steps}
use Rattle.proof_text.specs.Told.{AreObjectsTold, IsDecided, IsLastDecided, is_zero_end}
use Rattle.prover.specs.Runs.{ends_in_zero}
use Rattle.prover.specs.WrittenLaws.{RunIsAccepted, RunIsProof}
use Rattle.prover.proofs.WrittenSections.{claims_back}
use Rattle.prover.proofs.Verdicts.{zero_end}
use Rattle.prover.proofs.WrittenRuns.{Writes, run_writes}

-- ---- the run of a program

module _ (options : Options) (names : Names) (instrs : List Instr) (steps : List ℕ)
    (numbers : AllByRecursion (HasNumbers (length names.free) (length names.params)) instrs) where
  -- what a run of rank d writes
  abbrev WritesAt : ℕ → Type 0
  WritesAt d =
      IsRank d → EndsInOne d [] instrs → steps ≡ map (λ m. m.step) (measures d instrs)
      → (run_on d (at_start options) (zip instrs steps)).stop ≡ None
      → Writes names (at_start options) (run_on d (at_start options) (zip instrs steps)) (zip instrs steps)

  writes_at : WritesAt names.rank
  writes_at rank ends stepped =
      let same : steps ≡ map (λ m. m.step) (new_behind (instr_measure names.rank) [] instrs) =
      stepped ∙ ap (λ (ms : List Measure). map (λ m. m.step) ms) (made-new (instr_measure names.rank) [] instrs) in
      subst (λ (ss : List ℕ). (run_on names.rank (at_start options) (zip instrs ss)).stop ≡ None
      → Writes names (at_start options) (run_on names.rank (at_start options) (zip instrs ss))
      (zip instrs ss)) (sym same)
      (λ stop. run_writes names rank [] (at_start options) instrs
      (record { all = tt; within = tt; rising = tt; values = refl; sections = tt }) refl ends numbers stop)

program_writes : (options : Options) (p : Program) (names : Names) → names.rank ≡ p.rank
    → AllByRecursion (HasNumbers (length names.free) (length names.params)) p.instrs → (run_of options p).stop ≡ None
    → Writes names (at_start options) (run_of options p) (zip p.instrs p.steps)
unfolding run_of
program_writes options p names rank numbers stop =
    subst (WritesAt options names p.instrs p.steps numbers) rank (writes_at options names p.instrs p.steps numbers)
    p.formed.rank p.formed.each p.formed.stepped stop

-- ---- accepted

pub run_is_accepted : RunIsAccepted
run_is_accepted options p stop =
    let names : Names = record { rank = p.rank; free = replicate 200 []; params = replicate 64 [] } in
    let w : Writes names (at_start options) (run_of options p) (zip p.instrs p.steps) =
    program_writes options p names refl (ready.begins options p).numbers stop in
    subst (λ (os : List Worked). AreAccepted p.rank [] (zip p.instrs p.steps) (claims_back os)) (sym w.objects)
    w.accepted

-- ---- a proof within the limits

-- the first instruction is a free point
some_point : (d : ℕ) (names : Names) (instrs : List Instr) → EndsInOne d [] instrs
    → AllByRecursion (IsNamed names) instrs
    → 0 < length names.free
some_point d names [] ends named = absurd ends
some_point d names (instr ∷ []) ends named = absurd (none instr ends)
  where
    none : (i : Instr) → IsLast d [] i → ⊥
    none (Free i) h = h.steps
    none (Join a b) h = let l : a < 0 = h.earlier.0 in omega arith
    none (Meet a b) h = let l : a < 0 = h.earlier.0 in omega arith
    none (On a b s t) h = h.steps
    none (Conic p1 p2 p3 p4 p5 p6) h = let l : p1 < 0 = h.earlier.0 in omega arith
some_point d names (instr ∷ next ∷ instrs) ends named = first instr ends.0 named.0
  where
    first : (i : Instr) → IsInner d [] i → IsNamed names i → 0 < length names.free
    first (Free i) h l = omega arith
    first (Join a b) h n = let l : a < 0 = h.earlier.0 in absurd (omega arith)
    first (Meet a b) h n = let l : a < 0 = h.earlier.0 in absurd (omega arith)
    first (On a b s t) h n = let l : a < 0 = h.earlier.0 in absurd (omega arith)
    first (Conic p1 p2 p3 p4 p5 p6) h n = absurd h.steps

-- the last of the objects decides
last_decided : (proved : Bool) (front : List Worked) (last : Worked) → IsDecided proved last.sections
    → IsLastDecided proved (front ++ last ∷ [])
last_decided proved [] last h = h
last_decided proved (o ∷ []) last h = h
last_decided proved (o ∷ p ∷ front) last h = last_decided proved (p ∷ front) last h

decided : (log : Log) (end : BracketPolynomial) → LastEnds log end
    → IsLastDecided (ends_in_zero log.objects) log.objects
decided log end e =
    let last : Worked = record { number = e.number; step = e.step; sections = e.section ∷ [] } in
    let one : IsDecided (ends_in_zero log.objects) last.sections = ap is_zero_end e.ends ∙ sym (zero_end log end e) in
    subst (IsLastDecided (ends_in_zero log.objects)) (sym e.last)
    (last_decided (ends_in_zero log.objects) e.front last one)

pub run_is_proof : RunMeans → RunIsProof
run_is_proof means options p names rank named stop =
    let w : Writes names (at_start options) (run_of options p) (zip p.instrs p.steps) =
    program_writes options p names rank
    (all_so (IsNamed names) (HasNumbers (length names.free) (length names.params)) (named_numbers names) p.instrs named)
    stop in
    let found = (means options p).conclusion stop in
    record {
      some_point = some_point p.rank names p.instrs p.formed.each named;
      objects = subst (AreObjectsTold names 1 (program_steps p)) (sym w.objects) w.told;
      verdict = decided (run_of options p) found.0 found.1;
    }
