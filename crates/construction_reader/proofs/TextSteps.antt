-- Reading a text line by line, as a loop does.
use Rattle.std.proofs.Common.{◌≡◌, ℕ, ◌+◌, List, [], ◌∷◌, length, Result, Ok, Err, refl, sym, ap, ◌∙◌, arith}
use Rattle.construction_reader.specs.declared.fault.TextFault.{TextFault}
use Rattle.construction_reader.specs.declared.fault.LineError.{LineError}
use Rattle.construction_reader.specs.declared.fault.LineError.TheVariants as errors
use Rattle.construction_reader.specs.Outcome.{◌>>=◌, Fails}
use Rattle.construction_reader.specs.Said.{Account}
use Rattle.construction_reader.specs.Lines.{lines_of}
use Rattle.construction_reader.specs.Texts.{Progress, start, at_line, at_number, ends, takes_line, reads, read_of, TextFails}

pub begins : (text : List ℕ) → reads 1 (lines_of text) start ≡ read_of text
unfolding read_of
begins text = refl

step : (n : ℕ) (line : List ℕ) (lines : List (List ℕ)) (p : Progress)
    → reads n (line ∷ lines) p ≡ (at_line n (takes_line n line p) >>= λ q. reads (n + 1) lines q)
unfolding reads
step n line lines p = refl

pub goes_on : (n : ℕ) (rest line after : List ℕ) (p q : Progress) (total : Result Account TextFault)
    → lines_of rest ≡ line ∷ lines_of after → takes_line n line p ≡ Ok q → reads n (lines_of rest) p ≡ total
    → reads (n + 1) (lines_of after) q ≡ total
goes_on n rest line after p q total e taken so_far =
    let one : reads n (line ∷ lines_of after) p ≡ reads (n + 1) (lines_of after) q = step n line (lines_of after) p
    ∙ rw taken refl in
    sym one ∙ ap (λ ls. reads n ls p) (sym e) ∙ so_far

pub fails : (error : LineError) (n : ℕ) (rest line after : List ℕ) (p : Progress) (total : Result Account TextFault)
    → lines_of rest ≡ line ∷ lines_of after → Fails error (takes_line n line p) → reads n (lines_of rest) p ≡ total
    → TextFails (at_number n error) total
fails errors.Memory n rest line after p total e taken so_far = tt
fails (errors.Fault kind) n rest line after p total e taken so_far =
    let one : reads n (line ∷ lines_of after) p ≡ Err (record { line = n; kind = kind }) =
    step n line (lines_of after) p ∙ rw taken refl in
    sym so_far ∙ ap (λ ls. reads n ls p) e ∙ one

pub is_done : (n : ℕ) (rest : List ℕ) (p : Progress) (total : Result Account TextFault) → length rest ≡ 0
    → reads n (lines_of rest) p ≡ total → total ≡ at_line n (ends p p.stage)
unfolding reads lines_of
is_done n [] p total h so_far = sym so_far
is_done n (b ∷ rest) p total h so_far = absurd (omega arith)
