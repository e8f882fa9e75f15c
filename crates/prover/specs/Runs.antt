-- Runs of constructions, and with what they end.
use Rattle.std.specs.Prelude.{◌≡◌, ℕ, ◌-◌, ◌==◌, Bool, false, List, length, map, zip, slice_get, Option, Some, None}
use Rattle.coordinate_model.specs.BracketPolynomial.{BracketPolynomial}
use Rattle.construction_reader.specs.Said.{Account}
use Rattle.cayley_terms.specs.declared.instr.Instr.{Instr}
use Rattle.cayley_terms.specs.Instrs.{measures}
use Rattle.cayley_terms.specs.Straight.{lowered}
use Rattle.bracket_poly.specs.Sections.{Rewritten, Worked}
use Rattle.bracket_poly.specs.Tracked.{coefficient_limit, keys_limit}
use Rattle.straightening.specs.Runs as turns
use Rattle.cayley_run.specs.declared.answer.Options.{Options}
use Rattle.cayley_run.specs.Runs.{Log, at_start, run_on}
use Rattle.proof_text.specs.declared.stop.Stop.{Stop}
use Rattle.proof_text.specs.declared.stop.Stop.TheVariants as stop

-- the instructions of a construction, each with the step of what it makes
abbrev pub instructions : Account → List (Instr × ℕ)
instructions c =
    let instrs = (lowered c).instrs in zip instrs (map (λ m. m.step) (measures c.rank instrs))

-- the run of a construction
abbrev pub log_of : Options → Account → Log
log_of options c = run_on c.rank (at_start options) (instructions c)

-- it stops
abbrev pub Stops : Options → Account → Type 0
Stops options c = (stop : turns.Stop) × ((log_of options c).stop ≡ Some stop)

-- it comes to the end
abbrev pub ComesToEnd : Options → Account → Type 0
ComesToEnd options c = (log_of options c).stop ≡ None

-- the last one
abbrev pub last_of : {A : Type 0} → List A → Option A
last_of xs = slice_get xs (length xs - 1)

-- with what an object ends
abbrev pub end_in : List Rewritten → Option BracketPolynomial
end_in sections = elim (last_of sections) [ None ↦ None | Some section ↦ section.end ]

-- with what the last section of the last object ends
abbrev pub last_end : List Worked → Option BracketPolynomial
last_end objects = elim (last_of objects) [ None ↦ None | Some object ↦ end_in object.sections ]

-- how many terms that has
abbrev pub terms_at_end : List Worked → ℕ
terms_at_end objects = elim (last_end objects) [ None ↦ 0 | Some polynomial ↦ length polynomial.terms ]

-- whether the polynomial is zero
abbrev pub is_zero : BracketPolynomial → Bool
is_zero polynomial = length polynomial.terms == 0

-- whether the objects end with zero: where there is no end, they do not
abbrev pub ends_in_zero : List Worked → Bool
ends_in_zero objects = elim (last_end objects) [ None ↦ false | Some polynomial ↦ is_zero polynomial ]

-- what a proof text tells of a stop
abbrev pub stop_kind : turns.Stop → Stop
stop_kind turns.turns_stop = stop.Turns
stop_kind (turns.limit_stop coefficient_limit) = stop.Coefficient
stop_kind (turns.limit_stop keys_limit) = stop.Keys
