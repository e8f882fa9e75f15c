-- What is kept of sections that were written.
use Rattle.std.specs.Prelude.{◌≡◌, ⊤, ℕ, ◌++◌, ◌-◌, [], length, Result, Ok, Err}
use Rattle.std.specs.List.{cons_option}
use Rattle.std.specs.Option.{option_map}
use Rattle.bracket_poly.specs.Sections.{entry_from, value_from}
use Rattle.bracket_poly.specs.Values.{value_of}
use Rattle.proof_text.specs.declared.error.WriteError.{WriteError}
use Rattle.shuffle_meet.specs.Stops.{Start}
use Rattle.cayley_run.specs.Results.{stop_of}
use Rattle.cayley_run.specs.Sections.{Work, Sections, rewritten}
use Rattle.cayley_run.specs.declared.writing.Ending.{Ending}

-- the ending is that of these sections
pub record IsEnding {d : ℕ} (e : Ending d) (s : Sections) : Type 0 where
  pub value : value_of e.entries.items ≡ value_from s.sections
  pub left : e.left ≡ s.left
  pub stop : option_map stop_of e.stop ≡ s.stop

-- with the section of this start more, which was rewritten so
pub record EndsOne {d : ℕ} (old new : Ending d) (start : Start) (w : Work) : Type 0 where
  pub value : value_of new.entries.items ≡ value_of old.entries.items ++ cons_option (entry_from (rewritten start w)) []
  pub left : new.left ≡ old.left - length w.turns.uses
  pub stop : option_map stop_of new.stop ≡ w.turns.stop

-- whether the lines of what is answered were put
abbrev pub put_of : {A : Type 0} → Result A WriteError → Result ⊤ WriteError
put_of (Ok x) = Ok tt
put_of (Err error) = Err error
