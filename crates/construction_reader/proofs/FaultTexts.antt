-- Each text gives one construction or has one fault, and reading tells which.
use Rattle.std.proofs.Common.{◌≡◌, ℕ, ◌+◌, ◌≤◌, true, false, cond, List, [], ◌∷◌, ◌++◌, length, length-append, Result, Ok, Err, refl, sym, ap, subst, ◌∙◌, append_assoc, arith, nat_lt, inl, inr, ◌⊎◌}
use Rattle.std.specs.Prelude.{IfErr}
use Rattle.std.specs.List.{list_any}
use Rattle.std.proofs.lemmas.List.{append-nil}
use Rattle.std.proofs.lemmas.Bool.{le-ltb}
use Rattle.construction_reader.specs.declared.fault.Kind.{Kind}
use Rattle.construction_reader.specs.declared.fault.Kind.TheVariants.{NoHeader, NoConclusion}
use Rattle.construction_reader.specs.declared.fault.TextFault.{TextFault}
use Rattle.construction_reader.specs.declared.fault.ReadTextError.{ReadTextError}
use Rattle.construction_reader.specs.declared.fault.ReadTextError.TheVariants as errors
use Rattle.construction_reader.specs.declared.state.Stage.{Stage}
use Rattle.construction_reader.specs.declared.state.Stage.TheVariants.{Empty, Named, Going, Concluded}
use Rattle.construction_reader.specs.declared.construction.Construction.{Construction}
use Rattle.construction_reader.specs.Seen.{account}
use Rattle.construction_reader.specs.Said.{Account}
use Rattle.construction_reader.specs.Lines.{lines_of}
use Rattle.construction_reader.specs.Texts.{Progress, start, takes_line, at_line, ends, reads, read_of, GivesText}
use Rattle.construction_reader.specs.TextOf.{TextOf}
use Rattle.construction_reader.specs.Faults.{spoken, concludes, HasFault, kinds, IsFirst, NoneFaulty, IsFaultyLine, EndsEarly, IsFault, IsCause}
use Rattle.construction_reader.proofs.WholeTexts.{read_takes}
use Rattle.construction_reader.proofs.TextAgain.{text_again}
use Rattle.construction_reader.proofs.FineLines.{StateOf}
use Rattle.construction_reader.proofs.FaultyLines.{line_ok, line_err}

-- ---- lists

snoc_split : (xs front back : List (List ℕ)) (x y : List ℕ) → xs ++ x ∷ [] ≡ front ++ y ∷ back
    → ((xs ≡ front) × (x ≡ y)) ⊎ ((more : List (List ℕ)) × (xs ≡ front ++ y ∷ more))
snoc_split [] [] back x y e = inl (refl, cc)
snoc_split [] (f ∷ []) back x y e = absurd cc
snoc_split [] (f ∷ g ∷ front) back x y e = absurd cc
snoc_split (a ∷ xs) [] back x y e = let same : a ≡ y = cc in inr (xs, ap (λ b. b ∷ xs) same)
snoc_split (a ∷ xs) (f ∷ front) back x y e =
    let same : a ≡ f = cc in
    let rest : xs ++ x ∷ [] ≡ front ++ y ∷ back = cc in
    elim (snoc_split xs front back x y rest) [
      | inl whole ↦ inl (ap (λ b. b ∷ xs) same ∙ ap (λ bs. f ∷ bs) whole.0, whole.1)
      | inr more ↦ inr (more.0, ap (λ b. b ∷ xs) same ∙ ap (λ bs. f ∷ bs) more.1)
    ]

-- of two places in a list one is before the other, or they are the same
places : (xs us ys vs : List (List ℕ)) (x y : List ℕ) → xs ++ x ∷ us ≡ ys ++ y ∷ vs
    → ((xs ≡ ys) × (x ≡ y)) ⊎ (((more : List (List ℕ)) × (xs ≡ ys ++ y ∷ more))
    ⊎ ((more : List (List ℕ)) × (ys ≡ xs ++ x ∷ more)))
places [] us [] vs x y e = inl (refl, cc)
places [] us (b ∷ ys) vs x y e = let same : b ≡ x = cc in inr (inr (ys, ap (λ c. c ∷ ys) same))
places (a ∷ xs) us [] vs x y e = let same : a ≡ y = cc in inr (inl (xs, ap (λ c. c ∷ xs) same))
places (a ∷ xs) us (b ∷ ys) vs x y e =
    let same : a ≡ b = cc in
    let rest : xs ++ x ∷ us ≡ ys ++ y ∷ vs = cc in
    elim (places xs us ys vs x y rest) [
      | inl whole ↦ inl (ap (λ c. c ∷ xs) same ∙ ap (λ cs. b ∷ cs) whole.0, whole.1)
      | inr (inl more) ↦ inr (inl (more.0, ap (λ c. c ∷ xs) same ∙ ap (λ cs. b ∷ cs) more.1))
      | inr (inr more) ↦ inr (inr (more.0, ap (λ c. c ∷ ys) (sym same) ∙ ap (λ cs. a ∷ cs) more.1))
    ]

-- ---- faults of lines

none-nil : NoneFaulty []
none-nil [] line after e kind wrong = cc
none-nil (b ∷ before) line after e kind wrong = cc

none-snoc : (lines : List (List ℕ)) (line : List ℕ) → NoneFaulty lines
    → ((kind : Kind) → HasFault lines line kind → ⊥) → NoneFaulty (lines ++ line ∷ [])
none-snoc lines line none last front other back split kind wrong =
    elim (snoc_split lines front back line other split) [
      | inl same ↦ last kind (subst (λ ls. HasFault ls line kind) (sym same.0)
          (subst (λ l. HasFault front l kind) (sym same.1) wrong))
      | inr more ↦ none front other more.0 more.1 kind wrong
    ]

first_has : (Has : Kind → Type 0) (kind : Kind) (order : List Kind) → IsFirst Has kind order → Has kind
first_has Has kind [] first = absurd first
first_has Has kind (next ∷ others) (inl it) = subst Has (sym it.0) it.1
first_has Has kind (next ∷ others) (inr later) = first_has Has kind others later.1

first_is_one : (Has : Kind → Type 0) (j k : Kind) (order : List Kind) → IsFirst Has j order → IsFirst Has k order
    → j ≡ k
first_is_one Has j k [] one other = absurd one
first_is_one Has j k (next ∷ others) (inl one) (inl other) = one.0 ∙ sym other.0
first_is_one Has j k (next ∷ others) (inl one) (inr other) = absurd (other.0 one.1)
first_is_one Has j k (next ∷ others) (inr one) (inl other) = absurd (one.0 other.1)
first_is_one Has j k (next ∷ others) (inr one) (inr other) = first_is_one Has j k others one.1 other.1

-- ---- reading from a line on

abbrev FaultOf : List (List ℕ) → TextFault → Type 0
FaultOf lines fault = IsFaultyLine lines fault ⊎ EndsEarly lines fault

fault_is : {A : Type 0} (f g : TextFault) → (let r : Result A TextFault = Err f in r) ≡ Err g → g ≡ f
fault_is f g e = let same : f ≡ g = cc in cc

taken : (r : Result Progress Kind) → ((q : Progress) × (r ≡ Ok q)) ⊎ ((kind : Kind) × (r ≡ Err kind))
taken (Ok q) = inl (q, refl)
taken (Err kind) = inr (kind, refl)

goes_on : (n : ℕ) (line : List ℕ) (lines : List (List ℕ)) (p q : Progress) → takes_line n line p ≡ Ok q
    → reads n (line ∷ lines) p ≡ reads (n + 1) lines q
unfolding reads
goes_on n line lines p q e = rw e refl

stops : (n : ℕ) (line : List ℕ) (lines : List (List ℕ)) (p : Progress) (kind : Kind) → takes_line n line p ≡ Err kind
    → reads n (line ∷ lines) p ≡ Err (record { line = n; kind = kind })
unfolding reads
stops n line lines p kind e = rw e refl

end_err : (stage : Stage) (n : ℕ) (p : Progress) (fault : TextFault) (lines : List (List ℕ))
    → StateOf stage (spoken lines) p → NoneFaulty lines → n ≡ length lines + 1 → at_line n (ends p stage) ≡ Err fault
    → EndsEarly lines fault
unfolding ends
end_err Empty n p fault lines state none at e =
    let is = fault_is {A = Account} (record { line = n; kind = NoHeader }) fault e in
    record {
      fine = none;
      open_end = ap (list_any concludes) state.0;
      number = ap (λ (f : TextFault). f.line) is ∙ at;
      kind = ap (λ (f : TextFault). f.kind) is ∙ sym (ap
          (λ ls. cond (nat_lt (length ls) 2) NoHeader NoConclusion) state.0);
    }
end_err Named n p fault lines state none at e =
    let is = fault_is {A = Account} (record { line = n; kind = NoHeader }) fault e in
    record {
      fine = none;
      open_end = state.open_end;
      number = ap (λ (f : TextFault). f.line) is ∙ at;
      kind = ap (λ (f : TextFault). f.kind) is ∙ sym (ap
          (λ ls. cond (nat_lt (length ls) 2) NoHeader NoConclusion) state.lines);
    }
end_err Going n p fault lines state none at e =
    let is = fault_is {A = Account} (record { line = n; kind = NoConclusion }) fault e in
    let many : 2 ≤ length (spoken lines) = omega (arith, ap length state.lines) in
    let behind : nat_lt (length (spoken lines)) 2 ≡ false = le-ltb _ _ many in
    record {
      fine = none;
      open_end = state.open_end;
      number = ap (λ (f : TextFault). f.line) is ∙ at;
      kind = ap (λ (f : TextFault). f.kind) is ∙ sym (ap (λ b. cond b NoHeader NoConclusion) behind);
    }
end_err Concluded n p fault lines state none at e = absurd cc

end_ok : (stage : Stage) (n : ℕ) (p : Progress) (c : Account) (lines : List (List ℕ)) → StateOf stage (spoken lines) p
    → at_line n (ends p stage) ≡ Ok c → list_any concludes (spoken lines) ≡ true
unfolding ends
end_ok Empty n p c lines state e = absurd cc
end_ok Named n p c lines state e = absurd cc
end_ok Going n p c lines state e = absurd cc
end_ok Concluded n p c lines state e = state.1

next_number : (n : ℕ) (before : List (List ℕ)) (line : List ℕ) → n ≡ length before + 1
    → n + 1 ≡ length (before ++ line ∷ []) + 1
next_number n before line at = omega (arith, at, length-append before (line ∷ []))

reads_fault : (n : ℕ) (before lines : List (List ℕ)) (p : Progress) (fault : TextFault) → n ≡ length before + 1
    → StateOf p.stage (spoken before) p → NoneFaulty before → reads n lines p ≡ Err fault
    → FaultOf (before ++ lines) fault
unfolding reads
reads_fault n before [] p fault at state none e = subst (λ ls. FaultOf ls fault) (sym (append-nil before))
    (inr (end_err p.stage n p fault before state none at e))
reads_fault n before (line ∷ lines) p fault at state none e =
    elim (taken (takes_line n line p)) [
      | inl more ↦
          let on = line_ok n before line p more.0 state more.1 in
          let rest = reads_fault (n + 1) (before ++ line ∷ []) lines more.0 fault
          (next_number n before line at) on.state (none-snoc before line none on.fine)
          (sym (goes_on n line lines p more.0 more.1) ∙ e) in
          subst (λ ls. FaultOf ls fault) (append_assoc before (line ∷ []) lines) rest
      | inr stop ↦
          let is = fault_is {A = Account} (record { line = n; kind = stop.0 }) fault
          (sym (stops n line lines p stop.0 stop.1) ∙ e) in
          let kind_is : fault.kind ≡ stop.0 = ap (λ (f : TextFault). f.kind) is in
          inl (record {
            before = before;
            line = line;
            after = lines;
            split = refl;
            number = ap (λ (f : TextFault). f.line) is ∙ at;
            fine_before = none;
            kind = subst (λ k. IsFirst (HasFault before line) k kinds) (sym kind_is)
                (line_err n before line p stop.0 state stop.1);
          })
    ]

pub record IsWhole (lines : List (List ℕ)) : Type 0 where
  pub fine : NoneFaulty lines
  pub ended : list_any concludes (spoken lines) ≡ true

reads_whole : (n : ℕ) (before lines : List (List ℕ)) (p : Progress) (c : Account) → StateOf p.stage (spoken before) p
    → NoneFaulty before → reads n lines p ≡ Ok c → IsWhole (before ++ lines)
unfolding reads
reads_whole n before [] p c state none e = subst IsWhole (sym (append-nil before))
    (record { fine = none; ended = end_ok p.stage n p c before state e })
reads_whole n before (line ∷ lines) p c state none e =
    elim (taken (takes_line n line p)) [
      | inl more ↦
          let on = line_ok n before line p more.0 state more.1 in
          let rest = reads_whole (n + 1) (before ++ line ∷ []) lines more.0 c on.state
          (none-snoc before line none on.fine) (sym (goes_on n line lines p more.0 more.1) ∙ e) in
          subst IsWhole (append_assoc before (line ∷ []) lines) rest
      | inr stop ↦ let never = sym (stops n line lines p stop.0 stop.1) ∙ e in absurd cc
    ]

-- ---- faults of texts

begins : StateOf Empty (spoken []) start
begins = (refl, record { rows = refl; free = refl; definitions = refl; params = refl })

pub fault_of : (text : List ℕ) (fault : TextFault) → read_of text ≡ Err fault → IsFault text fault
unfolding read_of
fault_of text fault e = reads_fault 1 [] (lines_of text) start fault (omega arith) begins none-nil e

-- no text gives a construction and has a fault
pub never_both : (text : List ℕ) (c : Account) (fault : TextFault) → TextOf text c → IsFault text fault → ⊥
unfolding read_of
never_both text c fault of (inl faulty) =
    let whole = reads_whole 1 [] (lines_of text) start c begins none-nil (text_again text c of) in
    whole.fine faulty.before faulty.line faulty.after faulty.split fault.kind
    (first_has (HasFault faulty.before faulty.line) fault.kind kinds faulty.kind)
never_both text c fault of (inr early) =
    let whole = reads_whole 1 [] (lines_of text) start c begins none-nil (text_again text c of) in
    let end = whole.ended in
    let none = early.open_end in
    cc

same_fault : (f g : TextFault) → f.line ≡ g.line → f.kind ≡ g.kind → f ≡ g
same_fault f g at kind =
    ap (λ n. let made : TextFault = record { line = n; kind = f.kind } in made) at
    ∙ ap (λ k. let made : TextFault = record { line = g.line; kind = k } in made) kind

-- a text has one fault at most
pub one_fault : (text : List ℕ) (f g : TextFault) → IsFault text f → IsFault text g → f ≡ g
one_fault text f g (inl one) (inl other) =
    let wrong = first_has (HasFault one.before one.line) f.kind kinds one.kind in
    let wrong_too = first_has (HasFault other.before other.line) g.kind kinds other.kind in
    elim (places one.before one.after other.before other.after one.line other.line (sym one.split ∙ other.split)) [
      | inl same ↦
          let kind : IsFirst (HasFault one.before one.line) g.kind kinds =
          subst (λ ls. IsFirst (HasFault ls one.line) g.kind kinds) (sym same.0)
          (subst (λ l. IsFirst (HasFault other.before l) g.kind kinds) (sym same.1) other.kind) in
          same_fault f g (one.number ∙ ap (λ ls. length ls + 1) same.0 ∙ sym other.number)
          (first_is_one (HasFault one.before one.line) f.kind g.kind kinds one.kind kind)
      | inr (inl later) ↦ absurd (one.fine_before other.before other.line later.0 later.1 g.kind wrong_too)
      | inr (inr earlier) ↦ absurd (other.fine_before one.before one.line earlier.0 earlier.1 f.kind wrong)
    ]
one_fault text f g (inl one) (inr other) = absurd (other.fine one.before one.line one.after one.split f.kind
    (first_has (HasFault one.before one.line) f.kind kinds one.kind))
one_fault text f g (inr one) (inl other) = absurd (one.fine other.before other.line other.after other.split g.kind
    (first_has (HasFault other.before other.line) g.kind kinds other.kind))
one_fault text f g (inr one) (inr other) = same_fault f g (one.number ∙ sym other.number) (one.kind ∙ sym other.kind)

-- each text gives a construction or has a fault
pub either : (text : List ℕ) → ((c : Account) × TextOf text c) ⊎ ((fault : TextFault) × IsFault text fault)
either text = go (read_of text) refl
  where
    go : (r : Result Account TextFault) → read_of text ≡ r → ((c : Account) × TextOf text c)
        ⊎ ((fault : TextFault) × IsFault text fault)
    go (Ok c) e = inl (c, read_takes text c e)
    go (Err fault) e = inr (fault, fault_of text fault e)

pub is_cause : (text : List ℕ) (r : Result Construction ReadTextError) → GivesText account r (read_of text)
    → IfErr r (IsCause text)
is_cause text (Ok c) given = tt
is_cause text (Err errors.Memory) given = tt
is_cause text (Err (errors.Fault fault)) given = fault_of text fault given
