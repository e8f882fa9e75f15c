-- What is read of the lines behind the two first ones gives their sentences.
use Rattle.std.proofs.Common.{◌≡◌, ℕ, ◌+◌, ◌≤◌, Bool, true, false, not, cond, List, [], ◌∷◌, ◌++◌, length, map, Result, Ok, Err, refl, sym, ap, subst, ◌∙◌, append_assoc, arith, nat_lt, inl, inr, ◌⊎◌}
use Rattle.std.specs.Prelude.{sum_by}
use Rattle.std.specs.List.{AllByRecursion, list_any}
use Rattle.std.proofs.lemmas.Bool.{ltb-false}
use Rattle.std.proofs.lemmas.List.Sums.{sum_by-cons}
use Rattle.construction_reader.specs.declared.fault.Kind.{Kind}
use Rattle.construction_reader.specs.declared.fault.Kind.TheVariants.{Byte, LongName, TooMany}
use Rattle.construction_reader.specs.declared.state.Stage.{Stage}
use Rattle.construction_reader.specs.declared.state.Stage.TheVariants.{Going, Concluded}
use Rattle.construction_reader.specs.Outcome.{◌>>=◌}
use Rattle.construction_reader.specs.Tokens.{tokens_of}
use Rattle.construction_reader.specs.Said.{Sentence, Row, Account, sentences_of}
use Rattle.construction_reader.specs.Sentences.{sentence_at}
use Rattle.construction_reader.specs.Lines.{content, is_clean, is_long, line_tokens}
use Rattle.construction_reader.specs.Params.{with_params}
use Rattle.construction_reader.specs.Texts.{Progress, counts, adds, full_line, line_read, takes_line, at_line, ends, reads}
use Rattle.construction_reader.specs.Grammar.{sentence_tokens, IsSentence, is_conclusion, EndsOnce, free_names, definitions, params_with, params_of}
use Rattle.construction_reader.specs.TextOf.{onto_full, full_lines, IsClean}
use Rattle.construction_reader.proofs.ObjectLaws.{bind_ok, done, ok_is}
use Rattle.construction_reader.proofs.SentenceLaws.{sentence_takes}

bind_any : {A B E : Type 0} (r : Result A E) (f : A → Result B E) (y : B) → (r >>= f) ≡ Ok y → (x : A) × (r ≡ Ok x)
    × (f x ≡ Ok y)
bind_any (Ok x) f y e = (x, refl, e)
bind_any (Err d) f y e = absurd cc

ok_any : {A E : Type 0} (x y : A) → (let r : Result A E = Ok x in r) ≡ Ok y → x ≡ y
ok_any x y e = cc

at_line_ok : {A : Type 0} (n : ℕ) (r : Result A Kind) (x : A) → at_line n r ≡ Ok x → r ≡ Ok x
at_line_ok n (Ok y) x e = ap done (ok_any y x e)
at_line_ok n (Err k) x e = absurd cc

pub not_err : {A : Type 0} (b : Bool) (k : Kind) (r : Result A Kind) (x : A) → cond b (Err k) r ≡ Ok x → (b ≡ false)
    × (r ≡ Ok x)
not_err true k r x e = absurd cc
not_err false k r x e = (refl, e)

pub not_false : (b : Bool) → not b ≡ false → b ≡ true
not_false true e = refl
not_false false e = absurd cc

pub line_cases : (n : ℕ) (line : List ℕ) (p q : Progress) → takes_line n line p ≡ Ok q → IsClean line
    × (line_read n (tokens_of (content line)) p ≡ Ok q)
unfolding takes_line line_tokens
line_cases n line p q e =
    let a = bind_ok (line_tokens line) (λ tokens. line_read n tokens p) q e in
    let b = not_err (not (is_clean (content line))) Byte _ a.0 a.1 in
    let c = not_err (list_any is_long (tokens_of (content line))) LongName _ a.0 b.1 in
    let made = tokens_of (content line) in
    ((not_false _ b.0, c.0), ap (λ ts. line_read n ts p) (ok_is made a.0 c.1) ∙ a.2)

pub step : (n : ℕ) (line : List ℕ) (lines : List (List ℕ)) (p : Progress) (c : Account) → reads n (line ∷ lines) p ≡ Ok c
    → (q : Progress) × (takes_line n line p ≡ Ok q) × (reads (n + 1) lines q ≡ Ok c)
unfolding reads
step n line lines p c e =
    let a = bind_any (at_line n (takes_line n line p)) (λ q. reads (n + 1) lines q) c e in
    (a.0, at_line_ok n (takes_line n line p) a.0 a.1, a.2)

-- ---- behind the conclusion

pub record SaysNothing (n : ℕ) (lines : List (List ℕ)) (p : Progress) (c : Account) : Type 0 where
  pub clean : AllByRecursion IsClean lines
  pub blank : full_lines n lines ≡ []
  pub same : c ≡ record { rank = p.rank; rows = p.rows }

blank_line : (n : ℕ) (tokens : List (List ℕ)) (p q : Progress) → p.stage ≡ Concluded → line_read n tokens p ≡ Ok q
    → (tokens ≡ []) × (p ≡ q)
unfolding line_read full_line
blank_line n [] p q at e = (refl, ok_is p q e)
blank_line n (t ∷ ts) p q at e = let never = ap (λ s. full_line s n (t ∷ ts) p) (sym at) ∙ e in absurd cc

pub concluded_takes : (n : ℕ) (lines : List (List ℕ)) (p : Progress) (c : Account) → p.stage ≡ Concluded
    → reads n lines p ≡ Ok c → SaysNothing n lines p c
unfolding reads ends
concluded_takes n [] p c at e =
    let made : Account = record { rank = p.rank; rows = p.rows } in
    let last : at_line n (ends p p.stage) ≡ Ok made = ap (λ s. at_line n (ends p s)) at in
    record { clean = tt; blank = refl; same = sym (ok_any made c (sym last ∙ e)) }
concluded_takes n (line ∷ lines) p c at e =
    let a = step n line lines p c e in
    let l = line_cases n line p a.0 a.1 in
    let b = blank_line n (tokens_of (content line)) p a.0 at l.1 in
    let rest = concluded_takes (n + 1) lines p c at (ap (λ q. reads (n + 1) lines q) b.1 ∙ a.2) in
    record {
      clean = (l.0, rest.clean);
      blank = ap (λ ts. onto_full n ts (full_lines (n + 1) lines)) b.0 ∙ rest.blank;
      same = rest.same;
    }

-- ---- the sentences

abbrev pub said : List Row → List (ℕ × List (List ℕ))
said rows = map (λ row. (row.line, sentence_tokens row.sentence)) rows

pub record IsWithin (p : Progress) : Type 0 where
  pub free : p.free ≤ 200
  pub definitions : p.definitions ≤ 2000
  pub params : length p.params ≤ 64

pub record SaysRows (n : ℕ) (lines : List (List ℕ)) (p : Progress) (c : Account) : Type 0 where
  pub rows : List Row
  pub clean : AllByRecursion IsClean lines
  pub says : full_lines n lines ≡ said rows
  pub same : c ≡ record { rank = p.rank; rows = p.rows ++ rows }
  pub each : AllByRecursion IsSentence (sentences_of rows)
  pub ends : EndsOnce (sentences_of rows)
  pub few_free : p.free + sum_by free_names (sentences_of rows) ≤ 200
  pub few_definitions : p.definitions + sum_by definitions (sentences_of rows) ≤ 2000
  pub few_params : length (params_of p.params (sentences_of rows)) ≤ 64

-- a line of a sentence
sentence_line : (n : ℕ) (t : List ℕ) (ts : List (List ℕ)) (p q : Progress) → p.stage ≡ Going
    → line_read n (t ∷ ts) p ≡ Ok q
    → (s : Sentence) × (r : Progress) × (t ∷ ts ≡ sentence_tokens s) × IsSentence s × (counts s p ≡ Ok r)
    × (q ≡ record r { rows = r.rows ++ record { line = n; sentence = s } ∷ [] })
unfolding line_read full_line adds
sentence_line n t ts p q at e =
    let going = ap (λ s. full_line s n (t ∷ ts) p) (sym at) ∙ e in
    let a = bind_ok (sentence_at (t ∷ ts)) (λ s. adds n s p) q going in
    let says = sentence_takes (t ∷ ts) a.0 a.1 in
    let b = bind_ok (counts a.0 p) (λ r. Ok (record r {
      rows = r.rows
          ++ record { line = n; sentence = a.0 } ∷ [];
    })) q a.2 in
    let made : Progress = record b.0 { rows = b.0.rows ++ record { line = n; sentence = a.0 } ∷ [] } in
    (a.0, b.0, says.0, says.1, b.1, sym (ok_is made q b.2))

-- ---- what counting a sentence leaves as it was

abbrev pub stage_after : Sentence → Stage → Stage
stage_after (Sentence.Free names) stage = stage
stage_after (Sentence.Define kind name recipe) stage = stage
stage_after (Sentence.Conclude claim) stage = Concluded

pub record Counted (s : Sentence) (p r : Progress) : Type 0 where
  pub stage : r.stage ≡ stage_after s p.stage
  pub rank : r.rank ≡ p.rank
  pub rows : r.rows ≡ p.rows
  pub free : r.free ≡ p.free + free_names s
  pub definitions : r.definitions ≡ p.definitions + definitions s
  pub params : r.params ≡ params_with p.params s
  pub within : IsWithin r

pub counted : (s : Sentence) (p r : Progress) → IsWithin p → counts s p ≡ Ok r → Counted s p r
unfolding counts
counted (Sentence.Free names) p r w e =
    let a = not_err (nat_lt 200 (p.free + length names)) TooMany _ r e in
    let few : p.free + length names ≤ 200 = ltb-false _ _ a.0 in
    let made : Progress = record p { free = p.free + length names } in
    subst (λ r. Counted (Sentence.Free names) p r) (ok_is made r a.1)
    (record {
      stage = refl;
      rank = refl;
      rows = refl;
      free = refl;
      definitions = omega arith;
      params = refl;
      within = record { free = few; definitions = w.definitions; params = w.params };
    })
counted (Sentence.Define kind name recipe) p r w e =
    let a = not_err (nat_lt 2000 (p.definitions + 1)) TooMany _ r e in
    let b = not_err (nat_lt 64 (length (with_params p.params recipe))) TooMany _ r a.1 in
    let few : p.definitions + 1 ≤ 2000 = ltb-false _ _ a.0 in
    let some : length (with_params p.params recipe) ≤ 64 = ltb-false _ _ b.0 in
    let made : Progress = record p { definitions = p.definitions + 1; params = with_params p.params recipe } in
    subst (λ r. Counted (Sentence.Define kind name recipe) p r) (ok_is made r b.1)
    (record {
      stage = refl;
      rank = refl;
      rows = refl;
      free = omega arith;
      definitions = refl;
      params = refl;
      within = record { free = w.free; definitions = few; params = some };
    })
counted (Sentence.Conclude claim) p r w e =
    let made : Progress = record p { stage = Concluded } in
    subst (λ r. Counted (Sentence.Conclude claim) p r) (ok_is made r e)
    (record {
      stage = refl;
      rank = refl;
      rows = refl;
      free = omega arith;
      definitions = omega arith;
      params =
          refl;
      within = record { free = w.free; definitions = w.definitions; params = w.params };
    })

ends_more : (s : Sentence) (others : List Sentence) → is_conclusion s ≡ false → EndsOnce others → EndsOnce (s ∷ others)
ends_more s [] other e = absurd e
ends_more s (next ∷ others) other e = (other, e)

-- what the line's sentence adds to the progress
pub record Pushed (n : ℕ) (s : Sentence) (p q : Progress) : Type 0 where
  pub stage : q.stage ≡ stage_after s p.stage
  pub rank : q.rank ≡ p.rank
  pub rows : q.rows ≡ p.rows ++ record { line = n; sentence = s } ∷ []
  pub free : q.free ≡ p.free + free_names s
  pub definitions : q.definitions ≡ p.definitions + definitions s
  pub params : q.params ≡ params_with p.params s
  pub within : IsWithin q

pub pushed : (n : ℕ) (s : Sentence) (p r q : Progress) → Counted s p r
    → q ≡ record r { rows = r.rows ++ record { line = n; sentence = s } ∷ [] } → Pushed n s p q
pushed n s p r q counted made =
    let row : Row = record { line = n; sentence = s } in
    let next : Progress = record r { rows = r.rows ++ row ∷ [] } in
    subst (λ q. Pushed n s p q) (sym made) (record {
      stage = counted.stage;
      rank = counted.rank;
      rows =
          ap (λ rs. rs ++ row ∷ []) counted.rows;
      free = counted.free;
      definitions = counted.definitions;
      params =
          counted.params;
      within = record {
        free = counted.within.free;
        definitions = counted.within.definitions;
        params = counted.within.params;
      };
    })

pub same_account : (d e : ℕ) (xs ys : List Row) (c : Account) → c ≡ record { rank = d; rows = xs } → d ≡ e → xs ≡ ys
    → c ≡ record { rank = e; rows = ys }
same_account d e xs ys c h r s =
    let at : ℕ → List Row → Account = λ m rs. record { rank = m; rows = rs } in
    h ∙ ap (λ m. at m xs) r ∙ ap (λ rs. at e rs) s

-- the sentence of a line in front of those that follow it
in_front : (n : ℕ) (line : List ℕ) (lines : List (List ℕ)) (t : List ℕ) (ts : List (List ℕ)) (s : Sentence)
    (p q : Progress) (c : Account) → IsClean line → tokens_of (content line) ≡ t ∷ ts → t ∷ ts ≡ sentence_tokens s
    → IsSentence s
    → is_conclusion s ≡ false → Pushed n s p q → SaysRows (n + 1) lines q c → SaysRows n (line ∷ lines) p c
in_front n line lines t ts s p q c clean tokens says good other more rest =
    let row : Row = record { line = n; sentence = s } in
    record {
      rows = row ∷ rest.rows;
      clean = (clean, rest.clean);
      says = ap (λ us. onto_full n us (full_lines (n + 1) lines)) tokens
          ∙ ap (λ us. (n, us) ∷ full_lines (n + 1) lines) says ∙ ap (λ fs. (n, sentence_tokens s) ∷ fs) rest.says;
      same = same_account q.rank p.rank (q.rows ++ rest.rows) (p.rows ++ row ∷ rest.rows) c rest.same more.rank
          (ap (λ rs. rs ++ rest.rows) more.rows ∙ append_assoc p.rows (row ∷ []) rest.rows);
      each = (good, rest.each);
      ends = ends_more s (sentences_of rest.rows) other rest.ends;
      few_free = omega (arith, rest.few_free, more.free, sum_by-cons free_names s (sentences_of rest.rows));
      few_definitions = omega (
        arith,
        rest.few_definitions,
        more.definitions,
        sum_by-cons definitions s (sentences_of rest.rows),
      );
      few_params = subst (λ ps. length (params_of ps (sentences_of rest.rows)) ≤ 64) more.params rest.few_params;
    }

-- the conclusion, behind which nothing stands
at_last : (n : ℕ) (line : List ℕ) (lines : List (List ℕ)) (t : List ℕ) (ts : List (List ℕ)) (s : Sentence)
    (p q : Progress) (c : Account) → IsClean line → tokens_of (content line) ≡ t ∷ ts → t ∷ ts ≡ sentence_tokens s
    → IsSentence s
    → is_conclusion s ≡ true → Pushed n s p q → SaysNothing (n + 1) lines q c → SaysRows n (line ∷ lines) p c
at_last n line lines t ts s p q c clean tokens says good last more rest =
    let row : Row = record { line = n; sentence = s } in
    record {
      rows = row ∷ [];
      clean = (clean, rest.clean);
      says = ap (λ us. onto_full n us (full_lines (n + 1) lines)) tokens
          ∙ ap (λ us. (n, us) ∷ full_lines (n + 1) lines) says ∙ ap (λ fs. (n, sentence_tokens s) ∷ fs) rest.blank;
      same = same_account q.rank p.rank q.rows (p.rows ++ row ∷ []) c rest.same more.rank more.rows;
      each = (good, tt);
      ends = last;
      few_free = omega (arith, more.within.free, more.free, sum_by-cons free_names s []);
      few_definitions = omega (arith, more.within.definitions, more.definitions, sum_by-cons definitions s []);
      few_params = subst (λ ps. length ps ≤ 64) more.params more.within.params;
    }

pub tokens_cases : (ts : List (List ℕ)) → (ts ≡ []) ⊎ ((t : List ℕ) × (us : List (List ℕ)) × (ts ≡ t ∷ us))
tokens_cases [] = inl refl
tokens_cases (t ∷ us) = inr (t, us, refl)

pub sentence_cases : (s : Sentence) → ((is_conclusion s ≡ true) × ((stage : Stage) → stage_after s stage ≡ Concluded))
    ⊎ ((is_conclusion s ≡ false) × ((stage : Stage) → stage_after s stage ≡ stage))
sentence_cases (Sentence.Free names) = inr (refl, λ stage. refl)
sentence_cases (Sentence.Define kind name recipe) = inr (refl, λ stage. refl)
sentence_cases (Sentence.Conclude claim) = inl (refl, λ stage. refl)

pub blank_read : (n : ℕ) (p q : Progress) → line_read n [] p ≡ Ok q → p ≡ q
unfolding line_read
blank_read n p q e = ok_is p q e

pub going_takes : (n : ℕ) (lines : List (List ℕ)) (p : Progress) (c : Account) → p.stage ≡ Going → IsWithin p
    → reads n lines p ≡ Ok c → SaysRows n lines p c
unfolding reads ends
going_takes n [] p c at within e = let never = ap (λ s. at_line n (ends p s)) (sym at) ∙ e in absurd cc
going_takes n (line ∷ lines) p c at within e =
    let a = step n line lines p c e in
    let l = line_cases n line p a.0 a.1 in
    elim (tokens_cases (tokens_of (content line))) [
      | inl none ↦
          let same = blank_read n p a.0 (ap (λ ts. line_read n ts p) (sym none) ∙ l.1) in
          let rest = going_takes (n + 1) lines p c at within (ap (λ q. reads (n + 1) lines q) same ∙ a.2) in
          record {
            rows = rest.rows;
            clean = (l.0, rest.clean);
            says =
                ap (λ ts. onto_full n ts (full_lines (n + 1) lines)) none ∙ rest.says;
            same = rest.same;
            each =
                rest.each;
            ends = rest.ends;
            few_free = rest.few_free;
            few_definitions = rest.few_definitions;
            few_params = rest.few_params;
          }
      | inr some ↦
          let b = sentence_line n some.0 some.1 p a.0 at (ap (λ ts. line_read n ts p) (sym some.2) ∙ l.1) in
          let more = pushed n b.0 p b.1 a.0 (counted b.0 p b.1 within b.4) b.5 in
          elim (sentence_cases b.0) [
            | inl last ↦ at_last n line lines some.0 some.1 b.0 p a.0 c l.0 some.2 b.2 b.3 last.0 more
                (concluded_takes (n + 1) lines a.0 c (more.stage ∙ last.1 p.stage) a.2)
            | inr other ↦ in_front n line lines some.0 some.1 b.0 p a.0 c l.0 some.2 b.2 b.3 other.0 more
                (going_takes (n + 1) lines a.0 c (more.stage ∙ other.1 p.stage ∙ at) more.within a.2)
          ]
    ]
