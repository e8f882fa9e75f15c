-- A term that comes behind all others is added within the limits.
use Rattle.std.proofs.Common.{◌≡◌, ◌≢◌, ℕ, zero, suc, ◌<◌, ◌≤◌, true, false, List, [], ◌∷◌, ◌++◌, map, length, take}
use Rattle.std.proofs.Common.{get_or, ◌-◌, ◌+◌, T, Option, Some, None, ℤ, refl, sym, ap, ◌∙◌, arith}
use Rattle.std.specs.Prelude.{◌==◌, pos, negsuc, nat_lt}
use Rattle.std.specs.List.{AllByRecursion}
use Rattle.std.specs.Ordering.{eq_by_cmp, is_lt, ordering_index, ordering_reverse}
use Rattle.std.specs.declared.cmp.Ordering.{Ordering}
use Rattle.std.specs.declared.cmp.Ordering.TheVariants.{Less, Equal, Greater}
use Rattle.std.proofs.lemmas.Bool.{lt-ltb}
use Rattle.std.proofs.lemmas.List.{take_all, take_more}
use Rattle.coordinate_model.specs.Sums.{Terms, is_zero, count_at}
use Rattle.coordinate_model.specs.Key.{Key, key_cmp, row_cmp}
use Rattle.coordinate_model.proofs.KeyProducts.{key_total}
use Rattle.bracket_poly.specs.Sections.{Rewritten}
use Rattle.bracket_poly.proofs.EntryLaws.{zero_left}
use Rattle.bracket_poly.specs.Answers.{IsErrorOf}
use Rattle.bracket_poly.specs.Tracked.{Tracked, Limit, coefficient_limit, keys_limit, fits, has_met, limit_at}
use Rattle.bracket_poly.specs.Tracked.{met_limit, plus_term}
use Rattle.bracket_poly.specs.declared.error.PolyError.{PolyError}
use Rattle.bracket_poly.specs.declared.error.PolyError.TheVariants as errors
use Rattle.proof_text.specs.Kinds.{is_behind_terms, is_behind_sections}
use Rattle.proof_text.specs.State.{with_term}
use Rattle.proof_text.proofs.BehindLaws.{behind_all, is_true}

abbrev pub keys_of : Terms Key → List Key
keys_of ts = map (λ t. t.0) ts

-- a key behind all others equals none of them
apart : (k : Key) (t : Key × ℤ) → key_cmp t.0 k ≡ Less → eq_by_cmp key_cmp k t.0 ≡ false
apart k t lt =
    let over : key_cmp k t.0 ≡ Greater = key_total.antisymm k t.0 ∙ ap ordering_reverse lt in
    rw over refl

pub not_met : (k : Key) (ts : Terms Key) → AllByRecursion (λ t. key_cmp t.0 k ≡ Less) ts
    → has_met (keys_of ts) k ≡ false
not_met k [] behind = refl
not_met k (t ∷ ts) behind = rw (apart k t behind.0) (not_met k ts behind.1)

no_count : (k : Key) (ts : Terms Key) → AllByRecursion (λ t. key_cmp t.0 k ≡ Less) ts → count_at key_cmp k ts ≡ pos 0
no_count k [] behind = refl
no_count k (t ∷ ts) behind = rw (apart k t behind.0) (zero_left (count_at key_cmp k ts) ∙ no_count k ts behind.1)

-- it passes no limit, where there is room
pub no_limit : (p : Tracked) (t : Key × ℤ) → is_behind_terms t.0 p.sum.terms ≡ true → T (fits t.1)
    → length p.sum.terms < met_limit → p.met ≡ keys_of p.sum.terms → limit_at p t ≡ None
no_limit p t behind small room met =
    let all = behind_all t.0 p.sum behind in
    let once : has_met p.met t.0 ≡ false = ap (λ ks. has_met ks t.0) met ∙ not_met t.0 p.sum.terms all in
    let long : length p.met ≡ length p.sum.terms = ap length met ∙ length-keys p.sum.terms in
    let free : nat_lt (length p.met) met_limit ≡ true = ap (λ n. nat_lt n met_limit) long ∙ lt-ltb _ _ room in
    rw (is_true _ small, no_count t.0 p.sum.terms all, zero_left t.1, is_true _ small, once, free) refl
  where
    length-keys : (ts : Terms Key) → length (keys_of ts) ≡ length ts
    length-keys [] = refl
    length-keys (t ∷ ts) = ap suc (length-keys ts)

-- its key is met behind the others
pub met_last : (p : Tracked) (t : Key × ℤ) → is_behind_terms t.0 p.sum.terms ≡ true → p.met ≡ keys_of p.sum.terms
    → (with_term t p.sum).terms ≡ p.sum.terms ++ t ∷ [] → (plus_term p t).met ≡ keys_of (with_term t p.sum).terms
met_last p t behind met last =
    let all = behind_all t.0 p.sum behind in
    let once : has_met p.met t.0 ≡ false = ap (λ ks. has_met ks t.0) met ∙ not_met t.0 p.sum.terms all in
    rw (once, last) (ap (λ ks. ks ++ t.0 ∷ []) met ∙ sym (keys_push p.sum.terms t))
  where
    keys_push : (ts : Terms Key) (t : Key × ℤ) → keys_of (ts ++ t ∷ []) ≡ keys_of ts ++ t.0 ∷ []
    keys_push [] t = refl
    keys_push (u ∷ ts) t = ap (λ ks. u.0 ∷ ks) (keys_push ts t)

-- where no limit is passed an error tells want of memory
pub only_memory : (e : PolyError) (limit : Option Limit) → IsErrorOf e limit → limit ≡ None → e ≡ errors.Memory
only_memory errors.Coefficient limit wrong none = absurd (never wrong none)
  where
    never : limit ≡ Some coefficient_limit → limit ≡ None → ⊥
    never some none = let no : Some coefficient_limit ≡ None = sym some ∙ none in cc
only_memory errors.Keys limit wrong none = absurd (never wrong none)
  where
    never : limit ≡ Some keys_limit → limit ≡ None → ⊥
    never some none = let no : Some keys_limit ≡ None = sym some ∙ none in cc
only_memory errors.Memory limit wrong none = refl

pub tests_less : (r : Ordering) → (ordering_index r == 0) ≡ is_lt r
tests_less Less = refl
tests_less Equal = refl
tests_less Greater = refl

-- what comes behind the last comes behind all
pub behind_last : (k : Key) (front : Terms Key) (t : Key × ℤ) → is_behind_terms k
    (front ++ t ∷ []) ≡ is_lt (key_cmp t.0 k)
behind_last k [] t = refl
behind_last k (u ∷ []) t = refl
behind_last k (u ∷ v ∷ front) t = behind_last k (v ∷ front) t

pub behind_section : (points : List ℕ) (front : List Rewritten) (s : Rewritten)
    → is_behind_sections points (front ++ s ∷ []) ≡ is_lt (row_cmp s.scalar points)
behind_section points [] s = refl
behind_section points (r ∷ []) s = refl
behind_section points (r ∷ q ∷ front) s = behind_section points (q ∷ front) s

-- the last item behind the others
pub last_one : {A : Type 0} (xs : List A) (x : A) → 1 ≤ length xs → x ≡ get_or xs (length xs - 1) x
    → xs ≡ take (length xs - 1) xs ++ x ∷ []
last_one xs x some is_last =
    sym (take_all (length xs - 1 + 1) xs (omega arith))
    ∙ take_more xs (length xs - 1) x (omega arith)
    ∙ ap (λ y. take (length xs - 1) xs ++ y ∷ []) (sym is_last)

pub some_integer : (c : ℤ) → c ≢ pos 0 → is_zero c ≡ false
some_integer (pos zero) some = absurd (some refl)
some_integer (pos (suc n)) some = refl
some_integer (negsuc n) some = refl
