-- Reading objects one after the other, as a loop does.
use Rattle.std.proofs.Common.{◌≡◌, ℕ, zero, suc, ◌-◌, ◌<◌, List, [], ◌∷◌, ◌++◌, length, Result, Ok, Err, refl, ap, append_assoc, arith, ◌⊎◌}
use Rattle.std.proofs.lemmas.List.{append-nil}
use Rattle.construction_reader.specs.declared.fault.Kind.{Kind}
use Rattle.construction_reader.specs.declared.fault.LineError.{LineError}
use Rattle.construction_reader.specs.declared.fault.LineError.TheVariants as errors
use Rattle.construction_reader.specs.Said.{Object}
use Rattle.construction_reader.specs.Outcome.{◌>>=◌, Fails}
use Rattle.construction_reader.specs.Objects.{object_at}
use Rattle.construction_reader.specs.Sentences.{behind, objects_at}

regroup : (front : List Object) (n : Object) (read : Result (List Object × List (List ℕ)) Kind)
    → behind front (read >>= λ x. Ok (n ∷ x.0, x.1)) ≡ behind (front ++ n ∷ []) read
regroup front n (Ok x) = ap (λ (ns : List Object). Ok (ns, x.1)) (simp append_assoc)
regroup front n (Err f) = refl

-- one more object of those that are left
one_more : (most : ℕ) (tokens : List (List ℕ)) → 0 < length tokens
    → objects_at (suc most) tokens ≡ (object_at 32 tokens >>= λ first. objects_at most first.1 >>= λ others. Ok
    (first.0 ∷ others.0, others.1))
unfolding objects_at
one_more most [] h = absurd (omega arith)
one_more most (token ∷ rest) h = refl

pub goes_on : (front : List Object) (most : ℕ) (tokens : List (List ℕ)) (n : Object) (after : List (List ℕ))
    → 0 < most → 0 < length tokens → object_at 32 tokens ≡ Ok (n, after)
    → behind front (objects_at most tokens) ≡ behind (front ++ n ∷ []) (objects_at (most - 1) after)
goes_on front most tokens n after lt some h =
    let k : most ≡ suc (most - 1) = omega arith in
    rw (ap (λ m. objects_at m tokens) k, one_more (most - 1) tokens some, h)
    (regroup front n (objects_at (most - 1) after))

pub ends : (e : LineError) (front : List Object) (most : ℕ) (tokens : List (List ℕ)) → 0 < most → 0 < length tokens
    → Fails e (object_at 32 tokens) → Fails e (behind front (objects_at most tokens))
ends errors.Memory front most tokens lt some h = tt
ends (errors.Fault f) front most tokens lt some h =
    let k : most ≡ suc (most - 1) = omega arith in
    rw (ap (λ m. objects_at m tokens) k, one_more (most - 1) tokens some, h) refl

stops : (most : ℕ) (tokens : List (List ℕ)) → ((most ≡ 0) ⊎ (length tokens ≡ 0))
    → objects_at most tokens ≡ Ok ([], tokens)
unfolding objects_at
stops zero tokens h = refl
stops (suc most) [] h = refl
stops (suc most) (token ∷ rest) h = absurd (omega (arith, h))

pub is_over : (front : List Object) (most : ℕ) (tokens : List (List ℕ)) → ((most ≡ 0) ⊎ (length tokens ≡ 0))
    → behind front (objects_at most tokens) ≡ Ok (front, tokens)
is_over front most tokens h = rw (stops most tokens h) (ap (λ (ns : List Object). Ok (ns, tokens)) (append-nil front))
