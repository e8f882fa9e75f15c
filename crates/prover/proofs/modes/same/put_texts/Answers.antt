use Rattle.std.proofs.Common.{◌<◌, ◌⊎◌, ℕ, inl, inr, max, length, codes, refl, arith}
use Rattle.std.proofs.lemmas.Bool.{cases_lt}
use Rattle.prover.specs.Answer.{IsVerdict, refused}
use Rattle.prover.specs.Modes.Same.{IsOneLong, IsTextsAnswer, TextsDecide}
use Rattle.prover.proofs.Puts.{put, refusal_is_none}
use Rattle.prover.proofs.modes.same.put_texts.Goals as goal

-- one of two is long where the greater is
one_long : (m n : ℕ) → 1048576 < max m n → (1048576 < m) ⊎ (1048576 < n)
one_long m n long = elim (cases_lt 1048576 m) [ inl more ↦ inl more | inr few ↦ inr (omega arith) ]

pub returns-then-max-gt-LONGEST_TEXT : goal.returns-then-max-gt-LONGEST_TEXT
returns-then-max-gt-LONGEST_TEXT g c =
    let first = c.args.first.now in
    let second = c.args.second.now in
    let greater : 1048576 < max (length first) (length second) =
    omega (arith, c.max.ensures, c.if-max-gt-LONGEST_TEXT.true) in
    let long : IsOneLong first second = one_long (length first) (length second) greater in
    put (IsTextsAnswer c.args.options first second) IsVerdict (TextsDecide first second) (refused (codes "long"))
    (inl (long, refl)) _ _ _ _ c.put_long.result c.put_long.ensures.status
    (λ decided. absurd (refusal_is_none decided)) c.put_long.ensures.written
