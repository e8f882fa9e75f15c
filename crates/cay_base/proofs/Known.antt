-- Known bytes that are taken or that grow in several calls.
use Rattle.std.proofs.Common.{◌≡◌, ℕ, List, ◌++◌, Option, Some, None, Result, Ok, Err, sym, ap, ◌∙◌, append_assoc}
use Rattle.std.specs.Result.{IsErrAnd}
use Rattle.std.specs.Io.KnownBytes.{Appends, Consumes}
use Rattle.cay_base.specs.declared.reading.ReadError.{ReadError}
use Rattle.cay_base.specs.declared.reading.ReadError.TheVariants.{Read, TooLong, Memory}
use Rattle.cay_base.specs.Reading.{Leaves}

pub appends_more : (a b c : Option (List ℕ)) (xs ys : List ℕ) → Appends a b xs → Appends b c ys → Appends a c (xs ++ ys)
appends_more None b c xs ys first second = tt
appends_more (Some a) None c xs ys first second = absurd first
appends_more (Some a) (Some b) None xs ys first second = absurd second
appends_more (Some a) (Some b) (Some c) xs ys first second =
    second ∙ ap (λ held. held ++ ys) first ∙ append_assoc a xs ys

pub consumes_more : (a b c : Option (List ℕ)) (xs ys : List ℕ) → Consumes a b xs → Consumes b c ys → Consumes a c (xs ++ ys)
consumes_more None b c xs ys first second = tt
consumes_more (Some a) None c xs ys first second = absurd first
consumes_more (Some a) (Some b) None xs ys first second = absurd second
consumes_more (Some a) (Some b) (Some c) xs ys first second =
    first ∙ ap (λ left. xs ++ left) second ∙ sym (append_assoc xs ys c)

-- where memory was wanting, what had been taken came from the front
pub leaves_a_front : {T : Type 0} (limit : ℕ) (before after : Option (List ℕ)) (bytes : List ℕ) (result : Result T ReadError)
    → Consumes before after bytes → IsErrAnd result (λ e. e ≡ Memory) → Leaves limit before after result
leaves_a_front limit before after bytes (Ok x) took none = absurd none
leaves_a_front limit before after bytes (Err Memory) took none = (bytes, took)
leaves_a_front limit before after bytes (Err Read) took none = absurd (cc)
leaves_a_front limit before after bytes (Err TooLong) took none = absurd (cc)
