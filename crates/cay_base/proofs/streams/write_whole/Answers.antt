use Rattle.std.proofs.Common.{◌≡◌, ◌-◌, ◌++◌, ◌∙◌, ℕ, List, ap, take, drop, length, append_assoc, arith}
use Rattle.std.proofs.lemmas.List.{take-append-drop, length-drop, take_all}
use Rattle.cay_base.proofs.Known.{appends_more}
use Rattle.cay_base.proofs.streams.write_whole.Goals as goal

pub loop-rest-preserved : goal.loop-rest-preserved
loop-rest-preserved g c =
    let was = c.loop-rest.invariant in
    let rest : List ℕ = c.loop-rest.rest.now in
    let n : ℕ = c.in-Ok.count in
    let all : take (length rest - n) (drop n rest) ≡ drop n rest =
    take_all _ (drop n rest) (omega (arith, length-drop n rest)) in
    let whole : take n rest ++ take (length rest - n) (drop n rest) ≡ rest =
    ap (λ front. take n rest ++ front) all ∙ take-append-drop n rest in (
      was.0 ++ take n rest,
      append_assoc was.0 (take n rest) _ ∙ ap (λ back. was.0 ++ back) whole ∙ was.1,
      appends_more _ (g.W.Write.contents c.loop-rest.writer) _ was.0 _ was.2 c.in-Ok.ensures.bytes,
    )
