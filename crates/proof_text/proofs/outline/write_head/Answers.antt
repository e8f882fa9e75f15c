use Rattle.proof_text.proofs.Writing.{writes_more, writes_less}
use Rattle.proof_text.proofs.outline.write_head.Goals as goal

pub returns-in_err-put_word : goal.returns-in_err-put_word
returns-in_err-put_word g c = writes_less _ _ _ _ _ _ _ _ c.from_residual.ensures.1 c.in_err-put_word.ensures

pub returns-in_err-put_rank : goal.returns-in_err-put_rank
returns-in_err-put_rank g c =
    writes_more _ _ _ _ _ _ _ _ _ c.in_ok-put_word.ensures
    (writes_less _ _ _ _ _ _ _ _ c.from_residual-in_err-put_rank.ensures.1 c.in_err-put_rank.ensures)

pub returns-in_err-put_free : goal.returns-in_err-put_free
returns-in_err-put_free g c =
    writes_more _ _ _ _ _ _ _ _ _ c.in_ok-put_word.ensures
    (writes_more _ _ _ _ _ _ _ _ _ c.in_ok-put_rank.ensures
    (writes_less _ _ _ _ _ _ _ _ c.from_residual-in_err-put_free.ensures.1 c.in_err-put_free.ensures))

pub returns : goal.returns
returns g c =
    writes_more _ _ _ _ _ _ _ _ _ c.in_ok-put_word.ensures
    (writes_more _ _ _ _ _ _ _ _ _ c.in_ok-put_rank.ensures
    (writes_more _ _ _ _ _ _ _ _ _ c.in_ok-put_free.ensures c.put_params.ensures))
