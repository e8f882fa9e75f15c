use Rattle.proof_text.proofs.outline.write_stop.Goals as goal

pub returns-in-Turns : goal.returns-in-Turns
returns-in-Turns g c = rw c.in-Turns.is c.put_word.ensures

pub returns : goal.returns
returns g c = rw c.in-Keys.is c.put_word-in-Keys.ensures
