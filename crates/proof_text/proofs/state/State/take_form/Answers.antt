use Rattle.std.proofs.Common.{arith}
use Rattle.proof_text.specs.Seen.{form_seen}
use Rattle.proof_text.proofs.FormSound.{form_sound}
use Rattle.proof_text.proofs.state.State.take_form.Goals as goal

pub take_ready-requires : goal.take_ready-requires
take_ready-requires g c =
    let formed = form_sound g.row.D c.args.line.now (form_seen c.in-Ok.form) c.in-Ok.ensures in (
      omega arith,
      (
        c.requires.rank,
        (
          c.requires.names,
          (c.requires.steps, (formed.formed, c.in_ok-make_ready-in-Ok.ensures.sound)),
        ),
      ),
    )
