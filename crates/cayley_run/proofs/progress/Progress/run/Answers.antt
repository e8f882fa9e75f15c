use Rattle.std.proofs.Common.{rules, ◌≡◌, ◌∙◌, ap, subst}
use Rattle.cayley_run.specs.Making.{CanGoOn}
use Rattle.cayley_run.specs.Sections.{run_starts}
use Rattle.cayley_run.specs.Seen.{sections_of, starts_of}
use Rattle.cayley_run.specs.declared.making.Made.{Made}
use Rattle.cayley_run.specs.declared.making.Made.TheVariants.{Starts}
use Rattle.cayley_run.proofs.Scalars.{sections_made}
use Rattle.cayley_run.proofs.progress.Progress.run.Goals as goal

pub finish-requires : goal.finish-requires
finish-requires g c =
    let go : CanGoOn {d = g.row.D} c.args.step (Starts c.in-Starts.starts) =
    subst (λ (m : Made g.row.D). CanGoOn c.args.step m) c.in-Starts.is c.in_ok-value.ensures.goes_on in
    let made : sections_of {d = g.row.D} c.in_ok-sections-in-Starts.sections
    ≡ run_starts c.args.self.now.options.contract c.args.self.now.left (starts_of {d = g.row.D} c.in-Starts.starts) =
    c.in_ok-sections-in-Starts.ensures.sections
    ∙ ap (λ es. run_starts c.args.self.now.options.contract c.args.self.now.left (starts_of {d = g.row.D} es))
    c.items.ensures in (
      search rules,
      (
        search rules,
        (
          c.requires.rank,
          (
            go.0,
            (
              c.requires.few,
              sections_made c.args.step c.args.self.now.options.contract c.args.self.now.left c.in-Starts.starts
                  (sections_of c.in_ok-sections-in-Starts.sections) go.1 made,
            ),
          ),
        ),
      ),
    )
