use Rattle.std.proofs.Common.{◌≡◌, List, ap, subst, unwrap_or, [], Option}
use Rattle.clap.specs.Words.{Row, found_of, rows_of, subcommand_rows_of}
use Rattle.th_program.specs.Words.{AsksRightly, arguments_of}
use Rattle.th_program.proofs.words.taken.Goals as goal

pub returns-in-Some-subcommand_matches-clause-number : goal.returns-in-Some-subcommand_matches-clause-number
returns-in-Some-subcommand_matches-clause-number c = λ serves n asks.
    let same : arguments_of (subcommand_rows_of c.args.matches.now) ≡ rows_of (found_of c.in-Some-subcommand_matches.words.now) =
    ap (λ (o : Option (List Row)). unwrap_or o []) c.in-Some-subcommand_matches.ensures.rows in
    c.serve_mode.ensures.rightly n (subst (λ (rows : List Row). AsksRightly rows n) same asks)
