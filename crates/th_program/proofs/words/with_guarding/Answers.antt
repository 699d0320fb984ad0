use Rattle.std.proofs.Common.{ap₂, refl, ◌∙◌}
use Rattle.clap.specs.Words.{app_of, with_rule}
use Rattle.clap.specs.declared.builder.command.Command.TheViews.{out-Command}
use Rattle.th_program.proofs.CommandLine.{ok_is}
use Rattle.th_program.proofs.words.with_guarding.Goals as goal

pub returns-clause-app : goal.returns-clause-app
returns-clause-app c =
    let one = c.in_ok-serve.ensures.app ∙ ap₂ with_rule refl c.flag.ensures.rule in
    let two = c.in_ok-serve-2.ensures.app ∙ ap₂ with_rule one c.option.ensures.rule in
    let three = c.in_ok-serve-3.ensures.app ∙ ap₂ with_rule two c.flag-2.ensures.rule in
    ok_is app_of c.with_arg-4.result (ap₂ with_rule three c.flag-3.ensures.rule) c.with_arg-4.ensures.app

pub returns-clause-local : goal.returns-clause-local
returns-clause-local c = λ local.
    let three = c.in_ok-serve-3.ensures.local ∙ c.in_ok-serve-2.ensures.local ∙ c.in_ok-serve.ensures.local in
    ok_is (λ s. (out-Command s).has_globals) c.with_arg-4.result (three ∙ local) c.with_arg-4.ensures.local
