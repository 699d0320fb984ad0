use Rattle.std.proofs.Common.{inl, inr, Some, None, Ok, Err, refl, ap, ◌∙◌}
use Rattle.th_lines.specs.declared.reply.Code.TheVariants as Codes
use Rattle.th_lines.specs.declared.reply.Reply.TheVariants.{Refused}
use Rattle.th_session.specs.Script.{Replied, Traced}
use Rattle.th_session.specs.Kept.{with_segment}
use Rattle.th_session.proofs.session.trace.Goals as goal

pub returns-in_default : goal.returns-in_default
returns-in_default g c =
    λ h. (Replied (Refused Codes.NoTopic), refl, ((None, c.args.desk.now, c.in_default.ensures, (refl, refl, refl)), refl))

pub returns-in_default-reserve : goal.returns-in_default-reserve
returns-in_default-reserve g c = λ h. (
  Replied (Refused Codes.NoMemory),
  refl,
  ((Some c.in-Some.found, c.args.desk.now, c.in-Some.ensures, inr (refl, refl, refl)), c.reserve.ensures.items),
)

pub returns-in-Ok-cut : goal.returns-in-Ok-cut
returns-in-Ok-cut g c = λ h.
    let answer = Traced c.in-Some.found.topic.0 c.in-Ok-cut.segment in (
      answer,
      refl,
      (
        (
          Some c.in-Some.found,
          c.args.desk.now,
          c.in-Some.ensures,
          inl (Ok c.in-Ok-cut.segment, c.cut.new.self, c.in-Ok-cut.ensures, (refl, refl, refl)),
        ),
        c.push_reserved.ensures.items ∙ ap (λ segments. with_segment segments answer) c.reserve.ensures.items,
      ),
    )

pub returns-in-Err : goal.returns-in-Err
returns-in-Err g c = λ h. (
  Replied c.replied_none.result,
  refl,
  (
    (
      Some c.in-Some.found,
      c.args.desk.now,
      c.in-Some.ensures,
      inl (Err c.in-Err.why, c.cut.new.self, c.in-Err.ensures, (ap (λ reply. Replied reply) c.replied_none.ensures, refl, refl)),
    ),
    c.reserve.ensures.items,
  ),
)
