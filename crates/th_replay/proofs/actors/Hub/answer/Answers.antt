use Rattle.std.proofs.Common.{◌≡◌, ◌∙◌, List, ℕ, Option, None, Some, ap, sym, subst}
use Rattle.std.specs.Prelude.{Err}
use Rattle.std.specs.Borrow.{Bor}
use Rattle.std.specs.Cmp.Lexicographic.{pointwise}
use Rattle.std.specs.Prelude.{nat_eq, position}
use Rattle.th_lines.specs.Commands.{carries_value, command_of}
use Rattle.th_lines.specs.Intake.{line_given}
use Rattle.th_lines.specs.Lines.{Line}
use Rattle.th_lines.specs.Reads.{IsAsked, Reads, rest_of}
use Rattle.th_lines.specs.Replies.{spell}
use Rattle.th_lines.specs.declared.fault.LineFault.{LineFault}
use Rattle.th_lines.specs.declared.reply.Code.TheVariants as Codes
use Rattle.th_lines.specs.declared.reply.Reply.TheVariants.{Refused}
use Rattle.th_registry.specs.Pictures.{SeenTopics}
use Rattle.th_session.specs.Answer.{said}
use Rattle.th_replay.specs.Schedule.{Hub, answers, place_of}
use Rattle.th_replay.specs.Session.{Turns}
use Rattle.th_replay.proofs.Holdings.{keys-held}
use Rattle.th_replay.proofs.Orders.{answered_command, bad_command, bad_line, named, short_command, step_named, step_unnamed, too_long}
use Rattle.th_replay.proofs.actors.Hub.answer.Goals as goal

pub returns-in_default : goal.returns-in_default
returns-in_default g c =
    let hub : Hub SeenTopics = c.args.self.now in (
      spell (Refused Codes.LongLine),
      subst (λ (l : Line). Turns answers hub l (spell (Refused Codes.LongLine)) hub) (sym (ap line_given c.in_default.is))
          (too_long hub),
      c.append.ensures,
    )

pub returns-in_default-name_and_rest : goal.returns-in_default-name_and_rest
returns-in_default-name_and_rest g c =
    let hub : Hub SeenTopics = c.args.self.now in
    let turned = subst (λ (l : Line). Turns answers hub l (spell (Refused Codes.BadLine)) hub) (sym (ap line_given c.in-Some.is))
    (bad_line hub c.in-Some.line.now (step_unnamed _ (sym c.in_default-name_and_rest.ensures))) in
    (spell (Refused Codes.BadLine), turned, c.append-in_default-name_and_rest.ensures)

pub returns-in_default-rest : goal.returns-in_default-rest
returns-in_default-rest g c =
    let hub : Hub SeenTopics = c.args.self.now in
    let first : named c.in-Some.line.now ≡ Some (c.in-Some-name_and_rest.name, None) =
    sym c.in-Some-name_and_rest.ensures
    ∙ ap (λ (r : Option (Bor (List ℕ))). Some (c.in-Some-name_and_rest.name, rest_of r)) c.in_default-rest.is in
    let turned = subst (λ (l : Line). Turns answers hub l (spell (Refused Codes.BadLine)) hub) (sym (ap line_given c.in-Some.is))
    (bad_line hub c.in-Some.line.now (step_named _ _ None first)) in
    (spell (Refused Codes.BadLine), turned, c.append-in_default-rest.ensures)

pub carry_out_first-requires : goal.carry_out_first-requires
carry_out_first-requires g c = sym (ap (λ (hub : Hub SeenTopics). place_of hub.actors c.in-Some-name_and_rest.name) c.self.view_is)
    ∙ ap (λ (names : List (List ℕ)). position (pointwise nat_eq c.in-Some-name_and_rest.name) names)
    (keys-held c.self.inside.actors.entries)
    ∙ (sym c.get_index_of-place.ensures.index ∙ c.in-None.is)

pub returns-in-Some-place : goal.returns-in-Some-place
returns-in-Some-place g c =
    let hub : Hub SeenTopics = c.args.self.now in
    let name = c.in-Some-name_and_rest.name in
    let first : named c.in-Some.line.now ≡ Some (name, Some c.in-Some-rest.text.now) =
    sym c.in-Some-name_and_rest.ensures ∙ ap (λ (r : Option (Bor (List ℕ))). Some (name, rest_of r)) c.in-Some-rest.is in
    let at : Some c.in-Some-place.place ≡ place_of hub.actors name =
    sym c.in-Some-place.is ∙ c.get_index_of-place.ensures.index
    ∙ ap (λ (names : List (List ℕ)). position (pointwise nat_eq name) names) (sym (keys-held c.self.inside.actors.entries))
    ∙ ap (λ (h : Hub SeenTopics). place_of h.actors name) c.self.view_is in
    let end = c.carry_out.ensures in
    let turned = subst (λ (l : Line). Turns answers hub l (said end.0) c.carry_out.new.self) (sym (ap line_given c.in-Some.is))
    (answered_command hub c.in-Some.line.now name c.in-Some-rest.text.now first c.in-Ok.command
    (Some c.in-Some-place.place) _ _ c.in-Ok.ensures.exact at end.1) in
    (said end.0, turned, end.2)

pub returns-in-None : goal.returns-in-None
returns-in-None g c =
    let hub : Hub SeenTopics = c.args.self.now in
    let name = c.in-Some-name_and_rest.name in
    let first : named c.in-Some.line.now ≡ Some (name, Some c.in-Some-rest.text.now) =
    sym c.in-Some-name_and_rest.ensures ∙ ap (λ (r : Option (Bor (List ℕ))). Some (name, rest_of r)) c.in-Some-rest.is in
    let at : None ≡ place_of hub.actors name =
    sym c.in-None.is ∙ c.get_index_of-place.ensures.index
    ∙ ap (λ (names : List (List ℕ)). position (pointwise nat_eq name) names) (sym (keys-held c.self.inside.actors.entries))
    ∙ ap (λ (h : Hub SeenTopics). place_of h.actors name) c.self.view_is in
    let end = c.carry_out_first.ensures in
    let turned = subst (λ (l : Line). Turns answers hub l (said end.0) c.carry_out_first.new.self) (sym (ap line_given c.in-Some.is))
    (answered_command hub c.in-Some.line.now name c.in-Some-rest.text.now first c.in-Ok.command None _ _ c.in-Ok.ensures.exact at end.1) in
    (said end.0, turned, end.2)

pub returns-in-Err-BadLine : goal.returns-in-Err-BadLine
returns-in-Err-BadLine g c =
    let hub : Hub SeenTopics = c.args.self.now in
    let name = c.in-Some-name_and_rest.name in
    let first : named c.in-Some.line.now ≡ Some (name, Some c.in-Some-rest.text.now) =
    sym c.in-Some-name_and_rest.ensures ∙ ap (λ (r : Option (Bor (List ℕ))). Some (name, rest_of r)) c.in-Some-rest.is in
    let bad : command_of c.in-Some-rest.text.now ≡ None =
    subst (λ (f : LineFault). Reads carries_value (Err f)
    (command_of c.in-Some-rest.text.now)) c.in-Err-BadLine.field-0-is c.in-Err-BadLine.ensures.exact in
    let turned = subst (λ (l : Line). Turns answers hub l (spell (Refused Codes.BadLine)) hub) (sym (ap line_given c.in-Some.is))
    (bad_command hub c.in-Some.line.now name c.in-Some-rest.text.now first bad) in
    (spell (Refused Codes.BadLine), turned, c.append-in-Err-BadLine.ensures)

pub returns-in-Err-Short : goal.returns-in-Err-Short
returns-in-Err-Short g c =
    let hub : Hub SeenTopics = c.args.self.now in
    let name = c.in-Some-name_and_rest.name in
    let first : named c.in-Some.line.now ≡ Some (name, Some c.in-Some-rest.text.now) =
    sym c.in-Some-name_and_rest.ensures ∙ ap (λ (r : Option (Bor (List ℕ))). Some (name, rest_of r)) c.in-Some-rest.is in
    let short : IsAsked carries_value (command_of c.in-Some-rest.text.now) =
    subst (λ (f : LineFault). Reads carries_value (Err f)
    (command_of c.in-Some-rest.text.now)) c.in-Err-Short.field-0-is c.in-Err-Short.ensures.exact in
    let turned = subst (λ (l : Line). Turns answers hub l (spell (Refused Codes.NoMemory)) hub) (sym (ap line_given c.in-Some.is))
    (short_command hub c.in-Some.line.now name c.in-Some-rest.text.now first short) in
    (spell (Refused Codes.NoMemory), turned, c.append-in-Err-Short.ensures)
