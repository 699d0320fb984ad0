use Rattle.std.proofs.Common.{◌≡◌, ◌<◌, ◌≤◌, ◌∙◌, ℕ, List, true, false, [], ◌∷◌, ◌++◌, None, length, sym, ap, subst, arith}
use Rattle.std.specs.Prelude.{◌||◌}
use Rattle.std.specs.Cmp.Lexicographic.{pointwise}
use Rattle.std.specs.Map.{keys_of}
use Rattle.std.proofs.Common.{nat_eq}
use Rattle.std.specs.Prelude.{position}
use Rattle.indexmap.specs.IndexMap.{insert_entry}
use Rattle.th_lines.specs.Output.{Output, output}
use Rattle.th_lines.specs.declared.reply.Code.TheVariants as Codes
use Rattle.th_lines.specs.declared.reply.Reply.TheVariants.{Refused}
use Rattle.th_registry.specs.Pictures.{Desk, SeenTopics, pictures}
use Rattle.th_session.specs.Held.{Holding}
use Rattle.th_session.specs.Kept.{Kept}
use Rattle.th_session.specs.Script.{Replied, has_quit}
use Rattle.th_session.specs.Step.{Steps}
use Rattle.th_replay.specs.Schedule.{Actors, Hub, PutsAnswer, asks_by_place, by_place, holdings, is_short, picture_asks, picture_step, place_of}
use Rattle.th_replay.proofs.Holdings.{All, append-held, handles, keys-held, length-held}
use Rattle.th_replay.proofs.Orders.{begins, insert-new, is_over, no_room, too_many}
use Rattle.th_replay.proofs.Steps.{ends_so, keeps}
use Rattle.th_replay.proofs.actors.Hub.carry_out_first.Goals as goal

pub returns-then-len-ge-MOST_ACTORS : goal.returns-then-len-ge-MOST_ACTORS
returns-then-len-ge-MOST_ACTORS g c =
    let i = c.self.inside in
    let after : Output = output g.W.Write.contents c.append.new.writer c.append.new.self in
    let P : Hub SeenTopics → Type 0 = λ hub. PutsAnswer (by_place picture_step hub c.args.name c.args.command None)
    (asks_by_place picture_asks hub c.args.command None) hub hub (output g.W.Write.contents c.args.writer.now c.args.out.now) after
    c.append.result in
    let full : 1024 ≤ length (holdings i.actors.entries) = omega
    (arith, c.len.ensures.len, c.if-len-ge-MOST_ACTORS.true, length-held i.actors.entries) in
    subst P c.self.view_is (
      Replied (Refused Codes.TooMany),
      too_many i.desk.topics (holdings
          i.actors.entries) c.args.name c.args.command full,
      c.append.ensures,
    )

pub returns-in_default : goal.returns-in_default
returns-in_default g c =
    let i = c.self.inside in
    let after : Output = output g.W.Write.contents c.append-in_default.new.writer c.append-in_default.new.self in
    let P : Hub SeenTopics → Actors → Type 0 = λ hub actors.
    PutsAnswer (by_place picture_step hub c.args.name c.args.command None) (asks_by_place picture_asks hub c.args.command None) hub
    (record { topics = i.desk.topics; actors = actors }) (output g.W.Write.contents c.args.writer.now c.args.out.now) after
    c.append-in_default.result in
    let room : length (holdings i.actors.entries) < 1024 = omega
    (arith, c.len.ensures.len, c.if-len-ge-MOST_ACTORS.false, length-held i.actors.entries) in
    subst (λ (hub : Hub SeenTopics). P hub (holdings c.reserve.new.self.entries)) c.self.view_is
    (subst (P (record { topics = i.desk.topics; actors = holdings i.actors.entries })) (ap holdings (sym c.in_default.ensures.entries)) (
      Replied (Refused Codes.NoMemory),
      no_room i.desk.topics (holdings
          i.actors.entries) c.args.name c.args.command room,
      c.append-in_default.ensures,
    ))

pub returns-then-is_over : goal.returns-then-is_over
returns-then-is_over g c =
    let i = c.self.inside in
    let a = c.step-answer.ensures.step in
    let had : Kept = record { handles = []; receipts = []; segments = [] } in
    let has = c.step-answer.new.session in
    let topics = c.step-answer.new.desk.topics in
    let after : Output = output g.W.Write.contents c.put_answer-put.new.writer c.put_answer-put.new.out in
    let P : Hub SeenTopics → Actors → Type 0 = λ hub actors.
    PutsAnswer (by_place picture_step hub c.args.name c.args.command None) (asks_by_place picture_asks hub c.args.command None) hub
    (record { topics = topics; actors = actors }) (output g.W.Write.contents c.args.writer.now c.args.out.now) after
    c.put_answer-put.result in
    let room : length (holdings i.actors.entries) < 1024 = omega
    (arith, c.len.ensures.len, c.if-len-ge-MOST_ACTORS.false, length-held i.actors.entries) in
    let steps : Steps (pictures i.desk.limit) had i.desk.topics c.args.command a.0 has topics =
    subst (λ (k : Kept). Steps (pictures i.desk.limit) k i.desk.topics c.args.command a.0 has topics) c.new-session.ensures a.2 in
    let end = ends_so had i.desk.topics c.args.command a.0 has topics i.desk.limit c.self.invariant steps in
    let put = c.put_answer-put.ensures a.0 had a.1 (keeps had i.desk.topics c.args.command a.0 has topics i.desk.limit steps) in
    let over : (is_short a.0 || has_quit a.0) ≡ true = sym (c.begins_nobody-is_over.ensures a.0 a.1) ∙ c.if-is_over.true in
    subst (λ (hub : Hub SeenTopics). P hub (holdings c.reserve.new.self.entries)) c.self.view_is
    (subst (P (record { topics = i.desk.topics; actors = holdings i.actors.entries })) (ap holdings (sym c.in-Ok.ensures.entries))
    (a.0, is_over i.desk.topics (holdings i.actors.entries) c.args.name c.args.command has.handles a.0 topics room over end, put))

pub returns : goal.returns
returns g c =
    let i = c.self.inside in
    let a = c.step-answer.ensures.step in
    let had : Kept = record { handles = []; receipts = []; segments = [] } in
    let has = c.step-answer.new.session in
    let topics = c.step-answer.new.desk.topics in
    let after : Output = output g.W.Write.contents c.put_answer-put.new.writer c.put_answer-put.new.out in
    let given = ap (λ (d : Desk). d.topics) c.let_go.ensures.desk in
    let P : SeenTopics → Hub SeenTopics → Type 0 = λ ts hub. PutsAnswer (by_place picture_step hub c.args.name c.args.command None)
    (asks_by_place picture_asks hub c.args.command None) hub (record { topics = ts; actors = holdings c.insert.new.self.entries })
    (output g.W.Write.contents c.args.writer.now c.args.out.now) after c.put_answer-put.result in
    let room : length (holdings i.actors.entries) < 1024 = omega
    (arith, c.len.ensures.len, c.if-len-ge-MOST_ACTORS.false, length-held i.actors.entries) in
    let steps : Steps (pictures i.desk.limit) had i.desk.topics c.args.command a.0 has topics =
    subst (λ (k : Kept). Steps (pictures i.desk.limit) k i.desk.topics c.args.command a.0 has topics) c.new-session.ensures a.2 in
    let end = ends_so had i.desk.topics c.args.command a.0 has topics i.desk.limit c.self.invariant steps in
    let put = c.put_answer-put.ensures a.0 had a.1 (keeps had i.desk.topics c.args.command a.0 has topics i.desk.limit steps) in
    let one : (is_short a.0 || has_quit a.0) ≡ false = sym (c.begins_nobody-is_over.ensures a.0 a.1) ∙ c.if-is_over.false in
    let left = c.let_go.new.self in
    let none : position (pointwise nat_eq c.args.name) (keys_of i.actors.entries) ≡ None =
    ap (λ (names : List (List ℕ)). position (pointwise nat_eq c.args.name) names) (sym (keys-held i.actors.entries))
    ∙ ap (λ (hub : Hub SeenTopics). place_of hub.actors c.args.name) c.self.view_is ∙ c.requires in
    let last : c.insert.new.self.entries ≡ i.actors.entries ++ (c.args.name, left) ∷ [] =
    c.in-Ok-insert.ensures.entries
    ∙ ap (λ (n : List ℕ). insert_entry (pointwise nat_eq) c.reserve.new.self.entries n left) c.to_name.ensures
    ∙ ap (λ (l : All). insert_entry (pointwise nat_eq) l c.args.name left) c.in-Ok.ensures.entries
    ∙ insert-new i.actors.entries c.args.name left none in
    subst (λ (ts : SeenTopics). P ts c.args.self.now) (sym given) (subst (P topics) c.self.view_is (
      a.0,
      begins i.desk.topics (holdings i.actors.entries) c.args.name c.args.command has.handles a.0 topics
          (holdings c.insert.new.self.entries) room one end
          (ap holdings last ∙ append-held i.actors.entries c.args.name left
          ∙ ap (λ (h : Holding). holdings i.actors.entries ++ (c.args.name, h) ∷ []) (ap handles c.let_go.ensures.session)),
      put,
    ))

pub invariant_of-self-then-is_over : goal.invariant_of-self-then-is_over
invariant_of-self-then-is_over g c = c.step-answer.ensures.limit ∙ c.self.invariant

pub invariant_of-self-2 : goal.invariant_of-self-2
invariant_of-self-2 g c = ap (λ (d : Desk). d.limit) c.let_go.ensures.desk ∙ c.step-answer.ensures.limit ∙ c.self.invariant
