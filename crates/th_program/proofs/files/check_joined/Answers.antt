use Rattle.std.proofs.Common.{Global, String, None, arith, ℕ, ◌+◌, List, [], ◌∷◌, ◌++◌, Option, drop, ap, map, refl, string_bytes, subst, sym, take}
use Rattle.std.specs.Prelude.{IfOk, Ok, Err, Result}
use Rattle.th_lines.specs.Tally.{Tally}
use Rattle.th_check.specs.declared.fault.CheckFault.{CheckFault}
use Rattle.th_check.specs.Joined.{Reach}
use Rattle.th_check.specs.declared.parts.Joined.{Joined}
use Rattle.th_check.specs.declared.parts.Joined.TheVariants.{Apart}
use Rattle.th_program.specs.PartNames.{GoesOn}
use Rattle.std.proofs.lemmas.List.{take_all}
use Rattle.th_program.specs.Files.{IsNext, TellsBroken, TellsHistory, place_of, wanted_of}
use Rattle.th_program.proofs.Placing.{place_low, place_room}
use Rattle.th_program.proofs.Telling.{UpTo, ends_broken, ends_misplaced, ends_told, goes_on, history_more, never_on, no_history, one_more, split_at}
use Rattle.th_program.proofs.files.check_joined.Goals as goal

pub returns-in_default : goal.returns-in_default
returns-in_default g c =
    let holds = g.O.Opens.holds c.args.files.now in
    let i = c.loop-name.name-index in
    let names = c.args.names.now in
    let name : List ℕ = string_bytes c.name-item.result in
    let said = c.add_file-said.result in
    let there = c.add_file-said.new.history in
    let next = subst (λ (n : List ℕ). IfOk said (λ s. IsNext (holds n) c.loop-name.history s there)) c.as_str.ensures.value
    c.add_file-said.ensures.joins in
    let ends = c.tell_broken.result in
    let after = g.W.Write.contents c.tell_broken.new.output.device in
    let mid = g.W.Write.contents c.loop-name.output.device in
    let same = ap (λ (o : Tally g.row.W.Denot). g.W.Write.contents o.device) c.loop-name.invariant.same in
    let tells = subst (λ (o : Option (List ℕ)). TellsBroken name said o after ends) same
    (subst (λ (n : List ℕ). TellsBroken n said mid after ends) c.as_str-in_default.ensures.value c.tell_broken.ensures) in
    ends_broken holds (wanted_of c.args.wanted) (map string_bytes names) (map string_bytes (take i names))
    (map string_bytes (drop (i + 1) names)) name
    (split_at string_bytes names i c.name-item.result c.loop-name-test.true c.name-item.is) c.loop-name.count c.loop-name.history
    there c.loop-name.place c.loop-name.invariant.up _ after said next (never_on said (sym c.in_default.ensures)) ends tells

pub loop-name-preserved : goal.loop-name-preserved
loop-name-preserved g c =
    let holds = g.O.Opens.holds c.args.files.now in
    let i = c.loop-name.name-index in
    let names = c.args.names.now in
    let name : List ℕ = string_bytes c.name-item.result in
    let front : List (List ℕ) = map string_bytes (take i names) in
    let there = c.add_file-said.new.history in
    let more = c.in-Some.more in
    let said = c.add_file-said.result in
    let up = c.loop-name.invariant.up in
    let place = c.loop-name.place in
    let count = c.loop-name.count in
    let next = c.in-Ok.next in
    let joins = subst (λ (n : List ℕ). IfOk said (λ s. IsNext (holds n) c.loop-name.history s there)) c.as_str.ensures.value
    c.add_file-said.ensures.joins in
    let legal = subst (λ (r : Result Joined CheckFault). IfOk r (λ s. IsNext (holds name) c.loop-name.history s there))
    (goes_on said more (sym c.in-Some.ensures)) joins in
    let goes = c.in-Ok.ensures (place_low up.history.files place up.history.placed) in
    record {
      up = subst (λ (l : List (List ℕ)). UpTo holds l c.in-Some-checked_add.sum there next)
          (sym (one_more string_bytes names i c.name-item.result c.loop-name-test.true c.name-item.is))
          (subst (λ (n : ℕ). UpTo holds (front ++ name ∷ []) n there next) (sym c.in-Some-checked_add.ensures.1)
          (history_more holds front name count more c.loop-name.history there place next up legal
          (subst (λ (n : ℕ). GoesOn place count n name (Ok next)) c.in-Some-checked_add.ensures.1
          (subst (λ (b : List ℕ). GoesOn place count c.in-Some-checked_add.sum b (Ok next)) c.as_bytes.ensures.value goes))));
      same = c.loop-name.invariant.same;
    }

pub loop-name-init : goal.loop-name-init
loop-name-init g c = record {
  up = subst (λ (o : Option Reach). UpTo (g.O.Opens.holds c.args.files.now) [] 0 o None) (sym c.new-history.ensures)
      (no_history (g.O.Opens.holds c.args.files.now));
  same = refl;
}

pub returns-in_default-placed : goal.returns-in_default-placed
returns-in_default-placed g c =
    let holds = g.O.Opens.holds c.args.files.now in
    let i = c.loop-name.name-index in
    let names = c.args.names.now in
    let name : List ℕ = string_bytes c.name-item.result in
    let there = c.add_file-said.new.history in
    let more = c.in-Some.more in
    let said = c.add_file-said.result in
    let up = c.loop-name.invariant.up in
    let place = c.loop-name.place in
    let count = c.loop-name.count in
    let e = c.in_default-placed.field-0 in
    let joins = subst (λ (n : List ℕ). IfOk said (λ s. IsNext (holds n) c.loop-name.history s there)) c.as_str.ensures.value
    c.add_file-said.ensures.joins in
    let legal = subst (λ (r : Result Joined CheckFault). IfOk r (λ s. IsNext (holds name) c.loop-name.history s there))
    (goes_on said more (sym c.in-Some.ensures)) joins in
    let goes = subst (λ (n : ℕ). GoesOn place count n name (Err e)) c.in-Some-checked_add.ensures.1
    (subst (λ (b : List ℕ). GoesOn place count c.in-Some-checked_add.sum b (Err e)) c.as_bytes.ensures.value
    (c.in_default-placed.ensures (place_low up.history.files place up.history.placed))) in
    let ends = c.tell_broken-in_default-placed.result in
    let after = g.W.Write.contents c.tell_broken-in_default-placed.new.output.device in
    let mid = g.W.Write.contents c.loop-name.output.device in
    let apart : Result Joined CheckFault = Ok Apart in
    let same = ap (λ (o : Tally g.row.W.Denot). g.W.Write.contents o.device) c.loop-name.invariant.same in
    let tells = subst (λ (o : Option (List ℕ)). TellsBroken name apart o after ends) same
    (subst (λ (n : List ℕ). TellsBroken n apart mid after ends) c.as_str-in_default-placed.ensures.value
    c.tell_broken-in_default-placed.ensures) in
    ends_misplaced holds (wanted_of c.args.wanted) (map string_bytes names) (map string_bytes (take i names))
    (map string_bytes (drop (i + 1) names)) name
    (split_at string_bytes names i c.name-item.result c.loop-name-test.true c.name-item.is) count c.loop-name.history there place up
    _ after more e legal goes ends tells

pub returns-in-Ok-lack_in : goal.returns-in-Ok-lack_in
returns-in-Ok-lack_in g c =
    let holds = g.O.Opens.holds c.args.files.now in
    let names = c.args.names.now in
    let place = c.loop-name.place in
    let count = c.loop-name.count in
    let there = c.loop-name.history in
    let whole = take_all c.loop-name.name-index names (omega (arith, c.loop-name-test.false)) in
    let up = subst (λ (l : List (String Global)). UpTo holds (map string_bytes l) count there place) whole c.loop-name.invariant.up in
    let same = ap (λ (o : Tally g.row.W.Denot). g.W.Write.contents o.device) c.loop-name.invariant.same in
    let after = g.W.Write.contents c.tell_history.new.output.device in
    let tells = subst (λ (o : Option (List ℕ)).
    TellsHistory (map string_bytes names) count (place_of place) c.in-Ok-lack_in.lack o after c.tell_history.result) same
    (c.tell_history.ensures (place_room up.history.files count place up.history.placed up.counted)) in
    ends_told holds (wanted_of c.args.wanted) (map string_bytes names) count there (place_of place) up.history _ after c.in-Ok-lack_in.lack
    c.in-Ok-lack_in.ensures c.tell_history.result tells
