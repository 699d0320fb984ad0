use Rattle.std.proofs.Common.{ap, codes, subst, sym, ◌∙◌, ◌∷◌, ◌++◌, List, ℕ}
use Rattle.std.specs.Str.{IsAscii}
use Rattle.th_program.proofs.PartNames.{digits_are_ascii, name_is_ascii, named_by}
use Rattle.th_program.proofs.part_names.part_name.Goals as goal

pub returns : goal.returns
returns c = λ is.
    let n = c.args.number in
    let digits = c.digits_of.ensures in
    let topic = c.in_ok-push_text.ensures (name_is_ascii c.args.topic.now is) in
    let number = c.in_ok-push_text-2.ensures (subst IsAscii (sym digits) (digits_are_ascii 20 n)) in
    let topic_bytes : List ℕ = c.args.topic.now in
    named_by topic_bytes c.digits_of.result (codes ".trace") c.new-name.ensures.bytes topic c.in_ok-push_str.ensures.bytes number
    c.in_ok-push_str-2.ensures.bytes ∙ ap (λ (l : List ℕ). topic_bytes ++ 46 ∷ (l ++ codes ".trace")) digits
