use Rattle.std.proofs.Common.{rules, ◌≡◌, ◌∙◌, true, Bool, length, nat_lt, sym, ap}
use Rattle.std.specs.Prelude.{◌&&◌, nat_le}
use Rattle.std.specs.List.{list_all}
use Rattle.std.proofs.lemmas.Iterator.{YieldsList-from_slice}
use Rattle.std.proofs.lemmas.Iterator.Search.{all_from_yields_List}
use borrow.Author.Tests.{tests}
use Rattle.th_model.specs.Names.{is_value_byte}
use Rattle.th_model.proofs.value.is_value.Goals as goal

pub returns : goal.returns
returns c =
    let all : c.all.result ≡ list_all is_value_byte c.args.bytes.now =
    all_from_yields_List is_value_byte _ _ c.all.result c.all.ensures.ran (YieldsList-from_slice c.args.bytes.now cc)
    (λ x b q k. search (rules, tests)) in
    let positive : nat_lt 0 (length c.args.bytes.now) ≡ true = search rules in
    let short : nat_le (length c.args.bytes.now) 1024 ≡ true = search rules in
    all ∙ sym (ap (λ (b : Bool). b && (nat_le (length c.args.bytes.now) 1024 && list_all is_value_byte c.args.bytes.now)) positive
    ∙ ap (λ (b : Bool). b && list_all is_value_byte c.args.bytes.now) short)
