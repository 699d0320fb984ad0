use Rattle.std.proofs.Common.{◌≡◌, ℕ, List, ◌∷◌, ◌++◌, refl, sym, ap, ◌∙◌, subst, Option, Some, None, inr}
use Rattle.std.specs.Borrow.{Bor}
use Rattle.th_lines.specs.declared.command.Command.{Command}
use Rattle.th_lines.specs.declared.command.Command.TheVariants.{On}
use Rattle.th_lines.specs.declared.command.Action.TheVariants.{Bind, Unbind, Subscribe, Unsubscribe, Resubscribe, Ask, ByReceiver, End}
use Rattle.th_model.specs.declared.verb.Question.TheVariants.{Queued, Readers}
use Rattle.th_model.specs.declared.verb.ReceiverVerb.TheVariants.{TryRecv, Recv, Left, Borrow, Take, HasChanged, TryChanged, Changed, MarkChanged, MarkUnchanged}
use Rattle.th_model.specs.declared.verb.SenderVerb.TheVariants.{Send, Replace}
use Rattle.th_model.specs.declared.verb.Start.TheVariants.{Tail}
use Rattle.th_lines.specs.Fields.{Rest, by_word, ended, field_then, name_then, or_field, value_last}
use Rattle.th_lines.specs.Commands.{carries_value, beginning, command_of, editing, making, on, sending, tracing, mark_words, topic_words, value_words, words, words_alone, words_with_more}
use Rattle.th_lines.specs.Reads.{Reads, rest_of}
use Rattle.th_lines.proofs.Readers.{by_word-misses, nameless, parts, parts-found}
use Rattle.th_lines.proofs.Tables.{◌&◌}
use Rattle.th_lines.proofs.read.read_command.Goals as goal

-- no command has another first field than a name behind its word
no_name : (word : List ℕ) (fields : List ℕ) → name_then parts (Some fields) ≡ None → by_word words word (Some fields) ≡ None
unfolding words words_alone words_with_more value_words mark_words topic_words
no_name word fields none =
    let without = λ (next : List ℕ → Rest → Option Command).
    let e : name_then next (Some fields) ≡ None = nameless next (Some fields) none in e in
    by_word-misses words word (Some fields) (
    inr refl
    & inr refl
    & inr (without (λ t. field_then (by_word (making t))))
    & inr (without (λ t. value_last (sending Send t)))
    & inr (without (λ t. value_last (sending Replace t)))
    & inr (without (λ t. field_then (by_word (editing t))))
    & inr (without (λ t. ended (on (ByReceiver TryRecv) t)))
    & inr (without (λ t. ended (on (ByReceiver Recv) t)))
    & inr (without (λ t. ended (on (ByReceiver Left) t)))
    & inr (without (λ t. ended (on (ByReceiver Borrow) t)))
    & inr (without (λ t. ended (on (ByReceiver Take) t)))
    & inr (without (λ t. ended (on (ByReceiver HasChanged) t)))
    & inr (without (λ t. ended (on (ByReceiver TryChanged) t)))
    & inr (without (λ t. ended (on (ByReceiver Changed) t)))
    & inr (without (λ t. ended (on (ByReceiver MarkChanged) t)))
    & inr (without (λ t. ended (on (ByReceiver MarkUnchanged) t)))
    & inr (without (λ t. ended (on Bind t)))
    & inr (without (λ t. ended (on Unbind t)))
    & inr (without (λ t. or_field (On t (Subscribe Tail)) (by_word (beginning t))))
    & inr (without (λ t. ended (on Unsubscribe t)))
    & inr (without (λ t. ended (on Resubscribe t)))
    & inr (without (λ t. ended (on (Ask Queued) t)))
    & inr (without (λ t. ended (on (Ask Readers) t)))
    & inr (without (λ t. ended (on End t)))
    & inr (without (λ t. ended (tracing t)))
    & tt
    )

pub returns-in_default-name_and_rest : goal.returns-in_default-name_and_rest
unfolding command_of
returns-in_default-name_and_rest c =
    let word : List ℕ = c.cut.result.0.now in
    let fields : List ℕ = c.in-Some.fields.now in
    let found = ap (λ (r : Option (Bor (List ℕ))). let p : List ℕ × Rest = (word, rest_of r) in p) (sym c.in-Some.is) ∙ c.cut.ensures in
    record {
      exact = subst (λ (p : List ℕ × Rest). by_word words p.0 p.1 ≡ None) found
          (no_name word fields (sym (c.in_default-name_and_rest.ensures)));
    }

pub returns-in-None : goal.returns-in-None
unfolding command_of
returns-in-None c =
    let word : List ℕ = c.cut.result.0.now in
    let fields : List ℕ = c.in-Some.fields.now in
    let t : List ℕ = c.in-Some-name_and_rest.t in
    let found = ap (λ (r : Option (Bor (List ℕ))). let p : List ℕ × Rest = (word, rest_of r) in p) (sym c.in-Some.is) ∙ c.cut.ensures in
    let read : name_then parts (Some fields) ≡ Some (t, None) =
    sym (c.in-Some-name_and_rest.ensures) ∙ ap (λ (r : Option (Bor (List ℕ))). Some (t, rest_of r)) c.in-None.is in
    let text : fields ≡ t = (parts-found fields t None read).0 in
    record {
      exact = subst (λ (p : List ℕ × Rest). Reads carries_value c.on_topic.result (by_word words p.0 p.1)) found
          (subst (λ (l : List ℕ). Reads carries_value c.on_topic.result (by_word words word (Some l))) (sym text) c.on_topic.ensures);
    }

pub returns-in-Some-rest : goal.returns-in-Some-rest
unfolding command_of
returns-in-Some-rest c =
    let word : List ℕ = c.cut.result.0.now in
    let fields : List ℕ = c.in-Some.fields.now in
    let t : List ℕ = c.in-Some-name_and_rest.t in
    let bytes : List ℕ = c.in-Some-rest.text.now in
    let found = ap (λ (r : Option (Bor (List ℕ))). let p : List ℕ × Rest = (word, rest_of r) in p) (sym c.in-Some.is) ∙ c.cut.ensures in
    let read : name_then parts (Some fields) ≡ Some (t, Some bytes) =
    sym (c.in-Some-name_and_rest.ensures) ∙ ap (λ (r : Option (Bor (List ℕ))). Some (t, rest_of r)) c.in-Some-rest.is in
    let text : fields ≡ t ++ 32 ∷ bytes = (parts-found fields t (Some bytes) read).0 in
    record {
      exact = subst (λ (p : List ℕ × Rest). Reads carries_value c.with_more.result (by_word words p.0 p.1)) found
          (subst (λ (l : List ℕ). Reads carries_value c.with_more.result (by_word words word (Some l))) (sym text) c.with_more.ensures);
    }
